-- Laws of lists, of the tests, and of the places that they find.
use Prim.Native.Nat.{ℕ, zero, suc, ◌≤◌, ◌<◌, zero-le, suc-le-suc}
use native.Mathlib.Nat.{not-suc-le-zero, le_of_suc-le-suc}
use mathlib.Core.Path.{◌≡◌, refl, sym, ap, ap₂, ◌∙◌}
use mathlib.Core.Bool.{Bool, true, false, false≢true}
use mathlib.Core.List.{List, [], ◌∷◌, map}
use mathlib.Core.Option.{some, none-ne-some}
use lib.Dec.{eqb}
use lib.ListN.{length, get_or, get_elem?}
use borrow.Author.Tests.{eqb-true, eq-eqb}
use Rattle.cofj.specs.Partial.{◌>>=◌}
use Rattle.cofj.specs.Values.{Ref, obj, leaf, Leaf, mark, undet, num, Node, node, eq_leaf, eq_ref, eq_refs, eq_node, eq_nats, place_of}

module _ {A B : Type 0} where
  pub get_d_map_lt : (f : A → B) (l : List A) (i : ℕ) (e : B) (d : A) → i < length l → get_or (map f l) i e ≡ f (get_or l i d)
  get_d_map_lt f [] i e d h = absurd (not-suc-le-zero h)
  get_d_map_lt f (x ∷ xs) zero e d h = refl
  get_d_map_lt f (x ∷ xs) (suc i) e d h = get_d_map_lt f xs i e d (le_of_suc-le-suc h)

  pub at_map : (f : A → B) (l : List A) (i : ℕ) → get_elem? (map f l) i ≡ get_elem? l i >>= λ a. some (f a)
  at_map f [] i = refl
  at_map f (x ∷ xs) zero = refl
  at_map f (x ∷ xs) (suc i) = at_map f xs i

-- ---- items
module _ {A : Type 0} where
  pub at_lt : (xs : List A) (f : ℕ) (a : A) → get_elem? xs f ≡ some a → f < length xs
  at_lt [] f a e = absurd (none-ne-some a e)
  at_lt (x ∷ xs) zero a e = suc-le-suc zero-le
  at_lt (x ∷ xs) (suc f) a e = suc-le-suc (at_lt xs f a e)

  pub at_some : (xs : List A) (f : ℕ) → f < length xs → (a : A) × (get_elem? xs f ≡ some a)
  at_some [] f h = absurd (not-suc-le-zero h)
  at_some (x ∷ xs) zero h = (x, refl)
  at_some (x ∷ xs) (suc f) h = at_some xs f (le_of_suc-le-suc h)

-- ---- the tests say equality
pub eq_leaf_true : (l m : Leaf) → eq_leaf l m ≡ true → l ≡ m
eq_leaf_true (mark i) (mark j) h = ap mark (eqb-true i j h)
eq_leaf_true (mark i) undet h = absurd (false≢true h)
eq_leaf_true (mark i) (num j) h = absurd (false≢true h)
eq_leaf_true undet (mark j) h = absurd (false≢true h)
eq_leaf_true undet undet h = refl
eq_leaf_true undet (num j) h = absurd (false≢true h)
eq_leaf_true (num i) (mark j) h = absurd (false≢true h)
eq_leaf_true (num i) undet h = absurd (false≢true h)
eq_leaf_true (num i) (num j) h = ap num (eqb-true i j h)

pub eq_leaf_refl : (l : Leaf) → eq_leaf l l ≡ true
eq_leaf_refl (mark i) = eq-eqb i i refl
eq_leaf_refl undet = refl
eq_leaf_refl (num i) = eq-eqb i i refl

pub eq_ref_true : (r s : Ref) → eq_ref r s ≡ true → r ≡ s
eq_ref_true (obj i) (obj j) h = ap obj (eqb-true i j h)
eq_ref_true (obj i) (leaf m) h = absurd (false≢true h)
eq_ref_true (leaf l) (obj j) h = absurd (false≢true h)
eq_ref_true (leaf l) (leaf m) h = ap leaf (eq_leaf_true l m h)

pub eq_ref_refl : (r : Ref) → eq_ref r r ≡ true
eq_ref_refl (obj i) = eq-eqb i i refl
eq_ref_refl (leaf l) = eq_leaf_refl l

-- the test of two tests in a row
pub both_true : (b x : Bool) → (elim b as (λ _. Bool) [ true ↦ x | false ↦ false ]) ≡ true → (b ≡ true) × (x ≡ true)
both_true true x h = (refl, h)
both_true false x h = absurd (false≢true h)

pub true_both : (b x : Bool) → b ≡ true → x ≡ true → (elim b as (λ _. Bool) [ true ↦ x | false ↦ false ]) ≡ true
true_both true x p q = q
true_both false x p q = p

pub eq_refs_true : (rs ss : List Ref) → eq_refs rs ss ≡ true → rs ≡ ss
unfolding eq_refs
eq_refs_true [] [] h = refl
eq_refs_true [] (s ∷ ss) h = absurd (false≢true h)
eq_refs_true (r ∷ rs) [] h = absurd (false≢true h)
eq_refs_true (r ∷ rs) (s ∷ ss) h =
    let p = both_true (eq_ref r s) (eq_refs rs ss) h in
    ap₂ {C = List Ref} ◌∷◌ (eq_ref_true r s p.0) (eq_refs_true rs ss p.1)

pub eq_refs_refl : (rs : List Ref) → eq_refs rs rs ≡ true
unfolding eq_refs
eq_refs_refl [] = refl
eq_refs_refl (r ∷ rs) = true_both (eq_ref r r) (eq_refs rs rs) (eq_ref_refl r) (eq_refs_refl rs)

pub eq_node_true : (a b : Node) → eq_node a b ≡ true → a ≡ b
eq_node_true a b h =
    let p = both_true (eqb a.cls b.cls) (eq_refs a.refs b.refs) h in
    λ i. node (eqb-true a.cls b.cls p.0 i) (eq_refs_true a.refs b.refs p.1 i)

pub eq_node_refl : (a : Node) → eq_node a a ≡ true
eq_node_refl a = true_both (eqb a.cls a.cls) (eq_refs a.refs a.refs) (eq-eqb a.cls a.cls refl) (eq_refs_refl a.refs)

pub eq_nats_true : (rs ss : List ℕ) → eq_nats rs ss ≡ true → rs ≡ ss
unfolding eq_nats
eq_nats_true [] [] h = refl
eq_nats_true [] (s ∷ ss) h = absurd (false≢true h)
eq_nats_true (r ∷ rs) [] h = absurd (false≢true h)
eq_nats_true (r ∷ rs) (s ∷ ss) h =
    let p = both_true (eqb r s) (eq_nats rs ss) h in
    ap₂ {C = List ℕ} ◌∷◌ (eqb-true r s p.0) (eq_nats_true rs ss p.1)

-- ---- the first place of a node
-- if n stands at place i, the place found holds n and is at most i
pub place_of_spec : (n d : Node) (l : List Node) (i : ℕ) → i < length l → get_or l i d ≡ n → (place_of n l ≤ i) × (get_or l (place_of n l) d ≡ n)
unfolding place_of
place_of_spec n d [] i h e = absurd (not-suc-le-zero h)
place_of_spec n d (m ∷ ms) zero h e = go (eq_node n m) (ap (λ (x : Node). eq_node n x) e ∙ eq_node_refl n)
  where
    go : (b : Bool) → b ≡ true
        → ((elim b as (λ _. ℕ) [ true ↦ 0 | false ↦ suc (place_of n ms) ]) ≤ 0) × (get_or (m ∷ ms) (elim b as (λ _. ℕ) [ true ↦ 0 | false ↦ suc (place_of n ms) ]) d ≡ n)
    go true q = (zero-le, e)
    go false q = absurd (false≢true q)
place_of_spec n d (m ∷ ms) (suc i) h e = go (eq_node n m) refl (place_of_spec n d ms i (le_of_suc-le-suc h) e)
  where
    go : (b : Bool) → eq_node n m ≡ b → (place_of n ms ≤ i) × (get_or ms (place_of n ms) d ≡ n)
        → ((elim b as (λ _. ℕ) [ true ↦ 0 | false ↦ suc (place_of n ms) ]) ≤ suc i) × (get_or (m ∷ ms) (elim b as (λ _. ℕ) [ true ↦ 0 | false ↦ suc (place_of n ms) ]) d ≡ n)
    go true q ih = (zero-le, sym (eq_node_true n m q))
    go false q ih = (suc-le-suc ih.0, ih.1)
