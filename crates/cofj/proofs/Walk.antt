-- The walk from the root, depth first: it meets every colour that can be reached, and the order that it gives is closed under fields.
use Prim.Native.Nat.{ℕ, zero, suc, ◌+◌, ◌≤◌, ◌<◌, zero-le, suc-le-suc}
use native.Mathlib.Nat.{not-suc-le-zero}
use native.Mathlib.Omega.{arith}
use mathlib.Core.Path.{◌≡◌, refl, sym, ◌∙◌, subst}
use mathlib.Core.Bool.{Bool, true, false, false≢true, true≢false}
use mathlib.Core.Logic.{◌⊎◌, inl, inr}
use mathlib.Core.List.{List, [], ◌∷◌, ◌++◌}
use mathlib.Core.Option.{some, none-ne-some}
use lib.Dec.{eqb}
use lib.ListN.{length, get_elem?, length-append}
use borrow.Author.Tests.{eqb-true, eqb-false, eq-eqb}
use Rattle.cofj.specs.Values.{Ref, obj, leaf, Graph, refs_at, colours, is_in, visit, visit_all}
use Rattle.cofj.specs.Unfolding.{InRange, Whole}
use Rattle.cofj.proofs.Colours.{colour, colour_low, colour_first}

-- ---- membership
is_in-front : (c : ℕ) (s t : List ℕ) → is_in c s ≡ true → is_in c (s ++ t) ≡ true
unfolding is_in
is_in-front c [] t h = absurd (false≢true h)
is_in-front c (d ∷ s) t h = go (eqb c d) h (is_in-front c s t)
  where
    go : (b : Bool) → (elim b as (λ _. Bool) [ true ↦ true | false ↦ is_in c s ]) ≡ true → (is_in c s ≡ true → is_in c (s ++ t) ≡ true)
        → (elim b as (λ _. Bool) [ true ↦ true | false ↦ is_in c (s ++ t) ]) ≡ true
    go true e ih = refl
    go false e ih = ih e

is_in_last : (c : ℕ) (s : List ℕ) → is_in c (s ++ (c ∷ [])) ≡ true
unfolding is_in
is_in_last c [] = rw (eq-eqb c c refl, is_in)
is_in_last c (d ∷ s) = go (eqb c d) (is_in_last c s)
  where
    go : (b : Bool) → is_in c (s ++ (c ∷ [])) ≡ true → (elim b as (λ _. Bool) [ true ↦ true | false ↦ is_in c (s ++ (c ∷ [])) ]) ≡ true
    go true ih = refl
    go false ih = ih

pub is_in_cases : (c d : ℕ) (s : List ℕ) → is_in c (s ++ (d ∷ [])) ≡ true → (is_in c s ≡ true) ⊎ (c ≡ d)
unfolding is_in
is_in_cases c d [] h = go (eqb c d) refl h
  where
    go : (b : Bool) → eqb c d ≡ b → (elim b as (λ _. Bool) [ true ↦ true | false ↦ false ]) ≡ true → (is_in c [] ≡ true) ⊎ (c ≡ d)
    go true e h' = inr (eqb-true c d e)
    go false e h' = absurd (false≢true h')
is_in_cases c d (x ∷ s) h = go (eqb c x) h (is_in_cases c d s)
  where
    go : (b : Bool) → (elim b as (λ _. Bool) [ true ↦ true | false ↦ is_in c (s ++ (d ∷ [])) ]) ≡ true
        → (is_in c (s ++ (d ∷ [])) ≡ true → (is_in c s ≡ true) ⊎ (c ≡ d))
        → ((elim b as (λ _. Bool) [ true ↦ true | false ↦ is_in c s ]) ≡ true) ⊎ (c ≡ d)
    go true e ih = inl refl
    go false e ih = ih e

abbrev pub Ext : List ℕ → List ℕ → Type 0
Ext s t = (c : ℕ) → is_in c s ≡ true → is_in c t ≡ true

-- ---- how many numbers below n the list lacks
bit : Bool → ℕ
bit true = 0
bit false = 1

pub unseen : ℕ → List ℕ → ℕ
unseen zero s = 0
unseen (suc n) s = bit (is_in n s) + unseen n s

bit_le : (a b : Bool) → (a ≡ true → b ≡ true) → bit b ≤ bit a
unfolding bit
bit_le true b h = rw (h refl) zero-le
bit_le false true h = zero-le
bit_le false false h = omega arith

pub unseen_le : (n : ℕ) (s t : List ℕ) → Ext s t → unseen n t ≤ unseen n s
unfolding unseen
unseen_le zero s t h = zero-le
unseen_le (suc n) s t h = omega (arith, bit_le (is_in n s) (is_in n t) (h n), unseen_le n s t h)

pub unseen_lt : (n : ℕ) (s t : List ℕ) → Ext s t → (c : ℕ) → c < n → is_in c s ≡ false → is_in c t ≡ true → unseen n t < unseen n s
unfolding unseen bit
unseen_lt zero s t h c l p q = absurd (not-suc-le-zero l)
unseen_lt (suc n) s t h c l p q = go (eqb c n) refl (λ l'. unseen_lt n s t h c l' p q)
  where
    go : (b : Bool) → eqb c n ≡ b → (c < n → unseen n t < unseen n s) → bit (is_in n t) + unseen n t < bit (is_in n s) + unseen n s
    go true e ih =
        let x : is_in n s ≡ false = subst (λ (k : ℕ). is_in k s ≡ false) (eqb-true c n e) p in
        let y : is_in n t ≡ true = subst (λ (k : ℕ). is_in k t ≡ true) (eqb-true c n e) q in
        rw (x, y) (omega (arith, unseen_le n s t h))
    go false e ih =
        let d : c ≡ n → ⊥ = eqb-false c n e in
        omega (arith, bit_le (is_in n s) (is_in n t) (h n), ih (omega arith))

pub unseen_top : (n : ℕ) (s : List ℕ) → unseen n s ≤ n
unfolding unseen bit
unseen_top zero s = zero-le
unseen_top (suc n) s = omega (arith, bit_le false (is_in n s) (λ e. absurd (false≢true e)), unseen_top n s)

-- where none is lacking, every number is there
pub unseen_none : (n : ℕ) (s : List ℕ) → unseen n s ≡ 0 → (c : ℕ) → c < n → is_in c s ≡ true
unfolding unseen bit
unseen_none zero s e c l = absurd (not-suc-le-zero l)
unseen_none (suc n) s e c l = go (is_in n s) refl e (eqb c n) refl (unseen_none n s)
  where
    go : (b : Bool) → is_in n s ≡ b → bit b + unseen n s ≡ 0 → (a : Bool) → eqb c n ≡ a → (unseen n s ≡ 0 → (d : ℕ) → d < n → is_in d s ≡ true) → is_in c s ≡ true
    go true q z true y ih = subst (λ (k : ℕ). is_in k s ≡ true) (sym (eqb-true c n y)) q
    go true q z false y ih = let d : c ≡ n → ⊥ = eqb-false c n y in ih (omega arith) c (omega arith)
    go false q z a y ih = absurd (omega arith)

-- ---- the walk
module _ (g : Graph) (w : Whole g) where
  -- the reference's colour is met, if it is an object
  abbrev pub Covered : List ℕ → Ref → Type 0
  Covered s (obj i) = is_in (colour g w i) s ≡ true
  Covered s (leaf k) = Unit {0}

  covered_ext : (s t : List ℕ) → Ext s t → (r : Ref) → Covered s r → Covered t r
  covered_ext s t h (obj i) p = h (colour g w i) p
  covered_ext s t h (leaf k) p = tt

  -- every number met is a colour
  abbrev pub Kept : List ℕ → Type 0
  Kept s = (c : ℕ) → is_in c s ≡ true → (c < length g.nodes) × (colour g w c ≡ c)

  -- from `s` to `t`
  pub record Visited (s t : List ℕ) : Type 0 where
    pub ext : Ext s t
    pub kept : Kept t
    pub grown : length t + unseen (length g.nodes) t ≤ length s + unseen (length g.nodes) s
    pub over : (c : ℕ) → is_in c t ≡ true → is_in c s ≡ false → (f : ℕ) (r : Ref) → get_elem? (refs_at g.nodes c) f ≡ some r → Covered t r

  stay : (s : List ℕ) → Kept s → Visited s s
  stay s k = record { ext = λ c e. e; kept = k; grown = omega arith; over = λ c p q. absurd (true≢false (sym p ∙ q)) }

  onward : (s t u : List ℕ) → Visited s t → Visited t u → Visited s u
  onward s t u a b = record {
    ext = λ c e. b.ext c (a.ext c e);
    kept = b.kept;
    grown = omega (arith, a.grown, b.grown);
    over = λ c p q f r e. go c p q f r e (is_in c t) refl;
  }
    where
      go : (c : ℕ) → is_in c u ≡ true → is_in c s ≡ false → (f : ℕ) (r : Ref) → get_elem? (refs_at g.nodes c) f ≡ some r → (x : Bool) → is_in c t ≡ x → Covered u r
      go c p q f r e true y = covered_ext t u b.ext r (a.over c y q f r e)
      go c p q f r e false y = b.over c p y f r e

  -- a number is met, and then its fields
  entered : (s t : List ℕ) (c : ℕ) → unseen (length g.nodes) (s ++ (c ∷ [])) < unseen (length g.nodes) s → Visited (s ++ (c ∷ [])) t → ((f : ℕ) (r : Ref) → get_elem? (refs_at g.nodes c) f ≡ some r → Covered t r)
      → Visited s t × (is_in c t ≡ true)
  entered s t c l a b = (
    record {
      ext = λ d p. a.ext d (is_in-front d s (c ∷ []) p);
      kept = a.kept;
      grown = omega (arith, a.grown, length-append s (c ∷ []), l);
      over = λ d p q f r h. go d p q f r h (is_in d (s ++ (c ∷ []))) refl;
    },
    a.ext c (is_in_last c s),
  )
    where
      at_last : (d : ℕ) → is_in d s ≡ false → (is_in d s ≡ true) ⊎ (d ≡ c) → d ≡ c
      at_last d q (inl x) = absurd (true≢false (sym x ∙ q))
      at_last d q (inr x) = x

      go : (d : ℕ) → is_in d t ≡ true → is_in d s ≡ false → (f : ℕ) (r : Ref) → get_elem? (refs_at g.nodes d) f ≡ some r
          → (x : Bool) → is_in d (s ++ (c ∷ [])) ≡ x → Covered t r
      go d p q f r h true y = b f r (subst (λ (x : ℕ). get_elem? (refs_at g.nodes x) f ≡ some r) (at_last d q (is_in_cases d c s y)) h)
      go d p q f r h false y = a.over d p y f r h

  abbrev pub Step : ℕ → Type 0
  Step k = (r : Ref) (s : List ℕ) → InRange (length g.nodes) r → Kept s → unseen (length g.nodes) s < k
      → Visited s (visit g.nodes (colours g.nodes) k r s) × Covered (visit g.nodes (colours g.nodes) k r s) r

  abbrev pub walk : ℕ → List Ref → List ℕ → List ℕ
  walk k rs s = visit_all (λ r t. visit g.nodes (colours g.nodes) k r t) rs s

  all_visited : (k : ℕ) → Step k → (rs : List Ref) (s : List ℕ) → ((f : ℕ) (r : Ref) → get_elem? rs f ≡ some r → InRange (length g.nodes) r)
      → Kept s → unseen (length g.nodes) s < k
      → Visited s (walk k rs s) × ((f : ℕ) (r : Ref) → get_elem? rs f ≡ some r → Covered (walk k rs s) r)
  unfolding visit_all
  all_visited k step [] s ir kp l = (stay s kp, λ f r e. absurd (none-ne-some r e))
  all_visited k step (r ∷ rs) s ir kp l =
      let t = visit g.nodes (colours g.nodes) k r s in
      let a = step r s (ir 0 r refl) kp l in
      let b = all_visited k step rs t (λ f. ir (suc f)) a.0.kept (omega (arith, unseen_le (length g.nodes) s t a.0.ext)) in
      (onward s t (walk k rs t) a.0 b.0, go t a b)
    where
      go : (t : List ℕ) → Visited s t × Covered t r → Visited t (walk k rs t) × ((f : ℕ) (x : Ref) → get_elem? rs f ≡ some x → Covered (walk k rs t) x)
          → (f : ℕ) (x : Ref) → get_elem? (r ∷ rs) f ≡ some x → Covered (walk k rs t) x
      go t a b zero x e = covered_ext t (walk k rs t) b.0.ext x (subst (Covered t) (let z : r ≡ x = cc in z) a.1)
      go t a b (suc f) x e = b.1 f x e

  -- a new colour is entered
  module _ (i : ℕ) (ir : i < length g.nodes) (s : List ℕ) where
    pub enter_kept : Kept s → Kept (s ++ (colour g w i ∷ []))
    enter_kept kp d p = go (is_in_cases d (colour g w i) s p)
      where
        go : (is_in d s ≡ true) ⊎ (d ≡ colour g w i) → (d < length g.nodes) × (colour g w d ≡ d)
        go (inl q) = kp d q
        go (inr q) = subst (λ (x : ℕ). (x < length g.nodes) × (colour g w x ≡ x)) (sym q) (omega (arith, colour_low g w i ir), colour_first g w i ir)

    pub enter_less : is_in (colour g w i) s ≡ false → unseen (length g.nodes) (s ++ (colour g w i ∷ [])) < unseen (length g.nodes) s
    enter_less e =
        unseen_lt (length g.nodes) s (s ++ (colour g w i ∷ [])) (λ d p. is_in-front d s (colour g w i ∷ []) p)
        (colour g w i) (omega (arith, colour_low g w i ir)) e (is_in_last (colour g w i) s)

  pub visited : (k : ℕ) → Step k
  unfolding visit
  visited zero r s ir kp l = absurd (not-suc-le-zero l)
  visited (suc k) (leaf x) s ir kp l = (stay s kp, tt)
  visited (suc k) (obj i) s ir kp l = go (is_in (colour g w i) s) refl (all_visited k (visited k) (refs_at g.nodes (colour g w i)) (s ++ (colour g w i ∷ [])) (w.inner (colour g w i)))
    where
      c : ℕ
      c = colour g w i

      s' : List ℕ
      s' = s ++ (c ∷ [])

      t : List ℕ
      t = walk k (refs_at g.nodes c) s'

      go : (b : Bool) → is_in c s ≡ b
          → (Kept s' → unseen (length g.nodes) s' < k → Visited s' t × ((f : ℕ) (r : Ref) → get_elem? (refs_at g.nodes c) f ≡ some r → Covered t r))
          → Visited s (elim b as (λ _. List ℕ) [ true ↦ s | false ↦ t ]) × (is_in c (elim b as (λ _. List ℕ) [ true ↦ s | false ↦ t ]) ≡ true)
      go true e all = (stay s kp, e)
      go false e all =
          let a = all (enter_kept i ir s kp) (omega (arith, enter_less i ir s e)) in
          entered s t c (enter_less i ir s e) a.0 a.1

  -- the order of the whole walk
  abbrev pub order : List ℕ
  order = visit g.nodes (colours g.nodes) (suc (length g.nodes)) g.root []

  pub start : Kept []
  unfolding is_in
  start c e = absurd (false≢true e)

  walked : Visited [] order × Covered order g.root
  walked = visited (suc (length g.nodes)) g.root [] w.top start (suc-le-suc (unseen_top (length g.nodes) []))

  pub order_root : Covered order g.root
  order_root = walked.1

  pub order_kept : Kept order
  order_kept = walked.0.kept

  pub order_closed : (c : ℕ) → is_in c order ≡ true → (f : ℕ) (r : Ref) → get_elem? (refs_at g.nodes c) f ≡ some r → Covered order r
  unfolding is_in
  order_closed c p = walked.0.over c p refl

  -- where the walk lists as many numbers as there are objects, it lists them all
  pub order_full : length order ≡ length g.nodes → (c : ℕ) → c < length g.nodes → is_in c order ≡ true
  order_full e = unseen_none (length g.nodes) order (omega (arith, walked.0.grown, unseen_top (length g.nodes) []))

  -- no more numbers than objects
  pub order_length : length order ≤ length g.nodes
  order_length = omega (arith, walked.0.grown, unseen_top (length g.nodes) [])
