-- Where the parts of a new object lie: the laws of `some_object`, `first_block`, `stands` and `together`.
-- Not here: the host of several blocks (Hosts).
use Rattle.std.proofs.Common.{ℕ, zero, suc, ◌+◌, ◌<◌, ◌≤◌, arith, ◌≡◌, refl, sym, ap, ◌∙◌, subst, Bool, true, false, cond, not, List, eqb, eq-eqb, ne_eqb}
use native.Mathlib.Decide.{ℕ_discrete}
use Rattle.canon.specs.Layout.{Block}
use Rattle.values.specs.declared.ValueRef.{ValueRef}
use Rattle.values.specs.declared.ValueRef.TheVariants.{Object, Mark, Number, Undetermined}
use Rattle.values.specs.Tests.{any}
use Rattle.values.specs.Layout.{Holds}
use Rattle.values.proofs.Tests.{not_true, not_false, any_there, any_not, any_more}
use Rattle.values.proofs.Blocks.{no_object}
use Rattle.maker.specs.Laying.{PartsHeld}
use Rattle.std.specs.declared.option.Option.{Option}
use Rattle.std.specs.declared.option.Option.TheVariants.{Some, None}
use Rattle.std.proofs.lemmas.Option.{none-some, same_Some}
use Rattle.maker.specs.Adding.{is_object, block_of, stands_in, part_of, all_stand, some_object, first_block}

-- ---- the parts
module _ (ps : List ValueRef) (n i : ℕ) (h : i < n) where
  pub object_there : (x k : ℕ) → part_of ps i ≡ Object x k → true ≡ some_object ps n
  unfolding some_object is_object
  object_there x k e = sym (any_there (λ j. is_object (part_of ps j)) n i h (ap is_object e))

  pub leaves_more : some_object ps i ≡ false → ((j b : ℕ) → part_of ps i ≡ Object j b → ⊥) → some_object ps (i + 1) ≡ false
  unfolding some_object is_object
  leaves_more a l = any_more (λ j. is_object (part_of ps j)) i a (no_object (λ u. is_object u ≡ false) (λ k. refl) (λ x. refl) refl (part_of ps i) l)

module _ (ps : List ValueRef) where
  pub leaves_none : some_object ps 0 ≡ false
  unfolding some_object any
  leaves_none = refl

  pub leaves_all : (n i : ℕ) → some_object ps i ≡ false → i ≤ n → n ≤ i → false ≡ some_object ps n
  leaves_all n i a h l = let e : i ≡ n = omega arith in sym (rw e at a)

-- what a call has denied
pub denied : (r a : Bool) → r ≡ a → not r ≡ true → a ≡ false
denied r a e q = sym e ∙ not_true r q

-- ---- the first block other than 0
module _ (v : ValueRef) where
  pub block_leaf : ((i b : ℕ) → v ≡ Object i b → ⊥) → None ≡ block_of v
  unfolding block_of
  block_leaf = no_object (λ u. None ≡ block_of u) (λ k. refl) (λ x. refl) refl v

  module _ (i b : ℕ) (e : v ≡ Object i b) where
    pub block_zero : b ≡ 0 → None ≡ block_of v
    unfolding block_of
    block_zero z = rw (e, eq-eqb b 0 z)

    pub block_object : (b ≡ 0 → ⊥) → Some b ≡ block_of v
    unfolding block_of
    block_object d = rw (e, ne_eqb b 0 d)

module _ (ps : List ValueRef) where
  pub first_none : first_block ps 0 ≡ None
  unfolding first_block
  first_none = refl

  first_next : (i : ℕ) → first_block ps i ≡ None → first_block ps (suc i) ≡ block_of (part_of ps i)
  unfolding first_block
  first_next i e = rw e

  first_stays : (i b : ℕ) → first_block ps i ≡ Some b → first_block ps (suc i) ≡ Some b
  unfolding first_block
  first_stays i b e = rw e

  first_is : (n i b : ℕ) → i < n → first_block ps i ≡ None → block_of (part_of ps i) ≡ Some b → first_block ps n ≡ Some b
  first_is zero i b h e d = absurd (omega arith)
  first_is (suc n) i b h e d = go (λ l. first_is n i b l e d) (ℕ_discrete i n)
    where
      go : (i < n → first_block ps n ≡ Some b) → Dec (i ≡ n) → first_block ps (suc n) ≡ Some b
      go ih (yes z) = subst (λ (m : ℕ). first_block ps (suc m) ≡ Some b) z (first_next i e ∙ d)
      go ih (no z) = first_stays n b (ih (omega (arith, z)))

  pub first_end : (n i : ℕ) → first_block ps i ≡ None → i ≤ n → n ≤ i → None ≡ first_block ps n
  first_end n i a h l = let e : i ≡ n = omega arith in sym (rw e at a)

  -- it holds objects
  own_block : (W : List ℕ) (v : ValueRef) → Holds W v → (b : ℕ) → block_of v ≡ Some b → Block W b
  unfolding block_of
  own_block W (Object i x) h b e = go (eqb x 0) e
    where
      go : (t : Bool) → cond t None (Some x) ≡ Some b → Block W b
      go true q = absurd (none-some b q)
      go false q = subst (Block W) (same_Some x b q) h.held.block
  own_block W (Mark k) h b e = absurd (none-some b e)
  own_block W (Number x) h b e = absurd (none-some b e)
  own_block W Undetermined h b e = absurd (none-some b e)

  module _ (W : List ℕ) (n : ℕ) (held : PartsHeld W ps n) where
    first_at : (i : ℕ) → i ≤ n → (b : ℕ) → first_block ps i ≡ Some b → Block W b
    first_at zero l b e = absurd (none-some b (sym first_none ∙ e))
    first_at (suc i) l b e = go (λ a q. first_at i (omega arith) a q) (first_block ps i) refl
      where
        go : ((a : ℕ) → first_block ps i ≡ Some a → Block W a) → (o : Option ℕ) → first_block ps i ≡ o → Block W b
        go ih None q = own_block W (part_of ps i) (held.part i (omega arith)) b (sym (first_next i q) ∙ e)
        go ih (Some a) q = subst (Block W) (same_Some a b (sym (first_stays i a q) ∙ e)) (ih a q)

    pub first_block_lem : (o : Option ℕ) → o ≡ first_block ps n → (b : ℕ) → o ≡ Some b → Block W b
    first_block_lem o e b d = first_at n (omega arith) b (sym e ∙ d)

module _ (ps : List ValueRef) (n i : ℕ) (h : i < n) (a : first_block ps i ≡ None) (v : ValueRef) (ev : v ≡ part_of ps i) (o : Option ℕ) (e : o ≡ block_of v) where
  part_block : o ≡ block_of (part_of ps i)
  part_block = e ∙ ap block_of ev

  pub first_found : (b : ℕ) → o ≡ Some b → Some b ≡ first_block ps n
  first_found b d = sym (first_is ps n i b h a (sym part_block ∙ d))

  pub first_more : o ≡ None → first_block ps (i + 1) ≡ None
  first_more z = let s : i + 1 ≡ suc i = omega arith in rw s (first_next ps i a ∙ sym part_block ∙ z)

-- ---- the parts in one block
pub stands_here : (b : ℕ) (v : ValueRef) (x i : ℕ) → v ≡ Object i x → eqb x b ≡ stands_in b v
unfolding stands_in
stands_here b v x i e = rw e

pub stands_else : (b : ℕ) (v : ValueRef) → ((i x : ℕ) → v ≡ Object i x → ⊥) → true ≡ stands_in b v
unfolding stands_in
stands_else b (Object i x) n = absurd (n i x refl)
stands_else b (Mark k) n = refl
stands_else b (Number x) n = refl
stands_else b Undetermined n = refl

module _ (ps : List ValueRef) (n b : ℕ) where
  abbrev apart : ℕ → Bool
  apart i = not (stands_in b (part_of ps i))

  pub each_none : all_stand ps 0 b ≡ true
  unfolding all_stand any
  each_none = refl

  module _ (i : ℕ) (v : ValueRef) (r : Bool) (ev : v ≡ part_of ps i) (er : r ≡ stands_in b v) where
    answer : apart i ≡ not r
    answer = ap (λ (u : ValueRef). not (stands_in b u)) (sym ev) ∙ ap not (sym er)

    pub each_more : all_stand ps i b ≡ true → not r ≡ false → all_stand ps (i + 1) b ≡ true
    unfolding all_stand
    each_more a e = ap not (any_more apart i (not_true _ a) (answer ∙ e))

    pub together_not : i < n → not r ≡ true → false ≡ all_stand ps n b
    unfolding all_stand
    together_not h e = sym (ap not (any_there apart n i h (answer ∙ e)))

  pub together_all : (i : ℕ) → all_stand ps i b ≡ true → i ≤ n → n ≤ i → true ≡ all_stand ps n b
  together_all i a h l = let e : i ≡ n = omega arith in sym (rw e at a)

  pub stands_at : all_stand ps n b ≡ true → (i : ℕ) → i < n → stands_in b (part_of ps i) ≡ true
  unfolding all_stand
  stands_at a i h = not_false _ (any_not apart n i (not_true _ a) h)
