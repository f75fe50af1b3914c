-- Laws of overriding, in the form in which the goals of `overrides` cite them.
use Rattle.std.proofs.Common.{ℕ, zero, suc, ◌+◌, ◌-◌, ◌*◌, ◌%◌, ◌<◌, ◌≤◌, arith, ◌≡◌, refl, sym, ap, ◌∙◌, Bool, true, false, ◌&&◌, not, List, eqb, length, get_or, take, drop, Some, None, Ok, Err}
use lib.Pointwise.{pointwise}
use Rattle.classes.specs.declared.methods.Found.{Found}
use Rattle.std.specs.declared.option.Option.{Option}
use Rattle.classes.specs.Figures.{table_size}
use Rattle.classes.specs.Machine.{up, lookup_of, row_of}
use Rattle.classes.specs.Overriding.{same_from, same_as, same_found, same_above, overrides_in, overrides_of}
use Rattle.cofj.specs.declared.Refusal.TheVariants.{BadOverride}
use Rattle.classes.specs.Made.{Overrides}
use Rattle.classes.proofs.FromText.{overrides_tested}
use Rattle.classes.proofs.LineLaws.{more, not_true, not_false}

-- the bytes of two places, compared as slices
same_part : (B : List ℕ) (k a b : ℕ) → a + k ≤ length B → b + k ≤ length B → pointwise eqb (take k (drop a B)) (take k (drop b B)) ≡ same_from B a b k
unfolding same_from
same_part B zero a b h l = refl
same_part B (suc k) a b h l =
    rw (more B a (omega arith), more B b (omega arith))
    (ap (λ (x : Bool). eqb (get_or B a 0) (get_or B b 0) && x) (same_part B k (a + 1) (b + 1) (omega arith) (omega arith)))

pub same_as_lem : (B : List ℕ) (i j a b w : ℕ) (r : Bool) → length B ≡ table_size → a ≡ row_of i → b ≡ row_of j → w ≡ get_or B (a + 3 + 4) 0
    → r ≡ pointwise eqb (take (a + 3 + (5 + 2 * (w % 4)) - (a + 3)) (drop (a + 3) B)) (take (b + 3 + (5 + 2 * (w % 4)) - (b + 3)) (drop (b + 3) B)) → r ≡ same_as B i j
unfolding same_as
same_as_lem B i j a b w r s ea eb ew er =
    let k : ℕ = 5 + 2 * (w % 4) in
    let p : a + 3 + k - (a + 3) ≡ k = omega arith in
    let q : b + 3 + k - (b + 3) ≡ k = omega arith in
    let e : w ≡ get_or B (a + 7) 0 = ew ∙ ap (λ (x : ℕ). get_or B x 0) (omega arith) in
    er ∙ rw (p, q, ← ea, ← eb, ← e) (same_part B k (a + 3) (b + 3) (omega arith) (omega arith))

module _ (B : List ℕ) (i o p m : ℕ) (f : Option Found) (eo : o ≡ get_or B (row_of i + 1) 0) (ep : p ≡ up B o) (em : m ≡ get_or B (row_of i + 2) 0)
    (ef : f ≡ lookup_of B p m) where
  found_is : same_above B i ≡ same_found B i f
  unfolding same_above
  found_is = rw (ef, ep, eo, em)

  pub above_none : f ≡ None → true ≡ same_above B i
  above_none e = sym (found_is ∙ rw e)

  pub above_same : (g : Found) (r : Bool) → f ≡ Some g → r ≡ same_as B i g.method → r ≡ same_above B i
  above_same g r e er = er ∙ sym (found_is ∙ rw e)

module _ (B : List ℕ) (n i : ℕ) (inv : overrides_of B ≡ overrides_in B (n - i) i) where
  pub all_done : n ≤ i → Overrides B (Ok tt)
  unfolding overrides_in
  all_done h = let e : n - i ≡ 0 = omega arith in overrides_tested B true (Ok tt) refl (sym (inv ∙ rw e))

  module _ (h : i < n) (g : Bool) (eg : g ≡ same_above B i) where
    one_more : overrides_of B ≡ g && overrides_in B (n - (i + 1)) (i + 1)
    unfolding overrides_in
    one_more = let e : n - i ≡ suc (n - (i + 1)) = omega arith in inv ∙ rw (e, eg)

    pub all_not : not g ≡ true → Overrides B (Err BadOverride)
    all_not e = overrides_tested B false (Err BadOverride) refl (sym (one_more ∙ rw (not_true g e)))

    pub all_next : not g ≡ false → overrides_of B ≡ overrides_in B (n - (i + 1)) (i + 1)
    all_next e = one_more ∙ rw (not_false g e)
