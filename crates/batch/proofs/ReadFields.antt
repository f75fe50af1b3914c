-- Laws of the fields of a line, one after another, as `read_fields` cites them. Not here: one of them (ReadField), the rest of a line (ReadLine).
use Rattle.std.proofs.Common.{ℕ, zero, suc, ◌+◌, ◌-◌, ◌<◌, ◌≤◌, arith, Some, None, ◌≡◌, refl, sym, ap, ◌∙◌, subst, List, [], ◌∷◌, ◌++◌, append_assoc, length, drop, length-append}
use Rattle.std.specs.declared.option.Option.{Option as RustOption}
use mathlib.Core.Logic.{◌⊎◌, inl, inr}
use Rattle.std.proofs.Math.Option.{Option, none, some, none-ne-some}
use Rattle.std.proofs.Math.ListN.{get_elem?}
use Rattle.cofj.specs.Partial.{◌>>=◌}
use Rattle.cofj.specs.Frames.{Got, got}
use Rattle.cofj.specs.Values.{Ref}
use Rattle.cofj.proofs.Basics.{at_lt}
use Rattle.cofj.proofs.Partial.{opt_bind}
use Rattle.cofj.proofs.Steps.{pair}
use Rattle.cofj.specs.ReportForm.{ref_at, refs_of}
use Rattle.canon.specs.Layout.{number_beside}
use Rattle.batch.specs.Figures.{field_room}
use Rattle.batch.specs.Layout.{held_byte}
use Rattle.batch.specs.Reading.{front_size, Entered, FieldTaken, FieldRead, FieldsTaken, FieldsRead}

-- ---- so many fields
pub refs_count : (n m : ℕ) (bs : List ℕ) (g : Got (List Ref)) → refs_of n m bs ≡ some g → length g.item ≡ m
unfolding refs_of
refs_count n zero bs g e = let y : got [] bs ≡ some g = e in ap (λ (x : Got (List Ref)). length x.item) (let w : g ≡ pair [] bs = cc in w)
refs_count n (suc m) bs g e =
    let a = opt_bind (ref_at n bs) _ g e in
    let c = opt_bind (refs_of n m a.0.rest) _ g a.2 in
    let y : got (a.0.item ∷ c.0.item) c.0.rest ≡ some g = c.2 in
    ap (λ (x : Got (List Ref)). length x.item) (let w : g ≡ pair (a.0.item ∷ c.0.item) c.0.rest = cc in w) ∙ ap suc (refs_count n m a.0.rest c.0 c.1)

-- ---- what the loop of `read_fields` keeps
-- one reference more
at_end_lem : (rs : List Ref) (r : Ref) (g : ℕ) (s : Ref) → get_elem? (rs ++ (r ∷ [])) g ≡ some s → (get_elem? rs g ≡ some s) ⊎ ((g ≡ length rs) × (r ≡ s))
at_end_lem [] r zero s e = inr (refl, (let w : r ≡ s = cc in w))
at_end_lem [] r (suc g) s e = absurd (none-ne-some s e)
at_end_lem (x ∷ rs) r zero s e = inl e
at_end_lem (x ∷ rs) r (suc g) s e = go (at_end_lem rs r g s e)
  where
    go : (get_elem? rs g ≡ some s) ⊎ ((g ≡ length rs) × (r ≡ s)) → (get_elem? rs g ≡ some s) ⊎ ((suc g ≡ suc (length rs)) × (r ≡ s))
    go (inl z) = inl z
    go (inr z) = inr (ap suc z.0, z.1)

-- the fields so far, and those after them
abbrev after : List Ref → Option (Got (List Ref)) → Option (Got (List Ref))
after rs o = o >>= λ g. got (rs ++ g.item) g.rest

pub fields_none : (l : List ℕ) (n : ℕ) (P : List ℕ) (at : ℕ) → front_size ≤ length l → FieldsTaken l n P at P 0 front_size
fields_none l n P at h = record {
  refs = [];
  count = refl;
  is = λ m. ap (λ (k : ℕ). refs_of n k (drop front_size l)) (let z : 0 + m ≡ m = omega arith in z) ∙ go (refs_of n m (drop front_size l));
  more = omega arith;
  within = h;
  entered = λ g r e. absurd (none-ne-some r e);
  below = λ j k. refl;
}
  where
    go : (o : Option (Got (List Ref))) → o ≡ after [] o
    go none = refl
    go (some g) = refl

module _ (l : List ℕ) (n : ℕ) (P₀ : List ℕ) (at : ℕ) (P : List ℕ) (f q : ℕ) (so : FieldsTaken l n P₀ at P f q) (P' : List ℕ) (o : RustOption ℕ) (fr : FieldRead l q n P at f P' o) where
  -- the fields from f on, by the first of them
  onward : (m : ℕ) → refs_of n (f + suc m) (drop front_size l) ≡ after so.refs (ref_at n (drop q l) >>= λ x. refs_of n m x.rest >>= λ xs. got (x.item ∷ xs.item) xs.rest)
  unfolding refs_of
  onward m = so.is (suc m)

  pub fields_bad : (m : ℕ) → f < m → o ≡ None → FieldsRead l m n P₀ at P' None
  fields_bad m h e = record {
    bad = λ _.
        ap (λ (k : ℕ). refs_of n k (drop front_size l)) (let z : m ≡ f + suc (m - suc f) = omega arith in z)
        ∙ onward (m - suc f)
        ∙ ap (λ (o : Option (Got Ref)). after so.refs (o >>= λ x. refs_of n (m - suc f) x.rest >>= λ xs. got (x.item ∷ xs.item) xs.rest)) (fr.bad e);
    good = λ r z. absurd (cc);
  }

  pub fields_more : f < field_room → (r : ℕ) → o ≡ Some r → FieldsTaken l n P₀ at P' (f + 1) r
  fields_more few r d = record {
    refs = so.refs ++ (ft.ref ∷ []);
    count = length-append so.refs (ft.ref ∷ []) ∙ (let c = so.count in omega arith);
    is = λ m.
        ap (λ (k : ℕ). refs_of n k (drop front_size l)) (let z : f + 1 + m ≡ f + suc m = omega arith in z)
        ∙ onward m
        ∙ ap (λ (o : Option (Got Ref)). after so.refs (o >>= λ x. refs_of n m x.rest >>= λ xs. got (x.item ∷ xs.item) xs.rest)) ft.is
        ∙ moved (refs_of n m (drop r l));
    more = omega (arith, so.more, ft.more);
    within = ft.within;
    entered = λ g s e. go g s (at_end_lem so.refs ft.ref g s e);
    below = λ j k. ft.below j k ∙ so.below j k;
  }
    where
      ft : FieldTaken l q n P at f P' r
      ft = fr.good r d

      moved : (o : Option (Got (List Ref))) → after so.refs (o >>= λ xs. got (ft.ref ∷ xs.item) xs.rest) ≡ after (so.refs ++ (ft.ref ∷ [])) o
      moved none = refl
      moved (some g) = ap (λ (x : List Ref). got x g.rest) (sym (append_assoc so.refs (ft.ref ∷ []) g.item))

      go : (g : ℕ) (s : Ref) → (get_elem? so.refs g ≡ some s) ⊎ ((g ≡ length so.refs) × (ft.ref ≡ s)) → Entered n P' at g s
      go g s (inl e) =
          let o = so.entered g s e in
          let k = at_lt so.refs g s e in
          let c = so.count in
          record { inner = o.inner; below = o.below; lies = ft.fields g (held_byte s) (number_beside s) (omega arith) o.lies }
      go g s (inr e) = rw (← e.1, e.0, so.count) ft.entered

pub fields_done : (l : List ℕ) (n : ℕ) (P₀ : List ℕ) (at : ℕ) (P : List ℕ) (f m q : ℕ) → FieldsTaken l n P₀ at P f q → f ≤ m → m ≤ f → FieldsRead l m n P₀ at P (Some q)
fields_done l n P₀ at P f m q so a b = record {
  bad = λ z. absurd (cc);
  good = λ r e. let w : q ≡ r = cc in rw w at (subst (λ (k : ℕ). FieldsTaken l n P₀ at P k q) (let z : f ≡ m = omega arith in z) so);
}
