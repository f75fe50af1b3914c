-- The queue of pairs gone over: one law for each return of `in_step`.
-- Not here: one object and its partner (Partners), where comparing begins and what it answers (Steps).
use Rattle.std.proofs.Common.{ℕ, zero, suc, ◌+◌, ◌-◌, ◌*◌, ◌<◌, ◌≤◌, arith, Some, None, ◌≡◌, refl, sym, ap, ap₂, ◌∙◌, subst, true, false, true≢false, List, [], ◌∷◌, length, get_or}
use native.Mathlib.Decide.{dec_lt, ℕ_discrete}
use Rattle.std.specs.declared.option.Option.{Option as RustOption}
use Rattle.std.proofs.Math.Bool.{false≢true}
use mathlib.Core.Logic.{◌⊎◌, inl, inr, ⊎_elim}
use Rattle.std.proofs.Math.Option.{some}
use Rattle.std.proofs.Math.ListN.{get_elem?}
use Rattle.cofj.specs.Partial.{◌>>=◌}
use Rattle.cofj.specs.Values.{Ref, obj, leaf, undet, refs_at}
use Rattle.cofj.specs.Unfolding.{object, follow, Same, InRange}
use Rattle.canon.specs.Figures.{object_size, code_count, first_leaf, capacity, block_size}
use Rattle.canon.specs.Layout.{code_of, number_beside, count_in, objects_in, Block}
use Rattle.values.specs.Stepping.{Paired, Linked, Pair, Closed, PairsSoFar, ObjectStep, InStep}
use Rattle.values.proofs.Trees.{in_larger, leaf_same}
use Rattle.values.proofs.Objects.{cls_is, code_is, codes_refs, count_is, in_range, is_object_lem, leaf_range, number_is}

-- ---- pairs that look alike are the same
module _ (W : List ℕ) (b c : ℕ) (bb : Block W b) (bc : Block W c) where
  below : (p : List ℕ) (rs ss : List Ref) → length rs ≡ length ss
      → ((f : ℕ) → f < length rs → follow (objects_in W b) (get_or rs f (leaf undet)) p ≡ follow (objects_in W c) (get_or ss f (leaf undet)) p)
      → (f : ℕ) → get_elem? rs f >>= (λ s. follow (objects_in W b) s p) ≡ get_elem? ss f >>= (λ s. follow (objects_in W c) s p)
  below p [] [] l h f = refl
  below p [] (s ∷ ss) l h f = absurd (omega arith)
  below p (r ∷ rs) [] l h f = absurd (omega arith)
  below p (r ∷ rs) (s ∷ ss) l h zero = h 0 (omega arith)
  below p (r ∷ rs) (s ∷ ss) l h (suc f) = below p rs ss (omega arith) (λ g k. h (suc g) (omega arith)) f

  module _ (T Q : List ℕ) (t : ℕ) (pd : Paired W b c T Q t)
      (cl : (x y : ℕ) → get_or T x 0 ≡ y + 1 → ((x < count_in W b) × Closed W b x c y T) ⊎ Same (objects_in W b) (obj x) (objects_in W c) (obj y)) where
    abbrev Claim : List ℕ → Type 0
    Claim p = (x y : ℕ) → get_or T x 0 ≡ y + 1 → follow (objects_in W b) (obj x) p ≡ follow (objects_in W c) (obj y) p

    linked_refs : (p : List ℕ) → Claim p → (r s : Ref) → InRange (count_in W b) r → InRange (count_in W c) s → Linked T (code_of r) (number_beside r) (code_of s) (number_beside s) → follow (objects_in W b) r p ≡ follow (objects_in W c) s p
    linked_refs p ih r s hr hs l = go (dec_lt (code_of r) first_leaf)
      where
        go : Dec (code_of r < first_leaf) → follow (objects_in W b) r p ≡ follow (objects_in W c) s p
        go (yes h) =
            let e = l.pair h in
            let k : code_of s < first_leaf = omega (arith, pd.within (code_of r) (code_of s) e, bc.small) in
            ap (λ (q : Ref). follow (objects_in W b) q p) (is_object_lem r h) ∙ ih (code_of r) (code_of s) e ∙ ap (λ (q : Ref). follow (objects_in W c) q p) (sym (is_object_lem s k))
        go (no h) =
            let k : first_leaf ≤ code_of r = omega (arith, h) in
            let i : InRange first_leaf r = in_larger (count_in W b) first_leaf r (omega (arith, bb.small)) hr in
            leaf_same (objects_in W b) (objects_in W c) r (leaf_range r i k) p
            ∙ ap (λ (q : Ref). follow (objects_in W c) q p) (codes_refs r s i (in_larger (count_in W c) first_leaf s (omega (arith, bc.small)) hs) (l.leaf k) (l.number k))

    label : (x y : ℕ) → get_or T x 0 ≡ y + 1 → (x < count_in W b) × Closed W b x c y T → follow (objects_in W b) (obj x) [] ≡ follow (objects_in W c) (obj y) []
    label x y e o =
        let hx : x < count_in W b = o.0 in
        let d = o.1 in
        let hy = pd.within x y e in
        ap some (ap₂ object (sym (cls_is W b bb x hx) ∙ d.alike.cls ∙ cls_is W c bc y hy) (sym (count_is W b bb x hx) ∙ d.alike.count ∙ count_is W c bc y hy))

    field : (f : ℕ) (p : List ℕ) → Claim p → (x y : ℕ) → get_or T x 0 ≡ y + 1 → (x < count_in W b) × Closed W b x c y T → follow (objects_in W b) (obj x) (f ∷ p) ≡ follow (objects_in W c) (obj y) (f ∷ p)
    field f p ih x y e o =
        let hx : x < count_in W b = o.0 in
        let d = o.1 in
        let hy = pd.within x y e in
        below p (refs_at (objects_in W b) x) (refs_at (objects_in W c) y) (sym (count_is W b bb x hx) ∙ d.alike.count ∙ count_is W c bc y hy)
        (λ g l.
        let k : g < get_or W (block_size * b + object_size * x + 1) 0 = omega (arith, count_is W b bb x hx) in
        let k4 : g < code_count = omega (arith, (bb.packed x hx).count) in
        linked_refs p ih (get_or (refs_at (objects_in W b) x) g (leaf undet)) (get_or (refs_at (objects_in W c) y) g (leaf undet))
        (in_range W b bb x hx g k) (in_range W c bc y hy g (omega (arith, d.alike.count)))
        (rw (← code_is W b bb x hx g k4, ← number_is W b bb x hx g k4, ← code_is W c bc y hy g k4, ← number_is W c bc y hy g k4) (d.fields.codes g k)))
        f

    claim : (p : List ℕ) → Claim p
    claim [] x y e = ⊎_elim (λ o. label x y e o) (λ s. s []) (cl x y e)
    claim (f ∷ p) x y e = ⊎_elim (λ o. field f p (claim p) x y e o) (λ s. s (f ∷ p)) (cl x y e)

-- ---- the pairs gone over
module _ (W : List ℕ) (b c : ℕ) (T₀ Q₀ : List ℕ) where
  pub pairs_start : Block W b → Block W c → Paired W b c T₀ Q₀ 1 → PairsSoFar W b c T₀ Q₀ T₀ Q₀ 1 0
  pairs_start bb bc pd = record {
    first = bb;
    second = bc;
    grown = record { more = omega arith; pairs = λ i j q. q; front = λ q h. refl; keeps = λ al. al };
    paired = pd;
    closed = record { before = λ q h. absurd (omega arith) };
  }

  module _ (T Q : List ℕ) (t h : ℕ) (so : PairsSoFar W b c T₀ Q₀ T Q t h) where
    module _ (hh : h < t) where
      pub head_low : h < length Q
      head_low = omega (arith, so.paired.free, so.paired.queue)

      pub entry_low : get_or Q h 0 < length T
      entry_low = omega (arith, so.paired.low h hh, so.paired.table, so.first.small)

      pub partner_some : 1 ≤ get_or T (get_or Q h 0) 0
      partner_some = omega (arith, so.paired.there h hh)

      pub head_pair : Pair W b (get_or Q h 0) c (get_or T (get_or Q h 0) 0 - 1) T Q t
      head_pair =
          let e : get_or T (get_or Q h 0) 0 ≡ (get_or T (get_or Q h 0) 0 - 1) + 1 = omega (arith, partner_some) in
          record {
            first = record { block = so.first; low = so.paired.low h hh };
            second = record { block = so.second; low = so.paired.within (get_or Q h 0) (get_or T (get_or Q h 0) 0 - 1) e };
            paired = so.paired;
            some = omega arith;
            here = e;
          }

      module _ (T2 Q2 : List ℕ) (r : RustOption ℕ) (o : ObjectStep W b (get_or Q h 0) c (get_or T (get_or Q h 0) 0 - 1) T Q t T2 Q2 r) where
        pub pairs_differ : r ≡ None → InStep W b c T₀ T2 false
        pairs_differ z = record { pairs = λ f. absurd (false≢true f); yes = λ f. absurd (false≢true f); within = λ f. absurd (false≢true f); no = λ _ al. o.differ z (so.grown.keeps al) }

        pub pairs_few : (u : ℕ) → r ≡ Some u → u ≤ capacity
        pairs_few u z = omega (arith, (o.paired u z).free)

        pub pairs_more : (u : ℕ) → r ≡ Some u → PairsSoFar W b c T₀ Q₀ T2 Q2 u (h + 1)
        pairs_more u z = record {
          first = so.first;
          second = so.second;
          grown = record {
            more = omega (arith, so.grown.more, (o.grown u z).more);
            pairs = λ i j q. (o.grown u z).pairs i j (so.grown.pairs i j q);
            front = λ q l. (o.grown u z).front q (omega (arith, so.grown.more)) ∙ so.grown.front q l;
            keeps = λ al. (o.grown u z).keeps (so.grown.keeps al);
          };
          paired = o.paired u z;
          closed = record { before = λ q l y e. subst (λ (i : ℕ). Closed W b i c y T2) (sym (same q l)) (go q l y (ap (λ (i : ℕ). get_or T2 i 0) (sym (same q l)) ∙ e) (ℕ_discrete q h)) };
        }
          where
            same : (q : ℕ) → q < h + 1 → get_or Q2 q 0 ≡ get_or Q q 0
            same q l = (o.grown u z).front q (omega arith)

            -- an object that has a partner keeps it
            partner_kept : (x y : ℕ) → ((get_or T x 0 ≡ 0) → ⊥) → get_or T2 x 0 ≡ y + 1 → get_or T x 0 ≡ y + 1
            partner_kept x y d e =
                let i : get_or T x 0 ≡ (get_or T x 0 - 1) + 1 = omega (arith, d) in
                i ∙ sym ((o.grown u z).pairs x (get_or T x 0 - 1) i) ∙ e

            go : (q : ℕ) → q < h + 1 → (y : ℕ) → get_or T2 (get_or Q q 0) 0 ≡ y + 1 → Dec (q ≡ h) → Closed W b (get_or Q q 0) c y T2
            go q l y e (yes i) =
                let e' : get_or T2 (get_or Q h 0) 0 ≡ y + 1 = ap (λ (k : ℕ). get_or T2 (get_or Q k 0) 0) (sym i) ∙ e in
                let v : get_or T (get_or Q h 0) 0 ≡ y + 1 = partner_kept (get_or Q h 0) y (so.paired.there h hh) e' in
                let w : get_or T (get_or Q h 0) 0 - 1 ≡ y = omega arith in
                rw i (subst (λ (k : ℕ). Closed W b (get_or Q h 0) c k T2) w (o.closed u z))
            go q l y e (no i) =
                let q' : q < h = omega (arith, i) in
                let d = so.closed.before q q' y (partner_kept (get_or Q q 0) y (so.paired.there q (omega arith)) e) in
                record {
                  alike = d.alike;
                  fields = record { codes = λ f k. let n = d.fields.codes f k in record { leaf = n.leaf; number = n.number; pair = λ j. (o.grown u z).pairs _ _ (n.pair j) } };
                }

    pub pairs_done : t ≤ h → InStep W b c T₀ T true
    pairs_done l = record {
      pairs = λ _. so.grown.pairs;
      yes = λ _. record { same = λ x y e p. claim W b c so.first so.second T Q t so.paired all p x y e };
      within = λ _. so.paired.within;
      no = λ f. absurd (true≢false f);
    }
      where
        gone : (x y : ℕ) → get_or T x 0 ≡ y + 1 → ((q : ℕ) × (q < t) × (get_or Q q 0 ≡ x)) → (x < count_in W b) × Closed W b x c y T
        gone x y e o =
            let k : o.0 < t = o.1 in (
              subst (λ (i : ℕ). i < count_in W b) o.2 (so.paired.low o.0 k),
              subst (λ (i : ℕ). Closed W b i c y T) o.2 (so.closed.before o.0 (omega arith) y (ap (λ (i : ℕ). get_or T i 0) o.2 ∙ e)),
            )

        all : (x y : ℕ) → get_or T x 0 ≡ y + 1 → ((x < count_in W b) × Closed W b x c y T) ⊎ Same (objects_in W b) (obj x) (objects_in W c) (obj y)
        all x y e = ⊎_elim (λ o. inl (gone x y e o)) (λ s. inr s) (so.paired.listed x y e)
