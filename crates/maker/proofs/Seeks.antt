-- Laws of an object of a part looked for among the objects of the host. Not here: two objects gone over in step (crate values, Steps), what a part's objects are (Reaches).
use Rattle.std.proofs.Common.{ℕ, ◌+◌, ◌-◌, ◌*◌, ◌<◌, ◌≤◌, arith, ◌≡◌, refl, sym, ap, ◌∙◌, subst, Bool, true, false, not, true≢false, List, length, get_or, set, replicate, length-set, get_or-set_same, get_or-set_other, ext_get_or}
use native.Mathlib.Decide.{dec_lt, ℕ_discrete}
use Rattle.std.proofs.Math.Bool.{false≢true}
use mathlib.Core.Logic.{inl, inr}
use Rattle.std.proofs.Math.ListN.{length-replicate, get_or-eq_default}
use Rattle.cofj.specs.Values.{Ref, obj}
use Rattle.cofj.specs.Unfolding.{follow, Same, InRange}
use Rattle.canon.specs.Figures.{object_size, first_leaf, capacity, count_at, block_size}
use Rattle.canon.specs.Layout.{ref_of, code_of, alike_at, count_in, objects_in, Block, Inside}
use Rattle.canon.specs.Tables.{Carried}
use Rattle.canon.proofs.Nodes.{ref_object, code_ref, object_low, alike_no}
use Rattle.values.specs.Stepping.{Paired, AllSame, InStep}
use Rattle.values.proofs.Trees.{in_larger}
use Rattle.values.proofs.Partners.{leaf_refs, same_alike}
use Rattle.values.proofs.Steps.{told_roots, told_kept, told_differ}
use Rattle.maker.specs.Merging.{Mapped}
use Rattle.maker.specs.Sorting.{Fresh, Sorted}
use Rattle.maker.specs.Seeking.{Telling, SoughtTo, Sought}

-- ---- a table of 32 copied
module _ (S D₀ D : List ℕ) (c : Carried S 0 D₀ 0 capacity D) where
  copied_at : (z : ℕ) → z < capacity → get_or D z 0 ≡ get_or S z 0
  copied_at z h = let e : 0 + z ≡ z = omega arith in rw e at (c.here z h)

  copied-whole : length S ≡ capacity → length D₀ ≡ capacity → D ≡ S
  copied-whole ls ld = ext_get_or 0 D S (c.same ∙ ld ∙ sym ls) (λ z h. copied_at z (omega (arith, c.same)))

table_low : (T : List ℕ) (z k : ℕ) → length T ≡ capacity → get_or T z 0 ≡ k + 1 → z < capacity
table_low T z k l e = go (dec_lt z capacity)
  where
    go : Dec (z < capacity) → z < capacity
    go (yes h) = h
    go (no h) = absurd (omega (arith, get_or-eq_default T 0 {n = z} (omega (arith, h))))

-- ---- a table that tells the partners of objects, as one of codes and as one of pairs
module _ (W : List ℕ) (src host : ℕ) (bh : Block W host) (T : List ℕ) where
  module _ (mp : Mapped W src host T) (z k : ℕ) (e : get_or T z 0 ≡ k + 1) where
    from_low : z < capacity
    from_low = table_low T z k mp.table e

    -- no object unfolds as a code that is none
    to_object : k < first_leaf
    to_object = go (dec_lt k first_leaf)
      where
        go : Dec (k < first_leaf) → k < first_leaf
        go (yes h) = h
        go (no h) =
            absurd (omega (
              arith,
              h,
              from_low,
              code_ref k 0,
              code_ref z 0,
              ap code_of (leaf_refs (objects_in W host) (objects_in W src) (ref_of k 0) (ref_of z 0) (in_larger (count_in W host) first_leaf (ref_of k 0) (omega (arith, bh.small)) ((mp.each z k e).low 0))
                  (λ p. sym ((mp.each z k e).same 0 p)) (omega (arith, h, code_ref k 0))),
            ))

    told_low : k < count_in W host
    told_low = omega (arith, code_ref k 0, object_low (count_in W host) (ref_of k 0) ((mp.each z k e).low 0) (omega (arith, to_object, code_ref k 0)))

    told_tree : Same (objects_in W src) (obj z) (objects_in W host) (obj k)
    told_tree p =
        ap (λ (r : Ref). follow (objects_in W src) r p) (sym (ref_object z 0 (omega (arith, from_low))))
        ∙ (mp.each z k e).same 0 p
        ∙ ap (λ (r : Ref). follow (objects_in W host) r p) (ref_object k 0 to_object)

  mapped_told : length T ≡ capacity → ((z k : ℕ) → get_or T z 0 ≡ k + 1 → k < count_in W host) → AllSame W src host T → Mapped W src host T
  mapped_told l within al = record {
    table = l;
    each = λ z k e.
        let from : z < capacity = table_low T z k l e in
        let to : k < count_in W host = within z k e in
        let there : (x : ℕ) → ref_of k x ≡ obj k = λ x. ref_object k x (omega (arith, bh.small)) in
        record {
          low = λ x. subst (InRange (count_in W host)) (sym (there x)) to;
          leaf = λ h. absurd (omega arith);
          same = λ x p. ap (λ (r : Ref). follow (objects_in W src) r p) (ref_object z x (omega arith)) ∙ al.same z k e p ∙ ap (λ (r : Ref). follow (objects_in W host) r p) (sym (there x));
        };
  }

-- ---- two objects gone over in step, with what is told already
module _ (W : List ℕ) (src x host y : ℕ) (ib : Inside W src x) (ic : Inside W host y) (T : List ℕ) (mp : Mapped W src host T) (e : get_or T x 0 ≡ 0)
    (k : ℕ) (ek : k ≡ capacity) (P : List ℕ) (cp : Carried T 0 (replicate k 0) 0 capacity P) where
  zeros : length (replicate {A = ℕ} k 0) ≡ capacity
  zeros = length-replicate k 0 ∙ ek

  partners : P ≡ T
  partners = copied-whole T (replicate k 0) P cp mp.table zeros

  all_same : AllSame W src host T
  all_same = record { same = told_tree W src host ic.block T mp }

  pub tell_paired : Paired W src host (set P x (y + 1)) (set (replicate k 0) 0 x) 1
  tell_paired =
      subst (λ (A : List ℕ). Paired W src host (set A x (y + 1)) (set (replicate k 0) 0 x) 1) (sym partners)
      (told_roots W src host ib.block T (replicate k 0) mp.table zeros all_same (told_low W src host ic.block T mp) x y ib.low ic.low e)

  module _ (P2 : List ℕ) (r : Bool) (s : InStep W src host (set P x (y + 1)) P2 r) where
    step : InStep W src host (set T x (y + 1)) P2 r
    step = subst (λ (A : List ℕ). InStep W src host (set A x (y + 1)) P2 r) partners s

    differs : r ≡ false → Same (objects_in W src) (obj x) (objects_in W host) (obj y) → ⊥
    differs = told_differ W src host ib.block T (replicate k 0) mp.table zeros all_same (told_low W src host ic.block T mp) x y ib.low ic.low e P2 r step

    kept : r ≡ true → (z j : ℕ) → get_or T z 0 ≡ j + 1 → get_or P2 z 0 ≡ j + 1
    kept = told_kept W src host ib.block T (replicate k 0) mp.table zeros all_same (told_low W src host ic.block T mp) x y ib.low ic.low e P2 r step

    pub tell_not : not r ≡ true → Telling W src x host y T T false
    tell_not n = record { yes = λ z. absurd (false≢true z); here = λ z. absurd (false≢true z); kept = λ z. absurd (false≢true z); no = λ _. refl; differ = λ _. differs (go r n) }
      where
        go : (b : Bool) → not b ≡ true → b ≡ false
        go true h = absurd (false≢true h)
        go false h = refl

    pub tell_all : not r ≡ false → (T' : List ℕ) → Carried P2 0 T 0 capacity T' → Telling W src x host y T T' true
    tell_all n T' c = record {
      yes = λ _. mapped_told W src host ic.block T' long (λ z j q. step.within yes z j (back z j q)) (record { same = λ z j q. (step.yes yes).same z j (back z j q) });
      here = λ _. copied_at P2 T T' c x small ∙ step.pairs yes x y (get_or-set_same T x (y + 1) 0 (omega (arith, small, mp.table)));
      kept = λ _ z j q. copied_at P2 T T' c z (table_low T z j mp.table q) ∙ kept yes z j q;
      no = λ z. absurd (true≢false z);
      differ = λ z. absurd (true≢false z);
    }
      where
        go : (b : Bool) → not b ≡ false → b ≡ true
        go true h = refl
        go false h = absurd (true≢false h)

        yes : r ≡ true
        yes = go r n

        small : x < capacity
        small = omega (arith, ib.low, ib.block.small)

        long : length T' ≡ capacity
        long = c.same ∙ mp.table

        back : (z j : ℕ) → get_or T' z 0 ≡ j + 1 → get_or P2 z 0 ≡ j + 1
        back z j q = sym (copied_at P2 T T' c z (table_low T' z j long q)) ∙ q

-- ---- the objects of the host gone over
pub seek_few : (W : List ℕ) (host : ℕ) → Block W host → get_or W (block_size * host + count_at) 0 ≤ capacity
unfolding count_in
seek_few W host bh = bh.small

module _ (W : List ℕ) (src x host : ℕ) (T₀ : List ℕ) where
  pub seek_start : SoughtTo W src x host T₀ T₀ 0
  seek_start = record { same = refl; none = record { none = λ y h. absurd (omega arith) } }

  module _ (T : List ℕ) (y : ℕ) (sf : SoughtTo W src x host T₀ T y) where
    as_before : (z : ℕ) → get_or T z 0 ≡ get_or T₀ z 0
    as_before z = ap (λ (A : List ℕ). get_or A z 0) sf.same

    pub seek_inside : Block W host → y < get_or W (block_size * host + count_at) 0 → Inside W host y
    unfolding count_in
    seek_inside bh h = record { block = bh; low = h }

    pub seek_unknown : get_or T₀ x 0 ≡ 0 → get_or T x 0 ≡ 0
    seek_unknown e = as_before x ∙ e

    -- one object more that is not the same
    more : (Same (objects_in W src) (obj x) (objects_in W host) (obj y) → ⊥) → (A : List ℕ) → A ≡ T → SoughtTo W src x host T₀ A (y + 1)
    more d A e = record { same = e ∙ sf.same; none = record { none = λ k h s. go k h s (ℕ_discrete k y) } }
      where
        go : (k : ℕ) → k < y + 1 → Same (objects_in W src) (obj x) (objects_in W host) (obj k) → Dec (k ≡ y) → ⊥
        go k h s (yes z) = d (subst (λ (j : ℕ). Same (objects_in W src) (obj x) (objects_in W host) (obj j)) z s)
        go k h s (no z) = sf.none.none k (omega (arith, z)) s

    pub seek_unlike : Inside W src x → Block W host → y < get_or W (block_size * host + count_at) 0 → (r : Bool) → r ≡ alike_at W (block_size * src + object_size * x) (block_size * host + object_size * y) → r ≡ false → (A : List ℕ) → A ≡ T
        → SoughtTo W src x host T₀ A (y + 1)
    seek_unlike ib bh h r l z = more (λ s. alike_no W _ _ r l z (same_alike W src x host y ib (seek_inside bh h) s))

    pub seek_differs : (T' : List ℕ) (r : Bool) → Telling W src x host y T T' r → r ≡ false → (A : List ℕ) → A ≡ T' → SoughtTo W src x host T₀ A (y + 1)
    seek_differs T' r o z A e = more (o.differ z) A (e ∙ o.no z)

    module _ (F : List Bool) (so : Sorted W src host T₀ F) where
      pub seek_mapped : Mapped W src host T
      seek_mapped = subst (Mapped W src host) (sym sf.same) so.mapped

      -- it is told, and nothing is marked
      pub seek_told : (T' : List ℕ) (r : Bool) → Telling W src x host y T T' r → r ≡ true → Sought W src x host T₀ F T' F
      seek_told T' r o z = record {
        sorted = record { mapped = o.yes z; table = so.table; low = so.low; fresh = so.fresh };
        further = record { told = told; fresh = λ k d. d };
        here = inl (λ q. omega (arith, o.here z));
        only = λ k d n. d;
      }
        where
          told : (k : ℕ) → ((get_or T₀ k 0 ≡ 0) → ⊥) → (get_or T' k 0 ≡ 0) → ⊥
          told k d q =
              let u : get_or T k 0 ≡ (get_or T k 0 - 1) + 1 = omega (arith, d, as_before k) in
              omega (arith, o.kept z k (get_or T k 0 - 1) u)

      all_gone : get_or W (block_size * host + count_at) 0 ≤ y → Fresh (objects_in W src) (objects_in W host) (count_in W host) x
      unfolding count_in
      all_gone h = record { none = λ k l. sf.none.none k (omega (arith, h)) }

      module _ (ib : Inside W src x) where
        pub seek_room : x < length F
        seek_room = omega (arith, ib.low, ib.block.small, so.table)

        -- none of the host's is the same: it is marked
        pub seek_new : get_or W (block_size * host + count_at) 0 ≤ y → Sought W src x host T₀ F T (set F x true)
        seek_new h = record {
          sorted = record {
            mapped = seek_mapped;
            table = length-set F x true ∙ so.table;
            low = λ k d. low k d (ℕ_discrete k x);
            fresh = λ k d. fresh k d (ℕ_discrete k x);
          };
          further = record { told = λ k d q. d (sym (as_before k) ∙ q); fresh = λ k d. marked k d (ℕ_discrete k x) };
          here = inr put;
          only = λ k d n. sym (get_or-set_other F x k true false n) ∙ d;
        }
          where
            put : get_or (set F x true) x false ≡ true
            put = get_or-set_same F x true false seek_room

            low : (k : ℕ) → get_or (set F x true) k false ≡ true → Dec (k ≡ x) → k < count_in W src
            low k d (yes z) = rw z ib.low
            low k d (no z) = so.low k (sym (get_or-set_other F x k true false z) ∙ d)

            fresh : (k : ℕ) → get_or (set F x true) k false ≡ true → Dec (k ≡ x) → Fresh (objects_in W src) (objects_in W host) (count_in W host) k
            fresh k d (yes z) = rw z (all_gone h)
            fresh k d (no z) = so.fresh k (sym (get_or-set_other F x k true false z) ∙ d)

            marked : (k : ℕ) → get_or F k false ≡ true → Dec (k ≡ x) → get_or (set F x true) k false ≡ true
            marked k d (yes z) = ap (λ (j : ℕ). get_or (set F x true) j false) z ∙ put
            marked k d (no z) = get_or-set_other F x k true false z ∙ d
