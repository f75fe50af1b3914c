-- An object and its partner met field by field: one law for each return of `step_fields` and `step_object`.
-- Not here: what bytes say of objects and references (Objects), one code (Pairs), the queue gone over (Queues).
use Rattle.std.proofs.Common.{ℕ, ◌+◌, ◌-◌, ◌*◌, ◌<◌, ◌≤◌, arith, Some, None, ◌≡◌, refl, sym, ap, ◌∙◌, subst, Bool, false, List, length, get_or, set, get_or-set_other}
use native.Mathlib.Decide.{dec_lt, ℕ_discrete}
use Rattle.std.specs.declared.option.Option.{Option as RustOption}
use Rattle.cofj.specs.Values.{Ref, obj, leaf, undet, refs_at}
use Rattle.cofj.specs.Unfolding.{follow, Same, InRange}
use Rattle.cofj.proofs.Trees.{same_child}
use Rattle.canon.specs.Figures.{object_size, head_size, code_count, numbers_at, first_leaf, capacity, block_size}
use Rattle.canon.specs.Layout.{code_of, number_beside, number_at, Alike, alike_at, count_in, objects_in, Block, Inside}
use Rattle.canon.proofs.Nodes.{some_at, alike_no, object_low}
use Rattle.canon.proofs.Zeros.{zeros-put}
use Rattle.values.specs.Stepping.{After, after, step_code, CodeFits, Paired, AllSame, Grown, Linked, Pair, FieldsSoFar, ObjectStep}
use Rattle.values.proofs.Trees.{in_larger}
use Rattle.values.proofs.Pairs.{put, code_equal, code_known, code_new, code_number, code_other, code_second, code_taken, pair_new, pairs_stay}
pub use Rattle.values.proofs.Objects.{leaf_refs, same_alike}
use Rattle.values.proofs.Objects.{size, count_is, code_is, number_is, in_range, count_read, code_read, number_read, is_object_lem}

-- ---- a code of one object met with a code of its partner
module _ (W : List ℕ) (b c : ℕ) (T₀ Q₀ : List ℕ) (t₀ : ℕ) where
  record Stepped (T : List ℕ) (r s : Ref) (o : After) : Type 0 where
    differ : o.tail ≡ None → AllSame W b c T₀ → ⊥
    grown : (u : ℕ) → o.tail ≡ Some u → Grown W b c T₀ Q₀ t₀ o.table o.queue u
    paired : (u : ℕ) → o.tail ≡ Some u → Paired W b c o.table o.queue u
    linked : (u : ℕ) → o.tail ≡ Some u → Linked o.table (code_of r) (number_beside r) (code_of s) (number_beside s)
    further : (u : ℕ) → o.tail ≡ Some u → (x y : ℕ) → get_or T x 0 ≡ y + 1 → get_or o.table x 0 ≡ y + 1

  module _ (bb : Block W b) (bc : Block W c) (T Q : List ℕ) (t : ℕ) (g : Grown W b c T₀ Q₀ t₀ T Q t) (pd : Paired W b c T Q t)
      (r s : Ref) (hr : InRange (count_in W b) r) (hs : InRange (count_in W c) s) (ch : AllSame W b c T₀ → Same (objects_in W b) r (objects_in W c) s) where
    abbrev step : After
    step = step_code T Q t (code_of r) (number_beside r) (code_of s) (number_beside s)

    -- nothing is added
    same_again : Linked T (code_of r) (number_beside r) (code_of s) (number_beside s) → Stepped T r s (after (Some t) T Q)
    same_again l = record {
      differ = λ z. absurd (cc);
      grown = λ u e. let z : t ≡ u = cc in rw z at g;
      paired = λ u e. let z : t ≡ u = cc in rw z at pd;
      linked = λ _ _. l;
      further = λ _ _ x y q. q;
    }

    fails : (AllSame W b c T₀ → ⊥) → Stepped T r s (after None T Q)
    fails h = record { differ = λ _. h; grown = λ u e. absurd (cc); paired = λ u e. absurd (cc); linked = λ u e. absurd (cc); further = λ u e. absurd (cc) }

    r_coded : InRange first_leaf r
    r_coded = in_larger (count_in W b) first_leaf r (omega (arith, bb.small)) hr

    s_coded : InRange first_leaf s
    s_coded = in_larger (count_in W c) first_leaf s (omega (arith, bc.small)) hs

    module _ (ha : code_of r < first_leaf) (hb : code_of s < first_leaf) where
      twins : AllSame W b c T₀ → Same (objects_in W b) (obj (code_of r)) (objects_in W c) (obj (code_of s))
      twins al p = ap (λ (x : Ref). follow (objects_in W b) x p) (sym (is_object_lem r ha)) ∙ ch al p ∙ ap (λ (x : Ref). follow (objects_in W c) x p) (is_object_lem s hb)

      -- a partner that it has already is that object
      other_partner : (y : ℕ) → get_or T (code_of r) 0 ≡ y + 1 → AllSame W b c T₀ → code_of s ≡ y
      other_partner y e al =
          bc.distinct.apart (code_of s) y (omega (arith, size W c bc, object_low (count_in W c) s hs hb)) (omega (arith, size W c bc, pd.within (code_of r) y e))
          (λ p. sym (twins al p) ∙ (g.keeps al).same (code_of r) y e p)

      new_pair : get_or T (code_of r) 0 ≡ 0 → Stepped T r s (after (Some (t + 1)) (set T (code_of r) (code_of s + 1)) (set Q t (code_of r)))
      new_pair e = record {
        differ = λ z. absurd (cc);
        grown = λ u q. let z : t + 1 ≡ u = cc in rw z at grown;
        paired = λ u q. let z : t + 1 ≡ u = cc in rw z at (pair_new W b c T Q t (code_of r) (code_of s) pd bb.small la lb e);
        linked = λ _ _. record { leaf = λ h. absurd (omega arith); number = λ h. absurd (omega arith); pair = λ _. put W b c T Q t (code_of r) (code_of s) pd bb.small la lb e };
        further = λ _ _. stays;
      }
        where
          la : code_of r < count_in W b
          la = object_low (count_in W b) r hr ha

          lb : code_of s < count_in W c
          lb = object_low (count_in W c) s hs hb

          stays : (x y : ℕ) → get_or T x 0 ≡ y + 1 → get_or (set T (code_of r) (code_of s + 1)) x 0 ≡ y + 1
          stays = pairs_stay W b c T Q t (code_of r) (code_of s) pd bb.small la lb e

          same : AllSame W b c T₀ → (x y : ℕ) → get_or (set T (code_of r) (code_of s + 1)) x 0 ≡ y + 1 → Dec (x ≡ code_of r) → Same (objects_in W b) (obj x) (objects_in W c) (obj y)
          same al x y q (yes z) =
              let v : code_of s + 1 ≡ y + 1 = sym (put W b c T Q t (code_of r) (code_of s) pd bb.small la lb e) ∙ ap (λ (k : ℕ). get_or (set T (code_of r) (code_of s + 1)) k 0) (sym z) ∙ q in
              let u : code_of s ≡ y = omega arith in
              subst (λ (k : ℕ). Same (objects_in W b) (obj x) (objects_in W c) (obj k)) u (subst (λ (k : ℕ). Same (objects_in W b) (obj k) (objects_in W c) (obj (code_of s))) (sym z) (twins al))
          same al x y q (no z) = (g.keeps al).same x y (sym (get_or-set_other T (code_of r) x (code_of s + 1) 0 z) ∙ q)

          grown : Grown W b c T₀ Q₀ t₀ (set T (code_of r) (code_of s + 1)) (set Q t (code_of r)) (t + 1)
          grown = record {
            more = omega (arith, g.more);
            pairs = λ x y q. stays x y (g.pairs x y q);
            front = λ q h. get_or-set_other Q t q (code_of r) 0 (λ z. omega (arith, g.more)) ∙ g.front q h;
            keeps = λ al. record { same = λ x y q. same al x y q (ℕ_discrete x (code_of r)) };
          }

      objects_step : Stepped T r s step
      objects_step = go (ℕ_discrete (get_or T (code_of r) 0) 0) (ℕ_discrete (get_or T (code_of r) 0) (code_of s + 1))
        where
          go : Dec (get_or T (code_of r) 0 ≡ 0) → Dec (get_or T (code_of r) 0 ≡ code_of s + 1) → Stepped T r s step
          go (yes e) d = subst (Stepped T r s) (code_new T Q t (code_of r) (number_beside r) (code_of s) (number_beside s) ha hb e) (new_pair e)
          go (no n) (yes e) =
              subst (Stepped T r s) (code_known T Q t (code_of r) (number_beside r) (code_of s) (number_beside s) ha hb n e)
              (same_again (record { leaf = λ h. absurd (omega arith); number = λ h. absurd (omega arith); pair = λ _. e }))
          go (no n) (no d) =
              subst (Stepped T r s) (code_taken T Q t (code_of r) (number_beside r) (code_of s) (number_beside s) ha hb n d)
              (fails (λ al. let z : get_or T (code_of r) 0 ≡ (get_or T (code_of r) 0 - 1) + 1 = omega (arith, n) in d (z ∙ ap (λ (k : ℕ). k + 1) (sym (other_partner (get_or T (code_of r) 0 - 1) z al)))))

    code_step : Stepped T r s step
    code_step = go (dec_lt (code_of r) first_leaf) (dec_lt (code_of s) first_leaf) (ℕ_discrete (code_of r) (code_of s)) (ℕ_discrete (number_beside r) (number_beside s))
      where
        same_refs : ((code_of r < first_leaf) → ⊥) → AllSame W b c T₀ → r ≡ s
        same_refs ha al = leaf_refs (objects_in W b) (objects_in W c) r s r_coded (ch al) (omega (arith, ha))

        go : Dec (code_of r < first_leaf) → Dec (code_of s < first_leaf) → Dec (code_of r ≡ code_of s) → Dec (number_beside r ≡ number_beside s) → Stepped T r s step
        go (yes ha) (yes hb) d e = objects_step ha hb
        go (yes ha) (no hb) d e =
            subst (Stepped T r s) (code_second T Q t (code_of r) (number_beside r) (code_of s) (number_beside s) ha (omega (arith, hb)))
            (fails (λ al. omega (arith, hb, ap code_of (leaf_refs (objects_in W c) (objects_in W b) s r s_coded (λ p. sym (ch al p)) (omega (arith, hb))))))
        go (no ha) hb (yes d) (yes e) =
            subst (Stepped T r s) (code_equal T Q t (code_of r) (number_beside r) (code_of s) (number_beside s) (omega (arith, ha)) d e)
            (same_again (record { leaf = λ _. d; number = λ _. e; pair = λ h. absurd (ha h) }))
        go (no ha) hb (yes d) (no e) =
            subst (Stepped T r s) (code_number T Q t (code_of r) (number_beside r) (code_of s) (number_beside s) (omega (arith, ha)) d e)
            (fails (λ al. e (ap number_beside (same_refs ha al))))
        go (no ha) hb (no d) e =
            subst (Stepped T r s) (code_other T Q t (code_of r) (number_beside r) (code_of s) (number_beside s) (omega (arith, ha)) d)
            (fails (λ al. d (ap code_of (same_refs ha al))))

-- ---- one object and its partner
module _ (W : List ℕ) (b x c y : ℕ) (T₀ Q₀ : List ℕ) (t₀ : ℕ) where
  stop : (AllSame W b c T₀ → ⊥) → (T Q : List ℕ) → ObjectStep W b x c y T₀ Q₀ t₀ T Q None
  stop h T Q = record { differ = λ _. h; grown = λ u e. absurd (cc); paired = λ u e. absurd (cc); closed = λ u e. absurd (cc) }

  pub object_differs : (r : Bool) → Pair W b x c y T₀ Q₀ t₀ → r ≡ alike_at W (block_size * b + object_size * x) (block_size * c + object_size * y) → r ≡ false → ObjectStep W b x c y T₀ Q₀ t₀ T₀ Q₀ None
  object_differs r pr l z = stop (λ al. alike_no W _ _ r l z (same_alike W b x c y pr.first pr.second (al.same x y pr.here))) T₀ Q₀

  pub pair_count_read : Pair W b x c y T₀ Q₀ t₀ → block_size * b + object_size * x + 1 < length W
  pair_count_read pr = count_read W b x pr.first

  pub fields_start : Pair W b x c y T₀ Q₀ t₀ → Alike W (block_size * b + object_size * x) (block_size * c + object_size * y) → FieldsSoFar W b x c y T₀ Q₀ t₀ T₀ Q₀ t₀ 0
  fields_start pr a = record {
    start = pr;
    alike = a;
    grown = record { more = omega arith; pairs = λ i j q. q; front = λ q h. refl; keeps = λ al. al };
    paired = pr.paired;
    fields = record { codes = λ f h. absurd (omega arith) };
  }

  pub four : Pair W b x c y T₀ Q₀ t₀ → get_or W (block_size * b + object_size * x + 1) 0 ≤ code_count
  four pr = (pr.first.block.packed x pr.first.low).count

  module _ (T Q : List ℕ) (t k : ℕ) (so : FieldsSoFar W b x c y T₀ Q₀ t₀ T Q t k) where
    abbrev ib : Inside W b x
    ib = so.start.first

    abbrev ic : Inside W c y
    ic = so.start.second

    en : get_or W (block_size * b + object_size * x + 1) 0 ≡ get_or W (block_size * c + object_size * y + 1) 0
    en = so.alike.count

    module _ (hk : k < get_or W (block_size * b + object_size * x + 1) 0) where
      pub first_read : block_size * b + object_size * x + head_size + k < length W
      first_read = code_read W b x ib k hk

      pub second_read : block_size * c + object_size * y + head_size + k < length W
      second_read = code_read W c y ic k (omega (arith, en))

      pub first_number : block_size * b + object_size * x + numbers_at + 2 * k + 2 ≤ length W
      first_number = number_read W b x ib k hk

      pub second_number : block_size * c + object_size * y + numbers_at + 2 * k + 2 ≤ length W
      second_number = number_read W c y ic k (omega (arith, en))

      abbrev r : Ref
      r = get_or (refs_at (objects_in W b) x) k (leaf undet)

      abbrev s : Ref
      s = get_or (refs_at (objects_in W c) y) k (leaf undet)

      hr : InRange (count_in W b) r
      hr = in_range W b ib.block x ib.low k hk

      hs : InRange (count_in W c) s
      hs = in_range W c ic.block y ic.low k (omega (arith, en))

      er : get_or W (block_size * b + object_size * x + head_size + k) 0 ≡ code_of r
      er = code_is W b ib.block x ib.low k (omega (arith, four so.start))

      es : get_or W (block_size * c + object_size * y + head_size + k) 0 ≡ code_of s
      es = code_is W c ic.block y ic.low k (omega (arith, four so.start))

      children : AllSame W b c T₀ → Same (objects_in W b) r (objects_in W c) s
      children al =
          same_child (objects_in W b) (objects_in W c) (obj x) (obj y) (al.same x y so.start.here) k r s
          (some_at (refs_at (objects_in W b) x) k (omega (arith, count_is W b ib.block x ib.low)))
          (some_at (refs_at (objects_in W c) y) k (omega (arith, en, count_is W c ic.block y ic.low)))

      pub code_fits : CodeFits T Q t (get_or W (block_size * b + object_size * x + head_size + k) 0) (get_or W (block_size * c + object_size * y + head_size + k) 0)
      code_fits = record { entry = λ h. omega (arith, low h, so.paired.table, ib.block.small); room = room; few = omega (arith, so.paired.free); mark = λ h. omega (arith, second_low h, ic.block.small) }
        where
          low : get_or W (block_size * b + object_size * x + head_size + k) 0 < first_leaf → get_or W (block_size * b + object_size * x + head_size + k) 0 < count_in W b
          low h = rw er (object_low (count_in W b) r hr (rw er at h))

          second_low : get_or W (block_size * c + object_size * y + head_size + k) 0 < first_leaf → get_or W (block_size * c + object_size * y + head_size + k) 0 < count_in W c
          second_low h = rw es (object_low (count_in W c) s hs (rw es at h))

          room : get_or W (block_size * b + object_size * x + head_size + k) 0 < first_leaf → get_or T (get_or W (block_size * b + object_size * x + head_size + k) 0) 0 ≡ 0 → t < length Q
          room h e =
              omega (
                arith,
                so.paired.free,
                so.paired.queue,
                low h,
                so.paired.table,
                ib.block.small,
                zeros-put capacity (get_or W (block_size * b + object_size * x + head_size + k) 0) 1 T (omega (arith, low h, ib.block.small)) (omega (arith, low h, so.paired.table, ib.block.small)) e (omega arith),
              )

      module _ (T2 Q2 : List ℕ) (o : RustOption ℕ) (m n : ℕ) (em : m ≡ number_at W (block_size * b + object_size * x + numbers_at + 2 * k)) (ey : n ≡ number_at W (block_size * c + object_size * y + numbers_at + 2 * k))
          (e : after o T2 Q2 ≡ step_code T Q t (get_or W (block_size * b + object_size * x + head_size + k) 0) m (get_or W (block_size * c + object_size * y + head_size + k) 0) n) where
        fr : m ≡ number_beside r
        fr = em ∙ number_is W b ib.block x ib.low k (omega (arith, four so.start))

        fs : n ≡ number_beside s
        fs = ey ∙ number_is W c ic.block y ic.low k (omega (arith, four so.start))

        this_step : Stepped W b c T₀ Q₀ t₀ T r s (after o T2 Q2)
        this_step =
            subst (Stepped W b c T₀ Q₀ t₀ T r s) (sym (rw (er, es, fr, fs) at e))
            (code_step W b c T₀ Q₀ t₀ ib.block ic.block T Q t so.grown so.paired r s hr hs children)

        pub fields_differ : o ≡ None → ObjectStep W b x c y T₀ Q₀ t₀ T2 Q2 None
        fields_differ z = stop (this_step.differ z) T2 Q2

        -- field f of the two is linked
        abbrev At : ℕ → Type 0
        At f = Linked T2 (get_or W (block_size * b + object_size * x + head_size + f) 0) (number_at W (block_size * b + object_size * x + numbers_at + 2 * f)) (get_or W (block_size * c + object_size * y + head_size + f) 0) (number_at W (block_size * c + object_size * y + numbers_at + 2 * f))

        pub fields_more : (u : ℕ) → o ≡ Some u → FieldsSoFar W b x c y T₀ Q₀ t₀ T2 Q2 u (k + 1)
        fields_more u z = record { start = so.start; alike = so.alike; grown = this_step.grown u z; paired = this_step.paired u z; fields = record { codes = λ f h. go f h (ℕ_discrete f k) } }
          where
            here : At k
            here = rw (← em, ← ey, er, es, fr, fs) (this_step.linked u z)

            go : (f : ℕ) → f < k + 1 → Dec (f ≡ k) → At f
            go f h (yes q) = rw q here
            go f h (no q) = let l = so.fields.codes f (omega (arith, q)) in record { leaf = l.leaf; number = l.number; pair = λ i. this_step.further u z _ _ (l.pair i) }

    pub fields_done : get_or W (block_size * b + object_size * x + 1) 0 ≤ k → ObjectStep W b x c y T₀ Q₀ t₀ T Q (Some t)
    fields_done h = record {
      differ = λ z. absurd (cc);
      grown = λ u e. let z : t ≡ u = cc in rw z at so.grown;
      paired = λ u e. let z : t ≡ u = cc in rw z at so.paired;
      closed = λ _ _. record { alike = so.alike; fields = record { codes = λ f l. so.fields.codes f (omega arith) } };
    }
