-- Laws of the parts that part 0 leads to, listed. The room in the list is by counting what is not listed yet.
-- Not here: what the lists say of parts that are known by their lines (Listings).
use Rattle.std.proofs.Common.{ℕ, ◌+◌, ◌*◌, ◌<◌, ◌≤◌, arith, ◌≡◌, refl, sym, ap, ◌∙◌, subst, Bool, true, false, cond, List, map, length, get_or, set, replicate, length-set, get_or-set_same, get_or-set_other}
use native.Mathlib.Decide.{dec_lt, ℕ_discrete}
use Rattle.std.proofs.Math.ListN.{length-replicate}
use Rattle.canon.proofs.Zeros.{unseen_at, zeros-few, zeros-mark}
use mathlib.Core.Bool.{false≢true}
use Rattle.canon.specs.Figures.{head_size}
use Rattle.batch.specs.Figures.{part_size, field_room, number_field}
use Rattle.batch.specs.Layout.{field_byte}
use Rattle.batch.specs.Reaching.{Listed, FieldOf, Led, first, next, Noted, Met, FieldsMet, ReachedTo, Reaches}

-- what is listed stays so while the list grows
listed_kept : (L L' : List ℕ) (t r x : ℕ) → t ≤ r → ((q : ℕ) → q < t → get_or L' q 0 ≡ get_or L q 0) → Listed L t x → Listed L' r x
listed_kept L L' t r x h front o = record { place = o.place; low = omega (arith, o.low); is = front o.place o.low ∙ o.is }

-- ---- a byte met
module _ (S : List Bool) (L : List ℕ) (t b : ℕ) (nd : Noted S L t) where
  unchanged : (b < number_field → Listed L t b) → Met L t b S L t
  unchanged h = record { noted = nd; more = omega arith; front = λ q l. refl; new = λ q a l. absurd (omega arith); part = λ l. absurd (omega arith); here = h }

  pub met_none : number_field ≤ b → Met L t b S L t
  met_none h = unchanged (λ l. absurd (omega arith))

  pub met_known : get_or S b false ≡ true → Met L t b S L t
  met_known d = unchanged (λ _. nd.listed b d)

  module _ (h : b < number_field) (e : get_or S b false ≡ false) where
    pub met_few : t < number_field
    met_few = omega (arith, nd.free, zeros-mark number_field b S h (omega (arith, nd.seen)) e)

    end : get_or (set L t b) t 0 ≡ b
    end = get_or-set_same L t b 0 (omega (arith, met_few, nd.list))

    pub met_new : Met L t b (set S b true) (set L t b) (t + 1)
    met_new = record {
      noted = record {
        seen = length-set S b true ∙ nd.seen;
        list = length-set L t b ∙ nd.list;
        free = omega (arith, nd.free, zeros-mark number_field b S h (omega (arith, nd.seen)) e);
        listed = λ x d. listed x d (ℕ_discrete x b);
      };
      more = omega arith;
      front = front;
      new = λ q a l. let z : q ≡ t = omega arith in ap (λ (k : ℕ). get_or (set L t b) k 0) z ∙ end;
      part = λ _. h;
      here = λ _. last;
    }
      where
        front : (q : ℕ) → q < t → get_or (set L t b) q 0 ≡ get_or L q 0
        front q l = get_or-set_other L t q b 0 (λ z. omega arith)

        last : Listed (set L t b) (t + 1) b
        last = record { place = t; low = omega arith; is = end }

        listed : (x : ℕ) → get_or (set S b true) x false ≡ true → Dec (x ≡ b) → Listed (set L t b) (t + 1) x
        listed x d (yes z) = subst (Listed (set L t b) (t + 1)) (sym z) last
        listed x d (no z) = listed_kept L (set L t b) t (t + 1) x (omega arith) front (nd.listed x (sym (get_or-set_other S b x true false z) ∙ d))

-- ---- the fields of a part met
module _ (P : List ℕ) (p : ℕ) (L₀ : List ℕ) (t : ℕ) where
  more : (S : List Bool) (L : List ℕ) (r k i : ℕ) (S' : List Bool) (L' : List ℕ) (r' : ℕ) → k < field_room → i ≡ part_size * p + head_size + k → FieldsMet P p k L₀ t S L r → Met L r (get_or P i 0) S' L' r'
      → FieldsMet P p (k + 1) L₀ t S' L' r'
  more S L r k i S' L' r' h e so m = record {
    noted = m.noted;
    more = omega (arith, so.more, m.more);
    front = λ q l. m.front q (omega (arith, so.more)) ∙ so.front q l;
    here = λ f l b. heres f l b (ℕ_discrete f k);
    new = λ q a b. news q a b (dec_lt q r);
  }
    where
      byte : get_or P i 0 ≡ field_byte P p k
      byte = ap (λ (j : ℕ). get_or P j 0) e

      heres : (f : ℕ) → f < k + 1 → field_byte P p f < number_field → Dec (f ≡ k) → Listed L' r' (field_byte P p f)
      heres f l b (yes z) =
          let u : get_or P i 0 ≡ field_byte P p f = byte ∙ ap (field_byte P p) (sym z) in
          subst (Listed L' r') u (m.here (rw u b))
      heres f l b (no z) = listed_kept L L' r r' _ m.more m.front (so.here f (omega (arith, z)) b)

      news : (q : ℕ) → t ≤ q → q < r' → Dec (q < r) → FieldOf P p (get_or L' q 0)
      news q a b (yes l) = subst (FieldOf P p) (sym (m.front q l)) (so.new q a l)
      news q a b (no l) =
          let z : get_or L' q 0 ≡ get_or P i 0 = m.new q (omega (arith, l)) b in
          record { field = k; low = h; is = sym (z ∙ byte); part = rw z (m.part (omega (arith, l))) }

  pub fields_met : (S₀ S1 : List Bool) (L1 : List ℕ) (r1 : ℕ) (S2 : List Bool) (L2 : List ℕ) (r2 : ℕ) (S3 : List Bool) (L3 : List ℕ) (r3 : ℕ) (S : List Bool) (L : List ℕ) (r : ℕ) → Noted S₀ L₀ t
      → Met L₀ t (get_or P (part_size * p + head_size) 0) S1 L1 r1
      → Met L1 r1 (get_or P (part_size * p + head_size + 1) 0) S2 L2 r2
      → Met L2 r2 (get_or P (part_size * p + head_size + 2) 0) S3 L3 r3
      → Met L3 r3 (get_or P (part_size * p + head_size + 3) 0) S L r
      → FieldsMet P p 4 L₀ t S L r
  fields_met S₀ S1 L1 r1 S2 L2 r2 S3 L3 r3 S L r nd a b c d =
      more S3 L3 r3 3 _ S L r (omega arith) (omega arith)
      (more S2 L2 r2 2 _ S3 L3 r3 (omega arith) (omega arith)
      (more S1 L1 r1 1 _ S2 L2 r2 (omega arith) (omega arith)
      (more S₀ L₀ t 0 _ S1 L1 r1 (omega arith) (omega arith) none a) b) c) d
    where
      none : FieldsMet P p 0 L₀ t S₀ L₀ t
      none = record { noted = nd; more = omega arith; front = λ q l. refl; here = λ f l. absurd (omega arith); new = λ q l m. absurd (omega arith) }

-- ---- the list gone over
module _ (P : List ℕ) where
  -- part 0 is the first; `seen` begins with k times false
  pub reach_start : (L : List ℕ) (k : ℕ) → length L ≡ 256 → k ≡ 256 → ReachedTo P (set (replicate k false) 0 true) (set L 0 0) 1 0
  reach_start L k ll ek = record {
    noted = m.noted;
    root = m.here (omega arith);
    closed = λ q f l. absurd (omega arith);
    led = λ q l. subst (Led P) (sym (m.new q (omega arith) l)) first;
  }
    where
      nothing : Noted (replicate k false) L 0
      nothing = record { seen = length-replicate k false ∙ ek; list = ll; free = omega (arith, zeros-few number_field (map (λ b. cond b 1 0) (replicate k false))); listed = λ x d. absurd (false≢true (sym (unseen_at k x) ∙ d)) }

      m : Met L 0 0 (set (replicate k false) 0 true) (set L 0 0) 1
      m = met_new (replicate k false) L 0 0 nothing (omega arith) (unseen_at k 0)

  module _ (S : List Bool) (L : List ℕ) (t h : ℕ) (so : ReachedTo P S L t h) where
    module _ (hh : h < t) where
      pub head_read : h < length L
      head_read = omega (arith, so.noted.list, so.noted.free)

      module _ (S2 : List Bool) (L2 : List ℕ) (r : ℕ) (o : FieldsMet P (get_or L h 0) 4 L t S2 L2 r) where
        pub reach_few : r ≤ number_field
        reach_few = omega (arith, o.noted.free)

        pub reach_more : ReachedTo P S2 L2 r (h + 1)
        reach_more = record {
          noted = o.noted;
          root = kept 0 so.root;
          closed = λ q f l b c.
              let e : get_or L2 q 0 ≡ get_or L q 0 = o.front q (omega arith) in
              subst (λ (y : ℕ). Listed L2 r (field_byte P y f)) (sym e) (closed q f l b (rw e at c) (ℕ_discrete q h));
          led = λ q l. leds q l (dec_lt q t);
        }
          where
            kept : (y : ℕ) → Listed L t y → Listed L2 r y
            kept y = listed_kept L L2 t r y o.more o.front

            closed : (q f : ℕ) → q < h + 1 → f < field_room → field_byte P (get_or L q 0) f < number_field → Dec (q ≡ h) → Listed L2 r (field_byte P (get_or L q 0) f)
            closed q f l b c (yes z) = rw z (o.here f b (rw z at c))
            closed q f l b c (no z) = kept _ (so.closed q f (omega (arith, z)) b c)

            leds : (q : ℕ) → q < r → Dec (q < t) → Led P (get_or L2 q 0)
            leds q l (yes b) = subst (Led P) (sym (o.front q b)) (so.led q b)
            leds q l (no b) = next (get_or L2 q 0) (so.led h hh) (o.new q (omega (arith, b)) l)

    pub reach_done : t ≤ h → Reaches P L t
    reach_done l = record {
      few = omega (arith, so.noted.free);
      long = so.noted.list;
      root = so.root;
      closed = λ x f o b c. rw (← o.is) (so.closed o.place f (omega (arith, o.low)) b (rw (← o.is) at c));
      led = λ x o. subst (Led P) o.is (so.led o.place o.low);
    }
