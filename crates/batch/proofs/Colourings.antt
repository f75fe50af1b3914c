-- Laws of the rounds that colour the listed parts.
-- Not here: parts that are alike (Shades), what it says of trees (Listings).
use Rattle.std.proofs.Common.{ℕ, suc, ◌+◌, ◌<◌, ◌≤◌, arith, Some, None, ◌≡◌, refl, sym, ap, ◌∙◌, subst, List, [], ◌∷◌, length, get_or, set, replicate, get_or-set_same, get_or-set_other}
use native.Mathlib.Decide.{dec_lt, ℕ_discrete}
use Rattle.std.specs.declared.option.Option.{Option as RustOption}
use Rattle.cofj.specs.Values.{obj, Node}
use Rattle.cofj.specs.Unfolding.{Same}
use Rattle.cofj.specs.Formed.{AllIn}
use Rattle.cofj.specs.Batch.{PartReached, Apart}
use Rattle.canon.specs.Figures.{capacity}
use Rattle.canon.proofs.Zeros.{zero_at}
use Rattle.batch.specs.Figures.{number_field}
use Rattle.batch.specs.Reaching.{Listed, Reaches}
use Rattle.batch.specs.Colouring.{Alike, FirstAlike, Own, Coloured, RoundTo, RoundDone, Colours}
use Rattle.batch.proofs.Shades.{alike_self, alike_back, alike_then}
use Rattle.batch.proofs.Listings.{led_byte, listed_reached, same_alike}

-- ---- lists
all_of : (Q : ℕ → Type 0) (D : List ℕ) → ((c : ℕ) → c < length D → Q (get_or D c 0)) → AllIn Q D
all_of Q [] h = tt
all_of Q (x ∷ D) h = (h 0 (omega arith), all_of Q D (λ c l. h (suc c) (omega arith)))

apart_of : (ns : List Node) (D : List ℕ) → ((a b : ℕ) → a < b → b < length D → Same ns (obj (get_or D a 0)) ns (obj (get_or D b 0)) → ⊥) → Apart ns D
apart_of ns [] h = tt
apart_of ns (x ∷ D) h =
    (all_of (λ j. Same ns (obj x) ns (obj j) → ⊥) D (λ c l. h 0 (suc c) (omega arith) (omega arith)), apart_of ns D (λ a b l m. h (suc a) (suc b) (omega arith) (omega arith)))

module _ (P L : List ℕ) (m : ℕ) (rc : Reaches P L m) where
  here : (q : ℕ) → q < m → Listed L m (get_or L q 0)
  here q h = record { place = q; low = h; is = refl }

  pub listed-byte : (x : ℕ) → Listed L m x → x < number_field
  listed-byte x o = led_byte P (rc.led x o)

  -- colours that agree on the listed parts, and leads that agree on the colours
  recoloured : (C D C' D' : List ℕ) (k : ℕ) → Coloured P L m C D k → ((x : ℕ) → Listed L m x → get_or C' x 0 ≡ get_or C x 0) → ((c : ℕ) → c < k → get_or D' c 0 ≡ get_or D c 0) → Coloured P L m C' D' k
  recoloured C D C' D' k co e f = record {
    some_colour = co.some_colour;
    few = co.few;
    low = λ x o. rw (e x o) (co.low x o);
    leads = λ c h. rw (f c h) (co.leads c h);
    own = λ c h. ap (λ (x : ℕ). get_or C' x 0) (f c h) ∙ e (get_or D c 0) (co.leads c h) ∙ co.own c h;
    first = f 0 co.some_colour ∙ co.first;
    one = λ ns ly x y a b s. e x a ∙ co.one ns ly x y a b s ∙ sym (e y b);
  }

  -- ---- a round
  module _ (C : List ℕ) (k : ℕ) where
    pub round_start : (N D : List ℕ) → Coloured P L m C D k → RoundTo P L m C k N D k 0
    round_start N D co = record {
      start = co;
      more = omega arith;
      few = co.few;
      leads = co.leads;
      apart = λ a b h l w. omega (arith, w.colour, co.own a (omega arith), co.own b l);
      low = λ q h. absurd (omega arith);
      alike = λ q h. absurd (omega arith);
    }

    module _ (N D : List ℕ) (top i : ℕ) (so : RoundTo P L m C k N D top i) where
      -- two leading parts that are alike lead one colour
      one_lead : (a b : ℕ) → a < top → b < top → Alike P C (get_or D a 0) (get_or D b 0) → a ≡ b
      one_lead a b ha hb w = go (dec_lt a b) (dec_lt b a)
        where
          go : Dec (a < b) → Dec (b < a) → a ≡ b
          go (yes l) d = absurd (so.apart a b l hb w)
          go (no l) (yes g) = absurd (so.apart b a g ha (alike_back P C _ _ w))
          go (no l) (no g) = omega (arith, l, g)

      module _ (hi : i < m) where
        pub round_read : i < length L
        round_read = omega (arith, rc.few, rc.long)

        pub round_byte : get_or L i 0 < number_field
        round_byte = listed-byte _ (here i hi)

        pub round_own : Own C D k (get_or L i 0)
        round_own = record { low = so.start.low _ (here i hi); own = so.start.own }

        module _ (c : ℕ) (fa : FirstAlike P C D 0 top (get_or L i 0) c) (ln : length N ≡ 256) where
          -- the part has the colour c
          new : get_or (set N (get_or L i 0) c) (get_or L i 0) 0 ≡ c
          new = get_or-set_same N (get_or L i 0) c 0 (omega (arith, round_byte))

          module _ (D' : List ℕ) (top' : ℕ) (f : (d : ℕ) → d < top → get_or D' d 0 ≡ get_or D d 0) (ht : top ≤ top') (hc : c < top') (w : Alike P C (get_or L i 0) (get_or D' c 0)) where
            given : (q : ℕ) → q < i + 1 → (get_or (set N (get_or L i 0) c) (get_or L q 0) 0 < top') × Alike P C (get_or L q 0) (get_or D' (get_or (set N (get_or L i 0) c) (get_or L q 0) 0) 0)
            given q l = go (ℕ_discrete (get_or L q 0) (get_or L i 0))
              where
                go : Dec (get_or L q 0 ≡ get_or L i 0) → (get_or (set N (get_or L i 0) c) (get_or L q 0) 0 < top') × Alike P C (get_or L q 0) (get_or D' (get_or (set N (get_or L i 0) c) (get_or L q 0) 0) 0)
                go (yes z) = rw (z, new) (hc, w)
                go (no z) =
                    let n : (q ≡ i) → ⊥ = λ e. z (ap (λ (y : ℕ). get_or L y 0) e) in
                    let g : q < i = omega arith in
                    rw (get_or-set_other N (get_or L i 0) (get_or L q 0) c 0 z, f (get_or N (get_or L q 0) 0) (so.low q g)) (omega (arith, so.low q g), so.alike q g)

          pub round_old : ((c ≡ top) → ⊥) → RoundTo P L m C k (set N (get_or L i 0) c) D top (i + 1)
          round_old d =
              let l : c < top = omega (arith, fa.most, d) in
              let g = given D top (λ e h. refl) (omega arith) l (fa.here l) in
              record {
                start = so.start;
                more = so.more;
                few = so.few;
                leads = so.leads;
                apart = so.apart;
                low = λ q h. (g q h).0;
                alike = λ q h. (g q h).1;
              }

          module _ (e : c ≡ top) where
            other : (d : ℕ) → d < top → Alike P C (get_or L i 0) (get_or D d 0) → ⊥
            other d h = fa.none d (omega arith) (omega arith)

            pub round_new : top < capacity → length D ≡ capacity → RoundTo P L m C k (set N (get_or L i 0) c) (set D top (get_or L i 0)) (top + 1) (i + 1)
            round_new h ld = record {
              start = recoloured C D C D' k so.start (λ x o. refl) (λ d l. front d (omega (arith, so.more)));
              more = omega (arith, so.more);
              few = omega arith;
              leads = λ d l. lead d l (ℕ_discrete d top);
              apart = λ a b l n. parted a b l n (ℕ_discrete b top);
              low = λ q l. (g q l).0;
              alike = λ q l. (g q l).1;
            }
              where
                D' : List ℕ
                D' = set D top (get_or L i 0)

                last : get_or D' top 0 ≡ get_or L i 0
                last = get_or-set_same D top (get_or L i 0) 0 (omega arith)

                front : (d : ℕ) → d < top → get_or D' d 0 ≡ get_or D d 0
                front d l = get_or-set_other D top d (get_or L i 0) 0 (λ z. omega arith)

                g : (q : ℕ) → q < i + 1 → (get_or (set N (get_or L i 0) c) (get_or L q 0) 0 < top + 1) × Alike P C (get_or L q 0) (get_or D' (get_or (set N (get_or L i 0) c) (get_or L q 0) 0) 0)
                g = given D' (top + 1) front (omega arith) (omega arith) (rw (e, last) (alike_self P C (get_or L i 0)))

                lead : (d : ℕ) → d < top + 1 → Dec (d ≡ top) → Listed L m (get_or D' d 0)
                lead d l (yes z) = rw (z, last) (here i hi)
                lead d l (no z) = let n : d < top = omega (arith, z) in rw (front d n) (so.leads d n)

                parted : (a b : ℕ) → a < b → b < top + 1 → Dec (b ≡ top) → Alike P C (get_or D' a 0) (get_or D' b 0) → ⊥
                parted a b l n (yes z) w = other a (omega arith) (alike_back P C _ _ (rw (z, last, front a (omega arith)) at w))
                parted a b l n (no z) w = let u : b < top = omega (arith, z) in so.apart a b l u (rw (front a (omega arith), front b u) at w)

            pub round_many : capacity ≤ top → length D ≡ capacity → RoundDone P L m C k (set N (get_or L i 0) c) D None
            round_many h ld = record {
              more = λ r e. absurd (cc);
              next = λ r e. absurd (cc);
              settled = λ e. absurd (cc);
              many = λ _ ns ly. record {
                ones = get_or L i 0 ∷ D;
                count = ap suc ld;
                reached = (listed_reached P ns ly L m rc _ (here i hi), all_of (PartReached ns) D (λ d l. listed_reached P ns ly L m rc _ (so.leads d (omega arith))));
                apart = (
                  all_of (λ j. Same ns (obj (get_or L i 0)) ns (obj j) → ⊥) D (λ d l s. other d (omega arith) (same_alike P ns ly L m rc C (so.start.one ns ly) _ _ (here i hi) (so.leads d (omega arith)) s)),
                  apart_of ns D (λ a b l n s. so.apart a b l (omega arith) (same_alike P ns ly L m rc C (so.start.one ns ly) _ _ (so.leads a (omega arith)) (so.leads b (omega arith)) s)),
                );
              };
            }

      pub round_done : m ≤ i → RoundDone P L m C k N D (Some top)
      round_done h = record {
        more = λ r e. let z : top ≡ r = cc in rw z at so.more;
        next = λ r e. let z : top ≡ r = cc in rw z at now;
        settled = λ e. record {
          coloured = so.start;
          alike = λ x o.
              let t : top ≡ k = cc in
              let z : get_or C x 0 ≡ get_or N x 0 = (alike x o).colour ∙ so.start.own (get_or N x 0) (omega (arith, low x o)) in
              rw z (alike x o);
        };
        many = λ e. absurd (cc);
      }
        where
          low : (x : ℕ) → Listed L m x → get_or N x 0 < top
          low x o = subst (λ (y : ℕ). get_or N y 0 < top) o.is (so.low o.place (omega (arith, o.low)))

          alike : (x : ℕ) → Listed L m x → Alike P C x (get_or D (get_or N x 0) 0)
          alike x o = subst (λ (y : ℕ). Alike P C y (get_or D (get_or N y 0) 0)) o.is (so.alike o.place (omega (arith, o.low)))

          now : Coloured P L m N D top
          now = record {
            some_colour = omega (arith, so.start.some_colour, so.more);
            few = so.few;
            low = low;
            leads = so.leads;
            own = λ c l. sym (one_lead c (get_or N (get_or D c 0) 0) l (low _ (so.leads c l)) (alike _ (so.leads c l)));
            first = so.start.first;
            one = λ ns ly x y a b s.
                one_lead (get_or N x 0) (get_or N y 0) (low x a) (low y b)
                (alike_then P C _ _ _ (alike_back P C _ _ (alike x a)) (alike_then P C _ _ _ (same_alike P ns ly L m rc C (so.start.one ns ly) x y a b s) (alike y b)));
          }

  -- ---- the rounds
  -- all have one colour, which part 0 leads
  pub colour_start : (n : ℕ) (D : List ℕ) → length D ≡ capacity → Coloured P L m (replicate {A = ℕ} n 0) (set D 0 0) 1
  colour_start n D ld = record {
    some_colour = omega arith;
    few = omega arith;
    low = λ x o. omega (arith, none x o);
    leads = λ c h. rw (lead c h) rc.root;
    own = λ c h. rw (lead c h) (none 0 rc.root ∙ omega arith);
    first = lead 0 (omega arith);
    one = λ ns ly x y a b s. none x a ∙ sym (none y b);
  }
    where
      none : (x : ℕ) → Listed L m x → ◌≡◌ {A = ℕ} (get_or (replicate n 0) x 0) 0
      none x o = zero_at n x

      lead : (c : ℕ) → c < 1 → get_or (set D 0 0) c 0 ≡ 0
      lead c h = let z : c ≡ 0 = omega arith in rw z (get_or-set_same D 0 0 0 (omega arith))

  module _ (C N D : List ℕ) (k : ℕ) (o : RustOption ℕ) (rd : RoundDone P L m C k N D o) where
    pub colour_full : o ≡ None → Colours P L m C D None
    colour_full e = record { settled = λ r z. absurd (cc); many = λ _. rd.many e }

    module _ (r : ℕ) (e : o ≡ Some r) where
      pub colour_settled : r ≡ k → Colours P L m C D (Some k)
      colour_settled z = record { settled = λ t y. let w : k ≡ t = cc in rw w at (rd.settled (e ∙ ap {B = RustOption ℕ} Some z)); many = λ y. absurd (cc) }

      pub colour_few : r ≤ capacity
      colour_few = (rd.next r e).few

      pub colour_grows : k ≤ r
      colour_grows = rd.more r e

      pub colour_more : Coloured P L m N D r
      colour_more = rd.next r e
