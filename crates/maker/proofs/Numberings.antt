-- The new objects of a part numbered: the laws of `up_to_new` and `number_new`, and codes turned by the numbers.
-- Not here: the objects written (Additions), the host then (Joins).
use Rattle.std.proofs.Common.{ℕ, ◌+◌, ◌-◌, ◌<◌, ◌≤◌, arith, ◌≡◌, refl, sym, ap, ◌∙◌, Bool, true, false, cond, List, eqb, length, get_or, set, length-set, get_or-set_same, get_or-set_other, lt-ltb, le-ltb}
use native.Mathlib.Decide.{dec_lt, dec_le, ℕ_discrete}
use Rattle.std.proofs.Math.Bool.{false≢true}
use Rattle.cofj.proofs.Basics.{get_d_map_lt}
use Rattle.canon.specs.Figures.{first_leaf, capacity}
use Rattle.canon.specs.Tables.{turned}
use Rattle.canon.specs.Numbers.{number_in}
use Rattle.std.specs.declared.option.Option.{Option}
use Rattle.std.specs.declared.option.Option.TheVariants.{Some, None}
use Rattle.maker.specs.Figures.{not_told, too_many}
use Rattle.maker.proofs.Answers.{only, never_none, never_some}
use Rattle.maker.specs.Sorting.{turn_in}
use Rattle.maker.specs.Joining.{numbers_of, New, NewAmong, Given, Counted, Overfull, Fitted}

-- ---- a code turned
module _ (T : List ℕ) (c : ℕ) where
  -- as canon turns it
  pub turn_is : (c < first_leaf → c < length T) → turn_in T c ≡ turned (numbers_of T) c
  unfolding turn_in turned numbers_of number_in
  turn_is h = go (dec_lt c first_leaf)
    where
      go : Dec (c < first_leaf) → turn_in T c ≡ turned (numbers_of T) c
      go (yes l) = rw (lt-ltb c first_leaf l) (sym (get_d_map_lt (λ k. cond (eqb k 0) not_told (k - 1)) T c 0 0 (h l)))
      go (no l) = rw (le-ltb c first_leaf (omega (arith, l)))

-- ---- the last new one
pub among_all : (n : ℕ) (F : List Bool) → NewAmong n F n
among_all n F = record { few = omega arith; low = λ x h w. h }

module _ (n : ℕ) (F : List Bool) (k : ℕ) (na : NewAmong n F k) where
  pub among_less : 0 < k → get_or F (k - 1) false ≡ false → NewAmong n F (k - 1)
  among_less h z = record { few = omega (arith, na.few); low = λ x l w. less x w (na.low x l w) (ℕ_discrete x (k - 1)) }
    where
      less : (x : ℕ) → New F x → x < k → Dec (x ≡ k - 1) → x < k - 1
      less x w l (yes e) = absurd (false≢true (sym (ap (λ (i : ℕ). get_or F i false) e ∙ z) ∙ w))
      less x w l (no d) = omega (arith, d)

  pub among_none : k ≤ 0 → NewAmong n F 0
  among_none h = record { few = omega arith; low = λ x l w. omega (arith, na.low x l w) }

  -- the numbers of the new ones among the first k are those of all
  pub fitted_all : (t : ℕ) (T T' : List ℕ) (a : Option ℕ) → Fitted k t T F T' a → Fitted n t T F T' a
  fitted_all t T T' a ft = record { counted = λ m e. all m (ft.counted m e); few = ft.few; over = λ h. let o = ft.over h in record { from = o.from; low = λ i a b. omega (arith, o.low i a b, na.few); new = o.new; one = o.one } }
    where
      all : (m : ℕ) → Counted k t T F T' m → Counted n t T F T' m
      all m ct = record {
        same = ct.same;
        most = ct.most;
        kept = ct.kept;
        numbered = record {
          low = λ x h w. ct.numbered.low x (na.low x h w) w;
          high = λ x h w. ct.numbered.high x (na.low x h w) w;
          one = λ x y h l w q. ct.numbered.one x y (na.low x h w) (na.low y l q) w q;
        };
        from = λ i l h. let g = ct.from i l h in record { source = g.source; below = omega (arith, g.below, na.few); new = g.new; at = g.at };
      }

-- ---- the numbers
pub counted_none : (t : ℕ) (T : List ℕ) (F : List Bool) → Counted 0 t T F T t
counted_none t T F = record {
  same = refl;
  most = omega arith;
  kept = λ x e. refl;
  numbered = record { low = λ x h. absurd (omega arith); high = λ x h. absurd (omega arith); one = λ x y h. absurd (omega arith) };
  from = λ k l h. absurd (omega arith);
}

-- more numbers than there is room for: the objects that have those up to 32
module _ (n t : ℕ) (T₀ : List ℕ) (F : List Bool) (T : List ℕ) (m : ℕ) (ct : Counted n t T₀ F T m) where
  number_of : (k : ℕ) → Dec (t < k + 1) → Dec (k + 1 ≤ m) → ℕ
  number_of k (yes a) (yes b) = (ct.from (k + 1) a b).source
  number_of k (yes a) (no b) = 0
  number_of k (no a) b = 0

  -- object x has number k
  abbrev Has : ℕ → ℕ → Type 0
  Has k x = (x < n) × New F x × (get_or T x 0 ≡ k + 1)

  number_is : (k : ℕ) (a : Dec (t < k + 1)) (b : Dec (k + 1 ≤ m)) → t < k + 1 → k + 1 ≤ m → Has k (number_of k a b)
  unfolding number_of
  number_is k (yes a) (yes b) l h = let g = ct.from (k + 1) a b in (g.below, g.new, g.at)
  number_is k (yes a) (no b) l h = absurd (b h)
  number_is k (no a) b l h = absurd (a l)

  counted-over : capacity < m → (n' : ℕ) → n ≤ n' → Overfull n' t F
  counted-over h n' le = record {
    from = λ k. number_of k (dec_lt t (k + 1)) (dec_le (k + 1) m);
    low = λ k a b. omega (arith, (is k a b).0);
    new = λ k a b. (is k a b).1;
    one = λ k l a b c d e. omega (arith, (is k a b).2, (is l c d).2, ap (λ (x : ℕ). get_or T x 0) e);
  }
    where
      is : (k : ℕ) → t ≤ k → k < too_many → Has k (number_of k (dec_lt t (k + 1)) (dec_le (k + 1) m))
      is k a b = number_is k (dec_lt t (k + 1)) (dec_le (k + 1) m) (omega arith) (omega arith)

module _ (x t : ℕ) (T₀ : List ℕ) (F : List Bool) (T : List ℕ) (m : ℕ) (ct : Counted x t T₀ F T m) where
  counted_same : get_or F x false ≡ false → Counted (x + 1) t T₀ F T m
  counted_same z = record {
    same = ct.same;
    most = ct.most;
    kept = ct.kept;
    numbered = record {
      low = λ y h n. ct.numbered.low y (less y h n (ℕ_discrete y x)) n;
      high = λ y h n. ct.numbered.high y (less y h n (ℕ_discrete y x)) n;
      one = λ y w h k n q. ct.numbered.one y w (less y h n (ℕ_discrete y x)) (less w k q (ℕ_discrete w x)) n q;
    };
    from = λ k l h. let g = ct.from k l h in record { source = g.source; below = omega (arith, g.below); new = g.new; at = g.at };
  }
    where
      less : (y : ℕ) → y < x + 1 → New F y → Dec (y ≡ x) → y < x
      less y h n (yes e) = absurd (false≢true (sym (ap (λ (i : ℕ). get_or F i false) e ∙ z) ∙ n))
      less y h n (no d) = omega (arith, d)

  counted_new : New F x → x < length T → Counted (x + 1) t T₀ F (set T x (m + 1)) (m + 1)
  counted_new new room = record {
    same = length-set T x (m + 1) ∙ ct.same;
    most = omega (arith, ct.most);
    kept = λ y e. other y (λ z. false≢true (sym (ap (λ (i : ℕ). get_or F i false) (sym z) ∙ e) ∙ new)) ∙ ct.kept y e;
    numbered = record {
      low = λ y h n. (between y h n (ℕ_discrete y x)).0;
      high = λ y h n. (between y h n (ℕ_discrete y x)).1;
      one = λ y w h k n q. apart y w h k n q (ℕ_discrete y x) (ℕ_discrete w x);
    };
    from = λ k l h. given k l h (ℕ_discrete k (m + 1));
  }
    where
      other : (y : ℕ) → ((y ≡ x) → ⊥) → get_or (set T x (m + 1)) y 0 ≡ get_or T y 0
      other y d = get_or-set_other T x y (m + 1) 0 d

      this : (y : ℕ) → y ≡ x → get_or (set T x (m + 1)) y 0 ≡ m + 1
      this y e = ap (λ (i : ℕ). get_or (set T x (m + 1)) i 0) e ∙ get_or-set_same T x (m + 1) 0 room

      between : (y : ℕ) → y < x + 1 → New F y → Dec (y ≡ x) → (t < get_or (set T x (m + 1)) y 0) × (get_or (set T x (m + 1)) y 0 ≤ m + 1)
      between y h n (yes e) = (omega (arith, this y e, ct.most), omega (arith, this y e))
      between y h n (no d) =
          (omega (arith, other y d, ct.numbered.low y (omega (arith, d)) n), omega (arith, other y d, ct.numbered.high y (omega (arith, d)) n))

      apart : (y w : ℕ) → y < x + 1 → w < x + 1 → New F y → New F w → Dec (y ≡ x) → Dec (w ≡ x) → get_or (set T x (m + 1)) y 0 ≡ get_or (set T x (m + 1)) w 0 → y ≡ w
      apart y w h k n q (yes a) (yes b) e = a ∙ sym b
      apart y w h k n q (yes a) (no b) e = absurd (omega (arith, this y a, other w b, ct.numbered.high w (omega (arith, b)) q))
      apart y w h k n q (no a) (yes b) e = absurd (omega (arith, this w b, other y a, ct.numbered.high y (omega (arith, a)) n))
      apart y w h k n q (no a) (no b) e = ct.numbered.one y w (omega (arith, a)) (omega (arith, b)) n q (sym (other y a) ∙ e ∙ other w b)

      given : (k : ℕ) → t < k → k ≤ m + 1 → Dec (k ≡ m + 1) → Given (x + 1) F (set T x (m + 1)) k
      given k l h (yes e) = record { source = x; below = omega arith; new = new; at = this x refl ∙ sym e }
      given k l h (no d) =
          let g = ct.from k l (omega (arith, d)) in
          record { source = g.source; below = omega (arith, g.below); new = g.new; at = other g.source (λ z. omega (arith, g.below)) ∙ g.at }

  -- what the loop has
  pub number_same : (T' : List ℕ) (m' : ℕ) → get_or F x false ≡ false → T' ≡ T → m' ≡ m → Counted (x + 1) t T₀ F T' m'
  number_same T' m' z eT em = rw (eT, em) (counted_same z)

  pub number_more : (T' : List ℕ) (m' n : ℕ) → get_or F x false ≡ true → x < n → n ≤ length T₀ → T' ≡ set T x (m + 1) → m' ≡ m + 1 → Counted (x + 1) t T₀ F T' m'
  number_more T' m' n new h l eT em = rw (eT, em) (counted_new new (omega (arith, ct.same)))

  pub number_end : (n : ℕ) → x ≤ n → n ≤ x → (t ≤ capacity → m ≤ capacity) → Fitted n t T₀ F T (Some m)
  number_end n h k few = let e : x ≡ n = omega arith in record { counted = only (Counted n t T₀ F T) m (rw e at ct); few = only (λ (r : ℕ). t ≤ capacity → r ≤ capacity) m few; over = never_none m }

  pub number_full : (n : ℕ) → get_or F x false ≡ true → x < n → n ≤ length T₀ → capacity ≤ m → Fitted n t T₀ F T None
  number_full n new h l full = record {
    counted = never_some _;
    few = never_some _;
    over = λ _. counted-over (x + 1) t T₀ F (set T x (m + 1)) (m + 1) (counted_new new (omega (arith, ct.same))) (omega arith) n (omega arith);
  }
