-- Laws of copying objects.
use Rattle.std.proofs.Common.{ℕ, ◌+◌, ◌-◌, ◌*◌, ◌/◌, ◌%◌, ◌<◌, ◌≤◌, arith, ◌≡◌, refl, ◌∙◌, List, length, get_or, set, length-set, get_or-set_same, get_or-set_other, lt-ltb, le-ltb}
use native.Mathlib.Decide.{ℕ_discrete}
use Rattle.canon.specs.Figures.{object_size, head_size, numbers_at, first_leaf}
use Rattle.canon.specs.Tables.{turned, on_codes, copied, Turnable, Lifted}
use Rattle.canon.specs.Layout.{Codes}

module _ (T : List ℕ) (b : ℕ) where
  pub turn_object : b < first_leaf → get_or T b 0 ≡ turned T b
  unfolding turned
  turn_object h = rw (lt-ltb _ _ h)

  pub turn_other : first_leaf ≤ b → b ≡ turned T b
  unfolding turned
  turn_other h = rw (le-ltb _ _ h)

-- byte k of an object with its codes read by G: in the head, after the codes, a code
module _ (G : ℕ → ℕ) (b k : ℕ) where
  pub copy_plain : k < head_size → b ≡ on_codes G k b
  unfolding on_codes
  copy_plain h = rw (lt-ltb _ _ h)

  pub copy_rest : numbers_at ≤ k → b ≡ on_codes G k b
  unfolding on_codes
  copy_rest h = rw (le-ltb k head_size (omega arith), le-ltb _ _ h)

  pub copy_turned : (x : ℕ) → head_size ≤ k → k < numbers_at → x ≡ G b → x ≡ on_codes G k b
  unfolding on_codes
  copy_turned x h l e = rw (le-ltb _ _ h, lt-ltb _ _ l) e

pub lift_none : (S : List ℕ) (from : ℕ) (T D : List ℕ) (to : ℕ) → Lifted S from 0 T D to D
lift_none S from T D to = record { same = refl; here = λ q h. absurd (omega arith); below = λ q h. refl; above = λ q h. refl }

pub lift_more : (S : List ℕ) (from q : ℕ) (T D₀ : List ℕ) (to : ℕ) (D : List ℕ) (x p : ℕ)
    → Lifted S from q T D₀ to D → q < p → to + p ≤ length D₀ → x ≡ copied T (q % object_size) (get_or S (from + q) 0)
    → Lifted S from (q + 1) T D₀ to (set D (to + q) x)
lift_more S from q T D₀ to D x p f h room e = record {
  same = length-set D (to + q) x ∙ f.same;
  here = λ i l. go i l (ℕ_discrete i q);
  below = λ i l. get_or-set_other D (to + q) i x 0 (λ z. omega arith) ∙ f.below i l;
  above = λ i l. get_or-set_other D (to + q) i x 0 (λ z. omega arith) ∙ f.above i (omega arith);
}
  where
    go : (i : ℕ) → i < q + 1 → Dec (i ≡ q) → get_or (set D (to + q) x) (to + i) 0 ≡ copied T (i % object_size) (get_or S (from + i) 0)
    go i l (yes z) = rw z (get_or-set_same D (to + q) x 0 (omega (arith, f.same)) ∙ e)
    go i l (no z) = get_or-set_other D (to + q) (to + i) x 0 (λ y. z (omega arith)) ∙ f.here i (omega (arith, z))

pub lift_done : (S : List ℕ) (from q : ℕ) (T D₀ : List ℕ) (to : ℕ) (D : List ℕ) (p : ℕ)
    → Lifted S from q T D₀ to D → q ≤ p → p ≤ q → Lifted S from p T D₀ to D
lift_done S from q T D₀ to D p f h k = let e : q ≡ p = omega arith in rw e at f

-- ---- a table with an entry for each of n objects has one for each code of theirs
module _ (N T : List ℕ) (n : ℕ) (c : Codes N n) (h : n ≤ length T) where
  pub turnable : (i : ℕ) → i < n → Turnable N (object_size * i) object_size T
  turnable i l = record {
    room = omega (arith, c.room);
    low = λ q k a b e.
        let z : object_size * i + head_size + (q - head_size) ≡ object_size * i + q = omega arith in
        omega (arith, rw z at (c.low i (q - head_size) l (omega arith) (rw z e)));
  }

  pub all_turnable : Turnable N 0 (object_size * n) T
  all_turnable = record {
    room = omega (arith, c.room);
    low = λ q k a b e.
        let z : object_size * (q / object_size) + head_size + (q % object_size - head_size) ≡ 0 + q = omega arith in
        omega (arith, rw z at (c.low (q / object_size) (q % object_size - head_size) (omega arith) (omega arith) (rw z e)));
  }
