-- Laws of where the input of `linerun` is cut.
use Rattle.std.proofs.Common.{ℕ, suc, ◌+◌, ◌-◌, ◌≤◌, ◌<◌, arith, ◌≡◌, refl, sym, ap, ◌∙◌, Bool, true, false, ◌&&◌, cond, List, [], ◌∷◌, eqb, length, get_or, take, drop, length-drop, drop_of_length-le, drop-cons, drop-drop, length-take-le, eq-eqb, ne_eqb}
use Rattle.cofj.specs.Show.{begins04, line_length, first_length}

-- the character at a place and those after it
here : (s : List ℕ) (i : ℕ) → i < length s → drop i s ≡ get_or s i 0 ∷ drop (i + 1) s
here s i h = drop-cons s i 0 h ∙ ap (λ (k : ℕ). get_or s i 0 ∷ drop k s) (let z : suc i ≡ i + 1 = omega arith in z)

-- ---- a line that begins `04`
begins_one : (l : List ℕ) → length l < 2 → false ≡ begins04 l
begins_one [] h = refl
begins_one (a ∷ []) h = refl
begins_one (a ∷ b ∷ l) h = absurd (omega arith)

module _ (s : List ℕ) (at : ℕ) where
  pub begins_short : length s - at < 2 → false ≡ begins04 (drop at s)
  begins_short h = begins_one (drop at s) (omega (arith, length-drop at s))

  module _ (h : 2 ≤ length s - at) where
    two : begins04 (drop at s) ≡ eqb (get_or s at 0) 0x30 && eqb (get_or s (at + 1) 0) 0x34
    two = ap begins04 (here s at (omega arith) ∙ ap (λ (l : List ℕ). get_or s at 0 ∷ l) (here s (at + 1) (omega arith)))

    pub begins_other : (get_or s at 0 ≡ 0x30 → ⊥) → false ≡ begins04 (drop at s)
    begins_other n = sym (two ∙ ap (λ (b : Bool). b && eqb (get_or s (at + 1) 0) 0x34) (ne_eqb (get_or s at 0) 0x30 n))

    pub begins_both : get_or s at 0 ≡ 0x30 → eqb (get_or s (at + 1) 0) 0x34 ≡ begins04 (drop at s)
    begins_both e = sym (two ∙ ap (λ (b : Bool). b && eqb (get_or s (at + 1) 0) 0x34) (eq-eqb (get_or s at 0) 0x30 e))

-- ---- where a line ends
line_most : (l : List ℕ) → line_length l ≤ length l
unfolding line_length
line_most [] = omega arith
line_most (c ∷ l) = go (eqb c 10) (line_most l)
  where
    go : (b : Bool) → line_length l ≤ length l → suc (cond b 0 (line_length l)) ≤ length (c ∷ l)
    go true h = omega arith
    go false h = omega arith

line_least : (l : List ℕ) → 1 ≤ length l → 1 ≤ line_length l
unfolding line_length
line_least [] h = h
line_least (c ∷ l) h = omega arith

module _ (s : List ℕ) (i n : ℕ) (e : i + line_length (drop i s) ≡ n) where
  line_here : i < length s → line_length (drop i s) ≡ suc (cond (eqb (get_or s i 0) 10) 0 (line_length (drop (i + 1) s)))
  unfolding line_length
  line_here h = ap line_length (here s i h)

  pub line_stops : i < length s → get_or s i 0 ≡ 10 → i + 1 ≡ n
  line_stops h q =
      let z = line_here h ∙ ap (λ (b : Bool). suc (cond b 0 (line_length (drop (i + 1) s)))) (eq-eqb (get_or s i 0) 10 q) in omega arith

  pub line_more : i < length s → (get_or s i 0 ≡ 10 → ⊥) → i + 1 + line_length (drop (i + 1) s) ≡ n
  line_more h q =
      let z = line_here h ∙ ap (λ (b : Bool). suc (cond b 0 (line_length (drop (i + 1) s)))) (ne_eqb (get_or s i 0) 10 q) in omega arith

  pub line_over : i ≤ length s → length s ≤ i → length s ≡ n
  unfolding line_length
  line_over l h = let z = ap line_length (drop_of_length-le s h) in omega arith

-- ---- the first text, line by line
pub zero_before : (s : List ℕ) → 0 + first_length true (drop 0 s) ≡ first_length true s
zero_before s = omega arith

other_lines : (s : List ℕ) → first_length false s ≡ line_length s + first_length true (drop (line_length s) s)
unfolding first_length line_length
other_lines [] = refl
other_lines (c ∷ s) = go (eqb c 10) (other_lines s)
  where
    go : (b : Bool) → first_length false s ≡ line_length s + first_length true (drop (line_length s) s)
        → suc (first_length b s) ≡ suc (cond b 0 (line_length s)) + first_length true (drop (suc (cond b 0 (line_length s))) (c ∷ s))
    go true h = omega arith
    go false h = omega arith

first_begins : (s : List ℕ) → begins04 s ≡ true → first_length true s ≡ line_length s
unfolding first_length line_length
first_begins [] e = refl
first_begins (c ∷ s) e = ap (λ (b : Bool). elim b as (λ _. ℕ) [ true ↦ line_length (c ∷ s) | false ↦ suc (first_length (eqb c 10) s) ]) e

first_other : (s : List ℕ) → begins04 s ≡ false → first_length true s ≡ first_length false s
unfolding first_length
first_other [] e = refl
first_other (c ∷ s) e = ap (λ (b : Bool). elim b as (λ _. ℕ) [ true ↦ line_length (c ∷ s) | false ↦ suc (first_length (eqb c 10) s) ]) e

module _ (s : List ℕ) (at end : ℕ) (q : end ≡ at + line_length (drop at s)) where
  pub end_low : at ≤ length s → end ≤ length s
  end_low h = omega (arith, line_most (drop at s), length-drop at s)

  -- less is left
  pub less_left : at < length s → length s - end < length s - at
  less_left h = let d = length-drop at s in omega (arith, line_least (drop at s) (omega arith))

  module _ (n : ℕ) (b : Bool) (e : at + first_length true (drop at s) ≡ n) (k : b ≡ begins04 (drop at s)) where
    pub cut_here : b ≡ true → end ≡ n
    cut_here z = omega (arith, first_begins (drop at s) (sym k ∙ z))

    pub cut_later : b ≡ false → end + first_length true (drop end s) ≡ n
    cut_later z =
        let x = first_other (drop at s) (sym k ∙ z) ∙ other_lines (drop at s) in
        let y = ap (first_length true) (drop-drop (line_length (drop at s)) at s ∙ ap (λ (j : ℕ). drop j s) (sym q)) in
        omega arith

-- no line is left
pub cut_never : (s : List ℕ) (at n : ℕ) → at + first_length true (drop at s) ≡ n → length s ≤ at → at ≡ n
unfolding first_length
cut_never s at n e h = let z = ap (first_length true) (drop_of_length-le s h) in omega arith

-- ---- the first text is a part
first_most : (b : Bool) (s : List ℕ) → first_length b s ≤ length s
unfolding first_length
first_most b [] = omega arith
first_most b (c ∷ s) = go (b && begins04 (c ∷ s)) (first_most (eqb c 10) s)
  where
    go : (x : Bool) → first_length (eqb c 10) s ≤ length s → (elim x as (λ _. ℕ) [ true ↦ line_length (c ∷ s) | false ↦ suc (first_length (eqb c 10) s) ]) ≤ length (c ∷ s)
    go true h = line_most (c ∷ s)
    go false h = omega arith

module _ (s : List ℕ) (n : ℕ) (e : n ≡ first_length true s) where
  pub cut_low : n ≤ length s
  cut_low = omega (arith, first_most true s)

  pub cut_count : n ≡ length (take n s)
  cut_count = sym (length-take-le n s cut_low)
