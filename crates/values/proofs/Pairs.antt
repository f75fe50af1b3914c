-- Pairs of objects of two blocks, noted one by one: one law for each return of `step_code`.
-- Not here: what the pairs say of trees (Partners, Steps).
use Rattle.std.proofs.Common.{ℕ, ◌+◌, ◌<◌, ◌≤◌, arith, Some, None, ◌≡◌, sym, ap, ◌∙◌, List, length, get_or, set, length-set, get_or-set_same, get_or-set_other, lt-ltb, le-ltb, eq-eqb, ne_eqb}
use native.Mathlib.Decide.{ℕ_discrete}
use mathlib.Core.Logic.{◌⊎◌, inl, inr, ⊎_elim}
use Rattle.cofj.specs.Values.{obj}
use Rattle.cofj.specs.Unfolding.{Same}
use Rattle.canon.specs.Figures.{first_leaf, capacity}
use Rattle.canon.specs.Layout.{count_in, objects_in}
use Rattle.canon.proofs.Zeros.{zeros-put}
use Rattle.values.specs.Stepping.{after, step_code, CodeFits, Paired}

-- ---- one code
module _ (T Q : List ℕ) (t a m b n : ℕ) where
  pub code_equal : first_leaf ≤ a → a ≡ b → m ≡ n → after (Some t) T Q ≡ step_code T Q t a m b n
  unfolding step_code
  code_equal h e z = rw (le-ltb a first_leaf h, eq-eqb a b e, eq-eqb m n z)

  pub code_number : first_leaf ≤ a → a ≡ b → ((m ≡ n) → ⊥) → after None T Q ≡ step_code T Q t a m b n
  unfolding step_code
  code_number h e d = rw (le-ltb a first_leaf h, eq-eqb a b e, ne_eqb m n d)

  pub code_other : first_leaf ≤ a → ((a ≡ b) → ⊥) → after None T Q ≡ step_code T Q t a m b n
  unfolding step_code
  code_other h d = rw (le-ltb a first_leaf h, ne_eqb a b d)

  module _ (ha : a < first_leaf) where
    pub code_second : first_leaf ≤ b → after None T Q ≡ step_code T Q t a m b n
    unfolding step_code
    code_second h = rw (lt-ltb a first_leaf ha, le-ltb b first_leaf h)

    module _ (hb : b < first_leaf) where
      pub code_new : get_or T a 0 ≡ 0 → after (Some (t + 1)) (set T a (b + 1)) (set Q t a) ≡ step_code T Q t a m b n
      unfolding step_code
      code_new e = rw (lt-ltb a first_leaf ha, lt-ltb b first_leaf hb, eq-eqb (get_or T a 0) 0 e)

      module _ (d : (get_or T a 0 ≡ 0) → ⊥) where
        pub code_known : get_or T a 0 ≡ b + 1 → after (Some t) T Q ≡ step_code T Q t a m b n
        unfolding step_code
        code_known e = rw (lt-ltb a first_leaf ha, lt-ltb b first_leaf hb, ne_eqb (get_or T a 0) 0 d, eq-eqb (get_or T a 0) (b + 1) e)

        pub code_taken : ((get_or T a 0 ≡ b + 1) → ⊥) → after None T Q ≡ step_code T Q t a m b n
        unfolding step_code
        code_taken e = rw (lt-ltb a first_leaf ha, lt-ltb b first_leaf hb, ne_eqb (get_or T a 0) 0 d, ne_eqb (get_or T a 0) (b + 1) e)

  module _ (f : CodeFits T Q t a b) (h : a < first_leaf) where
    pub code_entry : a < length T
    code_entry = f.entry h

-- ---- a pair added
module _ (W : List ℕ) (f g : ℕ) (T Q : List ℕ) (t a b : ℕ) (pd : Paired W f g T Q t) (few : count_in W f ≤ capacity) (ha : a < count_in W f) (hb : b < count_in W g) (e : get_or T a 0 ≡ 0) where
  pub put : get_or (set T a (b + 1)) a 0 ≡ b + 1
  put = get_or-set_same T a (b + 1) 0 (omega (arith, pd.table))

  room_left : t < capacity
  room_left = omega (arith, pd.free, zeros-put capacity a (b + 1) T (omega arith) (omega (arith, pd.table)) e (omega arith))

  end : get_or (set Q t a) t 0 ≡ a
  end = get_or-set_same Q t a 0 (omega (arith, room_left, pd.queue))

  pub pair_new : Paired W f g (set T a (b + 1)) (set Q t a) (t + 1)
  pair_new = record {
    table = length-set T a (b + 1) ∙ pd.table;
    queue = length-set Q t a ∙ pd.queue;
    free = omega (arith, pd.free, zeros-put capacity a (b + 1) T (omega arith) (omega (arith, pd.table)) e (omega arith));
    low = λ q h. low q h (ℕ_discrete q t);
    there = λ q h. there q h (ℕ_discrete q t);
    listed = λ x y z. listed x y z (ℕ_discrete x a);
    within = λ x y z. within x y z (ℕ_discrete x a);
  }
    where
      low : (q : ℕ) → q < t + 1 → Dec (q ≡ t) → get_or (set Q t a) q 0 < count_in W f
      low q h (yes z) = rw (z, end) ha
      low q h (no z) = rw (get_or-set_other Q t q a 0 z) (pd.low q (omega (arith, z)))

      kept : (x : ℕ) → Dec (x ≡ a) → ((get_or T x 0 ≡ 0) → ⊥) → (get_or (set T a (b + 1)) x 0 ≡ 0) → ⊥
      kept x (yes z) d q = d (ap (λ (i : ℕ). get_or T i 0) z ∙ e)
      kept x (no z) d q = d (sym (get_or-set_other T a x (b + 1) 0 z) ∙ q)

      there : (q : ℕ) → q < t + 1 → Dec (q ≡ t) → (get_or (set T a (b + 1)) (get_or (set Q t a) q 0) 0 ≡ 0) → ⊥
      there q h (yes z) w =
          let i : get_or (set Q t a) q 0 ≡ a = ap (λ (k : ℕ). get_or (set Q t a) k 0) z ∙ end in
          let v : b + 1 ≡ 0 = sym put ∙ ap (λ (k : ℕ). get_or (set T a (b + 1)) k 0) (sym i) ∙ w in
          omega arith
      there q h (no z) w =
          let i : get_or (set Q t a) q 0 ≡ get_or Q q 0 = get_or-set_other Q t q a 0 z in
          kept (get_or Q q 0) (ℕ_discrete (get_or Q q 0) a) (pd.there q (omega (arith, z))) (ap (λ (k : ℕ). get_or (set T a (b + 1)) k 0) (sym i) ∙ w)

      moved : (x : ℕ) → ((q : ℕ) × (q < t) × (get_or Q q 0 ≡ x)) → (q : ℕ) × (q < t + 1) × (get_or (set Q t a) q 0 ≡ x)
      moved x o = let h : o.0 < t = o.1 in (o.0, omega arith, get_or-set_other Q t o.0 a 0 (λ i. omega arith) ∙ o.2)

      listed : (x y : ℕ) → get_or (set T a (b + 1)) x 0 ≡ y + 1 → Dec (x ≡ a) → ((q : ℕ) × (q < t + 1) × (get_or (set Q t a) q 0 ≡ x)) ⊎ Same (objects_in W f) (obj x) (objects_in W g) (obj y)
      listed x y w (yes z) = inl (t, omega arith, end ∙ sym z)
      listed x y w (no z) = ⊎_elim (λ o. inl (moved x o)) (λ s. inr s) (pd.listed x y (sym (get_or-set_other T a x (b + 1) 0 z) ∙ w))

      within : (x y : ℕ) → get_or (set T a (b + 1)) x 0 ≡ y + 1 → Dec (x ≡ a) → y < count_in W g
      within x y w (yes z) =
          let v : b + 1 ≡ y + 1 = sym put ∙ ap (λ (k : ℕ). get_or (set T a (b + 1)) k 0) (sym z) ∙ w in
          omega arith
      within x y w (no z) = pd.within x y (sym (get_or-set_other T a x (b + 1) 0 z) ∙ w)

  pub pairs_stay : (x y : ℕ) → get_or T x 0 ≡ y + 1 → get_or (set T a (b + 1)) x 0 ≡ y + 1
  pairs_stay x y w = go (ℕ_discrete x a)
    where
      go : Dec (x ≡ a) → get_or (set T a (b + 1)) x 0 ≡ y + 1
      go (yes z) = let v : y + 1 ≡ 0 = sym w ∙ ap (λ (k : ℕ). get_or T k 0) z ∙ e in absurd (omega arith)
      go (no z) = get_or-set_other T a x (b + 1) 0 z ∙ w
