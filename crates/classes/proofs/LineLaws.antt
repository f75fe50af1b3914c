-- Laws of the tests of a line's bytes, in the form in which the goals of `known` cite them: one for each return.
use Rattle.std.proofs.Common.{ℕ, zero, suc, ◌+◌, ◌-◌, ◌<◌, ◌≤◌, arith, sub-one, add-one, ◌≡◌, refl, sym, ap, ◌∙◌, Bool, true, false, not, ◌&&◌, true≢false, List, [], ◌∷◌, eqb, leb, ltb, length, get_or, drop, length-drop, drop_of_length-le, drop-cons, drop-drop, get_or-drop, eq-eqb, ne_eqb, le-leb, eqb-true, ltb-false}
use Rattle.std.proofs.Math.Bool.{false≢true}
use borrow.Author.Tests.{lt-leb, eqb-false}
use Rattle.cofj.specs.Typing.{closed_tag}
use Rattle.lineform.specs.declared.sign.SignRow.{SignRow}
use Rattle.lineform.specs.Signs.{new_sign, InTable, sign_size}
use Rattle.classes.specs.Machine.{pick}
use Rattle.classes.specs.Placing.{known_class, good_types, names_known, scan, names_above, none_above, head_good}

-- ---- a byte at a place
pub more : (s : List ℕ) (at : ℕ) → at < length s → drop at s ≡ get_or s at 0 ∷ drop (at + 1) s
more s at h = rw add-one (drop-cons s at 0 h)

pub no_more : (s : List ℕ) (at : ℕ) → length s ≤ at → drop at s ≡ []
no_more s at h = drop_of_length-le s h

-- ---- a test that is turned round
pub not_true : (b : Bool) → not b ≡ true → b ≡ false
not_true true e = absurd (false≢true e)
not_true false e = refl

pub not_false : (b : Bool) → not b ≡ false → b ≡ true
not_false true e = refl
not_false false e = absurd (true≢false e)

-- ---- types
types_step : (n k : ℕ) (bs : List ℕ) → ((k ≡ 0) → ⊥) → good_types n k bs ≡ good_types n (suc (k - 1)) bs
types_step n zero bs nz = absurd (nz refl)
types_step n (suc k) bs nz = simp sub-one

module _ (s : List ℕ) (at k n : ℕ) where
  pub types_done : k ≡ 0 → true ≡ good_types n k (drop at s)
  unfolding good_types
  types_done e = rw e

  module _ (nz : (k ≡ 0) → ⊥) where
    pub types_end_lem : length s ≤ at → false ≡ good_types n k (drop at s)
    unfolding good_types
    types_end_lem h = rw (types_step n k (drop at s) nz, no_more s at h)

    module _ (h : at < length s) where
      pub types_short : length s ≤ at + 1 → false ≡ good_types n k (drop at s)
      unfolding good_types
      types_short l = rw (types_step n k (drop at s) nz, more s at h, no_more s (at + 1) l)

      module _ (h1 : at + 1 < length s) where
        module _ (x : Bool) (ex : x ≡ known_class n (get_or s at 0)) where
          pub types_unknown : not x ≡ true → false ≡ good_types n k (drop at s)
          unfolding good_types
          types_unknown l = rw (types_step n k (drop at s) nz, more s at h, more s (at + 1) h1, ← ex, not_true x l)

          module _ (l : not x ≡ false) (c : Bool) (ec : c ≡ closed_tag (get_or s (at + 1) 0)) where
            pub types_open : not c ≡ true → false ≡ good_types n k (drop at s)
            unfolding good_types
            types_open e = rw (types_step n k (drop at s) nz, more s at h, more s (at + 1) h1, ← ex, not_false x l, ← ec, not_true c e)

            pub types_next : (r : Bool) → not c ≡ false → r ≡ good_types n (k - 1) (drop (at + 1 + 1) s) → r ≡ good_types n k (drop at s)
            unfolding good_types
            types_next r e er = rw (types_step n k (drop at s) nz, more s at h, more s (at + 1) h1, ← ex, not_false x l, ← ec, not_false c e) er

-- ---- expressions one after another
pub scan_skip : (n k : ℕ) (bs : List ℕ) → scan n k bs ≡ scan n 0 (drop k bs)
unfolding scan
scan_skip n zero bs = refl
scan_skip n (suc k) [] = refl
scan_skip n (suc k) (b ∷ bs) = scan_skip n k bs

module _ (s : List ℕ) (at n : ℕ) where
  skip : (k j : ℕ) → at + 1 + k ≡ j → scan n k (drop (at + 1) s) ≡ scan n 0 (drop j s)
  skip k j e = scan_skip n k (drop (at + 1) s) ∙ ap (λ (x : List ℕ). scan n 0 x) (drop-drop k (at + 1) s) ∙ ap (λ (x : ℕ). scan n 0 (drop x s)) e

  -- X is the answer, which the signs from `at` on still give
  module _ (X : Bool) (e : X ≡ scan n 0 (drop at s)) where
    pub scan_end : length s ≤ at → true ≡ X
    unfolding scan
    scan_end h = sym (e ∙ rw (no_more s at h))

    module _ (h : at < length s) (x : Bool) (ex : x ≡ names_known n (get_or s at 0) (drop (at + 1) s)) where
      pub scan_unknown : not x ≡ true → false ≡ X
      unfolding scan
      scan_unknown q = sym (e ∙ rw (more s at h, ← ex, not_true x q))

      module _ (q : not x ≡ false) (g : SignRow) (t : InTable (get_or s at 0) 0 g) where
        step : X ≡ pick (eqb g.size 0) true (scan n (g.size - 1) (drop (at + 1) s))
        unfolding scan
        step = let z : sign_size (get_or s at 0) ≡ g.size = ap (λ (y : SignRow). y.size) (sym t.is) in e ∙ rw (more s at h, ← ex, not_false x q, z)

        pub scan_stop : g.size ≡ 0 → true ≡ X
        scan_stop z = sym (step ∙ rw (eq-eqb g.size 0 z))

        pub scan_next : (g.size ≡ 0 → ⊥) → X ≡ scan n 0 (drop (at + g.size) s)
        scan_next nz = step ∙ rw (ne_eqb g.size 0 nz) (skip (g.size - 1) (at + g.size) (omega arith))

-- ---- a quick test of all bytes
module _ (n : ℕ) (s : List ℕ) (at : ℕ) where
  both : (a b : Bool) → a && b ≡ true → (a ≡ true) × (b ≡ true)
  both true b e = (refl, e)
  both false b e = absurd (false≢true e)

  above_each : (k j : ℕ) → none_above n s at k ≡ true → j < k → names_above n (get_or s (at + j) 0) (get_or s (at + j + 1) 0) ≡ false
  unfolding none_above
  above_each zero j e l = absurd (omega arith)
  above_each (suc k) j e l = go (λ h. above_each k j b.0 h) (eqb j k) refl
    where
      b : (none_above n s at k ≡ true) × (not (names_above n (get_or s (at + k) 0) (get_or s (at + k + 1) 0)) ≡ true)
      b = both (none_above n s at k) (not (names_above n (get_or s (at + k) 0) (get_or s (at + k + 1) 0))) e

      go : (j < k → names_above n (get_or s (at + j) 0) (get_or s (at + j + 1) 0) ≡ false) → (x : Bool) → eqb j k ≡ x → names_above n (get_or s (at + j) 0) (get_or s (at + j + 1) 0) ≡ false
      go f true q = rw (eqb-true j k q) (not_true (names_above n (get_or s (at + k) 0) (get_or s (at + k + 1) 0)) b.1)
      go f false q = let m = eqb-false j k q in f (omega arith)

-- one block
module _ (n : ℕ) (s : List ℕ) (at : ℕ) where
  pub block_start : true ≡ none_above n s at 0
  unfolding none_above
  block_start = refl

  pub block_more : (k : ℕ) (g x : Bool) → g ≡ none_above n s at k → x ≡ names_above n (get_or s (at + k) 0) (get_or s (at + k + 1) 0) → g && not x ≡ none_above n s at (k + 1)
  unfolding none_above
  block_more k g x eg ex = let q : k + 1 ≡ suc k = omega arith in rw (q, eg, ex)

-- and one after another
above_split : (n : ℕ) (s : List ℕ) (at a b : ℕ) → none_above n s at a ≡ true → none_above n s at (a + b) ≡ none_above n s (at + a) b
unfolding none_above
above_split n s at a zero t = let q : a + 0 ≡ a = omega arith in rw (q, t)
above_split n s at a (suc b) t =
    let q : a + suc b ≡ suc (a + b) = omega arith in
    let r : at + (a + b) ≡ at + a + b = omega arith in
    rw (q, above_split n s at a b t, r)

above_not : (n : ℕ) (s : List ℕ) (at a b : ℕ) → none_above n s at a ≡ false → none_above n s at (a + b) ≡ false
unfolding none_above
above_not n s at a zero t = let q : a + 0 ≡ a = omega arith in rw (q, t)
above_not n s at a (suc b) t = let q : a + suc b ≡ suc (a + b) = omega arith in rw (q, above_not n s at a b t)

module _ (n : ℕ) (s : List ℕ) (at : ℕ) where
  pub blocks_start : none_above n s at (at - at) ≡ true
  unfolding none_above
  blocks_start = let q : at - at ≡ 0 = omega arith in rw q

  module _ (p : ℕ) (h : at ≤ p) (t : none_above n s at (p - at) ≡ true) where
    on : (b : ℕ) → none_above n s at (p - at + b) ≡ none_above n s p b
    on b = let q : at + (p - at) ≡ p = omega arith in rw q at (above_split n s at (p - at) b t)

    pub blocks_more : (g : Bool) → g ≡ none_above n s p 16 → not g ≡ false → none_above n s at (p + 16 - at) ≡ true
    blocks_more g e c = let q : p + 16 - at ≡ p - at + 16 = omega arith in rw q (on 16 ∙ sym e ∙ not_false g c)

    pub blocks_not : (g : Bool) → g ≡ none_above n s p 16 → not g ≡ true → p + 16 < length s → false ≡ none_above n s at (length s - (at + 1))
    blocks_not g e c l =
        let q : length s - (at + 1) ≡ p - at + 16 + (length s - (p + 17)) = omega arith in
        rw q (sym (above_not n s at (p - at + 16) (length s - (p + 17)) (on 16 ∙ sym e ∙ not_true g c)))

    one_more : none_above n s p 1 ≡ not (names_above n (get_or s p 0) (get_or s (p + 1) 0))
    unfolding none_above
    one_more = let q : p + 0 ≡ p = omega arith in rw q

    module _ (x : Bool) (ex : x ≡ names_above n (get_or s p 0) (get_or s (p + 1) 0)) where
      pub rest_more : x ≡ false → none_above n s at (p + 1 - at) ≡ true
      rest_more f = let q : p + 1 - at ≡ p - at + 1 = omega arith in rw q (on 1 ∙ one_more ∙ rw (← ex, f))

      pub rest_not : x ≡ true → p + 1 < length s → false ≡ none_above n s at (length s - (at + 1))
      rest_not f l =
          let q : length s - (at + 1) ≡ p - at + 1 + (length s - (p + 2)) = omega arith in
          rw q (sym (above_not n s at (p - at + 1) (length s - (p + 2)) (on 1 ∙ one_more ∙ rw (← ex, f))))

    pub rest_end : p < length s → length s ≤ p + 1 → true ≡ none_above n s at (length s - (at + 1))
    rest_end l m = let q : length s - (at + 1) ≡ p - at = omega arith in rw q (sym t)

    pub blocks_rest : (g : Bool) → p < length s → g ≡ none_above n s p (length s - (p + 1)) → g ≡ none_above n s at (length s - (at + 1))
    blocks_rest g l e = let q : length s - (at + 1) ≡ p - at + (length s - (p + 1)) = omega arith in rw q (e ∙ sym (on (length s - (p + 1))))

-- bytes of which none names a class above n pass the scan, wherever its signs are
quiet_scan : (n k : ℕ) (bs : List ℕ) → ((j : ℕ) → suc j < length bs → names_above n (get_or bs j 0) (get_or bs (suc j) 0) ≡ false) → scan n k bs ≡ true
unfolding scan
quiet_scan n k [] f = refl
quiet_scan n (suc k) (b ∷ bs) f = quiet_scan n k bs (λ j l. f (suc j) (omega arith))
quiet_scan n zero (b ∷ bs) f = rw (names (eqb b new_sign) refl bs f) (rest (eqb (sign_size b) 0) (λ k. quiet_scan n k bs (λ j l. f (suc j) (omega arith))))
  where
    names : (x : Bool) → eqb b new_sign ≡ x → (cs : List ℕ) → ((j : ℕ) → suc j < length (b ∷ cs) → names_above n (get_or (b ∷ cs) j 0) (get_or (b ∷ cs) (suc j) 0) ≡ false) → names_known n b cs ≡ true
    names false q cs g = rw q
    names true q [] g = rw q
    names true q (c ∷ cs) g = rw q (le-leb c n (at_most (ltb n c) refl))
      where
        at_most : (z : Bool) → ltb n c ≡ z → c ≤ n
        at_most true p = absurd (false≢true (sym (g 0 (omega arith)) ∙ (let w : names_above n b c ≡ true = rw q p in w)))
        at_most false p = ltb-false n c p

    rest : (x : Bool) → ((k : ℕ) → scan n k bs ≡ true) → pick x true (scan n (sign_size b - 1) bs) ≡ true
    rest true g = refl
    rest false g = g (sign_size b - 1)

pub above-scan : (n : ℕ) (s : List ℕ) (at : ℕ) (g : Bool) → at < length s → g ≡ none_above n s at (length s - (at + 1)) → g ≡ true → true ≡ scan n 0 (drop at s)
above-scan n s at g h e t = sym (quiet_scan n 0 (drop at s) quiet)
  where
    quiet : (j : ℕ) → suc j < length (drop at s) → names_above n (get_or (drop at s) j 0) (get_or (drop at s) (suc j) 0) ≡ false
    quiet j l =
        let d = length-drop at s in
        let q : at + suc j ≡ at + j + 1 = omega arith in
        rw (get_or-drop at s j 0, get_or-drop at s (suc j) 0, q) (above_each n s at (length s - (at + 1)) j (sym e ∙ t) (omega arith))

pub scan_none : (n : ℕ) (s : List ℕ) (at : ℕ) → length s ≤ at → true ≡ scan n 0 (drop at s)
scan_none n s at h = scan_end s at n (scan n 0 (drop at s)) refl h

-- ---- a method's line
module _ (s : List ℕ) (n : ℕ) where
  pub method_short : length s < 8 → false ≡ head_good n s
  unfolding head_good
  method_short l = rw (lt-leb 8 (length s) l)

  module _ (h : 8 ≤ length s) where
    pub method_object : get_or s 1 0 ≡ 0 → false ≡ head_good n s
    unfolding head_good
    method_object e = rw (le-leb 8 (length s) h, lt-leb 1 (get_or s 1 0) (omega arith))

    module _ (h1 : get_or s 1 0 ≡ 0 → ⊥) where
      one : leb 1 (get_or s 1 0) ≡ true
      one = le-leb 1 (get_or s 1 0) (omega arith)

      pub method_owner : n < get_or s 1 0 → false ≡ head_good n s
      unfolding head_good
      method_owner l = rw (le-leb 8 (length s) h, one, lt-leb (get_or s 1 0) n l)

      module _ (h2 : get_or s 1 0 ≤ n) where
        module _ (x : Bool) (ex : x ≡ known_class n (get_or s 3 0)) where
          pub method_first : not x ≡ true → false ≡ head_good n s
          unfolding head_good
          method_first l = rw (le-leb 8 (length s) h, one, le-leb (get_or s 1 0) n h2, ← ex, not_true x l)

          module _ (h3 : not x ≡ false) (y : Bool) (ey : y ≡ known_class n (get_or s 5 0)) where
            pub method_second : not y ≡ true → false ≡ head_good n s
            unfolding head_good
            method_second l = rw (le-leb 8 (length s) h, one, le-leb (get_or s 1 0) n h2, ← ex, not_false x h3, ← ey, not_true y l)

            module _ (h5 : not y ≡ false) (c : Bool) (ec : c ≡ closed_tag (get_or s 4 0)) where
              pub method_open : not c ≡ true → false ≡ head_good n s
              unfolding head_good
              method_open e =
                  rw (le-leb 8 (length s) h, one, le-leb (get_or s 1 0) n h2, ← ex, not_false x h3, ← ey, not_false y h5, ← ec, not_true c e)

              pub method_params : (g : Bool) → not c ≡ false → g ≡ good_types n (get_or s 7 0) (drop 8 s) → g ≡ head_good n s
              unfolding head_good
              method_params g e eg =
                  rw (le-leb 8 (length s) h, one, le-leb (get_or s 1 0) n h2, ← ex, not_false x h3, ← ey, not_false y h5, ← ec, not_false c e) eg
