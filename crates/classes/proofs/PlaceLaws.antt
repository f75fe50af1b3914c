-- Laws of placing one line, in the form in which the goals of `place` cite them.
use Rattle.std.proofs.Common.{ℕ, ◌+◌, ◌*◌, ◌<◌, ◌≤◌, ◌≡◌, refl, sym, ap, ◌∙◌, Bool, true, false, ◌&&◌, not, true≢false, Some, None, is_some, List, eqb, leb, length, get_or, drop, set, eq-eqb, ne_eqb, lt-ltb, le-ltb, le-leb}
use Rattle.std.proofs.Math.Bool.{false≢true}
use Rattle.std.specs.declared.option.Option.{Option}
use Rattle.std.proofs.Math.Seq.{sets}
use borrow.Author.Tests.{lt-leb}
use Rattle.cofj.specs.Typing.{closed_tag}
use Rattle.classes.specs.Machine.{pick, owned, own_of}
use Rattle.classes.specs.Placing.{known_class, good_types, scan, head_good, method_good, placed, above, class_good, class_put, class_placed, index_put, method_put, method_free, method_placed, input_fits, main_put, main_placed}
use Rattle.classes.specs.Layout.{ahead_of}
use Rattle.classes.proofs.LineLaws.{not_true, not_false}

-- ---- a class
module _ (l B : List ℕ) (k n : ℕ) where
  refused : class_good l k n B ≡ false → placed false B ≡ class_placed l k n B
  unfolding class_placed
  refused e = rw e

  pub class_short : length l < 4 → placed false B ≡ class_placed l k n B
  unfolding class_good
  class_short h = refused (rw (lt-leb 4 (length l) h))

  module _ (h : 4 ≤ length l) where
    pub class_number : (get_or l 1 0 ≡ k → ⊥) → placed false B ≡ class_placed l k n B
    unfolding class_good
    class_number e = refused (rw (le-leb 4 (length l) h, ne_eqb (get_or l 1 0) k e))

    module _ (h1 : get_or l 1 0 ≡ k) where
      pub class_parent : k ≤ get_or l 2 0 → placed false B ≡ class_placed l k n B
      unfolding class_good
      class_parent e = refused (rw (le-leb 4 (length l) h, eq-eqb (get_or l 1 0) k h1, le-ltb (get_or l 2 0) k e))

      module _ (h2 : get_or l 2 0 < k) (g : Bool) (eg : g ≡ good_types n (get_or l 3 0) (drop 4 l)) where
        pub class_types : not g ≡ true → placed false B ≡ class_placed l k n B
        unfolding class_good
        class_types e = refused (rw (le-leb 4 (length l) h, eq-eqb (get_or l 1 0) k h1, lt-ltb (get_or l 2 0) k h2, ← eg, not_true g e))

        module _ (h3 : not g ≡ false) (a : ℕ) (ea : a ≡ above l B) where
          pub class_above : 4 < a → placed false B ≡ class_placed l k n B
          unfolding class_good
          class_above e =
              refused (rw (le-leb 4 (length l) h, eq-eqb (get_or l 1 0) k h1, lt-ltb (get_or l 2 0) k h2, ← eg, not_false g h3, ← ea, lt-leb a 4 e))

          module _ (h4 : a ≤ 4) where
            pub class_own : 4 < get_or l 3 0 → placed false B ≡ class_placed l k n B
            unfolding class_good
            class_own e =
                refused (rw (le-leb 4 (length l) h, eq-eqb (get_or l 1 0) k h1, lt-ltb (get_or l 2 0) k h2, ← eg, not_false g h3, ← ea, le-leb a 4 h4, lt-leb (get_or l 3 0) 4 e))

            module _ (h5 : get_or l 3 0 ≤ 4) where
              pub class_total : 4 < a + get_or l 3 0 → placed false B ≡ class_placed l k n B
              unfolding class_good
              class_total e =
                  refused (rw (le-leb 4 (length l) h, eq-eqb (get_or l 1 0) k h1, lt-ltb (get_or l 2 0) k h2, ← eg, not_false g h3, ← ea, le-leb a 4 h4, le-leb (get_or l 3 0) 4 h5, lt-leb (a + get_or l 3 0) 4 e))

              pub class_placed_lem : (T : List ℕ) → a + get_or l 3 0 ≤ 4 → T ≡ sets (set (set B (16 * k) (get_or l 2 0)) (16 * k + 1) (a + get_or l 3 0)) (16 * k + 2) (drop 3 l)
                  → placed true T ≡ class_placed l k n B
              unfolding class_placed class_good class_put
              class_placed_lem T e eT =
                  let z : class_good l k n B ≡ true = good e in
                  rw (z, ← ea) (ap (λ (x : List ℕ). placed true x) eT)
                where
                  good : a + get_or l 3 0 ≤ 4 → class_good l k n B ≡ true
                  good e = rw (class_good, le-leb 4 (length l) h, eq-eqb (get_or l 1 0) k h1, lt-ltb (get_or l 2 0) k h2, ← eg, not_false g h3, ← ea, le-leb a 4 h4, le-leb (get_or l 3 0) 4 h5, le-leb (a + get_or l 3 0) 4 e)

-- ---- a method
pub bodies_scanned : (l : List ℕ) (n w : ℕ) (g : Bool) → w ≡ get_or l 7 0 → g ≡ scan n 0 (drop (8 + 2 * w) l) → g ≡ scan n 0 (drop (8 + 2 * get_or l 7 0) l)
bodies_scanned l n w g ew eg = rw (← ew) eg

pub method_put_lem : (l B T : List ℕ) (i right : ℕ) → T ≡ sets (set B (8976 + 256 * i) right) (8976 + 256 * i + 1) (drop 1 l)
    → set T (8976 + 256 * i + 255) (length l) ≡ method_put l i right B
unfolding method_put
method_put_lem l B T i right e = rw e

-- a good line: a good head, and classes that are known
both : (a b c d e f g s : Bool) → a && b && c && d && e && f && g && s ≡ (a && b && c && d && e && f && g) && s
both false b c d e f g s = refl
both true false c d e f g s = refl
both true true false d e f g s = refl
both true true true false e f g s = refl
both true true true true false f g s = refl
both true true true true true false g s = refl
both true true true true true true g s = refl

good_both : (n : ℕ) (l : List ℕ) → method_good n l ≡ head_good n l && scan n 0 (drop (8 + 2 * get_or l 7 0) l)
unfolding method_good head_good
good_both n l =
    both (leb 8 (length l)) (leb 1 (get_or l 1 0)) (leb (get_or l 1 0) n) (known_class n (get_or l 3 0)) (known_class n (get_or l 5 0)) (closed_tag (get_or l 4 0))
    (good_types n (get_or l 7 0) (drop 8 l)) (scan n 0 (drop (8 + 2 * get_or l 7 0) l))

module _ (l B : List ℕ) (i b n : ℕ) where
  pub method_short : length l < 8 → placed false B ≡ method_placed l i b n B
  unfolding method_placed method_good
  method_short h = let z : method_good n l ≡ false = rw (method_good, lt-leb 8 (length l) h) in rw z

  module _ (g : Bool) (eg : g ≡ head_good n l) where
    pub method_refused : not g ≡ true → placed false B ≡ method_placed l i b n B
    unfolding method_placed
    method_refused e = rw (good_both n l, ← eg, not_true g e)

    module _ (h : not g ≡ false) (o : Option ℕ) (eo : own_of B (get_or l 1 0) (get_or l 2 0) ≡ owned (get_or l 1 0) o) where
      -- by whether the class has one, and the classes are known
      by : (k : Bool) → k ≡ scan n 0 (drop (8 + 2 * get_or l 7 0) l) → method_placed l i b n B ≡ pick k (method_free l i b B (owned (get_or l 1 0) o)) (placed false B)
      unfolding method_placed
      by k e = rw (good_both n l, ← eg, not_false g h, ← e, eo)

      pub method_twice : true ≡ is_some o → placed false B ≡ method_placed l i b n B
      method_twice e = sym (by (scan n 0 (drop (8 + 2 * get_or l 7 0) l)) refl ∙ go (scan n 0 (drop (8 + 2 * get_or l 7 0) l)) o e)
        where
          go : (k : Bool) (o : Option ℕ) → true ≡ is_some o → pick k (method_free l i b B (owned (get_or l 1 0) o)) (placed false B) ≡ placed false B
          go k None e = absurd (true≢false e)
          go true (Some j) e = refl
          go false (Some j) e = refl

      module _ (e : false ≡ is_some o) (k : Bool) (ek : k ≡ scan n 0 (drop (8 + 2 * get_or l 7 0) l)) where
        free : o ≡ None
        free = go o e
          where
            go : (o : Option ℕ) → false ≡ is_some o → o ≡ None
            go None e = refl
            go (Some j) e = absurd (false≢true e)

        pub method_unknown : not k ≡ true → placed false B ≡ method_placed l i b n B
        method_unknown z = sym (by k ek ∙ rw (not_true k z))

        pub method_placed_lem : (T U : List ℕ) → not k ≡ false → T ≡ index_put (get_or l 1 0) (get_or l 2 0) (i + 1) B → U ≡ method_put l i b T → placed true U ≡ method_placed l i b n B
        method_placed_lem T U z eT eU = sym (by k ek ∙ rw (not_false k z, free) (sym (ap (λ (y : List ℕ). placed true y) (eU ∙ ap (λ (y : List ℕ). method_put l i b y) eT))))

-- ---- main

module _ (l : List ℕ) (k n : ℕ) where
  pub input_none : k ≡ 0 → true ≡ input_fits n k l
  unfolding input_fits
  input_none e = rw e

  module _ (z : k ≡ 0 → ⊥) where
    pub input_short : length l < 3 → false ≡ input_fits n k l
    unfolding input_fits
    input_short h = rw (ne_eqb k 0 z, lt-leb 3 (length l) h)

    module _ (h : 3 ≤ length l) where
      pub input_unknown : n < get_or l 1 0 → false ≡ input_fits n k l
      unfolding input_fits
      input_unknown e = rw (ne_eqb k 0 z, le-leb 3 (length l) h, lt-leb (get_or l 1 0) n e)

      pub input_tag_lem : get_or l 1 0 ≤ n → eqb (get_or l 2 0) 0 ≡ input_fits n k l
      unfolding input_fits
      input_tag_lem e = rw (ne_eqb k 0 z, le-leb 3 (length l) h, le-leb (get_or l 1 0) n e)

pub main_put_lem : (l B T : List ℕ) (k : ℕ) → k ≡ ahead_of l → T ≡ sets (set B 25360 k) 25361 (drop 1 l) → set T 25615 (length l) ≡ main_put l B
unfolding main_put
main_put_lem l B T k ek e = rw (← ek, e)

module _ (l B : List ℕ) (n k : ℕ) (ek : k ≡ ahead_of l) (f : Bool) (ef : f ≡ input_fits n k l) where
  pub main_input : not f ≡ true → placed false B ≡ main_placed l n B
  unfolding main_placed
  main_input e = rw (← ek, ← ef, not_true f e)

  module _ (h : not f ≡ false) (w : ℕ) (ew : w ≡ k) (g : Bool) (eg : g ≡ scan n 0 (drop (1 + w) l)) where
    by_known : main_placed l n B ≡ pick g (placed true (main_put l B)) (placed false B)
    unfolding main_placed
    by_known = rw (← ek, ← ef, not_false f h, ← ew, ← eg)

    pub main_unknown : not g ≡ true → placed false B ≡ main_placed l n B
    main_unknown e = sym (by_known ∙ rw (not_true g e))

    pub main_placed_lem : (T : List ℕ) → not g ≡ false → T ≡ main_put l B → placed true T ≡ main_placed l n B
    main_placed_lem T e eT = sym (by_known ∙ rw (not_false g e, eT))
