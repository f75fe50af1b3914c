-- Laws of parts that are alike under colours: the test, and the first colour whose leading part is alike a part.
-- Not here: what it says of trees (Listings).
use Rattle.std.proofs.Common.{ℕ, ◌+◌, ◌*◌, ◌<◌, ◌≤◌, arith, ◌≡◌, refl, sym, ◌∙◌, subst, Bool, true, false, not, true≢false, List, get_or, lt-ltb, le-ltb, eq-eqb, ne_eqb}
use native.Mathlib.Decide.{dec_lt, ℕ_discrete}
use Rattle.std.proofs.Math.Bool.{false≢true}
use borrow.Author.Tests.{not-true}
use Rattle.canon.specs.Figures.{object_size, undetermined_code, number_code, head_size, numbers_at}
use Rattle.canon.specs.Tables.{Plain, PlainTest}
use Rattle.canon.specs.Links.{AlikeTo, AlikeTest}
use Rattle.canon.proofs.Looks.{plain_not, codes_not, codes_all}
use Rattle.batch.specs.Figures.{number_field}
use Rattle.batch.specs.Colouring.{look_in, shade_in, Alike, Alikeness, FirstAlike, Own}

-- ---- a byte as it looks
module _ (C : List ℕ) (b : ℕ) where
  pub look_part : b < number_field → get_or C b 0 ≡ look_in C b
  unfolding look_in
  look_part h = rw (lt-ltb b number_field h)

  pub look_number : b ≡ number_field → number_code ≡ look_in C b
  unfolding look_in
  look_number e = rw (le-ltb b number_field (omega arith), eq-eqb b number_field e)

  pub look_none : number_field ≤ b → ((b ≡ number_field) → ⊥) → undetermined_code ≡ look_in C b
  unfolding look_in
  look_none h d = rw (le-ltb b number_field h, ne_eqb b number_field d)

-- ---- the test
module _ (P C : List ℕ) where
  pub alike_self : (p : ℕ) → Alike P C p p
  alike_self p = record { colour = refl; looks = record { all = λ f h. refl } }

  pub alike_back : (p q : ℕ) → Alike P C p q → Alike P C q p
  alike_back p q a = record { colour = sym a.colour; looks = record { all = λ f h. sym (a.looks.all f h) } }

  pub alike_then : (p q r : ℕ) → Alike P C p q → Alike P C q r → Alike P C p r
  alike_then p q r a b = record { colour = a.colour ∙ b.colour; looks = record { all = λ f h. a.looks.all f h ∙ b.looks.all f h } }

  module _ (p q : ℕ) where
    pub test_apart : ((get_or C p 0 ≡ get_or C q 0) → ⊥) → Alikeness P C p q false
    test_apart d = record { yes = λ z. absurd (false≢true z); not = λ _ w. d w.colour }

    -- by the test of their looks
    by_looks : AlikeTest (shade_in C) P p q false → Alikeness P C p q false
    by_looks t = record { yes = λ z. absurd (false≢true z); not = λ _ w. t.not refl w.looks }

    pub test_plain : (r : Bool) → PlainTest P (object_size * p) (object_size * q) r → not r ≡ true → Alikeness P C p q false
    test_plain r t e = by_looks (plain_not (look_in C) P p q r t (not-true r e))

    pub test_not : (j a b : ℕ) → AlikeTo (shade_in C) P p q j → head_size ≤ j → j < numbers_at → a ≡ look_in C (get_or P (object_size * p + j) 0) → b ≡ look_in C (get_or P (object_size * q + j) 0)
        → ((a ≡ b) → ⊥) → Alikeness P C p q false
    test_not j a b t l h ea eb d = by_looks (codes_not (look_in C) P p q j a b t l h ea eb d)

    pub test_all : get_or C p 0 ≡ get_or C q 0 → Plain P (object_size * p) (object_size * q) → (j : ℕ) → AlikeTo (shade_in C) P p q j → numbers_at ≤ j → Alikeness P C p q true
    test_all e s j t h = record { yes = λ _. record { colour = e; looks = (codes_all (look_in C) P p q s j t h).yes refl }; not = λ z. absurd (true≢false z) }

-- ---- the first colour whose leading part is alike part p
module _ (P C D : List ℕ) (p : ℕ) where
  pub find_start : (c : ℕ) → FirstAlike P C D c c p c
  find_start c = record { more = omega arith; most = omega arith; here = λ l. absurd (omega arith); none = λ d a l. absurd (omega arith) }

  module _ (c d : ℕ) (so : FirstAlike P C D c d p d) where
    pub find_none : (top : ℕ) → d ≤ top → top ≤ d → FirstAlike P C D c top p top
    find_none top h g = record { more = omega (arith, so.more); most = omega arith; here = λ l. absurd (omega arith); none = λ e a l. so.none e a (omega arith) }

    module _ (r : Bool) (t : Alikeness P C p (get_or D d 0) r) where
      pub find_here : r ≡ true → (top : ℕ) → d < top → FirstAlike P C D c top p d
      find_here e top l = record { more = so.more; most = omega arith; here = λ _. t.yes e; none = so.none }

      pub find_more : r ≡ false → FirstAlike P C D c (d + 1) p (d + 1)
      find_more e = record { more = omega (arith, so.more); most = omega arith; here = λ l. absurd (omega arith); none = λ f a l. go f a l (ℕ_discrete f d) }
        where
          go : (f : ℕ) → c ≤ f → f < d + 1 → Dec (f ≡ d) → Alike P C p (get_or D f 0) → ⊥
          go f a l (yes z) = rw z (t.not e)
          go f a l (no z) = so.none f a (omega (arith, z))

  -- the colour after a round: what leads another of the first k colours than its own is not alike p
  module _ (k top : ℕ) (ow : Own C D k p) (h : k ≤ top) (r : Bool) (t : Alikeness P C p (get_or D (get_or C p 0) 0) r) where
    pub next_own : r ≡ true → FirstAlike P C D 0 top p (get_or C p 0)
    next_own e = record {
      more = omega arith;
      most = omega (arith, ow.low);
      here = λ _. t.yes e;
      none = λ d _ l w. omega (arith, w.colour, ow.own d (omega (arith, ow.low)));
    }

    pub next_other : r ≡ false → (c : ℕ) → FirstAlike P C D k top p c → FirstAlike P C D 0 top p c
    next_other e c so = record { more = omega arith; most = so.most; here = so.here; none = λ d _ l. go d l (dec_lt d k) (ℕ_discrete d (get_or C p 0)) }
      where
        go : (d : ℕ) → d < c → Dec (d < k) → Dec (d ≡ get_or C p 0) → Alike P C p (get_or D d 0) → ⊥
        go d l (no g) z w = so.none d (omega (arith, g)) l w
        go d l (yes g) (yes z) w = t.not e (subst (λ (x : ℕ). Alike P C p (get_or D x 0)) z w)
        go d l (yes g) (no z) w = z (sym (ow.own d g) ∙ sym w.colour)
