-- Laws of the first object of each class. The test that objects of one class look alike needs none.
use Rattle.std.proofs.Common.{ℕ, ◌+◌, ◌<◌, ◌≤◌, arith, ◌≡◌, refl, sym, ap, ◌∙◌, Bool, true, false, List, length, get_or, set, get_or-set_same, get_or-set_other}
use native.Mathlib.Decide.{ℕ_discrete}
use Rattle.canon.specs.declared.rows.Row.{Row}
use Rattle.canon.specs.Rows.{blank, row_at}
use Rattle.canon.specs.Parting.{Classes}
use Rattle.canon.proofs.Written.{field_here, field_other, field_kept}
use Rattle.canon.specs.Classing.{KnownTest}

pub record Led (T₀ T : List Row) (i : ℕ) (C : List ℕ) : Type 0 where
  pub cls : (x : ℕ) → (row_at T x).class ≡ (row_at T₀ x).class
  pub low : (j : ℕ) → j < i → get_or C j 0 ≤ j
  pub same : (j : ℕ) → j < i → (row_at T₀ (get_or C j 0 + 1)).class ≡ (row_at T₀ (j + 1)).class
  pub note : (j : ℕ) → j < i → (row_at T (row_at T₀ (j + 1)).class).note ≡ get_or C j 0

pub lead_class : (n m : ℕ) (T₀ T : List Row) (C : List ℕ) (i : ℕ) → Classes n m T₀ → Led T₀ T i C → i + 1 < n → (row_at T (i + 1)).class < length T₀
lead_class n m T₀ T C i k l h = omega (arith, l.cls (i + 1), k.low (i + 1) h, k.few, k.placed.room)

-- object x put for object i, which has the class d, and the notes after it
module _ (T₀ T : List Row) (C : List ℕ) (i d : ℕ) (k : Led T₀ T i C) (dd : d ≡ (row_at T₀ (i + 1)).class) (room : i < length C) where
  led_put : (T1 : List Row) (x : ℕ) → ((y : ℕ) → (row_at T1 y).class ≡ (row_at T₀ y).class) → x ≤ i → (row_at T₀ (x + 1)).class ≡ (row_at T₀ (i + 1)).class
      → (row_at T1 d).note ≡ x → ((j : ℕ) → j < i → (row_at T1 (row_at T₀ (j + 1)).class).note ≡ get_or C j 0) → Led T₀ T1 (i + 1) (set C i x)
  led_put T1 x cls le class_is top old = record {
    cls = cls;
    low = λ j h. low j h (ℕ_discrete j i);
    same = λ j h. same j h (ℕ_discrete j i);
    note = λ j h. note j h (ℕ_discrete j i);
  }
    where
      here : (j : ℕ) → j ≡ i → get_or (set C i x) j 0 ≡ x
      here j q = rw q (get_or-set_same C i x 0 room)

      there : (j : ℕ) → ((j ≡ i) → ⊥) → get_or (set C i x) j 0 ≡ get_or C j 0
      there j q = get_or-set_other C i j x 0 q

      low : (j : ℕ) → j < i + 1 → Dec (j ≡ i) → get_or (set C i x) j 0 ≤ j
      low j h (yes q) = omega (arith, here j q)
      low j h (no q) = omega (arith, there j q, k.low j (omega (arith, q)))

      same : (j : ℕ) → j < i + 1 → Dec (j ≡ i) → (row_at T₀ (get_or (set C i x) j 0 + 1)).class ≡ (row_at T₀ (j + 1)).class
      same j h (yes q) = rw (here j q, q) class_is
      same j h (no q) = rw (there j q) (k.same j (omega (arith, q)))

      note : (j : ℕ) → j < i + 1 → Dec (j ≡ i) → (row_at T1 (row_at T₀ (j + 1)).class).note ≡ get_or (set C i x) j 0
      note j h (yes q) = ap (λ (y : ℕ). (row_at T1 (row_at T₀ (y + 1)).class).note) q ∙ ap (λ (y : ℕ). (row_at T1 y).note) (sym dd) ∙ top ∙ sym (here j q)
      note j h (no q) = old j (omega (arith, q)) ∙ sym (there j q)

module _ (T₀ T : List Row) (C : List ℕ) (i : ℕ) (k : Led T₀ T i C) (room : i < length C) (r : Bool) (t : KnownTest T i (row_at T (i + 1)).class (row_at T (row_at T (i + 1)).class).note r) where
  abbrev d : ℕ
  d = (row_at T (i + 1)).class

  abbrev l : ℕ
  l = (row_at T d).note

  dd : d ≡ (row_at T₀ (i + 1)).class
  dd = k.cls (i + 1)

  pub lead_met : r ≡ true → Led T₀ T (i + 1) (set C i l)
  lead_met e = led_put T₀ T C i d k dd room T l k.cls (omega (arith, t.below e)) (sym (k.cls (l + 1)) ∙ t.class e ∙ dd) refl k.note

  -- an object below of that class would have been met
  apart : r ≡ false → (j : ℕ) → j < i → ((row_at T₀ (j + 1)).class ≡ d) → ⊥
  apart e j h q =
      let z : l ≡ get_or C j 0 = ap (λ (x : ℕ). (row_at T x).note) (sym q) ∙ k.note j h in
      t.not e (omega (arith, k.low j h)) (k.cls (l + 1) ∙ ap (λ (x : ℕ). (row_at T₀ (x + 1)).class) z ∙ k.same j h ∙ q)

  pub lead_new : r ≡ false → d < length T → Led T₀ (set T d (record (row_at T d) { note = i })) (i + 1) (set C i i)
  lead_new e room_t =
      led_put T₀ T C i d k dd room (set T d (record (row_at T d) { note = i })) i
      (λ x. field_kept (λ w. w.class) T d _ blank refl x ∙ k.cls x) (omega arith) refl
      (field_here (λ w. w.note) T d _ blank room_t)
      (λ j h. field_other (λ w. w.note) T d _ blank _ (λ z. apart e j h z) ∙ k.note j h)
