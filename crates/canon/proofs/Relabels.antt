-- Laws of the objects at some places put into a class.
use Rattle.std.proofs.Common.{ℕ, ◌+◌, ◌<◌, ◌≤◌, arith, ◌≡◌, refl, sym, ap, ◌∙◌, List, set, length-set}
use native.Mathlib.Decide.{ℕ_discrete}
use Rattle.canon.specs.declared.rows.Row.{Row}
use Rattle.canon.specs.Rows.{blank, row_at}
use Rattle.canon.specs.Parting.{Standing, Relabelled}
use Rattle.canon.proofs.Written.{field_here, field_other, field_kept}

abbrev pub put_class : List Row → ℕ → ℕ → List Row
put_class T x m = set T x (record (row_at T x) { class = m })

module _ (n : ℕ) (T T1 : List Row) (a p e m : ℕ) (pl : Standing n T) (r : Relabelled n T a p m T1) (ha : a ≤ p) (he : p < e) (hn : e ≤ n) where
  abbrev y : ℕ
  y = (row_at T1 p).object_at

  y_is : y ≡ (row_at T p).object_at
  y_is = r.object p

  y_low : y < n
  y_low = omega (arith, y_is, pl.object p (omega arith))

  here : (x : ℕ) → x ≡ y → (row_at T x).place ≡ p
  here x q = ap (λ (z : ℕ). (row_at T z).place) (q ∙ y_is) ∙ pl.stands p (omega arith)

  new_one : (x : ℕ) → x < n → a ≤ (row_at T x).place → (row_at T x).place < p + 1 → Dec (x ≡ y) → (row_at (put_class T1 y m) x).class ≡ m
  new_one x h l u (yes q) = rw q (field_here (λ w. w.class) T1 y _ blank (omega (arith, r.same, pl.room, y_low)))
  new_one x h l u (no q) = field_other (λ w. w.class) T1 y _ blank x q ∙ r.new x h l (omega (arith, apart))
    where
      apart : ((row_at T x).place ≡ p) → ⊥
      apart z = q (sym (pl.holds x h) ∙ ap (λ (w : ℕ). (row_at T w).object_at) z ∙ sym y_is)

  pub relabel_more : Relabelled n T a (p + 1) m (put_class T1 y m)
  relabel_more = record {
    same = length-set T1 y _ ∙ r.same;
    new = λ x h l u. new_one x h l u (ℕ_discrete x y);
    below = λ x h l. field_other (λ w. w.class) T1 y _ blank x (λ z. omega (arith, here x z)) ∙ r.below x h l;
    above = λ x h l. field_other (λ w. w.class) T1 y _ blank x (λ z. omega (arith, here x z)) ∙ r.above x h (omega arith);
    place = λ x. field_kept (λ w. w.place) T1 y _ blank refl x ∙ r.place x;
    object = λ x. field_kept (λ w. w.object_at) T1 y _ blank refl x ∙ r.object x;
    first = λ x. field_kept (λ w. w.begin) T1 y _ blank refl x ∙ r.first x;
    mid = λ x. field_kept (λ w. w.middle) T1 y _ blank refl x ∙ r.mid x;
    end = λ x. field_kept (λ w. w.end) T1 y _ blank refl x ∙ r.end x;
    note = λ x. field_kept (λ w. w.note) T1 y _ blank refl x ∙ r.note x;
    marked = λ x. field_kept (λ w. w.marked) T1 y _ blank refl x ∙ r.marked x;
  }
