-- What bytes say of the parts that they are: which are reached, and that two which unfold to the same tree are alike under colours that agree with it.
use Rattle.std.proofs.Common.{ℕ, zero, suc, ◌+◌, ◌*◌, ◌-◌, ◌/◌, ◌%◌, ◌<◌, ◌≤◌, arith, ◌≡◌, refl, sym, ap, ◌∙◌, subst, List, [], length, get_or}
use native.Mathlib.Decide.{dec_lt, ℕ_discrete}
use Rattle.std.proofs.Math.Option.{some}
use Rattle.std.proofs.Math.ListN.{get_elem?, get_or-eq_default}
use Rattle.cofj.specs.Values.{Ref, obj, leaf, Leaf, mark, undet, num, Node, refs_at}
use Rattle.cofj.specs.Unfolding.{object, at_leaf, Same, top, below}
use Rattle.cofj.specs.Batch.{PartReached}
use Rattle.cofj.proofs.Trees.{same_child, same_cls, same_count}
use Rattle.canon.specs.Figures.{object_size, head_size, numbers_at, blank_at}
use Rattle.canon.specs.Layout.{number_beside}
use Rattle.canon.proofs.Lifts.{copy_turned}
use Rattle.canon.proofs.Nodes.{some_at, at_some}
use Rattle.batch.specs.Figures.{part_size, field_room, number_field}
use Rattle.batch.specs.Layout.{held_byte, field_byte, FieldLies, Lies}
use Rattle.batch.specs.Reaching.{Listed, Led, first, next, Reaches}
use Rattle.batch.specs.Colouring.{look_in, shade_in, Alike}
use Rattle.batch.proofs.Shades.{look_part}

pub led_byte : (P : List ℕ) {x : ℕ} → Led P x → x < number_field
led_byte P first = omega arith
led_byte P (next y l f) = f.part

module _ (P : List ℕ) (ns : List Node) (ly : Lies P ns) where
  -- ---- fields
  -- what field f of part x holds, undetermined where there is none
  abbrev pub held : ℕ → ℕ → Ref
  held x f = get_or (refs_at ns x) f (leaf undet)

  pub held_lies : (x f : ℕ) → x < length ns → f < field_room → FieldLies P (part_size * x) f (held_byte (held x f)) (number_beside (held x f))
  held_lies x f h g = go (dec_lt f (length (refs_at ns x)))
    where
      go : Dec (f < length (refs_at ns x)) → FieldLies P (part_size * x) f (held_byte (held x f)) (number_beside (held x f))
      go (yes l) = ly.field x f (held x f) h (some_at (refs_at ns x) f l)
      go (no l) =
          subst (λ (r : Ref). FieldLies P (part_size * x) f (held_byte r) (number_beside r)) (sym (get_or-eq_default (refs_at ns x) (leaf undet) {n = f} (omega (arith, l))))
          (ly.spare x f h (omega (arith, l)) g)

  pub field_part : (x f : ℕ) → x < length ns → f < field_room → field_byte P x f < number_field → get_elem? (refs_at ns x) f ≡ some (obj (field_byte P x f))
  field_part x f h g b = go (dec_lt f (length (refs_at ns x)))
    where
      byte : field_byte P x f ≡ held_byte (held x f)
      byte = (held_lies x f h g).byte

      is : (r : Ref) → field_byte P x f ≡ held_byte r → r ≡ obj (field_byte P x f)
      is (obj i) e = ap obj (sym e)
      is (leaf (mark k)) e = absurd (omega arith)
      is (leaf undet) e = absurd (omega arith)
      is (leaf (num k)) e = absurd (omega arith)

      go : Dec (f < length (refs_at ns x)) → get_elem? (refs_at ns x) f ≡ some (obj (field_byte P x f))
      go (yes l) = some_at (refs_at ns x) f l ∙ ap some (is (held x f) byte)
      go (no l) = let e = ap held_byte (get_or-eq_default (refs_at ns x) (leaf undet) {n = f} (omega (arith, l))) in absurd (omega (arith, byte, e))

  -- ---- what is reached
  pub led_part : {x : ℕ} → Led P x → (x < length ns) × PartReached ns x
  led_part first = (ly.some_part, top)
  led_part (next {x} y l w) =
      let h = led_part l in
      let e : get_elem? (refs_at ns x) w.field ≡ some (obj y) = field_part x w.field h.0 w.low (rw w.is w.part) ∙ ap (λ (i : ℕ). some (obj i)) w.is in
      (ly.whole.inner x w.field (obj y) e, below w.field (obj y) h.1 e)

  module _ (L : List ℕ) (m : ℕ) (rc : Reaches P L m) where
    pub listed_low : (x : ℕ) → Listed L m x → x < length ns
    listed_low x o = (led_part (rc.led x o)).0

    pub listed_reached : (x : ℕ) → Listed L m x → PartReached ns x
    listed_reached x o = (led_part (rc.led x o)).1

    -- what a listed part's field holds is listed
    pub listed_ref : (x f i : ℕ) → Listed L m x → get_elem? (refs_at ns x) f ≡ some (obj i) → Listed L m i
    listed_ref x f i o e =
        let h = listed_low x o in
        let b : field_byte P x f ≡ i = (ly.field x f (obj i) h e).byte in
        let l : i < length ns = ly.whole.inner x f (obj i) e in
        subst (Listed L m) b (rc.closed x f o (field_low x f (obj i) h e) (omega (arith, ly.few)))
      where
        field_low : (x f : ℕ) (r : Ref) → x < length ns → get_elem? (refs_at ns x) f ≡ some r → f < field_room
        field_low x f r h e = omega (arith, ly.low x h, (at_some (refs_at ns x) f r e).1)

    -- ---- trees
    module _ (C : List ℕ) (one : (x y : ℕ) → Listed L m x → Listed L m y → Same ns (obj x) ns (obj y) → get_or C x 0 ≡ get_or C y 0) where
      pub same_alike : (x y : ℕ) → Listed L m x → Listed L m y → Same ns (obj x) ns (obj y) → Alike P C x y
      same_alike x y ox oy s = record { colour = one x y ox oy s; looks = record { all = byte } }
        where
          lx : x < length ns
          lx = listed_low x ox

          ly' : y < length ns
          ly' = listed_low y oy

          n : length (refs_at ns x) ≡ length (refs_at ns y)
          n = same_count ns ns x y s

          -- what two fields hold that unfold to the same tree looks alike
          alike : (f : ℕ) (r t : Ref) → get_elem? (refs_at ns x) f ≡ some r → get_elem? (refs_at ns y) f ≡ some t → Same ns r ns t
              → (look_in C (held_byte r) ≡ look_in C (held_byte t)) × (number_beside r ≡ number_beside t)
          alike f (obj i) (obj k) a b e = (
            sym (look_part C i (omega (arith, ly.few, ly.whole.inner x f (obj i) a)))
                ∙ one i k (listed_ref x f i ox a) (listed_ref y f k oy b) e
                ∙ look_part C k (omega (arith, ly.few, ly.whole.inner y f (obj k) b)),
            refl,
          )
          alike f (obj i) (leaf l) a b e = let z : some (object _ _) ≡ some (at_leaf l) = e [] in absurd (let w : ◌≡◌ {A = ℕ} 0 1 = cc in omega arith)
          alike f (leaf k) (obj j) a b e = let z : some (at_leaf k) ≡ some (object _ _) = e [] in absurd (let w : ◌≡◌ {A = ℕ} 0 1 = cc in omega arith)
          alike f (leaf k) (leaf l) a b e =
              let z : some (at_leaf k) ≡ some (at_leaf l) = e [] in
              let w : k ≡ l = cc in
              (ap (λ (m : Leaf). look_in C (held_byte (leaf m))) w, ap (λ (m : Leaf). number_beside (leaf m)) w)

          both : (f : ℕ) → Dec (f < length (refs_at ns x)) → (look_in C (held_byte (held x f)) ≡ look_in C (held_byte (held y f))) × (number_beside (held x f) ≡ number_beside (held y f))
          both f (yes l) =
              let a = some_at (refs_at ns x) f l in
              let b = some_at (refs_at ns y) f (omega (arith, n)) in
              alike f (held x f) (held y f) a b (same_child ns ns (obj x) (obj y) s f _ _ a b)
          both f (no l) =
              let a : held x f ≡ leaf undet = get_or-eq_default (refs_at ns x) (leaf undet) {n = f} (omega (arith, l)) in
              let b : held y f ≡ leaf undet = get_or-eq_default (refs_at ns y) (leaf undet) {n = f} (omega (arith, l, n)) in
              rw (a, b) (refl, refl)

          field : (f : ℕ) → f < field_room → look_in C (field_byte P x f) ≡ look_in C (field_byte P y f)
          field f h = rw ((held_lies x f lx h).byte, (held_lies y f ly' h).byte) (both f (dec_lt f (length (refs_at ns x)))).0

          -- the bytes of a field's number
          digit : (f d : ℕ) → f < field_room → Dec (d ≡ 0) → d < 2 → get_or P (part_size * x + numbers_at + 2 * f + d) 0 ≡ get_or P (part_size * y + numbers_at + 2 * f + d) 0
          digit f d h (yes z) l =
              let zx : part_size * x + numbers_at + 2 * f + d ≡ part_size * x + numbers_at + 2 * f = omega arith in
              let zy : part_size * y + numbers_at + 2 * f + d ≡ part_size * y + numbers_at + 2 * f = omega arith in
              rw (zx, zy, (held_lies x f lx h).low, (held_lies y f ly' h).low, (both f (dec_lt f (length (refs_at ns x)))).1)
          digit f d h (no z) l =
              let zx : part_size * x + numbers_at + 2 * f + d ≡ part_size * x + numbers_at + 2 * f + 1 = omega (arith, z) in
              let zy : part_size * y + numbers_at + 2 * f + d ≡ part_size * y + numbers_at + 2 * f + 1 = omega (arith, z) in
              rw (zx, zy, (held_lies x f lx h).high, (held_lies y f ly' h).high, (both f (dec_lt f (length (refs_at ns x)))).1)

          head : (j : ℕ) → j < head_size → get_or P (part_size * x + j) 0 ≡ get_or P (part_size * y + j) 0
          head zero h =
              let zx : part_size * x + 0 ≡ part_size * x = omega arith in
              let zy : part_size * y + 0 ≡ part_size * y = omega arith in
              rw (zx, zy, ly.class x lx, ly.class y ly', same_cls ns ns x y s)
          head (suc zero) h = rw (ly.count x lx, ly.count y ly', n)
          head (suc (suc j)) h = absurd (omega arith)

          rest : (j : ℕ) → numbers_at ≤ j → j < part_size → Dec (j < blank_at) → get_or P (part_size * x + j) 0 ≡ get_or P (part_size * y + j) 0
          rest j a h (yes l) =
              let zx : part_size * x + j ≡ part_size * x + numbers_at + 2 * ((j - numbers_at) / 2) + (j - numbers_at) % 2 = omega arith in
              let zy : part_size * y + j ≡ part_size * y + numbers_at + 2 * ((j - numbers_at) / 2) + (j - numbers_at) % 2 = omega arith in
              rw (zx, zy) (digit ((j - numbers_at) / 2) ((j - numbers_at) % 2) (omega arith) (ℕ_discrete ((j - numbers_at) % 2) 0) (omega arith))
          rest j a h (no l) = rw (ly.blank x j lx (omega (arith, l)) h, ly.blank y j ly' (omega (arith, l)) h)

          byte : (j : ℕ) → j < object_size → shade_in C j (get_or P (object_size * x + j) 0) ≡ shade_in C j (get_or P (object_size * y + j) 0)
          byte j h = go (dec_lt j head_size) (dec_lt j numbers_at)
            where
              go : Dec (j < head_size) → Dec (j < numbers_at) → shade_in C j (get_or P (object_size * x + j) 0) ≡ shade_in C j (get_or P (object_size * y + j) 0)
              go (yes l) d = ap (shade_in C j) (head j l)
              go (no l) (yes m) =
                  let zx : part_size * x + j ≡ part_size * x + head_size + (j - head_size) = omega (arith, l) in
                  let zy : part_size * y + j ≡ part_size * y + head_size + (j - head_size) = omega (arith, l) in
                  let e : look_in C (get_or P (part_size * x + j) 0) ≡ look_in C (get_or P (part_size * y + j) 0) = rw (zx, zy) (field (j - head_size) (omega arith)) in
                  sym (copy_turned (look_in C) _ j _ (omega (arith, l)) m refl) ∙ e ∙ copy_turned (look_in C) _ j _ (omega (arith, l)) m refl
              go (no l) (no m) = ap (shade_in C j) (rest j (omega (arith, m)) h (dec_lt j blank_at))
