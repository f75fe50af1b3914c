-- Laws of fields put in the bytes of a part, as `put_field` and `spare_fields` cite them. Not here: what a line says of them (ReadFields).
use Rattle.std.proofs.Common.{ℕ, ◌+◌, ◌*◌, ◌<◌, ◌≤◌, arith, ◌≡◌, refl, ◌∙◌, List, length, get_or, set, length-set, get_or-set_same, get_or-set_other}
use native.Mathlib.Decide.{ℕ_discrete}
use Rattle.canon.specs.Figures.{head_size, numbers_at, blank_at}
use Rattle.batch.specs.Figures.{part_size, field_room, no_part}
use Rattle.batch.specs.Layout.{FieldLies, FieldPut, SparedTo, Spared}

-- a field stays where its bytes stay
pub field_kept : (P P' : List ℕ) (at g b x : ℕ) → ((j : ℕ) → at + head_size ≤ j → j < at + blank_at → get_or P' j 0 ≡ get_or P j 0) → g < field_room → FieldLies P at g b x → FieldLies P' at g b x
field_kept P P' at g b x s h l = record {
  byte = s (at + head_size + g) (omega arith) (omega arith) ∙ l.byte;
  low = s (at + numbers_at + 2 * g) (omega arith) (omega arith) ∙ l.low;
  high = s (at + numbers_at + 2 * g + 1) (omega arith) (omega arith) ∙ l.high;
}

-- ---- one field put
module _ (P : List ℕ) (at f b low high : ℕ) (room : at + part_size ≤ length P) (few : f < field_room) where
  pub put_is : FieldPut P at f b low high (set (set (set P (at + head_size + f) b) (at + numbers_at + 2 * f) low) (at + numbers_at + 2 * f + 1) high)
  put_is = record {
    byte = other (at + head_size + f) (λ z. omega arith) ∙ get_or-set_other A (at + numbers_at + 2 * f) (at + head_size + f) low 0 (λ z. omega arith) ∙ get_or-set_same P (at + head_size + f) b 0 (omega arith);
    first = other (at + numbers_at + 2 * f) (λ z. omega arith) ∙ get_or-set_same A (at + numbers_at + 2 * f) low 0 (omega (arith, size));
    second = get_or-set_same B (at + numbers_at + 2 * f + 1) high 0 (omega (arith, size, length-set A (at + numbers_at + 2 * f) low));
    rest = λ j x y z. other j z ∙ get_or-set_other A (at + numbers_at + 2 * f) j low 0 y ∙ get_or-set_other P (at + head_size + f) j b 0 x;
  }
    where
      A : List ℕ
      A = set P (at + head_size + f) b

      B : List ℕ
      B = set A (at + numbers_at + 2 * f) low

      size : length A ≡ length P
      size = length-set P (at + head_size + f) b

      other : (j : ℕ) → ((j ≡ at + numbers_at + 2 * f + 1) → ⊥) → get_or (set B (at + numbers_at + 2 * f + 1) high) j 0 ≡ get_or B j 0
      other j z = get_or-set_other B (at + numbers_at + 2 * f + 1) j high 0 z

module _ (P₀ : List ℕ) (at f b low high : ℕ) (P : List ℕ) (p : FieldPut P₀ at f b low high P) where
  -- what lies below it, and what lies after it
  pub put_below : (j : ℕ) → j < at + head_size → get_or P j 0 ≡ get_or P₀ j 0
  put_below j h = p.rest j (λ z. omega arith) (λ z. omega arith) (λ z. omega arith)

  -- another field
  pub put_other : f < field_room → (g c x : ℕ) → g < field_room → ((g ≡ f) → ⊥) → FieldLies P₀ at g c x → FieldLies P at g c x
  put_other few g c x h d l = record {
    byte = p.rest (at + head_size + g) (λ z. d (omega arith)) (λ z. omega arith) (λ z. omega arith) ∙ l.byte;
    low = p.rest (at + numbers_at + 2 * g) (λ z. omega arith) (λ z. d (omega arith)) (λ z. omega arith) ∙ l.low;
    high = p.rest (at + numbers_at + 2 * g + 1) (λ z. omega arith) (λ z. omega arith) (λ z. d (omega arith)) ∙ l.high;
  }

-- ---- what the loop of `spare_fields` keeps
pub spare_none : (P : List ℕ) (at m : ℕ) → SparedTo P at m m P
spare_none P at m = record { spare = λ g a h. absurd (omega arith); fields = λ g b x h l. l; below = λ j h. refl }

module _ (P₀ : List ℕ) (at m f : ℕ) (P : List ℕ) (so : SparedTo P₀ at m f P) where
  pub spare_more : m ≤ f → f < field_room → (P' : List ℕ) → FieldPut P at f no_part 0 0 P' → SparedTo P₀ at m (f + 1) P'
  spare_more more few P' p = record {
    spare = λ g a h. spare g (ℕ_discrete g f) a h;
    fields = λ g b x h l. put_other P at f no_part 0 0 P' p few g b x (omega arith) (λ z. omega arith) (so.fields g b x h l);
    below = λ j h. put_below P at f no_part 0 0 P' p j h ∙ so.below j h;
  }
    where
      spare : (g : ℕ) → Dec (g ≡ f) → m ≤ g → g < f + 1 → FieldLies P' at g no_part 0
      spare g (yes z) a h = rw z (record { byte = p.byte; low = p.first; high = p.second })
      spare g (no z) a h = put_other P at f no_part 0 0 P' p few g no_part 0 (omega arith) z (so.spare g a (omega (arith, z)))

  -- the blank bytes put
  pub spare_done : field_room ≤ f → m ≤ field_room → at + part_size ≤ length P → Spared P₀ at m (set (set P (at + blank_at) 0) (at + blank_at + 1) 0)
  spare_done h few room = record {
    to = record {
      spare = λ g a l. field_kept P D at g no_part 0 inside l (so.spare g a (omega arith));
      fields = λ g b x l w. field_kept P D at g b x inside (omega arith) (so.fields g b x l w);
      below = λ j l. same j (λ z. omega arith) (λ z. omega arith) ∙ so.below j l;
    };
    blank = λ j a l. blank j (ℕ_discrete j blank_at) a l;
  }
    where
      B : List ℕ
      B = set P (at + blank_at) 0

      D : List ℕ
      D = set B (at + blank_at + 1) 0

      same : (j : ℕ) → ((j ≡ at + blank_at) → ⊥) → ((j ≡ at + blank_at + 1) → ⊥) → get_or D j 0 ≡ get_or P j 0
      same j x y = get_or-set_other B (at + blank_at + 1) j 0 0 y ∙ get_or-set_other P (at + blank_at) j 0 0 x

      inside : (j : ℕ) → at + head_size ≤ j → j < at + blank_at → get_or D j 0 ≡ get_or P j 0
      inside j a l = same j (λ z. omega arith) (λ z. omega arith)

      blank : (j : ℕ) → Dec (j ≡ blank_at) → blank_at ≤ j → j < part_size → get_or D (at + j) 0 ≡ 0
      blank j (yes z) a l =
          let e : at + j ≡ at + blank_at = omega arith in
          rw e (get_or-set_other B (at + blank_at + 1) (at + blank_at) 0 0 (λ y. omega arith) ∙ get_or-set_same P (at + blank_at) 0 0 (omega arith))
      blank j (no z) a l =
          let e : at + j ≡ at + blank_at + 1 = omega (arith, z) in
          rw e (get_or-set_same B (at + blank_at + 1) 0 0 (omega (arith, length-set P (at + blank_at) 0)))
