-- How parts lie in bytes. Not here: the figures (Figures), which texts list them (the language's Batch).
use Rattle.std.specs.Prelude.{ℕ, ◌+◌, ◌*◌, ◌/◌, ◌%◌, ◌≤◌, ◌<◌, ◌≡◌, List, length, get_or}
use Rattle.std.proofs.Math.Option.{some}
use Rattle.std.proofs.Math.ListN.{get_elem?}
use Rattle.cofj.specs.Limits.{part_count}
use Rattle.cofj.specs.Values.{Ref, obj, leaf, mark, undet, num, Node, graph, node_at, refs_at}
use Rattle.cofj.specs.Unfolding.{Whole}
use Rattle.cofj.specs.Formed.{AllIn, RefBelow}
use Rattle.canon.specs.Layout.{number_beside}
use Rattle.canon.specs.Figures.{head_size, numbers_at, blank_at}
use Rattle.batch.specs.Figures.{part_size, field_room, number_field, no_part}

-- the byte of a field that holds this
abbrev pub held_byte : Ref → ℕ
held_byte (obj i) = i
held_byte (leaf (mark k)) = no_part
held_byte (leaf undet) = no_part
held_byte (leaf (num n)) = number_field

-- field f of part i, as its byte
abbrev pub field_byte : List ℕ → ℕ → ℕ → ℕ
field_byte P i f = get_or P (part_size * i + head_size + f) 0

-- field f of the part at a place has the byte b, and beside it the number x
pub record FieldLies (P : List ℕ) (at f b x : ℕ) : Type 0 where
  pub byte : get_or P (at + head_size + f) 0 ≡ b
  pub low : get_or P (at + numbers_at + 2 * f) 0 ≡ x % 256
  pub high : get_or P (at + numbers_at + 2 * f + 1) 0 ≡ x / 256

-- the bytes P are the parts ns, which refer to one another
pub record Lies (P : List ℕ) (ns : List Node) : Type 0 where
  pub some_part : 1 ≤ length ns
  pub few : length ns ≤ part_count
  pub whole : Whole (graph (obj 0) ns)
  pub closed : AllIn (λ n. AllIn (RefBelow 0) n.refs) ns
  pub class : (i : ℕ) → i < length ns → get_or P (part_size * i) 0 ≡ (node_at ns i).cls
  pub count : (i : ℕ) → i < length ns → get_or P (part_size * i + 1) 0 ≡ length (refs_at ns i)
  pub low : (i : ℕ) → i < length ns → length (refs_at ns i) ≤ field_room
  pub field : (i f : ℕ) (r : Ref) → i < length ns → get_elem? (refs_at ns i) f ≡ some r → FieldLies P (part_size * i) f (held_byte r) (number_beside r)
  pub spare : (i f : ℕ) → i < length ns → length (refs_at ns i) ≤ f → f < field_room → FieldLies P (part_size * i) f no_part 0
  pub blank : (i j : ℕ) → i < length ns → blank_at ≤ j → j < part_size → get_or P (part_size * i + j) 0 ≡ 0

-- ---- fields put
-- field f of the part at a place put; every other byte is P₀'s
pub record FieldPut (P₀ : List ℕ) (at f b low high : ℕ) (P : List ℕ) : Type 0 where
  pub byte : get_or P (at + head_size + f) 0 ≡ b
  pub first : get_or P (at + numbers_at + 2 * f) 0 ≡ low
  pub second : get_or P (at + numbers_at + 2 * f + 1) 0 ≡ high
  pub rest : (j : ℕ) → ((j ≡ at + head_size + f) → ⊥) → ((j ≡ at + numbers_at + 2 * f) → ⊥) → ((j ≡ at + numbers_at + 2 * f + 1) → ⊥) → get_or P j 0 ≡ get_or P₀ j 0

-- the fields from m to f of the part at a place hold nothing; the first m are P₀'s, and all that lies below them
pub record SparedTo (P₀ : List ℕ) (at m f : ℕ) (P : List ℕ) : Type 0 where
  pub spare : (g : ℕ) → m ≤ g → g < f → FieldLies P at g no_part 0
  pub fields : (g b x : ℕ) → g < m → FieldLies P₀ at g b x → FieldLies P at g b x
  pub below : (j : ℕ) → j < at + head_size → get_or P j 0 ≡ get_or P₀ j 0

-- all fields from m on, and its blank bytes are
pub record Spared (P₀ : List ℕ) (at m : ℕ) (P : List ℕ) : Type 0 where
  pub to : SparedTo P₀ at m field_room P
  pub blank : (j : ℕ) → blank_at ≤ j → j < part_size → get_or P (at + j) 0 ≡ 0
