-- What the functions that build a table make of a line's bytes and of the table's bytes, at the functions' own grain.
-- Not here: that this is the language's `table` on the lines of a text (proofs/Building).
use Rattle.std.specs.Prelude.{Some, None, ℕ, zero, suc, ◌+◌, ◌-◌, ◌*◌, Bool, true, false, not, ◌&&◌, ◌||◌, List, [], ◌∷◌, eqb, leb, ltb, length, get_or, drop, set}
use Rattle.std.specs.declared.option.Option.{Option}
use Rattle.std.proofs.lemmas.List.Edits.{sets}
use Rattle.cofj.specs.Typing.{closed_tag}
use Rattle.cofj.specs.Limits.{class_count, field_count, number_class}
use Rattle.lineform.specs.Signs.{new_sign, sign_size}
use Rattle.classes.specs.Figures.{row_size, long_size, index_at, methods_at, main_at, last_byte}
use Rattle.classes.specs.declared.methods.Found.{Found}
use Rattle.classes.specs.Machine.{pick, total_of, own_of}
use Rattle.classes.specs.Layout.{ahead_of}

-- a class up to n, or the class byte of numbers
abbrev pub known_class : ℕ → ℕ → Bool
known_class n c = leb c n || eqb c number_class

-- the first k types of the bytes have known classes and closed tags
unfoldable pub good_types : ℕ → ℕ → List ℕ → Bool
good_types n zero bs = true
good_types n (suc k) [] = false
good_types n (suc k) (c ∷ []) = false
good_types n (suc k) (c ∷ (g ∷ bs)) = known_class n c && closed_tag g && good_types n k bs

-- the class that a new object names
abbrev pub new_known : ℕ → List ℕ → Bool
new_known n [] = true
new_known n (c ∷ bs) = leb c n

-- the sign b, with the bytes after it, names no class above n
abbrev pub names_known : ℕ → ℕ → List ℕ → Bool
names_known n b bs = pick (eqb b new_sign) (new_known n bs) true

-- expressions one after another, up to a byte that is no sign: k is how many bytes still belong to the last sign
unfoldable pub scan : ℕ → ℕ → List ℕ → Bool
scan n k [] = true
scan n (suc k) (b ∷ bs) = scan n k bs
scan n zero (b ∷ bs) = names_known n b bs && pick (eqb (sign_size b) 0) true (scan n (sign_size b - 1) bs)

-- the byte a may be the sign of a new object, with a class b after it above n
abbrev pub names_above : ℕ → ℕ → ℕ → Bool
names_above n a b = eqb a new_sign && ltb n b

-- none of the first k bytes from `at` on does
unfoldable pub none_above : ℕ → List ℕ → ℕ → ℕ → Bool
none_above n s at zero = true
none_above n s at (suc k) = none_above n s at k && not (names_above n (get_or s (at + k) 0) (get_or s (at + k + 1) 0))

-- a method's line without its expressions
unfoldable pub head_good : ℕ → List ℕ → Bool
head_good n l =
    leb 8 (length l) && leb 1 (get_or l 1 0) && leb (get_or l 1 0) n && known_class n (get_or l 3 0) && known_class n (get_or l 5 0) && closed_tag (get_or l 4 0)
    && good_types n (get_or l 7 0) (drop 8 l)

unfoldable pub method_good : ℕ → List ℕ → Bool
method_good n l =
    leb 8 (length l) && leb 1 (get_or l 1 0) && leb (get_or l 1 0) n && known_class n (get_or l 3 0) && known_class n (get_or l 5 0) && closed_tag (get_or l 4 0)
    && good_types n (get_or l 7 0) (drop 8 l) && scan n 0 (drop (8 + 2 * get_or l 7 0) l)

-- ---- one line into the table: the answer, and the table's bytes after it
pub data Placed : Type 0 where
  placed : Bool → List ℕ → Placed

-- all fields of a class whose parent is p
abbrev pub above : List ℕ → List ℕ → ℕ
above l B = total_of B (get_or l 2 0)

unfoldable pub class_good : List ℕ → ℕ → ℕ → List ℕ → Bool
class_good l k n B =
    leb 4 (length l) && eqb (get_or l 1 0) k && ltb (get_or l 2 0) k && good_types n (get_or l 3 0) (drop 4 l)
    && leb (above l B) field_count && leb (get_or l 3 0) field_count && leb (above l B + get_or l 3 0) field_count

unfoldable pub class_put : List ℕ → ℕ → List ℕ → List ℕ
class_put l k B = sets (set (set B (row_size * k) (get_or l 2 0)) (row_size * k + 1) (above l B + get_or l 3 0)) (row_size * k + 2) (drop 3 l)

unfoldable pub class_placed : List ℕ → ℕ → ℕ → List ℕ → Placed
class_placed l k n B = pick (class_good l k n B) (placed true (class_put l k B)) (placed false B)

abbrev pub index_put : ℕ → ℕ → ℕ → List ℕ → List ℕ
index_put c m x B = pick (ltb class_count c) B (set B (index_at + long_size * c + m) x)

unfoldable pub method_put : List ℕ → ℕ → ℕ → List ℕ → List ℕ
method_put l i right B = set (sets (set B (methods_at + long_size * i) right) (methods_at + long_size * i + 1) (drop 1 l)) (methods_at + long_size * i + last_byte) (length l)

-- where the class has no such method; the right expression stands at b
abbrev pub method_free : List ℕ → ℕ → ℕ → List ℕ → Option Found → Placed
method_free l i b B (Some f) = placed false B
method_free l i b B None = placed true (method_put l i b (index_put (get_or l 1 0) (get_or l 2 0) (i + 1) B))

unfoldable pub method_placed : List ℕ → ℕ → ℕ → ℕ → List ℕ → Placed
method_placed l i b n B = pick (method_good n l) (method_free l i b B (own_of B (get_or l 1 0) (get_or l 2 0))) (placed false B)

-- the type of main's parameter, where k bytes stand in front of its expression: known, and tag 0
unfoldable pub input_fits : ℕ → ℕ → List ℕ → Bool
input_fits n k l = pick (eqb k 0) true (leb 3 (length l) && leb (get_or l 1 0) n && eqb (get_or l 2 0) 0)

unfoldable pub main_put : List ℕ → List ℕ → List ℕ
main_put l B = set (sets (set B main_at (ahead_of l)) (main_at + 1) (drop 1 l)) (main_at + last_byte) (length l)

unfoldable pub main_placed : List ℕ → ℕ → List ℕ → Placed
main_placed l n B = pick (input_fits n (ahead_of l) l && scan n 0 (drop (1 + ahead_of l) l)) (placed true (main_put l B)) (placed false B)
