-- Second texts and what they give, computed: the examples of requests 2026-01 and 2026-02 as far as the text alone decides them. Not here: whole runs (Cases).
use Prim.Native.Nat.{ℕ}
use Prim.Native.String.{String}
use mathlib.Core.Path.{◌≡◌, refl}
use mathlib.Core.List.{List, [], ◌∷◌}
use Rattle.cofj.specs.Limits.{standard, number_class}
use Rattle.cofj.specs.Syntax.{Ty, ty, Class}
use Rattle.cofj.specs.Values.{obj, leaf, undet, num, node, graph}
use Rattle.cofj.specs.Bytes.{bytes}
use Rattle.cofj.specs.Batch.{Input, refused, given, input_of}

abbrev class : ℕ → List Ty → Class
class p own = record { parent = p; own = own }

-- what the text gives a main whose parameter has class c
abbrev gives : List Class → ℕ → String → Input
gives cs c s = input_of standard.objects cs (ty c 0) (bytes s)

-- ---- a ring of classes 2 and 3, as four parts with one that is not reached, and as two
abbrev rings : List Class
rings = class 0 [] ∷ class 1 (ty 1 0 ∷ []) ∷ class 1 (ty 1 0 ∷ []) ∷ []

abbrev ring : Input
ring = given (graph (obj 0) (node 2 (obj 1 ∷ []) ∷ node 3 (obj 0 ∷ []) ∷ []))

cut_in_four : gives rings 2 "0500020101\n0501030102\n0502020103\n0503030100\n05040100\n" ≡ ring
unfolding input_of bytes
cut_in_four = refl

cut_in_two : gives rings 2 "0500020101\n0501030100\n" ≡ ring
unfolding input_of bytes
cut_in_two = refl

-- ---- FF at a minus place and at a plus place
minus_place : gives (class 0 (ty 0 3 ∷ []) ∷ []) 1 "05000101FF\n" ≡ given (graph (obj 0) (node 1 (leaf undet ∷ []) ∷ []))
unfolding input_of bytes
minus_place = refl

abbrev loops : List Class
loops = class 0 (ty 0 0 ∷ []) ∷ []

plus_place : gives loops 1 "05000101FF\n" ≡ refused 15
unfolding input_of bytes
plus_place = refl

-- ---- parts that are not reached are dropped
dropped : gives loops 1 "0500010100\n0501010102\n05020000\n" ≡ given (graph (obj 0) (node 1 (obj 0 ∷ []) ∷ []))
unfolding input_of bytes
dropped = refl

-- ---- no list of parts: nothing; another number; a part that is not there; a count that is not the class's; an unknown class; lower case; no LF
nothing : gives loops 1 "" ≡ refused 14
unfolding input_of bytes
nothing = refl

other_number : gives loops 1 "0501010100\n" ≡ refused 14
unfolding input_of bytes
other_number = refl

no_such_part : gives loops 1 "0500010101\n" ≡ refused 14
unfolding input_of bytes
no_such_part = refl

other_count : gives loops 1 "05000100\n" ≡ refused 14
unfolding input_of bytes
other_count = refl

unknown_class : gives loops 1 "0500020100\n" ≡ refused 14
unfolding input_of bytes
unknown_class = refl

lower_case : gives loops 1 "05000101ff\n" ≡ refused 14
unfolding input_of bytes
lower_case = refl

no_end : gives loops 1 "0500010100" ≡ refused 14
unfolding input_of bytes
no_end = refl

-- ---- one part held at two places, whose classes are 1 and 2
abbrev pairs : List Class
pairs = class 0 [] ∷ class 1 [] ∷ class 0 (ty 1 0 ∷ ty 2 0 ∷ []) ∷ []

fits_both : gives pairs 3 "050003020101\n05010200\n" ≡ given (graph (obj 0) (node 3 (obj 1 ∷ obj 1 ∷ []) ∷ node 2 [] ∷ []))
unfolding input_of bytes
fits_both = refl

fits_one : gives pairs 3 "050003020101\n05010100\n" ≡ refused 15
unfolding input_of bytes
fits_one = refl

-- ---- the root by the type of main's parameter
root_fits : gives pairs 1 "05000200\n" ≡ given (graph (obj 0) (node 2 [] ∷ []))
unfolding input_of bytes
root_fits = refl

root_above : gives pairs 2 "05000100\n" ≡ refused 15
unfolding input_of bytes
root_above = refl

-- ---- numbers: a field of class FE and a minus place; one without its two bytes; FF, a part at the place of a number; a number elsewhere
abbrev tallies : List Class
tallies = class 0 (ty number_class 0 ∷ ty 1 3 ∷ []) ∷ []

a_number : gives tallies 1 "05000102FE0102FF\n" ≡ given (graph (obj 0) (node 1 (leaf (num 0x0102) ∷ leaf undet ∷ []) ∷ []))
unfolding input_of bytes
a_number = refl

cut_short : gives tallies 1 "05000102FE01FF\n" ≡ refused 14
unfolding input_of bytes
cut_short = refl

no_number : gives tallies 1 "05000102FFFF\n" ≡ refused 15
unfolding input_of bytes
no_number = refl

part_for_number : gives tallies 1 "0500010200FF\n" ≡ refused 15
unfolding input_of bytes
part_for_number = refl

number_for_part : gives tallies 1 "05000102FE0001FE0002\n" ≡ refused 15
unfolding input_of bytes
number_for_part = refl

-- FE as the class of a part
number_part : gives tallies 1 "0500FE00\n" ≡ refused 14
unfolding input_of bytes
number_part = refl

-- parts that hold different numbers are different
abbrev doubles : List Class
doubles = class 0 (ty number_class 0 ∷ []) ∷ class 0 (ty 1 0 ∷ ty 1 0 ∷ []) ∷ []

equal_numbers : gives doubles 2 "050002020102\n05010101FE0005\n05020101FE0005\n"
    ≡ given (graph (obj 0) (node 2 (obj 1 ∷ obj 1 ∷ []) ∷ node 1 (leaf (num 5) ∷ []) ∷ []))
unfolding input_of bytes
equal_numbers = refl

other_numbers : gives doubles 2 "050002020102\n05010101FE0005\n05020101FE0006\n"
    ≡ given (graph (obj 0) (node 2 (obj 1 ∷ obj 2 ∷ []) ∷ node 1 (leaf (num 5) ∷ []) ∷ node 1 (leaf (num 6) ∷ []) ∷ []))
unfolding input_of bytes
other_numbers = refl
