-- A new object, as numbers (class, count, codes, the numbers beside them) and as bytes; beside the objects of the block where its parts lie, or alone in a block.
use Rattle.std.specs.Prelude.{ℕ, zero, suc, ◌+◌, ◌*◌, ◌/◌, ◌%◌, ◌≤◌, ◌<◌, ◌≡◌, Bool, true, false, not, cond, List, [], ◌∷◌, ◌++◌, map, eqb, get_or, Some, None}
use Rattle.std.specs.declared.option.Option.{Option}
use Rattle.cofj.specs.Values.{Ref, node, Graph}
use Rattle.canon.specs.Figures.{object_size, head_size, code_count, undetermined_code, first_mark, block_size, three_bytes, four_bytes}
use Rattle.canon.specs.Layout.{code_of, node_in, Packed, count_in, level_in, reach_in, Outside}
use Rattle.values.specs.declared.ValueRef.{ValueRef}
use Rattle.values.specs.declared.ValueRef.TheVariants.{Object, Mark, Number, Undetermined}
use Rattle.values.specs.Layout.{raw_of}
use Rattle.values.specs.Tests.{any}
use Rattle.maker.specs.Figures.{three_pairs}
use Rattle.maker.specs.declared.object.NewObject.{NewObject}

abbrev pub roots : List Graph → List Ref
roots gs = map (λ g. g.root) gs

-- four codes that are one number, the first the lowest byte
unfoldable pub codes_of : ℕ → List ℕ
codes_of w = w % 256 ∷ w / 256 % 256 ∷ w / 65536 % 256 ∷ w / three_bytes ∷ []

-- four numbers of two bytes that are one number, the first the lowest
unfoldable pub pairs_of : ℕ → List ℕ
pairs_of v = v % 65536 ∷ v / 65536 % 65536 ∷ v / four_bytes % 65536 ∷ v / three_pairs ∷ []

-- the sixteen bytes of the object of class c with n fields, these codes, and these numbers beside them
unfoldable pub object_of : ℕ → ℕ → ℕ → ℕ → List ℕ
unfolding codes_of
object_of c n w v = c ∷ n ∷ codes_of w ++ codes_of (v % four_bytes) ++ codes_of (v / four_bytes) ++ 0 ∷ 0 ∷ []

-- those of a new object
abbrev pub bytes_of : NewObject → List ℕ
bytes_of o = object_of o.class o.count o.codes o.numbers

-- the new object, its fields the roots of its parts
pub record RootObject (c : ℕ) (gs : List Graph) (T : List ℕ) : Type 0 where
  pub is : node_in T 0 ≡ node c (roots gs)
  pub packed : Packed T 0

-- part i of a new object
abbrev pub part_of : List ValueRef → ℕ → ValueRef
part_of ps i = get_or ps i (Object 0 0)

-- the number beside the code of a value: its own if it is a number, else 0
unfoldable pub beside_of : ValueRef → ℕ
beside_of (Object i b) = 0
beside_of (Mark k) = 0
beside_of (Number x) = x
beside_of Undetermined = 0

-- the number w has the codes of the parts' roots from part i on, n in all; the codes after them are undetermined
pub record RootCodes (W : List ℕ) (ps : List ValueRef) (n i w : ℕ) : Type 0 where
  pub done : (j : ℕ) → i + j < n → get_or (codes_of w) j 0 ≡ code_of (raw_of W (part_of ps (i + j))).root
  pub spare : (j : ℕ) → n ≤ i + j → j < code_count → get_or (codes_of w) j 0 ≡ undetermined_code

-- the number v has the numbers beside them
pub record RootNumbers (ps : List ValueRef) (n i v : ℕ) : Type 0 where
  pub done : (j : ℕ) → i + j < n → get_or (pairs_of v) j 0 ≡ beside_of (part_of ps (i + j))
  pub spare : (j : ℕ) → n ≤ i + j → j < code_count → get_or (pairs_of v) j 0 ≡ 0

-- no mark of the codes w is of the level l or above
pub record CodesLevel (w l : ℕ) : Type 0 where
  pub below : (j : ℕ) → j < code_count → get_or (codes_of w) j 0 < first_mark + l

-- none of the first k objects of block b is the object in T
pub record Missed (W : List ℕ) (b : ℕ) (T : List ℕ) (k : ℕ) : Type 0 where
  pub none : (j : ℕ) → j < k → node_in W (block_size * b + object_size * j) ≡ node_in T 0 → ⊥

-- object k of block b is the one in T
pub record Hit (W : List ℕ) (b t : ℕ) (T : List ℕ) (k : ℕ) : Type 0 where
  pub low : k < t
  pub is : node_in W (block_size * b + object_size * k) ≡ node_in T 0

-- the place of the object in T among t of block b, if it is there
pub record Found (W : List ℕ) (b t : ℕ) (T : List ℕ) (o : Option ℕ) : Type 0 where
  pub hit : (k : ℕ) → o ≡ Some k → Hit W b t T k
  pub miss : o ≡ None → Missed W b T t

-- block dst has no objects; the bytes outside are W's
pub record Emptied (W : List ℕ) (dst : ℕ) (D : List ℕ) : Type 0 where
  pub count : count_in D dst ≡ 0
  pub level : level_in D dst ≡ 0
  pub outside : Outside dst W D

-- the object in T after t objects of block dst, with the level l, and none refers to it; the bytes of those, and those outside, are W's
pub record Appended (W : List ℕ) (dst t : ℕ) (T : List ℕ) (l : ℕ) (D : List ℕ) : Type 0 where
  pub count : count_in D dst ≡ t + 1
  pub level : level_in D dst ≡ l
  pub reach : reach_in D dst ≡ t
  pub old : (q : ℕ) → q < object_size * t → get_or D (block_size * dst + q) 0 ≡ get_or W (block_size * dst + q) 0
  pub top : (k : ℕ) → k < object_size → get_or D (block_size * dst + object_size * t + k) 0 ≡ get_or T k 0
  pub outside : Outside dst W D

-- t objects of block b and then the one in T, in block dst
pub record Added (W : List ℕ) (b t : ℕ) (T : List ℕ) (dst : ℕ) (D : List ℕ) : Type 0 where
  pub count : count_in D dst ≡ t + 1
  pub reach : reach_in D dst ≡ t
  pub old : (q : ℕ) → q < object_size * t → get_or D (block_size * dst + q) 0 ≡ get_or W (block_size * b + q) 0
  pub top : (k : ℕ) → k < object_size → get_or D (block_size * dst + object_size * t + k) 0 ≡ get_or T k 0
  pub level : (i f : ℕ) → i < t + 1 → f < code_count → get_or D (block_size * dst + object_size * i + head_size + f) 0 < first_mark + level_in D dst
  pub outside : Outside dst W D

unfoldable pub is_object : ValueRef → Bool
is_object (Object i b) = true
is_object (Mark k) = false
is_object (Number x) = false
is_object Undetermined = false

-- the block of a value that is an object of a block other than 0
unfoldable pub block_of : ValueRef → Option ℕ
block_of (Object i b) = cond (eqb b 0) None (Some b)
block_of (Mark k) = None
block_of (Number x) = None
block_of Undetermined = None

-- whether a value lies in block b, or is no object
unfoldable pub stands_in : ℕ → ValueRef → Bool
stands_in b (Object i x) = eqb x b
stands_in b (Mark k) = true
stands_in b (Number x) = true
stands_in b Undetermined = true

-- whether each of the first n parts does
unfoldable pub all_stand : List ValueRef → ℕ → ℕ → Bool
all_stand ps n b = not (any (λ i. not (stands_in b (part_of ps i))) n)

-- whether one of the first n parts is an object
unfoldable pub some_object : List ValueRef → ℕ → Bool
some_object ps n = any (λ i. is_object (part_of ps i)) n

abbrev pub first_of : Option ℕ → Option ℕ → Option ℕ
first_of (Some b) o = Some b
first_of None o = o

-- the block of the first of n parts that has one
unfoldable pub first_block : List ValueRef → ℕ → Option ℕ
first_block ps zero = None
first_block ps (suc n) = first_of (first_block ps n) (block_of (part_of ps n))
