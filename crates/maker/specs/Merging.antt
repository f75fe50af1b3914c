-- Objects brought into one block, the host: the codes of a value that lies in another block, and of the parts of a new object.
-- Not here: the bytes of a block with one more object (Adding).
use Rattle.std.specs.Prelude.{ℕ, zero, suc, ◌+◌, ◌/◌, ◌%◌, ◌≤◌, ◌<◌, ◌≡◌, Bool, true, false, cond, List, ◌⊎◌, ltb, eqb, length, get_or, Some, None}
use Rattle.std.specs.declared.option.Option.{Option}
use Rattle.std.proofs.Math.Option.{some}
use Rattle.std.proofs.Math.ListN.{get_elem?}
use Rattle.cofj.specs.Values.{Ref, Graph, node_at}
use Rattle.cofj.specs.Unfolding.{Same, InRange}
use Rattle.canon.specs.Figures.{code_count, first_leaf, undetermined_code, number_code, capacity, three_bytes}
use Rattle.canon.specs.Layout.{ref_of, node_in, Packed, count_in, objects_in, Block, Outside}
use Rattle.values.specs.declared.ValueRef.{ValueRef}
use Rattle.values.specs.declared.ValueRef.TheVariants.{Object, Mark, Number, Undetermined}
use Rattle.values.specs.Tests.{any}
use Rattle.values.specs.Layout.{raw_of, lies_in}
use Rattle.maker.specs.Laying.{MadeIs}
use Rattle.maker.specs.Adding.{codes_of, part_of, beside_of, Missed}
use Rattle.maker.specs.Crowds.{In, Within, BlockIn, Crowd}

-- block host has grown: what was in it unfolds as before, and the other blocks are as before
pub record Grown (host : ℕ) (W W' : List ℕ) : Type 0 where
  pub outside : Outside host W W'
  pub block : Block W' host
  pub most : count_in W host ≤ count_in W' host
  pub trees : (r : Ref) → InRange (count_in W host) r → Same (objects_in W host) r (objects_in W' host) r

-- the object in T can stand among the objects of block host
pub record Fits (W : List ℕ) (host : ℕ) (T : List ℕ) : Type 0 where
  pub packed : Packed T 0
  pub low : (f : ℕ) (r : Ref) → get_elem? (node_in T 0).refs f ≡ some r → InRange (count_in W host) r

-- object r of block host is the one in T
pub record Standing (W : List ℕ) (host : ℕ) (T : List ℕ) (r : ℕ) : Type 0 where
  pub low : r < count_in W host
  pub is : node_at (objects_in W host) r ≡ node_in T 0

-- the answer is the number of the object in T, which was there or is added; none if the host is full and has it not
pub record Entered (W : List ℕ) (host : ℕ) (T W' : List ℕ) (o : Option ℕ) : Type 0 where
  pub grown : Grown host W W'
  pub standing : (r : ℕ) → o ≡ Some r → Standing W' host T r
  pub from : (y : ℕ) → y < count_in W' host → (y < count_in W host) ⊎ (o ≡ Some y)
  pub full : o ≡ None → (count_in W host ≡ capacity) × Missed W host T capacity × (W' ≡ W)

-- whether a code is an object's, of number f or a higher one; and whether one of the four codes of w is
unfoldable pub lies_from : ℕ → ℕ → Bool
lies_from c f = cond (ltb c f) false (ltb c first_leaf)

unfoldable pub refers_from : ℕ → ℕ → Bool
refers_from w f =
    cond (lies_from (w % 256) f) true (cond (lies_from (w / 256 % 256) f) true (cond (lies_from (w / 65536 % 256) f) true (lies_from (w / three_bytes) f)))

-- ---- a code of another block
-- the code r of block host unfolds as the code c of block src, whatever number is beside both
pub record CodeAs (W : List ℕ) (src c host r : ℕ) : Type 0 where
  pub low : (x : ℕ) → InRange (count_in W host) (ref_of r x)
  pub leaf : first_leaf ≤ c → r ≡ c
  pub same : (x : ℕ) → Same (objects_in W src) (ref_of c x) (objects_in W host) (ref_of r x)

-- the table has k + 1 for an object that unfolds as object k of the host
pub record Mapped (W : List ℕ) (src host : ℕ) (M : List ℕ) : Type 0 where
  pub table : length M ≡ capacity
  pub each : (x y : ℕ) → get_or M x 0 ≡ y + 1 → CodeAs W src x host y

-- object i of block src, with what it leads to, is in the host; the answer is its number there, or none if there is no room. A value g in which the host's objects and
-- object i stand has the objects of the grown host in it, or too many
pub record Imported (W : List ℕ) (src i host : ℕ) (W' : List ℕ) (o : Option ℕ) : Type 0 where
  pub grown : Grown host W W'
  pub like : (r : ℕ) → o ≡ Some r → CodeAs W' src i host r
  pub stand : (r : ℕ) → o ≡ Some r → (g : Graph) → BlockIn W host g → In (objects_in W src) i g → BlockIn W' host g
  pub over : o ≡ None → (g : Graph) → BlockIn W host g → In (objects_in W src) i g → Crowd g

-- ---- the parts
-- the code r of block host, with v's number beside it, unfolds as the value of v in the bytes W
pub record As (W : List ℕ) (v : ValueRef) (W' : List ℕ) (host r : ℕ) : Type 0 where
  pub low : InRange (count_in W' host) (ref_of r (beside_of v))
  pub plain : ((r ≡ number_code) → ⊥) → beside_of v ≡ 0
  pub same : Same (raw_of W v).nodes (raw_of W v).root (objects_in W' host) (ref_of r (beside_of v))

-- the answer is v's code in the host, or none if there is no room
pub record PartImported (W : List ℕ) (v : ValueRef) (host : ℕ) (W' : List ℕ) (o : Option ℕ) : Type 0 where
  pub grown : Grown host W W'
  pub like : (r : ℕ) → o ≡ Some r → As W v W' host r
  pub stand : (r : ℕ) → o ≡ Some r → (g : Graph) → BlockIn W host g → Within (raw_of W v) g → BlockIn W' host g
  pub over : o ≡ None → (g : Graph) → BlockIn W host g → Within (raw_of W v) g → Crowd g

-- the objects of block base are the first of block host, which may be base
pub record Begun (W : List ℕ) (base host : ℕ) : Type 0 where
  pub source : Block W base
  pub target : Block W host
  pub most : count_in W base ≤ count_in W host
  pub trees : (r : Ref) → InRange (count_in W base) r → Same (objects_in W base) r (objects_in W host) r

-- the first n parts stand in g
abbrev pub AllWithin : List ℕ → List ValueRef → ℕ → Graph → Type 0
AllWithin W ps n g = (i : ℕ) → i < n → Within (raw_of W (part_of ps i)) g

-- the number w has the codes of the parts from i on, n in all; the codes after them are undetermined
pub record RootBrought (W : List ℕ) (ps : List ValueRef) (n i : ℕ) (W' : List ℕ) (host w : ℕ) : Type 0 where
  pub done : (j : ℕ) → i + j < n → As W (part_of ps (i + j)) W' host (get_or (codes_of w) j 0)
  pub spare : (j : ℕ) → n ≤ i + j → j < code_count → get_or (codes_of w) j 0 ≡ undetermined_code
  pub stand : (g : Graph) → BlockIn W host g → AllWithin W ps n g → BlockIn W' host g

pub record PartsBrought (W : List ℕ) (ps : List ValueRef) (n host : ℕ) (W' : List ℕ) (o : Option ℕ) : Type 0 where
  pub grown : Grown host W W'
  pub done : (w : ℕ) → o ≡ Some w → RootBrought W ps n 0 W' host w
  pub over : o ≡ None → (g : Graph) → BlockIn W host g → AllWithin W ps n g → Crowd g

-- what trying a host answers: the value, in block dst or below, or only a host that has grown; a host whose objects all stand in the value is too small only for a
-- value that is too large
pub record TriedIs (W : List ℕ) (v : Graph) (host dst : ℕ) (W' : List ℕ) (o : Option ValueRef) : Type 0 where
  pub here : (r : ValueRef) → o ≡ Some r → MadeIs W v dst W' (Some r)
  pub none : o ≡ None → Grown host W W'
  pub over : o ≡ None → BlockIn W host v → Crowd v

-- ---- the host
-- whether one of the first n parts is an object of block d
unfoldable pub some_in : List ValueRef → ℕ → ℕ → Bool
some_in ps n d = any (λ i. lies_in d (part_of ps i)) n

-- the block of v, if v is an object of a block other than 0 and that block has more objects than block b; else b
unfoldable pub larger_of : List ℕ → ValueRef → ℕ → ℕ
larger_of W (Object i x) b = cond (eqb x 0) b (cond (ltb (count_in W b) (count_in W x)) x b)
larger_of W (Mark k) b = b
larger_of W (Number x) b = b
larger_of W Undetermined b = b

-- the block with the most objects, of block b and those of the first n parts but block 0
unfoldable pub largest_of : List ℕ → List ValueRef → ℕ → ℕ → ℕ
largest_of W ps zero b = b
largest_of W ps (suc n) b = larger_of W (part_of ps n) (largest_of W ps n b)
