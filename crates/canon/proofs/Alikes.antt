-- Objects that look alike by their colours, turned by them, are the same; what a renaming leaves of their bytes.
use Rattle.std.proofs.Common.{ℕ, zero, suc, ◌+◌, ◌-◌, ◌*◌, ◌/◌, ◌<◌, ◌≤◌, arith, ◌≡◌, refl, sym, ◌∙◌, List, [], ◌∷◌, map, get_or, take, le-ltb}
use Rattle.std.proofs.Math.ListN.{get_or-map}
use Rattle.cofj.specs.Values.{Ref, obj, leaf, Leaf, mark, undet, num, Node, node, rename, rename_node}
use Rattle.canon.specs.Figures.{object_size, head_size, code_count, numbers_at, first_leaf}
use Rattle.canon.specs.Layout.{ref_of, code_of, number_beside, number_at, ref_in, node_in, Packed}
use Rattle.canon.specs.Tables.{turned, copied}
use Rattle.canon.specs.Links.{AlikeTo}
use Rattle.canon.proofs.Nodes.{digit_of, byte_of}
use Rattle.canon.proofs.Lifts.{copy_plain, copy_rest, copy_turned}
use Rattle.canon.proofs.Turned.{turn_ref, changed, map-take, turn_plain}

abbrev turned_in : List ℕ → List ℕ → ℕ → ℕ → Ref
turned_in T S at f = ref_of (turned T (get_or S (at + head_size + f) 0)) (number_at S (at + numbers_at + 2 * f))

turned-node : (T S : List ℕ) (at : ℕ) → Packed S at → changed (turn_ref T) (node_in S at)
    ≡ node (get_or S at 0) (take (get_or S (at + 1) 0) (turned_in T S at 0 ∷ turned_in T S at 1 ∷ turned_in T S at 2 ∷ turned_in T S at 3 ∷ []))
unfolding node_in ref_in
turned-node T S at pk = rw (map-take, turn 0 (omega arith), turn 1 (omega arith), turn 2 (omega arith), turn 3 (omega arith))
  where
    turn : (f : ℕ) → f < code_count → turn_ref T (ref_of (get_or S (at + head_size + f) 0) (number_at S (at + numbers_at + 2 * f))) ≡ turned_in T S at f
    turn f h = sym (turn_plain T (get_or S (at + head_size + f) 0) (number_at S (at + numbers_at + 2 * f)) (pk.plain f h))

pub alike_turned : (N C : List ℕ) (i j : ℕ) → Packed N (object_size * i) → Packed N (object_size * j) → AlikeTo (copied C) N i j object_size
    → changed (turn_ref C) (node_in N (object_size * i)) ≡ changed (turn_ref C) (node_in N (object_size * j))
alike_turned N C i j pi pj t =
    turned-node C N (object_size * i) pi ∙ rw (e0, plain 1 (omega arith), field 0 (omega arith), field 1 (omega arith), field 2 (omega arith), field 3 (omega arith)) (sym (turned-node C N (object_size * j) pj))
  where
    plain : (k : ℕ) → k < head_size → get_or N (object_size * i + k) 0 ≡ get_or N (object_size * j + k) 0
    plain k h = copy_plain (turned C) _ k h ∙ t.all k (omega arith) ∙ sym (copy_plain (turned C) _ k h)

    rest : (k : ℕ) → numbers_at ≤ k → k < object_size → get_or N (object_size * i + k) 0 ≡ get_or N (object_size * j + k) 0
    rest k a h = copy_rest (turned C) _ k a ∙ t.all k h ∙ sym (copy_rest (turned C) _ k a)

    code : (k : ℕ) → head_size ≤ k → k < numbers_at → turned C (get_or N (object_size * i + k) 0) ≡ turned C (get_or N (object_size * j + k) 0)
    code k a h = copy_turned (turned C) _ k _ a h refl ∙ t.all k (omega arith) ∙ sym (copy_turned (turned C) _ k _ a h refl)

    e0 : get_or N (object_size * i) 0 ≡ get_or N (object_size * j) 0
    e0 = let zi : object_size * i + 0 ≡ object_size * i = omega arith in let zj : object_size * j + 0 ≡ object_size * j = omega arith in rw (zi, zj) at (plain 0 (omega arith))

    field : (f : ℕ) → f < code_count → turned_in C N (object_size * i) f ≡ turned_in C N (object_size * j) f
    field f h =
        let ai : object_size * i + head_size + f ≡ object_size * i + (head_size + f) = omega arith in
        let aj : object_size * j + head_size + f ≡ object_size * j + (head_size + f) = omega arith in
        let bi : object_size * i + numbers_at + 2 * f ≡ object_size * i + (numbers_at + 2 * f) = omega arith in
        let bj : object_size * j + numbers_at + 2 * f ≡ object_size * j + (numbers_at + 2 * f) = omega arith in
        let ci : object_size * i + (numbers_at + 2 * f) + 1 ≡ object_size * i + (numbers_at + 2 * f + 1) = omega arith in
        let cj : object_size * j + (numbers_at + 2 * f) + 1 ≡ object_size * j + (numbers_at + 2 * f + 1) = omega arith in
        rw (ai, aj, bi, bj, ci, cj, code (head_size + f) (omega arith) (omega arith), rest (numbers_at + 2 * f) (omega arith) (omega arith), rest (numbers_at + 2 * f + 1) (omega arith) (omega arith))

pub leaf_code : (l : Leaf) → first_leaf ≤ code_of (leaf l)
leaf_code (mark k) = omega arith
leaf_code undet = omega arith
leaf_code (num x) = omega arith

-- a reference renamed has the number beside it that it had, and so have an object's bytes after the codes
number_rename : (f : ℕ → ℕ) (r : Ref) → number_beside (rename f r) ≡ number_beside r
number_rename f (obj i) = refl
number_rename f (leaf l) = refl

digit-rename : (f : ℕ → ℕ) (rs : List Ref) (k : ℕ) → digit_of (map (rename f) rs) k ≡ digit_of rs k
unfolding digit_of
digit-rename f rs k = rw (get_or-map (rename f) rs (k / 2) (leaf undet), number_rename f (get_or rs (k / 2) (leaf undet)))

pub byte-rename : (f : ℕ → ℕ) (x : Node) (k : ℕ) → numbers_at ≤ k → byte_of (rename_node f x) k ≡ byte_of x k
unfolding byte_of
byte-rename f x zero h = absurd (omega arith)
byte-rename f x (suc zero) h = absurd (omega arith)
byte-rename f x (suc (suc k)) h = rw (le-ltb k code_count (omega arith)) (digit-rename f x.refs (k - code_count))
