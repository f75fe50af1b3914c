-- The new object as one among objects: its codes and numbers, and where it is found; the laws of `code_of`, `root_codes`, `number_of`, `root_numbers` and `find`.
-- Not here: where the parts lie (Wheres), the object added (Beside).
use Rattle.std.proofs.Common.{ℕ, zero, suc, ◌+◌, ◌-◌, ◌*◌, ◌%◌, ◌<◌, ◌≤◌, arith, ◌≡◌, refl, sym, ap, ap₂, ◌∙◌, subst, Bool, true, false, List, [], map, length, get_or, take, length-take, get_or-take, ext_get_or, length-take-le}
use native.Mathlib.Decide.{dec_lt, ℕ_discrete}
use Rattle.std.proofs.Math.Bool.{false≢true}
use Rattle.std.proofs.Math.ListN.{length-map}
use Rattle.cofj.specs.Values.{leaf, undet, Node, node, Graph, graph, eq_node, eq_nats}
use Rattle.cofj.proofs.Basics.{get_d_map_lt, eq_node_true, eq_node_refl}
use Rattle.canon.specs.Figures.{object_size, code_count, undetermined_code, number_code, first_mark, block_size, three_bytes}
use Rattle.canon.specs.Layout.{ref_of, code_of, ref_in, four, node_in, Packed, part, Block, count_in}
use Rattle.canon.proofs.Nodes.{eq_node_lem, ref_object, ref_undet, ref_number, ref_mark, four_at_lem}
use Rattle.values.specs.declared.ValueRef.{ValueRef}
use Rattle.values.specs.declared.ValueRef.TheVariants.{Object, Mark, Number, Undetermined}
use Rattle.values.specs.Layout.{raw_of, Holds}
use Rattle.maker.specs.Figures.{unused_codes, three_pairs}
use Rattle.maker.specs.Laying.{raws_from, PartsHeld}
use Rattle.std.specs.declared.option.Option.TheVariants.{Some, None}
use Rattle.maker.specs.Adding.{Hit, codes_of, pairs_of, object_of, roots, RootObject, beside_of, RootCodes, RootNumbers, Missed, Found, part_of}
use Rattle.maker.proofs.Answers.{only, never_none, never_some}
use Rattle.maker.proofs.Codes.{object_class, object_count, object_ref, object_length, object_whole, spare_codes, spare_numbers, first_code, next_code, first_number, next_number, codes_packed}
use Rattle.maker.proofs.Makes.{no_part}

-- ---- the new object
module _ (W : List ℕ) (r : ValueRef) where
  pub code_object : (b i : ℕ) → r ≡ Object i b → i ≡ code_of (raw_of W r).root
  code_object b i e = rw e

  pub code_mark : (k : ℕ) → r ≡ Mark k → first_mark + k ≡ code_of (raw_of W r).root
  code_mark k e = rw e

  pub code_number : (x : ℕ) → r ≡ Number x → number_code ≡ code_of (raw_of W r).root
  code_number x e = rw e

  pub code_undet : r ≡ Undetermined → undetermined_code ≡ code_of (raw_of W r).root
  code_undet e = rw e

module _ (r : ValueRef) where
  pub beside_object : (b i : ℕ) → r ≡ Object i b → 0 ≡ beside_of r
  unfolding beside_of
  beside_object b i e = rw e

  pub beside_mark : (k : ℕ) → r ≡ Mark k → 0 ≡ beside_of r
  unfolding beside_of
  beside_mark k e = rw e

  pub beside_number : (x : ℕ) → r ≡ Number x → x ≡ beside_of r
  unfolding beside_of
  beside_number x e = rw e

  pub beside_undet : r ≡ Undetermined → 0 ≡ beside_of r
  unfolding beside_of
  beside_undet e = rw e

-- a value's code and number are its root, and there is a number beside the code of numbers only
root_ref : (W : List ℕ) (r : ValueRef) → Holds W r → ref_of (code_of (raw_of W r).root) (beside_of r) ≡ (raw_of W r).root
unfolding beside_of
root_ref W (Object i b) h = ref_object i 0 (omega (arith, h.held.low, h.held.block.small))
root_ref W (Mark k) h = ref_mark k 0
root_ref W (Number x) h = ref_number x
root_ref W Undetermined h = ref_undet 0

root_plain : (W : List ℕ) (r : ValueRef) → ((code_of (raw_of W r).root ≡ number_code) → ⊥) → beside_of r ≡ 0
unfolding beside_of
root_plain W (Object i b) d = refl
root_plain W (Mark k) d = refl
root_plain W (Number x) d = absurd (d refl)
root_plain W Undetermined d = refl

-- the codes of the parts, from the last to the first
pub root_none : (W : List ℕ) (ps : List ValueRef) (n : ℕ) → RootCodes W ps n n unused_codes
root_none W ps n = record { done = λ j l. absurd (omega arith); spare = λ j l h. spare_codes j h }

pub root_held : (W : List ℕ) (ps : List ValueRef) (n i : ℕ) (v : ValueRef) → PartsHeld W ps n → 0 < i → i ≤ n → v ≡ part_of ps (i - 1) → Holds W v
root_held W ps n i v held h le e = subst (Holds W) (sym e) (held.part (i - 1) (omega arith))

pub root_more : (W : List ℕ) (ps : List ValueRef) (n i w : ℕ) (v : ValueRef) (x : ℕ) → RootCodes W ps n i w → 0 < i → i ≤ n → n ≤ code_count → x < 256
    → v ≡ part_of ps (i - 1) → x ≡ code_of (raw_of W v).root → RootCodes W ps n (i - 1) (x + 256 * (w % three_bytes))
root_more W ps n i w v x b h le few lx ev ex = record { done = done; spare = spare }
  where
    done : (j : ℕ) → i - 1 + j < n → get_or (codes_of (x + 256 * (w % three_bytes))) j 0 ≡ code_of (raw_of W (part_of ps (i - 1 + j))).root
    done zero l = let e : i - 1 + 0 ≡ i - 1 = omega arith in rw e (first_code x w lx ∙ ex ∙ ap (λ (u : ValueRef). code_of (raw_of W u).root) ev)
    done (suc j) l = let e : i - 1 + suc j ≡ i + j = omega arith in rw e (next_code x w lx j (omega arith) ∙ b.done j (omega arith))

    spare : (j : ℕ) → n ≤ i - 1 + j → j < code_count → get_or (codes_of (x + 256 * (w % three_bytes))) j 0 ≡ undetermined_code
    spare zero l m = absurd (omega arith)
    spare (suc j) l m = next_code x w lx j (omega arith) ∙ b.spare j (omega arith) (omega arith)

pub root_done : (W : List ℕ) (ps : List ValueRef) (n i w : ℕ) → RootCodes W ps n i w → i ≤ 0 → RootCodes W ps n 0 w
root_done W ps n i w b h = let e : i ≡ 0 = omega arith in subst (λ (k : ℕ). RootCodes W ps n k w) e b

-- and their numbers
pub numbers_none : (ps : List ValueRef) (n : ℕ) → RootNumbers ps n n 0
numbers_none ps n = record { done = λ j l. absurd (omega arith); spare = λ j l h. spare_numbers j h }

pub numbers_more : (ps : List ValueRef) (n i v : ℕ) (r : ValueRef) (x : ℕ) → RootNumbers ps n i v → 0 < i → i ≤ n → n ≤ code_count → x < 65536 → r ≡ part_of ps (i - 1) → x ≡ beside_of r
    → RootNumbers ps n (i - 1) (x + 65536 * (v % three_pairs))
numbers_more ps n i v r x b h le few lx er ex = record { done = done; spare = spare }
  where
    done : (j : ℕ) → i - 1 + j < n → get_or (pairs_of (x + 65536 * (v % three_pairs))) j 0 ≡ beside_of (part_of ps (i - 1 + j))
    done zero l = let e : i - 1 + 0 ≡ i - 1 = omega arith in rw e (first_number x v lx ∙ ex ∙ ap beside_of er)
    done (suc j) l = let e : i - 1 + suc j ≡ i + j = omega arith in rw e (next_number x v lx j (omega arith) ∙ b.done j (omega arith))

    spare : (j : ℕ) → n ≤ i - 1 + j → j < code_count → get_or (pairs_of (x + 65536 * (v % three_pairs))) j 0 ≡ 0
    spare zero l m = absurd (omega arith)
    spare (suc j) l m = next_number x v lx j (omega arith) ∙ b.spare j (omega arith) (omega arith)

pub numbers_done : (ps : List ValueRef) (n i v : ℕ) → RootNumbers ps n i v → i ≤ 0 → RootNumbers ps n 0 v
numbers_done ps n i v b h = let e : i ≡ 0 = omega arith in subst (λ (k : ℕ). RootNumbers ps n k v) e b

-- the numbers beside codes that have none but beside the code of numbers
pub numbers_plain : (ps : List ValueRef) (n v : ℕ) → RootNumbers ps n 0 v → (c : ℕ → ℕ) → ((j : ℕ) → j < n → ((c j ≡ number_code) → ⊥) → beside_of (part_of ps j) ≡ 0)
    → (j : ℕ) → j < code_count → ((c j ≡ number_code) → ⊥) → get_or (pairs_of v) j 0 ≡ 0
numbers_plain ps n v rn c p j l d = go (dec_lt j n)
  where
    z : 0 + j ≡ j
    z = omega arith

    go : Dec (j < n) → get_or (pairs_of v) j 0 ≡ 0
    go (yes h) = rn.done j (omega arith) ∙ rw z (p j h d)
    go (no h) = rn.spare j (omega (arith, h)) l

root_refs : (W : List ℕ) (ps : List ValueRef) (n : ℕ) (T : List ℕ) → n ≤ code_count → PartsHeld W ps n → ((j : ℕ) → j < n → ref_in T 0 j ≡ (raw_of W (part_of ps j)).root)
    → take n (four T 0) ≡ roots (raws_from W ps 0 n)
unfolding raws_from
root_refs W ps n T few held code =
    let lp : length (take n ps) ≡ n = length-take-le n ps held.full in
    let lg : length (map (raw_of W) (take n ps)) ≡ n = length-map (take n ps) (raw_of W) ∙ lp in
    let lt : length (take n (four T 0)) ≡ n = omega (arith, length-take n (four T 0)) in
    ext_get_or (leaf undet) (take n (four T 0)) (roots (map (raw_of W) (take n ps)))
    (lt ∙ sym lg ∙ sym (length-map (map (raw_of W) (take n ps)) (λ g. g.root)))
    (λ j h. let h' : j < n = omega arith in
    get_or-take n (four T 0) j (leaf undet) h' ∙ four_at_lem T 0 j (omega arith) ∙ code j h'
    ∙ ap (λ (s : ValueRef). (raw_of W s).root) (sym (get_or-take n ps j no_part h'))
    ∙ ap (λ (g : Graph). g.root) (sym (get_d_map_lt (raw_of W) (take n ps) j (graph (leaf undet) []) no_part (omega arith)))
    ∙ sym (get_d_map_lt (λ g. g.root) (map (raw_of W) (take n ps)) j (leaf undet) (graph (leaf undet) []) (omega arith)))

module _ (W : List ℕ) (ps : List ValueRef) (n w : ℕ) (rc : RootCodes W ps n 0 w) (v : ℕ) (rn : RootNumbers ps n 0 v) (few : n ≤ code_count) (held : PartsHeld W ps n) (c : ℕ) where
  root_code : (j : ℕ) → j < n → get_or (codes_of w) j 0 ≡ code_of (raw_of W (part_of ps j)).root
  root_code j h = let e : 0 + j ≡ j = omega arith in rw e at (rc.done j (omega arith))

  root_beside : (j : ℕ) → j < n → get_or (pairs_of v) j 0 ≡ beside_of (part_of ps j)
  root_beside j h = let e : 0 + j ≡ j = omega arith in rw e at (rn.done j (omega arith))

  pub root_packed : Packed (object_of c n w v) 0
  root_packed =
      codes_packed c n w v few (λ j l m. rc.spare j (omega arith) m)
      (numbers_plain ps n v rn (λ j. get_or (codes_of w) j 0) (λ j l d. root_plain W (part_of ps j) (λ e. d (root_code j l ∙ e))))

  pub root_object : RootObject c (raws_from W ps 0 n) (object_of c n w v)
  unfolding node_in
  root_object = record {
    is = ap₂ node (object_class c n w v) (ap (λ (k : ℕ). take k (four (object_of c n w v) 0)) (object_count c n w v)
        ∙ root_refs W ps n (object_of c n w v) few held (λ j h.
        object_ref c n w v j (omega arith) ∙ ap₂ ref_of (root_code j h) (root_beside j h) ∙ root_ref W (part_of ps j) (held.part j h)));
    packed = root_packed;
  }

-- ---- looked for among the objects
pub missed_none : (W : List ℕ) (b : ℕ) (T : List ℕ) → Missed W b T 0
missed_none W b T = record { none = λ j h. absurd (omega arith) }

module _ (W : List ℕ) (b t c n w v k : ℕ) (bk : Block W b) (et : t ≡ count_in W b) (pk : Packed (object_of c n w v) 0) (m : Missed W b (object_of c n w v) k) where
  pub find_packed : k < t → Packed W (block_size * b + object_size * k)
  find_packed h = bk.packed k (omega arith)

  module _ (h : k < t) (r : Bool) (er : r ≡ eq_nats (part W (block_size * b + object_size * k) object_size) (object_of c n w v)) where
    test : eq_node (node_in W (block_size * b + object_size * k)) (node_in (object_of c n w v) 0) ≡ r
    test =
        eq_node_lem W (object_of c n w v) (block_size * b + object_size * k) 0 (omega (arith, bk.room, bk.small)) (omega (arith, object_length c n w v)) (bk.packed k (omega arith)) pk
        ∙ ap (eq_nats (part W (block_size * b + object_size * k) object_size)) (object_whole c n w v) ∙ sym er

    pub missed_more : r ≡ false → Missed W b (object_of c n w v) (k + 1)
    missed_more f = record { none = λ j l. go j l (ℕ_discrete j k) }
      where
        go : (j : ℕ) → j < k + 1 → Dec (j ≡ k) → node_in W (block_size * b + object_size * j) ≡ node_in (object_of c n w v) 0 → ⊥
        go j l (yes z) e =
            false≢true (sym f ∙ sym test ∙ ap (λ (x : Node). eq_node x (node_in (object_of c n w v) 0)) (ap (λ (i : ℕ). node_in W (block_size * b + object_size * i)) (sym z) ∙ e) ∙ eq_node_refl (node_in (object_of c n w v) 0))
        go j l (no z) e = m.none j (omega (arith, z)) e

    pub find_hit : r ≡ true → Found W b t (object_of c n w v) (Some k)
    find_hit e = record { hit = only (Hit W b t (object_of c n w v)) k (record { low = h; is = eq_node_true _ _ (test ∙ e) }); miss = never_none k }

  pub find_miss : t ≤ k → Found W b t (object_of c n w v) None
  find_miss h = record { hit = never_some _; miss = λ _. record { none = λ j q. m.none j (omega arith) } }
