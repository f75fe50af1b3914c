-- Lines of a report and the value that they list: each gives the other. Not here: the fields of a line (ReportFields), characters (Reports).
use Prim.Native.Nat.{ℕ, zero, suc, ◌+◌, ◌*◌, ◌/◌, ◌%◌, ◌≤◌, ◌<◌, zero-le}
use native.Mathlib.Nat.{not-suc-le-zero}
use native.Mathlib.Omega.{arith}
use mathlib.Core.Path.{◌≡◌, refl, sym, ap, ap₂, ◌∙◌, subst}
use mathlib.Core.Bool.{Bool, true, ◌&&◌}
use mathlib.Core.List.{List, [], ◌∷◌, append-nil}
use mathlib.Core.Option.{Option, none, some, none-ne-some}
use lib.Dec.{eqb, leb}
use lib.ListN.{length, get_elem?}
use borrow.Author.Tests.{eqb-true, eq-eqb, leb-true, le-leb}
use Rattle.cofj.specs.Limits.{class_count, field_count, part_count}
use Rattle.cofj.specs.Partial.{◌>>=◌, guard}
use Rattle.cofj.specs.Frames.{Got, whole}
use Rattle.cofj.specs.Values.{Ref, obj, leaf, Leaf, mark, undet, num, Node, node, Graph, graph, leaf_of, refs_at, canon}
use Rattle.cofj.specs.Unfolding.{InRange, Whole}
use Rattle.cofj.specs.Formed.{AllIn, LeafBelow, RefBelow}
use Rattle.cofj.specs.Report.{field_bytes, object_line, object_lines, leaf_line, value_lines}
use Rattle.cofj.specs.ReportForm.{refs_of, object_of, objects_from, objects_good, objects_value, leaf_in, lines_value, no_two_equal, in_order, one_count, Plain, Reportable}
use Rattle.cofj.proofs.Steps.{whole_back}
use Rattle.cofj.proofs.ReportFields.{RefsIn, refs_round, ReadRefs, refs_back}
use Rattle.cofj.proofs.TextRound.{Bytes, Lines}
use Rattle.cofj.proofs.Numbering.{canonical_distinct, canonical_order, canonical_root, canonical_empty, numbered_canonical}
use Rattle.cofj.proofs.Partial.{and_true, true_and, opt_bind, guard-bind}

-- ---- from a value to its lines and back
module _ (n : ℕ) (small : n ≤ part_count) where
  object_round : (k : ℕ) (d : Node) → Plain d → RefsIn n d.refs → object_of n k (object_line k d) ≡ some d
  object_round k d p h =
      let m = length d.refs in
      let rest : Option (Got (List Ref)) → Option Node = λ o. o >>= λ g. whole g >>= λ rs. some (node d.cls rs) in
      ap (λ (b : Bool). guard b >>= λ _. rest (refs_of n m (field_bytes d.refs)))
      (true_and (eqb 5 5 && eqb k k && leb d.cls class_count) (leb m field_count)
      (true_and (eqb 5 5 && eqb k k) (leb d.cls class_count) (eq-eqb k k refl) (le-leb d.cls class_count p.known))
      (le-leb m field_count p.few))
      ∙ ap (λ (l : List ℕ). rest (refs_of n m l)) (sym (append-nil (field_bytes d.refs)))
      ∙ ap rest (refs_round n small d.refs [] h p.closed)

  pub objects_round : (ns : List Node) (k : ℕ) → AllIn Plain ns → AllIn (λ d. RefsIn n d.refs) ns → objects_from n k (object_lines k ns) ≡ some ns
  unfolding objects_from
  objects_round [] k p h = refl
  objects_round (d ∷ ds) k p h =
      ap (λ (o : Option Node). o >>= λ x. objects_from n (suc k) (object_lines (suc k) ds) >>= λ xs. some (x ∷ xs)) (object_round k d p.0 h.0)
      ∙ ap (λ (o : Option (List Node)). o >>= λ xs. some (d ∷ xs)) (objects_round ds (suc k) p.1 h.1)

pub length-lines : (k : ℕ) (ns : List Node) → length (object_lines k ns) ≡ length ns
length-lines k [] = refl
length-lines k (d ∷ ds) = ap suc (length-lines (suc k) ds)

-- the references of a whole graph, by lists
refs_in : (n : ℕ) (rs : List Ref) → ((f : ℕ) (r : Ref) → get_elem? rs f ≡ some r → InRange n r) → RefsIn n rs
refs_in n [] h = tt
refs_in n (r ∷ rs) h = (h 0 r refl, refs_in n rs (λ f. h (suc f)))

in_refs : (n : ℕ) (rs : List Ref) → RefsIn n rs → (f : ℕ) (r : Ref) → get_elem? rs f ≡ some r → InRange n r
in_refs n [] h f r e = absurd (none-ne-some r e)
in_refs n (x ∷ xs) h zero r e = subst (InRange n) (let y : x ≡ r = cc in y) h.0
in_refs n (x ∷ xs) h (suc f) r e = in_refs n xs h.1 f r e

pub nodes_in_lem : (n : ℕ) (ns : List Node) → ((i f : ℕ) (r : Ref) → get_elem? (refs_at ns i) f ≡ some r → InRange n r) → AllIn (λ d. RefsIn n d.refs) ns
nodes_in_lem n [] h = tt
nodes_in_lem n (d ∷ ds) h = (refs_in n d.refs (h 0), nodes_in_lem n ds (λ i. h (suc i)))

pub in_nodes : (n : ℕ) (ns : List Node) → AllIn (λ d. RefsIn n d.refs) ns → (i f : ℕ) (r : Ref) → get_elem? (refs_at ns i) f ≡ some r → InRange n r
in_nodes n [] h i f r e = absurd (none-ne-some r e)
in_nodes n (d ∷ ds) h zero f r e = in_refs n d.refs h.0 f r e
in_nodes n (d ∷ ds) h (suc i) f r e = in_nodes n ds h.1 i f r e

-- an object's line tells no leaf: it has four bytes at least
objects_line : (objects : ℕ) (ns : List Node) → 1 ≤ length ns → lines_value objects (object_lines 0 ns) ≡ objects_value objects (object_lines 0 ns)
objects_line objects [] l = absurd (not-suc-le-zero l)
objects_line objects (d ∷ []) l = refl
objects_line objects (d ∷ e ∷ ds) l = refl

module _ (objects : ℕ) (small : objects ≤ part_count) where
  good_objects : (v : Graph) → Reportable objects v → (i : ℕ) → v.root ≡ obj i → objects_good objects v.nodes ≡ true
  unfolding objects_good
  good_objects v h i e =
      let l : i < length v.nodes = subst (InRange (length v.nodes)) e h.whole.top in
      true_and _ (in_order v.nodes)
      (true_and _ (no_two_equal v.nodes)
      (true_and _ (one_count v.nodes)
      (true_and (leb 1 (length v.nodes)) (leb (length v.nodes) objects) (le-leb 1 (length v.nodes) (omega arith)) (le-leb (length v.nodes) objects h.small)) h.counts)
      (canonical_distinct v h.whole h.own)) (canonical_order v h.whole h.own i e)

  pub lines_round : (v : Graph) → Reportable objects v → lines_value objects (value_lines v) ≡ some v
  lines_round v h = go v.root refl h.root
    where
      at_object : (i : ℕ) → v.root ≡ obj i → lines_value objects (object_lines 0 v.nodes) ≡ some v
      at_object i e =
          let l : i < length v.nodes = subst (InRange (length v.nodes)) e h.whole.top in
          let n = length v.nodes in
          let s = h.small in
          objects_line objects v.nodes (omega arith)
          ∙ ap (λ (k : ℕ). objects_from k 0 (object_lines 0 v.nodes) >>= λ ns. guard (objects_good objects ns) >>= λ _. some (graph (obj 0) ns)) (length-lines 0 v.nodes)
          ∙ ap (λ (o : Option (List Node)). o >>= λ ns. guard (objects_good objects ns) >>= λ _. some (graph (obj 0) ns))
          (objects_round n (omega arith) v.nodes 0 h.nodes (nodes_in_lem n v.nodes h.whole.inner))
          ∙ ap (λ (b : Bool). guard b >>= λ _. some (graph (obj 0) v.nodes)) (good_objects v h i e)
          ∙ ap (λ (r : Ref). some (graph r v.nodes)) (ap obj (sym (canonical_root v h.whole h.own i e)) ∙ sym e)

      -- the line of a leaf tells it
      told : (l : Leaf) → LeafBelow 0 l → lines_value objects (leaf_line l ∷ []) ≡ some (leaf_of l)
      told (mark k) m = absurd (not-suc-le-zero m)
      told undet m = refl
      told (num n) m = ap (λ (k : ℕ). some (leaf_of (num k))) (let z : 256 * (n / 256) + n % 256 ≡ n = omega arith in z)

      go : (r : Ref) → v.root ≡ r → RefBelow 0 r → lines_value objects (elim r as (λ _. List (List ℕ)) [ obj i ↦ object_lines 0 v.nodes | leaf l ↦ leaf_line l ∷ [] ]) ≡ some v
      go (obj i) e m = at_object i e
      go (leaf l) e m = told l m ∙ ap₂ (λ (r : Ref) (ns : List Node). some (graph r ns)) (sym e)
          (sym (canonical_empty v h.whole h.own (λ i q. let z : leaf l ≡ obj i = sym e ∙ q in absurd (let y : ◌≡◌ {A = ℕ} 0 1 = cc in omega arith))))

-- ---- from lines to the value and back
pub record Back (n k : ℕ) (d : Node) (l : List ℕ) : Type 0 where
  pub plain : Plain d
  pub refs : RefsIn n d.refs
  pub line : object_line k d ≡ l

object_back : (n k : ℕ) (l : List ℕ) (d : Node) → Bytes l → object_of n k l ≡ some d → Back n k d l
object_back n k [] d h e = absurd (none-ne-some d e)
object_back n k (a ∷ []) d h e = absurd (none-ne-some d e)
object_back n k (a ∷ b ∷ []) d h e = absurd (none-ne-some d e)
object_back n k (a ∷ b ∷ c ∷ []) d h e = absurd (none-ne-some d e)
object_back n k (a ∷ b ∷ c ∷ m ∷ bs) d h e =
    let g = guard-bind (eqb a 5 && eqb b k && leb c class_count && leb m field_count) _ d e in
    let g3 = and_true (eqb a 5 && eqb b k && leb c class_count) (leb m field_count) g.0 in
    let g2 = and_true (eqb a 5 && eqb b k) (leb c class_count) g3.0 in
    let g1 = and_true (eqb a 5) (eqb b k) g2.0 in
    let x = opt_bind (refs_of n m bs) _ d g.1 in
    let y = opt_bind (whole x.0) _ d x.2 in
    let r = subst (ReadRefs n m bs) (whole_back x.0 y.0 y.1) (refs_back n m bs x.0 h.1.1.1.1 x.1) in
    let z : some (node c y.0) ≡ some d = y.2 in
    let p = eqb-true a 5 g1.0 in
    let q = eqb-true b k g1.1 in
    let l : field_bytes y.0 ≡ bs = sym (append-nil (field_bytes y.0)) ∙ r.line in
    let f = leb-true m field_count g3.1 in
    subst (λ (o : Node). Back n k o (a ∷ b ∷ c ∷ m ∷ bs)) (let w : node c y.0 ≡ d = cc in w)
    (record {
      plain = record { known = leb-true c class_count g2.1; few = subst (λ (j : ℕ). j ≤ field_count) (sym r.count) f; closed = r.below };
      refs = r.ranged;
      line = λ i. sym p i ∷ sym q i ∷ c ∷ r.count i ∷ l i;
    })

pub objects_back : (n k : ℕ) (ls : List (List ℕ)) (ns : List Node) → Lines ls → objects_from n k ls ≡ some ns
    → AllIn Plain ns × AllIn (λ d. RefsIn n d.refs) ns × (object_lines k ns ≡ ls)
unfolding objects_from
objects_back n k [] ns h e = subst (λ (x : List Node). AllIn Plain x × AllIn (λ d. RefsIn n d.refs) x × (object_lines k x ≡ [])) (let w : [] ≡ ns = cc in w) (tt, tt, refl)
objects_back n k (l ∷ ls) ns w e =
    let a = opt_bind (object_of n k l) _ ns e in
    let b = opt_bind (objects_from n (suc k) ls) _ ns a.2 in
    let h = object_back n k l a.0 w.2 a.1 in
    let hs = objects_back n (suc k) ls b.0 w.3 b.1 in
    let y : some (a.0 ∷ b.0) ≡ some ns = b.2 in
    subst (λ (x : List Node). AllIn Plain x × AllIn (λ d. RefsIn n d.refs) x × (object_lines k x ≡ l ∷ ls)) (let z : a.0 ∷ b.0 ≡ ns = cc in z)
    ((h.plain, hs.0), (h.refs, hs.1), ap₂ {C = List (List ℕ)} ◌∷◌ h.line hs.2)

module _ (objects : ℕ) where
  objects_value_lem : (ls : List (List ℕ)) (v : Graph) → Lines ls → objects_value objects ls ≡ some v → Reportable objects v × (value_lines v ≡ ls)
  unfolding objects_good
  objects_value_lem ls v h e =
      let a = opt_bind (objects_from (length ls) 0 ls) _ v e in
      let g = guard-bind (objects_good objects a.0) (λ _. some (graph (obj 0) a.0)) v a.2 in
      let b = objects_back (length ls) 0 ls a.0 h a.1 in
      let ns = a.0 in
      let g4 = and_true _ (in_order ns) g.0 in
      let g3 = and_true _ (no_two_equal ns) g4.0 in
      let g2 = and_true _ (one_count ns) g3.0 in
      let g1 = and_true (leb 1 (length ns)) (leb (length ns) objects) g2.0 in
      let n : length ls ≡ length ns = sym (ap length b.2) ∙ length-lines 0 ns in
      let l = leb-true 1 (length ns) g1.0 in
      let w : Whole (graph (obj 0) ns) = record { top = l; inner = in_nodes (length ns) ns (subst (λ (k : ℕ). AllIn (λ d. RefsIn k d.refs) ns) n b.1) } in
      let y : some (graph (obj 0) ns) ≡ some v = g.1 in
      subst (λ (x : Graph). Reportable objects x × (value_lines x ≡ ls)) (let z : graph (obj 0) ns ≡ v = cc in z) (
        record {
          whole = w;
          own = numbered_canonical ns l w g3.1 g4.1;
          small = leb-true (length ns) objects g1.1;
          root = tt;
          nodes = b.0;
          counts = g2.1;
        },
        b.2,
      )

  reportable_leaf : (l : Leaf) → LeafBelow 0 l → Reportable objects (leaf_of l)
  unfolding canon one_count
  reportable_leaf l h =
      record { whole = record { top = tt; inner = λ i f r e. absurd (none-ne-some r e) }; own = refl; small = zero-le; root = h; nodes = tt; counts = refl }

  -- a line that tells a leaf is the leaf's line
  leaf_back : (l : List ℕ) (x : Leaf) → Bytes l → leaf_in l ≡ some x → LeafBelow 0 x × (leaf_line x ≡ l)
  leaf_back [] x h e = absurd (none-ne-some x e)
  leaf_back (a ∷ []) x h e =
      let g = guard-bind (eqb a 6) _ x e in
      subst (λ (y : Leaf). LeafBelow 0 y × (leaf_line y ≡ a ∷ [])) (let z : some undet ≡ some x = g.1 in let w : undet ≡ x = cc in w)
      (tt, ap (λ (b : ℕ). b ∷ []) (sym (eqb-true a 6 g.0)))
  leaf_back (a ∷ b ∷ []) x h e = absurd (none-ne-some x e)
  leaf_back (a ∷ b ∷ c ∷ []) x h e =
      let g = guard-bind (eqb a 9) _ x e in
      let p = h.1.0 in
      let q = h.1.1.0 in
      let nine = sym (eqb-true a 9 g.0) in
      let high : (256 * b + c) / 256 ≡ b = omega arith in
      let low : (256 * b + c) % 256 ≡ c = omega arith in
      subst (λ (y : Leaf). LeafBelow 0 y × (leaf_line y ≡ a ∷ b ∷ c ∷ [])) (let z : some (num (256 * b + c)) ≡ some x = g.1 in let w : num (256 * b + c) ≡ x = cc in w)
      (omega arith, λ i. nine i ∷ high i ∷ low i ∷ [])
  leaf_back (a ∷ b ∷ c ∷ d ∷ bs) x h e = absurd (none-ne-some x e)

  pub lines_back : (ls : List (List ℕ)) (v : Graph) → Lines ls → lines_value objects ls ≡ some v → Reportable objects v × (value_lines v ≡ ls)
  lines_back [] v h e = absurd (none-ne-some v e)
  lines_back (l ∷ []) v h e = go (leaf_in l) refl e
    where
      go : (o : Option Leaf) → leaf_in l ≡ o → ◌≡◌ {A = Option Graph} (elim o [ some x ↦ some (leaf_of x) | none ↦ objects_value objects (l ∷ []) ]) (some v)
          → Reportable objects v × (value_lines v ≡ l ∷ [])
      go (some x) p z =
          let b = leaf_back l x h.2 p in
          subst (λ (g : Graph). Reportable objects g × (value_lines g ≡ l ∷ [])) (let w : leaf_of x ≡ v = cc in w) (reportable_leaf x b.0, ap (λ (y : List ℕ). y ∷ []) b.1)
      go none p z = objects_value_lem (l ∷ []) v h z
  lines_back (l ∷ m ∷ ls) v h e = objects_value_lem (l ∷ m ∷ ls) v h e
