-- What the operations on values unfold to.
use Prim.Native.Nat.{ℕ, zero, suc, ◌+◌, ◌≤◌, ◌<◌, zero-le, suc-le-suc}
use native.Mathlib.Omega.{arith}
use mathlib.Core.Path.{◌≡◌, refl, sym, ap, ap₂, ◌∙◌, subst}
use mathlib.Core.Bool.{Bool, true, false}
use mathlib.Core.List.{List, [], ◌∷◌, ◌++◌, map, append_assoc}
use mathlib.Core.Option.{Option, none, some, none-ne-some}
use lib.Dec.{eqb}
use lib.ListN.{length, get_elem?, length-map, length-append, get_or-append, get_or-map}
use lib.Seq.{get_or-append-add}
use Rattle.cofj.specs.Partial.{◌>>=◌}
use Rattle.cofj.specs.Values.{Ref, obj, leaf, Leaf, mark, undet, num, Node, node, Graph, graph, rename, rename_node, node_at, refs_at, canon, select, selected, close, bind_leaf, bind, make, lay}
use Rattle.cofj.specs.Unfolding.{object, label_at, child, follow, follow_bound, InRange, Whole, AllWhole}
use Rattle.cofj.proofs.Basics.{at_map}
use Rattle.cofj.proofs.Trees.{renamed_same}
use Rattle.cofj.proofs.Canon.{canon_same, canon-whole, rename_id, node_id}

-- ---- field f of a value
pub at_ref : (g : Graph) (w : Whole g) (r : Ref) → InRange (length g.nodes) r → Whole (graph r g.nodes)
at_ref g w r h = record { top = h; inner = w.inner }

pub select_tree : (g : Graph) → Whole g → (f : ℕ) (v : Graph) → select f g ≡ some v → (p : List ℕ) → follow v.nodes v.root p ≡ follow g.nodes g.root (f ∷ p)
unfolding select
select_tree g w f v e p = go g.root e
  where
    found : (o : Option Ref) (i : ℕ) → get_elem? (refs_at g.nodes i) f ≡ o → selected g.nodes o ≡ some v
        → follow v.nodes v.root p ≡ o >>= (λ s. follow g.nodes s p)
    found none i q z = absurd (none-ne-some v z)
    found (some s) i q z =
        let y : canon (graph s g.nodes) ≡ v = cc in
        sym (ap (λ (k : Graph). follow k.nodes k.root p) y) ∙ canon_same (graph s g.nodes) (at_ref g w s (w.inner i f s q)) p

    go : (r : Ref) → (elim r as (λ _. Option Graph) [ obj i ↦ selected g.nodes (get_elem? (refs_at g.nodes i) f) | leaf l ↦ none ]) ≡ some v
        → follow v.nodes v.root p ≡ follow g.nodes r (f ∷ p)
    go (obj i) z = found (get_elem? (refs_at g.nodes i) f) i refl z
    go (leaf k) z = absurd (none-ne-some v z)

-- ---- X = u: a mark x met on the way or at the end stands for u
abbrev pub bound_node : ℕ → ℕ → Node → Node
bound_node x i n = node n.cls (map (bind x (obj i)) n.refs)

abbrev pub bound_nodes : ℕ → ℕ → List Node → List Node
bound_nodes x i ns = map (bound_node x i) ns

bound_at : (x i : ℕ) (ns : List Node) (j : ℕ) → node_at (bound_nodes x i ns) j ≡ bound_node x i (node_at ns j)
bound_at x i ns j = get_or-map (bound_node x i) ns j (node 0 [])

-- a reference that is bound already: an object, or a leaf that is not the mark
bound_label : (x i : ℕ) (ns : List Node) (r : Ref) → label_at (bound_nodes x i ns) r ≡ label_at ns r
bound_label x i ns (obj j) =
    ap₂ object (ap (λ (n : Node). n.cls) (bound_at x i ns j))
    (ap (λ (n : Node). length n.refs) (bound_at x i ns j) ∙ length-map (refs_at ns j) (bind x (obj i)))
bound_label x i ns (leaf k) = refl

bound_child : (x i : ℕ) (ns : List Node) (r : Ref) (f : ℕ) → child (bound_nodes x i ns) r f ≡ child ns r f >>= (λ s. some (bind x (obj i) s))
bound_child x i ns (obj j) f = ap (λ (n : Node). get_elem? n.refs f) (bound_at x i ns j) ∙ at_map (bind x (obj i)) (refs_at ns j) f
bound_child x i ns (leaf k) f = refl

pub bound_follow : (x i : ℕ) (ns : List Node) (p : List ℕ) (r : Ref) → follow (bound_nodes x i ns) (bind x (obj i) r) p ≡ follow_bound x (obj i) ns r p
bound_follow x i ns [] r = ap some (bound_label x i ns (bind x (obj i) r))
bound_follow x i ns (f ∷ p) r =
    ap (λ (o : Option Ref). o >>= λ s. follow (bound_nodes x i ns) s p) (bound_child x i ns (bind x (obj i) r) f)
    ∙ go (child ns (bind x (obj i) r) f) (bound_follow x i ns p)
  where
    go : (o : Option Ref) → ((s : Ref) → follow (bound_nodes x i ns) (bind x (obj i) s) p ≡ follow_bound x (obj i) ns s p)
        → (o >>= λ s. some (bind x (obj i) s)) >>= (λ s. follow (bound_nodes x i ns) s p) ≡ o >>= (λ s. follow_bound x (obj i) ns s p)
    go none ih = refl
    go (some s) ih = ih s

leaf_bound : (n x i : ℕ) → i < n → (l : Leaf) → InRange n (bind_leaf x (obj i) l)
leaf_bound n x i h (mark k) = go (eqb k x)
  where
    go : (b : Bool) → InRange n (elim b as (λ _. Ref) [ true ↦ obj i | false ↦ leaf (mark k) ])
    go true = h
    go false = tt
leaf_bound n x i h undet = tt
leaf_bound n x i h (num k) = tt

in_bound : (n x i : ℕ) → i < n → (s : Ref) → InRange n s → InRange n (bind x (obj i) s)
in_bound n x i h (obj j) p = p
in_bound n x i h (leaf l) p = leaf_bound n x i h l

pub bound_whole : (g : Graph) → Whole g → (x i : ℕ) → i < length g.nodes → Whole (graph (obj i) (bound_nodes x i g.nodes))
bound_whole g w x i h =
    record {
      top = subst (λ (n : ℕ). i < n) (sym (length-map g.nodes (bound_node x i))) h;
      inner = λ j f r e. subst (λ (n : ℕ). InRange n r) (sym (length-map g.nodes (bound_node x i))) (go j f r (child g.nodes (obj j) f) refl (sym (bound_child x i g.nodes (obj j) f) ∙ e));
    }
  where
    go : (j f : ℕ) (r : Ref) (o : Option Ref) → child g.nodes (obj j) f ≡ o → o >>= (λ s. some (bind x (obj i) s)) ≡ some r → InRange (length g.nodes) r
    go j f r none q z = absurd (none-ne-some r z)
    go j f r (some s) q z = subst (InRange (length g.nodes)) (let y : bind x (obj i) s ≡ r = cc in y) (in_bound (length g.nodes) x i h s (w.inner j f s q))

-- X = u unfolds to u's tree, with u's root for each mark X on the way
pub close_tree : (x i : ℕ) (ns : List Node) → Whole (graph (obj i) ns) → (p : List ℕ)
    → follow (close x (graph (obj i) ns)).nodes (close x (graph (obj i) ns)).root p ≡ follow_bound x (obj i) ns (obj i) p
unfolding close
close_tree x i ns w p =
    canon_same (graph (obj i) (bound_nodes x i ns)) (bound_whole (graph (obj i) ns) w x i w.top) p ∙ bound_follow x i ns p (obj i)

-- ---- a new object
more : (n m : ℕ) (r : Ref) → n ≤ m → InRange n r → InRange m r
more n m (obj i) h p = omega arith
more n m (leaf k) h p = tt

shift_range : (n m : ℕ) (r : Ref) → InRange m r → InRange (n + m) (rename (λ i. n + i) r)
shift_range n m (obj i) p = omega arith
shift_range n m (leaf k) p = tt

abbrev moved : ℕ → List Node → List Node
moved n ns = map (rename_node (λ i. n + i)) ns

moved_refs : (n : ℕ) (g : Graph) → Whole g → (i f : ℕ) (r : Ref) → get_elem? (refs_at (moved n g.nodes) i) f ≡ some r → InRange (n + length g.nodes) r
moved_refs n g w i f r e =
    go (get_elem? (refs_at g.nodes i) f) refl
    (sym (at_map (rename (λ k. n + k)) (refs_at g.nodes i) f) ∙ sym (ap (λ (m : Node). get_elem? m.refs f) (get_or-map (rename_node (λ k. n + k)) g.nodes i (node 0 []))) ∙ e)
  where
    go : (o : Option Ref) → get_elem? (refs_at g.nodes i) f ≡ o → o >>= (λ s. some (rename (λ k. n + k) s)) ≡ some r → InRange (n + length g.nodes) r
    go none q z = absurd (none-ne-some r z)
    go (some s) q z = subst (InRange (n + length g.nodes)) (let y : rename (λ k. n + k) s ≡ r = cc in y) (shift_range n (length g.nodes) s (w.inner i f s q))

-- every field of the node is in range
abbrev FieldsIn : ℕ → Node → Type 0
FieldsIn m n = (f : ℕ) (r : Ref) → get_elem? n.refs f ≡ some r → InRange m r

append_in : (m : ℕ) (xs ys : List Node) → ((i : ℕ) → FieldsIn m (node_at xs i)) → ((i : ℕ) → FieldsIn m (node_at ys i)) → (i : ℕ) → FieldsIn m (node_at (xs ++ ys) i)
append_in m [] ys a b i = b i
append_in m (x ∷ xs) ys a b zero = a zero
append_in m (x ∷ xs) ys a b (suc i) = append_in m xs ys (λ k. a (suc k)) b i

length_all : (n : ℕ) (g : Graph) (ys : List Node) → length (moved n g.nodes ++ ys) ≡ length g.nodes + length ys
length_all n g ys = length-append (moved n g.nodes) ys ∙ ap (λ (k : ℕ). k + length ys) (length-map g.nodes (rename_node (λ i. n + i)))

lay_in : (gs : List Graph) → AllWhole gs → (n m : ℕ) → n + length (lay n gs).all ≤ m
    → ((f : ℕ) (r : Ref) → get_elem? (lay n gs).roots f ≡ some r → InRange m r) × ((i : ℕ) → FieldsIn m (node_at (lay n gs).all i))
unfolding lay
lay_in [] w n m h = (λ f r e. absurd (none-ne-some r e), λ i f r e. absurd (none-ne-some r e))
lay_in (g ∷ gs) w n m h =
    let rest = lay (n + length g.nodes) gs in
    let le : length (moved n g.nodes ++ rest.all) ≡ length g.nodes + length rest.all = length_all n g rest.all in
    let b : n + length g.nodes ≤ m = omega arith in
    let ih = lay_in gs w.1 (n + length g.nodes) m (omega arith) in
    (heads b ih.0, append_in m (moved n g.nodes) rest.all (λ i f r e. more (n + length g.nodes) m r b (moved_refs n g w.0 i f r e)) ih.1)
  where
    heads : n + length g.nodes ≤ m → ((f : ℕ) (r : Ref) → get_elem? (lay (n + length g.nodes) gs).roots f ≡ some r → InRange m r)
        → (f : ℕ) (r : Ref) → get_elem? (rename (λ i. n + i) g.root ∷ (lay (n + length g.nodes) gs).roots) f ≡ some r → InRange m r
    heads b ih zero r e =
        subst (InRange m) (let y : rename (λ i. n + i) g.root ≡ r = cc in y)
        (more (n + length g.nodes) m (rename (λ i. n + i) g.root) b (shift_range n (length g.nodes) g.root w.0.top))
    heads b ih (suc f) r e = ih f r e

-- a graph whose nodes stand in a longer list, moved, keeps its tree
moved_same : (g : Graph) → Whole g → (pre post : List Node) (n : ℕ) → length pre ≡ n → (p : List ℕ)
    → follow (pre ++ (moved n g.nodes ++ post)) (rename (λ i. n + i) g.root) p ≡ follow g.nodes g.root p
moved_same g w pre post n e p =
    sym (renamed_same g.nodes (pre ++ (moved n g.nodes ++ post)) (λ i. n + i) (λ i. i) (InRange (length g.nodes)) (λ _. Unit {0})
    inside (λ _ _ _ _ _. tt) looks p g.root (rename (λ i. n + i) g.root) w.top tt (sym (rename_id (rename (λ i. n + i) g.root))))
  where
    inside : (r : Ref) → InRange (length g.nodes) r → (k : ℕ) (r' : Ref) → child g.nodes r k ≡ some r' → InRange (length g.nodes) r'
    inside (obj i) q k r' z = w.inner i k r' z
    inside (leaf l) q k r' z = absurd (none-ne-some r' z)

    looks : (i j : ℕ) → i < length g.nodes → Unit {0} → n + i ≡ j
        → rename_node (λ k. n + k) (node_at g.nodes i) ≡ rename_node (λ k. k) (node_at (pre ++ (moved n g.nodes ++ post)) j)
    looks i j h u z =
        sym (node_id (rename_node (λ k. n + k) (node_at g.nodes i)))
        ∙ ap (rename_node (λ k. k))
        (sym (get_or-map (rename_node (λ k. n + k)) g.nodes i (node 0 []))
        ∙ sym (get_or-append (moved n g.nodes) post (node 0 []) i (subst (λ (k : ℕ). i < k) (sym (length-map g.nodes (rename_node (λ k. n + k)))) h))
        ∙ sym (get_or-append-add pre (moved n g.nodes ++ post) i (node 0 []))
        ∙ ap (node_at (pre ++ (moved n g.nodes ++ post))) (ap (λ (k : ℕ). k + i) e ∙ z))

lay_same : (gs : List Graph) → AllWhole gs → (pre : List Node) (n : ℕ) → length pre ≡ n → (f : ℕ) (p : List ℕ)
    → get_elem? (lay n gs).roots f >>= (λ s. follow (pre ++ (lay n gs).all) s p) ≡ get_elem? gs f >>= (λ v. follow v.nodes v.root p)
unfolding lay
lay_same [] w pre n e f p = refl
lay_same (g ∷ gs) w pre n e zero p = moved_same g w.0 pre (lay (n + length g.nodes) gs).all n e p
lay_same (g ∷ gs) w pre n e (suc f) p =
    ap (λ (l : List Node). get_elem? (lay (n + length g.nodes) gs).roots f >>= (λ s. follow l s p))
    (sym (append_assoc pre (moved n g.nodes) (lay (n + length g.nodes) gs).all))
    ∙ lay_same gs w.1 (pre ++ moved n g.nodes) (n + length g.nodes)
    (length-append pre (moved n g.nodes) ∙ ap₂ ◌+◌ e (length-map g.nodes (rename_node (λ i. n + i)))) f p

pub length-roots : (gs : List Graph) (n : ℕ) → length (lay n gs).roots ≡ length gs
unfolding lay
length-roots [] n = refl
length-roots (g ∷ gs) n = ap suc (length-roots gs (n + length g.nodes))

abbrev pub laid : ℕ → List Graph → Graph
laid c gs = graph (obj 0) (node c (lay 1 gs).roots ∷ (lay 1 gs).all)

pub laid_whole : (c : ℕ) (gs : List Graph) → AllWhole gs → Whole (laid c gs)
laid_whole c gs w = record { top = suc-le-suc zero-le; inner = inner' }
  where
    a : ((f : ℕ) (r : Ref) → get_elem? (lay 1 gs).roots f ≡ some r → InRange (suc (length (lay 1 gs).all)) r) × ((i : ℕ) → FieldsIn (suc (length (lay 1 gs).all)) (node_at (lay 1 gs).all i))
    a = lay_in gs w 1 (suc (length (lay 1 gs).all)) (omega arith)

    inner' : (i f : ℕ) (r : Ref) → get_elem? (refs_at (node c (lay 1 gs).roots ∷ (lay 1 gs).all) i) f ≡ some r → InRange (suc (length (lay 1 gs).all)) r
    inner' zero f r e = a.0 f r e
    inner' (suc i) f r e = a.1 i f r e

-- a new object unfolds to its class and count, and below field f to the value of field f
pub make_top : (c : ℕ) (gs : List Graph) → AllWhole gs → follow (make c gs).nodes (make c gs).root [] ≡ some (object c (length gs))
unfolding make
make_top c gs w = canon_same (laid c gs) (laid_whole c gs w) [] ∙ ap (λ (k : ℕ). some (object c k)) (length-roots gs 1)

pub make_field : (c : ℕ) (gs : List Graph) → AllWhole gs → (f : ℕ) (p : List ℕ)
    → follow (make c gs).nodes (make c gs).root (f ∷ p) ≡ get_elem? gs f >>= (λ v. follow v.nodes v.root p)
unfolding make
make_field c gs w f p = canon_same (laid c gs) (laid_whole c gs w) (f ∷ p) ∙ lay_same gs w (node c (lay 1 gs).roots ∷ []) 1 refl f p

pub make-whole : (c : ℕ) (gs : List Graph) → AllWhole gs → Whole (make c gs)
unfolding make
make-whole c gs w = canon-whole (laid c gs) (laid_whole c gs w)
