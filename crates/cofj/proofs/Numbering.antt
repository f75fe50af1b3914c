-- A graph with an object for its root is canonical exactly when no two of its objects are equal and they are numbered in the order
-- first met: what document 01 asks of a report. Not here: the report's bytes (Reports).
use Prim.Native.Nat.{ℕ, zero, suc, ◌+◌, ◌≤◌, ◌<◌, zero-le, suc-le-suc}
use native.Mathlib.Nat.{not-suc-le-zero, le_of_suc-le-suc}
use native.Mathlib.Omega.{arith}
use mathlib.Core.Path.{◌≡◌, refl, sym, ap, ap₂, ◌∙◌, subst}
use mathlib.Core.Bool.{Bool, true, false}
use mathlib.Core.List.{List, [], ◌∷◌, ◌++◌, map}
use mathlib.Core.Option.{some}
use lib.Dec.{eqb}
use lib.ListN.{length, get_or, get_elem?, length-map}
use borrow.Author.Tests.{eq-eqb, ne_eqb}
use Rattle.cofj.specs.Values.{Ref, obj, leaf, Node, node, Graph, graph, rename, rename_node, node_at, refs_at, colour_of, colours, is_in, place_in, visit, visit_all, canon_by, canon, eq_nats}
use Rattle.cofj.specs.Unfolding.{follow, Same, InRange, Whole}
use Rattle.cofj.specs.ReportForm.{up_from, no_two_equal, in_order}
use Rattle.cofj.proofs.Basics.{eq_nats_true, true_both}
use Rattle.cofj.proofs.Colours.{colour, colour_full, colour_size}
use Rattle.cofj.proofs.Walk.{order, order_kept, order_full}
use Rattle.cofj.proofs.Canon.{place_in_spec, number, listed, canon_is, met_same}

-- ---- 0, 1, .. n - 1
length-up_from : (k n : ℕ) → length (up_from k n) ≡ n
unfolding up_from
length-up_from k zero = refl
length-up_from k (suc n) = ap suc (length-up_from (suc k) n)

pub at_up_from : (k n i : ℕ) → i < n → get_or (up_from k n) i 0 ≡ k + i
unfolding up_from
at_up_from k zero i l = absurd (not-suc-le-zero l)
at_up_from k (suc n) zero l = omega arith
at_up_from k (suc n) (suc i) l = at_up_from (suc k) n i (le_of_suc-le-suc l) ∙ omega arith

-- a list that has k + i at each place i
is_up_from : (k : ℕ) (l : List ℕ) → ((i : ℕ) → i < length l → get_or l i 0 ≡ k + i) → l ≡ up_from k (length l)
unfolding up_from
is_up_from k [] h = refl
is_up_from k (x ∷ xs) h =
    ap₂ {C = List ℕ} ◌∷◌ (h 0 (suc-le-suc zero-le) ∙ omega arith)
    (is_up_from (suc k) xs (λ i l. h (suc i) (suc-le-suc l) ∙ omega arith))

place_up_from : (k n i : ℕ) → i < n → place_in (k + i) (up_from k n) ≡ i
unfolding up_from place_in
place_up_from k zero i l = absurd (not-suc-le-zero l)
place_up_from k (suc n) zero l = rw (eq-eqb (k + 0) k (omega arith), place_in)
place_up_from k (suc n) (suc i) l =
    rw (ne_eqb (k + suc i) k (λ e. omega arith), place_in)
    (ap suc (ap (λ (m : ℕ). place_in m (up_from (suc k) n)) (let z : k + suc i ≡ suc k + i = omega arith in z) ∙ place_up_from (suc k) n i (le_of_suc-le-suc l)))

eq_nats_refl : (l : List ℕ) → eq_nats l l ≡ true
unfolding eq_nats
eq_nats_refl [] = refl
eq_nats_refl (x ∷ xs) = true_both (eqb x x) (eq_nats xs xs) (eq-eqb x x refl) (eq_nats_refl xs)

eq_nats_same : (l m : List ℕ) → l ≡ m → eq_nats l m ≡ true
eq_nats_same l m e = ap (eq_nats l) (sym e) ∙ eq_nats_refl l

-- ---- the walk keeps what it met first
all_head : (f : Ref → List ℕ → List ℕ) → ((r : Ref) (x : ℕ) (s : List ℕ) → (t : List ℕ) × (f r (x ∷ s) ≡ x ∷ t))
    → (rs : List Ref) (x : ℕ) (s : List ℕ) → (t : List ℕ) × (visit_all f rs (x ∷ s) ≡ x ∷ t)
unfolding visit_all
all_head f h [] x s = (s, refl)
all_head f h (r ∷ rs) x s = let a = h r x s in let b = all_head f h rs x a.0 in (b.0, ap (visit_all f rs) a.1 ∙ b.1)

visit_head : (ns : List Node) (cs : List ℕ) (k : ℕ) (r : Ref) (x : ℕ) (s : List ℕ) → (t : List ℕ) × (visit ns cs k r (x ∷ s) ≡ x ∷ t)
unfolding visit
visit_head ns cs zero r x s = (s, refl)
visit_head ns cs (suc k) (leaf y) x s = (s, refl)
visit_head ns cs (suc k) (obj i) x s =
    go (is_in (colour_of cs i) (x ∷ s)) (all_head (λ r t. visit ns cs k r t) (λ r y t. visit_head ns cs k r y t) (refs_at ns (colour_of cs i)) x (s ++ (colour_of cs i ∷ [])))
  where
    go : (b : Bool) → (t : List ℕ) × (visit_all (λ r t'. visit ns cs k r t') (refs_at ns (colour_of cs i)) (x ∷ (s ++ (colour_of cs i ∷ []))) ≡ x ∷ t)
        → (t : List ℕ) × ((elim b as (λ _. List ℕ) [ true ↦ x ∷ s | false ↦ visit_all (λ r t'. visit ns cs k r t') (refs_at ns (colour_of cs i)) (x ∷ (s ++ (colour_of cs i ∷ []))) ]) ≡ x ∷ t)
    go true h = (s, refl)
    go false h = h

-- it begins with the root's colour
visit_root : (ns : List Node) (cs : List ℕ) (k i : ℕ) → get_or (visit ns cs (suc k) (obj i) []) 0 0 ≡ colour_of cs i
unfolding visit is_in
visit_root ns cs k i =
    let h = all_head (λ r t. visit ns cs k r t) (λ r y t. visit_head ns cs k r y t) (refs_at ns (colour_of cs i)) (colour_of cs i) [] in
    ap (λ (l : List ℕ). get_or l 0 0) h.1

-- ---- from canonical to numbered
module _ (g : Graph) (w : Whole g) (own : canon g ≡ g) where
  nodes_listed : listed g w ≡ g.nodes
  nodes_listed = ap (λ (h : Graph). h.nodes) (sym (canon_is g w) ∙ own)

  order_size : length (order g w) ≡ length g.nodes
  order_size = sym (length-map (order g w) (λ c. rename_node (number g w) (node_at g.nodes c))) ∙ ap length nodes_listed

  -- every object is met, and is the first of its colour
  met : (c : ℕ) → c < length g.nodes → (is_in c (order g w) ≡ true) × (colour g w c ≡ c)
  met c l = let m = order_full g w order_size c l in (m, (order_kept g w c m).1)

  -- so it has the number that it had
  number_own : (c : ℕ) → c < length g.nodes → number g w c ≡ c
  number_own c l =
      let m = met c l in
      let q = place_in_spec (colour g w c) (order g w) (subst (λ (k : ℕ). is_in k (order g w) ≡ true) (sym m.1) m.0) in
      let j : number g w c < length g.nodes = subst (λ (k : ℕ). number g w c < k) order_size q.0 in
      let s : Same g.nodes (obj c) g.nodes (obj (number g w c)) = λ p.
      met_same g w p (obj c) (subst (λ (k : ℕ). is_in k (order g w) ≡ true) (sym m.1) m.0, l)
      ∙ ap (λ (ns : List Node). follow ns (obj (number g w c)) p) nodes_listed in
      sym (met (number g w c) j).1 ∙ sym (colour_full g w c (number g w c) l j s) ∙ m.1

  order_own : order g w ≡ up_from 0 (length g.nodes)
  order_own =
      is_up_from 0 (order g w) (λ i l.
      let l' : i < length g.nodes = subst (λ (k : ℕ). i < k) order_size l in
      let m = met i l' in
      let q = place_in_spec (colour g w i) (order g w) (subst (λ (k : ℕ). is_in k (order g w) ≡ true) (sym m.1) m.0) in
      ap (λ (k : ℕ). get_or (order g w) k 0) (sym (number_own i l')) ∙ q.1 ∙ m.1 ∙ omega arith)
      ∙ ap (up_from 0) order_size

  colours_own : colours g.nodes ≡ up_from 0 (length g.nodes)
  colours_own =
      is_up_from 0 (colours g.nodes) (λ i l. (met i (subst (λ (k : ℕ). i < k) (colour_size g w) l)).1 ∙ omega arith)
      ∙ ap (up_from 0) (colour_size g w)

  pub canonical_distinct : no_two_equal g.nodes ≡ true
  canonical_distinct = eq_nats_same (colours g.nodes) (up_from 0 (length g.nodes)) colours_own

  -- the root is object 0
  pub canonical_root : (i : ℕ) → g.root ≡ obj i → i ≡ 0
  canonical_root i e =
      let l : i < length g.nodes = subst (InRange (length g.nodes)) e w.top in
      let a : get_or (order g w) 0 0 ≡ colour g w i = ap (λ (r : Ref). get_or (visit g.nodes (colours g.nodes) (suc (length g.nodes)) r []) 0 0) e ∙ visit_root g.nodes (colours g.nodes) (length g.nodes) i in
      sym (met i l).1 ∙ sym a ∙ ap (λ (o : List ℕ). get_or o 0 0) order_own ∙ at_up_from 0 (length g.nodes) 0 (omega arith)

  pub canonical_order : (i : ℕ) → g.root ≡ obj i → in_order g.nodes ≡ true
  canonical_order i e =
      eq_nats_same _ (up_from 0 (length g.nodes))
      (ap (λ (cs : List ℕ). visit g.nodes cs (suc (length g.nodes)) (obj 0) []) (sym colours_own)
      ∙ ap (λ (r : Ref). visit g.nodes (colours g.nodes) (suc (length g.nodes)) r []) (ap obj (sym (canonical_root i e)) ∙ sym e)
      ∙ order_own)

  -- a root that is no object leads to none
  pub canonical_empty : ((i : ℕ) → g.root ≡ obj i → ⊥) → g.nodes ≡ []
  unfolding visit
  canonical_empty no_object = sym nodes_listed ∙ ap (map (λ c. rename_node (number g w) (node_at g.nodes c))) (go g.root refl)
    where
      go : (r : Ref) → g.root ≡ r → order g w ≡ []
      go (obj i) e = absurd (no_object i e)
      go (leaf x) e = ap (λ (r : Ref). visit g.nodes (colours g.nodes) (suc (length g.nodes)) r []) e

-- ---- from numbered to canonical
rename_own : (n : ℕ) (f : ℕ → ℕ) → ((i : ℕ) → i < n → f i ≡ i) → (r : Ref) → InRange n r → rename f r ≡ r
rename_own n f h (obj i) l = ap obj (h i l)
rename_own n f h (leaf x) l = refl

refs_own : (n : ℕ) (f : ℕ → ℕ) → ((i : ℕ) → i < n → f i ≡ i) → (rs : List Ref) → ((k : ℕ) (r : Ref) → get_elem? rs k ≡ some r → InRange n r) → map (rename f) rs ≡ rs
refs_own n f h [] w = refl
refs_own n f h (r ∷ rs) w = ap₂ {C = List Ref} ◌∷◌ (rename_own n f h r (w 0 r refl)) (refs_own n f h rs (λ k s e. w (suc k) s e))

-- the nodes of a list in order are the list
nodes_own : (h : Node → Node) (ns : List Node) → ((i : ℕ) → i < length ns → h (node_at ns i) ≡ node_at ns i) → (k : ℕ) (all : List Node)
    → ((i : ℕ) → node_at all (k + i) ≡ node_at ns i) → map (λ c. h (node_at all c)) (up_from k (length ns)) ≡ ns
unfolding up_from
nodes_own h [] e k all a = refl
nodes_own h (n ∷ ns) e k all a =
    ap₂ {C = List Node} ◌∷◌ (ap h (ap (node_at all) (let z : k ≡ k + 0 = omega arith in z) ∙ a 0) ∙ e 0 (suc-le-suc zero-le))
    (nodes_own h ns (λ i l. e (suc i) (suc-le-suc l)) (suc k) all (λ i. ap (node_at all) (let z : suc k + i ≡ k + suc i = omega arith in z) ∙ a (suc i)))

pub numbered_canonical : (ns : List Node) → 1 ≤ length ns → Whole (graph (obj 0) ns) → no_two_equal ns ≡ true → in_order ns ≡ true → canon (graph (obj 0) ns) ≡ graph (obj 0) ns
unfolding canon canon_by
numbered_canonical ns l w p q =
    let a = eq_nats_true (colours ns) (up_from 0 (length ns)) p in
    let b = eq_nats_true (visit ns (up_from 0 (length ns)) (suc (length ns)) (obj 0) []) (up_from 0 (length ns)) q in
    let own : (i : ℕ) → i < length ns → place_in (colour_of (up_from 0 (length ns)) i) (up_from 0 (length ns)) ≡ i = λ i h.
    ap (λ (k : ℕ). place_in k (up_from 0 (length ns))) (at_up_from 0 (length ns) i h) ∙ place_up_from 0 (length ns) i h in
    ap (λ (cs : List ℕ). canon_by ns cs (obj 0) (visit ns cs (suc (length ns)) (obj 0) [])) a
    ∙ ap (canon_by ns (up_from 0 (length ns)) (obj 0)) b
    ∙ ap₂ graph (ap obj (own 0 l))
    (nodes_own (rename_node (λ i. place_in (colour_of (up_from 0 (length ns)) i) (up_from 0 (length ns)))) ns
    (λ i h. ap (node (node_at ns i).cls) (refs_own (length ns) _ own (refs_at ns i) (w.inner i))) 0 ns (λ i. ap (node_at ns) (let z : 0 + i ≡ i = omega arith in z)))
