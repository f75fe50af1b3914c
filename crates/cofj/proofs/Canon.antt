-- (a) A graph's value unfolds to the graph's tree, and is whole.
use Prim.Native.Nat.{ℕ, zero, suc, ◌≤◌, ◌<◌, zero-le, suc-le-suc}
use native.Mathlib.Nat.{not-suc-le-zero, le_of_suc-le-suc}
use native.Mathlib.Omega.{arith}
use mathlib.Core.Path.{◌≡◌, refl, sym, ap, ap₂, ◌∙◌, subst}
use mathlib.Core.Bool.{Bool, true, false, false≢true}
use mathlib.Core.List.{List, [], ◌∷◌, map}
use mathlib.Core.Option.{Option, none, some, none-ne-some}
use lib.Dec.{eqb, ltb}
use lib.ListN.{length, get_or, get_elem?, length-map, get_or-eq_default}
use borrow.Author.Tests.{eqb-true, eq-eqb, ltb-true, ltb-false}
use Rattle.cofj.specs.Partial.{◌>>=◌}
use Rattle.cofj.specs.Values.{Ref, obj, leaf, Node, node, Graph, graph, rename, rename_node, node_at, refs_at, is_in, place_in, canon}
use Rattle.cofj.specs.Unfolding.{child, follow, SameTree, InRange, Whole}
use Rattle.cofj.proofs.Basics.{at_map, get_d_map_lt}
use Rattle.cofj.proofs.Trees.{renamed_same}
use Rattle.cofj.proofs.Colours.{colour, colour_first, colour_look}
use Rattle.cofj.proofs.Walk.{Covered, order, order_root, order_kept, order_closed, order_length}

pub place_in_spec : (c : ℕ) (s : List ℕ) → is_in c s ≡ true → (place_in c s < length s) × (get_or s (place_in c s) 0 ≡ c)
unfolding is_in place_in
place_in_spec c [] h = absurd (false≢true h)
place_in_spec c (d ∷ s) h = go (eqb c d) refl h (place_in_spec c s)
  where
    go : (b : Bool) → eqb c d ≡ b → (elim b as (λ _. Bool) [ true ↦ true | false ↦ is_in c s ]) ≡ true
        → (is_in c s ≡ true → (place_in c s < length s) × (get_or s (place_in c s) 0 ≡ c))
        → ((elim b as (λ _. ℕ) [ true ↦ 0 | false ↦ suc (place_in c s) ]) < suc (length s))
        × (get_or (d ∷ s) (elim b as (λ _. ℕ) [ true ↦ 0 | false ↦ suc (place_in c s) ]) 0 ≡ c)
    go true e h' ih = (suc-le-suc zero-le, sym (eqb-true c d e))
    go false e h' ih = let p = ih h' in (suc-le-suc p.0, p.1)

pub get_d_is_in : (s : List ℕ) (i : ℕ) → i < length s → is_in (get_or s i 0) s ≡ true
unfolding is_in
get_d_is_in [] i h = absurd (not-suc-le-zero h)
get_d_is_in (d ∷ s) zero h = rw (eq-eqb d d refl, is_in)
get_d_is_in (d ∷ s) (suc i) h = go (eqb (get_or s i 0) d) (get_d_is_in s i (le_of_suc-le-suc h))
  where
    go : (b : Bool) → is_in (get_or s i 0) s ≡ true → (elim b as (λ _. Bool) [ true ↦ true | false ↦ is_in (get_or s i 0) s ]) ≡ true
    go true ih = refl
    go false ih = ih

-- ---- renamings
pub rename_id : (r : Ref) → rename (λ i. i) r ≡ r
rename_id (obj i) = refl
rename_id (leaf k) = refl

rename-rename : (f h : ℕ → ℕ) (r : Ref) → rename h (rename f r) ≡ rename (λ i. h (f i)) r
rename-rename f h (obj i) = refl
rename-rename f h (leaf k) = refl

map_rename_id : (rs : List Ref) → map (rename (λ i. i)) rs ≡ rs
map_rename_id [] = refl
map_rename_id (r ∷ rs) = ap₂ {C = List Ref} ◌∷◌ (rename_id r) (map_rename_id rs)

map_rename_rename : (f h : ℕ → ℕ) (rs : List Ref) → map (rename h) (map (rename f) rs) ≡ map (rename (λ i. h (f i))) rs
map_rename_rename f h [] = refl
map_rename_rename f h (r ∷ rs) = ap₂ {C = List Ref} ◌∷◌ (rename-rename f h r) (map_rename_rename f h rs)

pub node_id : (n : Node) → rename_node (λ i. i) n ≡ n
node_id n = λ i. node n.cls (map_rename_id n.refs i)

node-node : (f h : ℕ → ℕ) (n : Node) → rename_node h (rename_node f n) ≡ rename_node (λ i. h (f i)) n
node-node f h n = ap (node n.cls) (map_rename_rename f h n.refs)

module _ (g : Graph) (w : Whole g) where
  -- the number that object i gets
  abbrev pub number : ℕ → ℕ
  number i = place_in (colour g w i) (order g w)

  abbrev pub listed : List Node
  listed = map (λ c. rename_node number (node_at g.nodes c)) (order g w)

  pub canon_is : canon g ≡ graph (rename number g.root) listed
  unfolding canon
  canon_is = refl

  -- objects that look the same under their colours do so under their numbers
  number_look : (i j : ℕ) → i < length g.nodes → j < length g.nodes → colour g w i ≡ colour g w j
      → rename_node number (node_at g.nodes i) ≡ rename_node number (node_at g.nodes j)
  number_look i j h h' e =
      let p : ℕ → ℕ = λ c. place_in c (order g w) in
      sym (node-node (colour g w) p (node_at g.nodes i)) ∙ ap (rename_node p) (colour_look g w i j h h' e) ∙ node-node (colour g w) p (node_at g.nodes j)

  covered_colour : (r s : Ref) → rename (colour g w) r ≡ rename (colour g w) s → Covered g w (order g w) r → Covered g w (order g w) s
  covered_colour (obj i) (obj j) e p = subst (λ (c : ℕ). is_in c (order g w) ≡ true) (let z : colour g w i ≡ colour g w j = cc in z) p
  covered_colour (obj i) (leaf k) e p = tt
  covered_colour (leaf k) (obj j) e p = let z : ◌≡◌ {A = ℕ} 0 1 = cc in absurd (omega arith)
  covered_colour (leaf k) (leaf l) e p = tt

  abbrev pub Met : Ref → Type 0
  Met r = Covered g w (order g w) r × InRange (length g.nodes) r

  -- the fields of an object that is met are met
  met_child : (r : Ref) → Met r → (k : ℕ) (r' : Ref) → child g.nodes r k ≡ some r' → Met r'
  met_child (leaf l) p k r' e = absurd (none-ne-some r' e)
  met_child (obj i) p k r' e = (go (get_elem? (refs_at g.nodes (colour g w i)) k) refl, w.inner i k r' e)
    where
      c : ℕ
      c = colour g w i

      -- field k of the first object of that colour, coloured
      f : get_elem? (refs_at g.nodes c) k >>= (λ x. some (rename (colour g w) x)) ≡ some (rename (colour g w) r')
      f = sym (at_map (rename (colour g w)) (refs_at g.nodes c) k)
          ∙ ap (λ (n : Node). get_elem? n.refs k)
          (colour_look g w c i (order_kept g w c p.0).0 p.1 (colour_first g w i p.1))
          ∙ at_map (rename (colour g w)) (refs_at g.nodes i) k
          ∙ ap (λ (o : Option Ref). o >>= (λ x. some (rename (colour g w) x))) e

      go : (o : Option Ref) → get_elem? (refs_at g.nodes c) k ≡ o → Covered g w (order g w) r'
      go none q = absurd (none-ne-some (rename (colour g w) r') (sym (ap (λ (o : Option Ref). o >>= (λ x. some (rename (colour g w) x))) q) ∙ f))
      go (some s) q =
          let z : some (rename (colour g w) s) ≡ some (rename (colour g w) r') = sym (ap (λ (o : Option Ref). o >>= (λ x. some (rename (colour g w) x))) q) ∙ f in
          covered_colour s r' (cc) (order_closed g w c p.0 k s q)

  -- what stands at an object's number
  at_number : (i : ℕ) → Met (obj i) → node_at listed (number i) ≡ rename_node number (node_at g.nodes i)
  at_number i p =
      let s = place_in_spec (colour g w i) (order g w) p.0 in
      get_d_map_lt (λ c. rename_node number (node_at g.nodes c)) (order g w) (number i) (node 0 []) 0 s.0
      ∙ ap (λ (c : ℕ). rename_node number (node_at g.nodes c)) s.1
      ∙ number_look (colour g w i) i (order_kept g w (colour g w i) p.0).0 p.1 (colour_first g w i p.1)

  -- an object that is met unfolds as the one listed for it
  pub met_same : (path : List ℕ) (r : Ref) → Met r → follow g.nodes r path ≡ follow listed (rename number r) path
  met_same path r m =
      renamed_same g.nodes listed number (λ i. i) Met (λ _. Unit {0}) met_child (λ _ _ _ _ _. tt)
      (λ i j p q e. sym (node_id (rename_node number (node_at g.nodes i))) ∙ ap (rename_node (λ k. k)) (sym (at_number i p) ∙ ap (node_at listed) e))
      path r (rename number r) m tt (sym (rename_id (rename number r)))

  -- the value unfolds to the graph's tree
  pub canon_same : SameTree (canon g) g
  unfolding canon
  canon_same path = sym (met_same path g.root (order_root g w, w.top))

  in_listed : (r : Ref) → Covered g w (order g w) r → InRange (length listed) (rename number r)
  in_listed (obj i) p = subst (λ (n : ℕ). number i < n) (sym (length-map (order g w) _)) (place_in_spec (colour g w i) (order g w) p).0
  in_listed (leaf k) p = tt

  listed_inner : (i f : ℕ) (r : Ref) → get_elem? (refs_at listed i) f ≡ some r → InRange (length listed) r
  listed_inner i f r e = go (ltb i (length (order g w))) refl
    where
      c : ℕ
      c = get_or (order g w) i 0

      inside : (o : Option Ref) → get_elem? (refs_at g.nodes c) f ≡ o → is_in c (order g w) ≡ true
          → o >>= (λ x. some (rename number x)) ≡ some r → InRange (length listed) r
      inside none q m z = absurd (none-ne-some r z)
      inside (some s) q m z = subst (InRange (length listed)) (let y : rename number s ≡ r = cc in y) (in_listed s (order_closed g w c m f s q))

      go : (b : Bool) → ltb i (length (order g w)) ≡ b → InRange (length listed) r
      go true h =
          let l = ltb-true i (length (order g w)) h in
          inside (get_elem? (refs_at g.nodes c) f) refl (get_d_is_in (order g w) i l)
          (sym (at_map (rename number) (refs_at g.nodes c) f)
          ∙ sym (ap (λ (n : Node). get_elem? n.refs f) (get_d_map_lt (λ d. rename_node number (node_at g.nodes d)) (order g w) i (node 0 []) 0 l))
          ∙ e)
      go false h =
          let l = ltb-false i (length (order g w)) h in
          let d : node_at listed i ≡ node 0 [] = get_or-eq_default listed (node 0 []) (subst (λ (n : ℕ). n ≤ i) (sym (length-map (order g w) _)) l) in
          absurd (none-ne-some r (sym (ap (λ (n : Node). get_elem? n.refs f) d) ∙ e))

  pub canon-whole : Whole (canon g)
  unfolding canon
  canon-whole = record { top = in_listed g.root (order_root g w); inner = listed_inner }

  -- the value has no more objects than the graph
  pub canon-length : length (canon g).nodes ≤ length g.nodes
  unfolding canon
  canon-length = omega (arith, length-map (order g w) (λ c. rename_node number (node_at g.nodes c)), order_length g w)
