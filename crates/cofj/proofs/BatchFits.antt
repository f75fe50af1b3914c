-- Refusals 14 and 15 of a second text by the request's words, of the parts as written: 15 is judged on the value, whose objects and the parts that
-- are reached are each other's by their trees. Not here: which texts list parts, and what is given (Batch).
use Prim.Native.Nat.{ℕ, zero, suc, ◌+◌, ◌≤◌, ◌<◌}
use native.Mathlib.Omega.{arith}
use mathlib.Core.Path.{◌≡◌, refl, sym, ap, ◌∙◌, subst}
use mathlib.Core.Bool.{Bool, true, false, ◌&&◌, true≢false}
use mathlib.Core.List.{List, [], ◌∷◌}
use mathlib.Core.Option.{Option, none, some, none-ne-some}
use lib.Dec.{eqb, leb}
use lib.ListN.{length, get_elem?}
use borrow.Author.Tests.{eqb-true, eq-eqb, ne_eqb, le-leb}
use Rattle.cofj.specs.Limits.{number_class}
use Rattle.cofj.specs.Partial.{◌>>=◌}
use Rattle.cofj.specs.Syntax.{Ty, Class, Table}
use Rattle.cofj.specs.Classes.{class_fits, fields_of}
use Rattle.cofj.specs.Values.{Ref, obj, leaf, Leaf, mark, undet, num, Node, node, Graph, graph, node_at, refs_at, colours, colour_of, is_in}
use Rattle.cofj.specs.Unfolding.{object, at_leaf, label_at, child, follow, Same, InRange, Whole, Reached, top, below}
use Rattle.cofj.specs.Formed.{AllIn, RefBelow, Formed}
use Rattle.cofj.specs.ReportForm.{up_from}
use Rattle.cofj.specs.WellFormed.{WellFormed}
use Rattle.cofj.specs.Batch.{parts_of, leaf_held, holds, objects_hold, value_fits, Input, refused, given, started, input_of, ListsParts, PartReached, Apart, Fitting, Gives}
use Rattle.cofj.proofs.Basics.{eq_nats_true}
use Rattle.cofj.proofs.Partial.{true_and}
use Rattle.cofj.proofs.Trees.{same_child, same_cls}
use Rattle.cofj.proofs.Colours.{colour_full}
use Rattle.cofj.proofs.Walk.{unseen, unseen_lt, unseen_top}
use Rattle.cofj.proofs.Canon.{canon_same, canon-whole}
use Rattle.cofj.proofs.Unique.{canon-canon}
use Rattle.cofj.proofs.Numbering.{at_up_from, canonical_distinct}
use Rattle.cofj.proofs.GoodValues.{all_at, all_get, all_weaken, formed_default}
use Rattle.cofj.proofs.Reached.{canon_reached}
use Rattle.cofj.proofs.Batch.{parts_back, parts_round, input_none, input_some, fits_parts, hold_at, objects_at, hold_each, hold_objects}

-- ---- numbers below n, none twice: at most n
abbrev NoTwice : List ℕ → Type 0
NoTwice [] = Unit {0}
NoTwice (x ∷ xs) = AllIn (λ y. x ≡ y → ⊥) xs × NoTwice xs

not_in : (x : ℕ) (xs : List ℕ) → AllIn (λ y. x ≡ y → ⊥) xs → is_in x xs ≡ false
unfolding is_in
not_in x [] h = refl
not_in x (y ∷ xs) h = ap (λ (b : Bool). elim b as (λ _. Bool) [ true ↦ true | false ↦ is_in x xs ]) (ne_eqb x y h.0) ∙ not_in x xs h.1

first_in : (x : ℕ) (xs : List ℕ) → is_in x (x ∷ xs) ≡ true
unfolding is_in
first_in x xs = ap (λ (b : Bool). elim b as (λ _. Bool) [ true ↦ true | false ↦ is_in x xs ]) (eq-eqb x x refl)

more_in : (x : ℕ) (xs : List ℕ) (c : ℕ) → is_in c xs ≡ true → is_in c (x ∷ xs) ≡ true
unfolding is_in
more_in x xs c e = go (eqb c x)
  where
    go : (b : Bool) → (elim b as (λ _. Bool) [ true ↦ true | false ↦ is_in c xs ]) ≡ true
    go true = refl
    go false = e

at_most : (n : ℕ) (xs : List ℕ) → AllIn (λ x. x < n) xs → NoTwice xs → length xs + unseen n xs ≤ n
at_most n [] l h = let a = unseen_top n [] in omega arith
at_most n (x ∷ xs) l h =
    let a = at_most n xs l.1 h.1 in
    let b = unseen_lt n xs (x ∷ xs) (more_in x xs) x l.0 (not_in x xs h.0) (first_in x xs) in
    omega arith

-- ---- what is reached, in graphs that unfold to the same tree
child_there : (ns ms : List Node) (r s : Ref) → Same ns r ms s → (f : ℕ) (r' : Ref) → child ns r f ≡ some r' → (s' : Ref) × (child ms s f ≡ some s')
child_there ns ms r s h f r' e = go (child ms s f) refl
  where
    at : some (label_at ns r') ≡ child ms s f >>= (λ x. some (label_at ms x))
    at = sym (ap (λ (o : Option Ref). o >>= λ x. follow ns x []) e) ∙ h (f ∷ [])

    go : (o : Option Ref) → child ms s f ≡ o → (s' : Ref) × (child ms s f ≡ some s')
    go none q = absurd (none-ne-some (label_at ns r') (sym (at ∙ ap (λ (o : Option Ref). o >>= λ x. some (label_at ms x)) q)))
    go (some s') q = (s', q)

reached_same : (ns ms : List Node) (root root' : Ref) → Same ns root ms root' → (r : Ref) → Reached ns root r → (r' : Ref) × Reached ms root' r' × Same ns r ms r'
reached_same ns ms root root' h r top = (root', top, h)
reached_same ns ms root root' h r (below {r = q} f s d e) =
    let a = reached_same ns ms root root' h q d in
    let b = child_there ns ms q a.0 a.2 f r e in
    (b.0, below f b.0 a.1 b.1, same_child ns ms q a.0 a.2 f r b.0 e b.1)

same_object : (ns ms : List Node) (i : ℕ) (r : Ref) → Same ns (obj i) ms r → (j : ℕ) × (r ≡ obj j)
same_object ns ms i (obj j) h = (j, refl)
same_object ns ms i (leaf l) h = let e : some (object (node_at ns i).cls (length (refs_at ns i))) ≡ some (at_leaf l) = h [] in absurd (let z : ◌≡◌ {A = ℕ} 0 1 = cc in omega arith)

same_leaf : (ns ms : List Node) (l : Leaf) (r : Ref) → Same ns (leaf l) ms r → r ≡ leaf l
same_leaf ns ms l (obj j) h = let e : some (at_leaf l) ≡ some (object (node_at ms j).cls (length (refs_at ms j))) = h [] in absurd (let z : ◌≡◌ {A = ℕ} 0 1 = cc in omega arith)
same_leaf ns ms l (leaf m) h = let e : some (at_leaf l) ≡ some (at_leaf m) = h [] in cc

same_back : (ns ms : List Node) (r s : Ref) → Same ns r ms s → Same ms s ns r
same_back ns ms r s h p = sym (h p)

same_via : (ns ms ls : List Node) (r s q : Ref) → Same ns r ms s → Same ms s ls q → Same ns r ls q
same_via ns ms ls r s q h k p = h p ∙ k p

reached_in : (g : Graph) → Whole g → (r : Ref) → Reached g.nodes g.root r → InRange (length g.nodes) r
reached_in g w r top = w.top
reached_in g w r (below {r = obj i} f s d e) = w.inner i f r e
reached_in g w r (below {r = leaf l} f s d e) = absurd (none-ne-some r e)

-- objects with one class and the same fields unfold to the same tree
node_same : (ns : List Node) (i j : ℕ) → node_at ns i ≡ node_at ns j → Same ns (obj i) ns (obj j)
node_same ns i j e [] = ap (λ (n : Node). some (object n.cls (length n.refs))) e
node_same ns i j e (f ∷ p) = ap (λ (n : Node). get_elem? n.refs f >>= λ s. follow ns s p) e

-- ---- the parts that are reached and the objects of their value
module _ (ns : List Node) (w : Whole (graph (obj 0) ns)) where
  abbrev v : Graph
  v = started ns

  whole : Whole v
  whole = canon-whole (graph (obj 0) ns) w

  unfolds : Same ns (obj 0) v.nodes v.root
  unfolds p = sym (canon_same (graph (obj 0) ns) w p)

  -- the object that a part which is reached unfolds as
  object_of : (i : ℕ) → PartReached ns i → (k : ℕ) × (k < length v.nodes) × Same ns (obj i) v.nodes (obj k)
  object_of i h =
      let a = reached_same ns v.nodes (obj 0) v.root unfolds (obj i) h in
      let b = same_object ns v.nodes i a.0 a.2 in (
        b.0,
        subst (InRange (length v.nodes)) b.1 (reached_in v whole a.0 a.1),
        subst (Same ns (obj i) v.nodes) b.1 a.2,
      )

  -- the part that is reached and unfolds as an object does
  part_of : (k : ℕ) → k < length v.nodes → (i : ℕ) × PartReached ns i × Same v.nodes (obj k) ns (obj i)
  part_of k l =
      let c = canon_reached (graph (obj 0) ns) w k l in
      let a = reached_same v.nodes ns v.root (obj 0) (same_back ns v.nodes (obj 0) v.root unfolds) (obj c.0) c.1 in
      let b = same_object v.nodes ns c.0 a.0 a.2 in (
        b.0,
        subst (Reached ns (obj 0)) b.1 a.1,
        same_via v.nodes v.nodes ns (obj k) (obj c.0) (obj b.0) (node_same v.nodes k c.0 (sym c.2)) (subst (Same v.nodes (obj c.0) ns) b.1 a.2),
      )

  -- no two objects of the value unfold to the same tree
  distinct : (k l : ℕ) → k < length v.nodes → l < length v.nodes → Same v.nodes (obj k) v.nodes (obj l) → k ≡ l
  distinct k l a b h =
      let o = eq_nats_true (colours v.nodes) (up_from 0 (length v.nodes)) (canonical_distinct v whole (canon-canon (graph (obj 0) ns) w)) in
      let at : (i : ℕ) → i < length v.nodes → colour_of (colours v.nodes) i ≡ i = λ i z. ap (λ (cs : List ℕ). colour_of cs i) o ∙ at_up_from 0 (length v.nodes) i z ∙ omega arith in
      sym (at k a) ∙ colour_full v whole k l a b h ∙ at l b

  -- ---- how many
  numbers : (is : List ℕ) → AllIn (PartReached ns) is → List ℕ
  numbers [] h = []
  numbers (i ∷ is) h = (object_of i h.0).0 ∷ numbers is h.1

  numbers_length : (is : List ℕ) (h : AllIn (PartReached ns) is) → length (numbers is h) ≡ length is
  unfolding numbers
  numbers_length [] h = refl
  numbers_length (i ∷ is) h = ap suc (numbers_length is h.1)

  numbers_low : (is : List ℕ) (h : AllIn (PartReached ns) is) → AllIn (λ x. x < length v.nodes) (numbers is h)
  unfolding numbers
  numbers_low [] h = tt
  numbers_low (i ∷ is) h = ((object_of i h.0).1, numbers_low is h.1)

  numbers_other : (i : ℕ) (r : PartReached ns i) (is : List ℕ) (h : AllIn (PartReached ns) is) → AllIn (λ j. Same ns (obj i) ns (obj j) → ⊥) is
      → AllIn (λ y. (object_of i r).0 ≡ y → ⊥) (numbers is h)
  unfolding numbers
  numbers_other i r [] h a = tt
  numbers_other i r (j ∷ is) h a = (
    λ e. a.0 (same_via ns v.nodes ns (obj i) (obj (object_of j h.0).0) (obj j) (subst (λ (k : ℕ). Same ns (obj i) v.nodes (obj k)) e (object_of i r).2) (same_back ns v.nodes (obj j) (obj (object_of j h.0).0) (object_of j h.0).2)),
    numbers_other i r is h.1 a.1,
  )

  numbers_twice : (is : List ℕ) (h : AllIn (PartReached ns) is) → Apart ns is → NoTwice (numbers is h)
  unfolding numbers
  numbers_twice [] h a = tt
  numbers_twice (i ∷ is) h a = (numbers_other i h.0 is h.1 a.0, numbers_twice is h.1 a.1)

  -- parts that are reached, no two of one tree, are at most as many as the value's objects
  pub apart_few : (is : List ℕ) → AllIn (PartReached ns) is → Apart ns is → length is ≤ length v.nodes
  apart_few is h a =
      let m = at_most (length v.nodes) (numbers is h) (numbers_low is h) (numbers_twice is h a) in
      let e = numbers_length is h in
      omega arith

  -- a part for each of m objects from k on
  record Parted (k m : ℕ) : Type 0 where
    ones : List ℕ
    count : length ones ≡ m
    each : AllIn (λ j. (l : ℕ) × (k ≤ l) × (l < length v.nodes) × Same v.nodes (obj l) ns (obj j)) ones
    reached : AllIn (PartReached ns) ones
    apart : Apart ns ones

  parted : (k m : ℕ) → k + m ≤ length v.nodes → Parted k m
  parted k zero l = record { ones = []; count = refl; each = tt; reached = tt; apart = tt }
  parted k (suc m) l =
      let low : k < length v.nodes = omega arith in
      let o = part_of k low in
      let r = parted (suc k) m (omega arith) in
      record {
        ones = o.0 ∷ r.ones;
        count = ap suc r.count;
        each = ((k, omega arith, low, o.2), all_weaken _ _ (λ j a. (a.0, (let z = a.1 in omega arith), a.2, a.3)) r.ones r.each);
        reached = (o.1, r.reached);
        apart = (
          all_weaken _ _ (λ j a h.
              let e = distinct k a.0 low a.2
              (same_via v.nodes ns v.nodes (obj k) (obj o.0) (obj a.0) o.2
              (same_via ns ns v.nodes (obj o.0) (obj j) (obj a.0) h (same_back v.nodes ns (obj a.0) (obj j) a.3))) in
              let z = a.1 in
              omega arith) r.ones r.each,
          r.apart,
        );
      }

  -- ---- where they are held
  -- what a field of a reached part holds, and what the same field of the object holds, unfold alike
  field_there : (i k : ℕ) → Same ns (obj i) v.nodes (obj k) → (f : ℕ) (r : Ref) → get_elem? (refs_at ns i) f ≡ some r → (s : Ref) × (get_elem? (refs_at v.nodes k) f ≡ some s) × Same ns r v.nodes s
  field_there i k h f r e =
      let b = child_there ns v.nodes (obj i) (obj k) h f r e in (b.0, b.1, same_child ns v.nodes (obj i) (obj k) h f r b.0 e b.1)

  field_back : (i k : ℕ) → Same v.nodes (obj k) ns (obj i) → (f : ℕ) (s : Ref) → get_elem? (refs_at v.nodes k) f ≡ some s → (r : Ref) × (get_elem? (refs_at ns i) f ≡ some r) × Same v.nodes s ns r
  field_back i k h f s e =
      let b = child_there v.nodes ns (obj k) (obj i) h f s e in (b.0, b.1, same_child v.nodes ns (obj k) (obj i) h f s b.0 e b.1)

  module _ (objects : ℕ) (cs : List Class) (u : Ty) where
    -- the value fits: so do the parts as written
    module _ (e : value_fits objects cs u v ≡ true) where
      held : (i f : ℕ) (w' : Ty) (r : Ref) → PartReached ns i → get_elem? (fields_of cs (node_at ns i).cls) f ≡ some w' → get_elem? (refs_at ns i) f ≡ some r
          → (s : Ref) × Same ns r v.nodes s × (holds cs v.nodes w' s ≡ true)
      held i f w' r h p q =
          let o = object_of i h in
          let a = field_there i o.0 o.2 f r q in (
            a.0,
            a.2,
            hold_at cs v.nodes (fields_of cs (node_at v.nodes o.0).cls) (refs_at v.nodes o.0) (objects_at cs v.nodes v.nodes (fits_parts objects cs u v e).2 o.0 o.1) f w' a.0
                (subst (λ (c : ℕ). get_elem? (fields_of cs c) f ≡ some w') (same_cls ns v.nodes i o.0 o.2) p) a.1,
          )

      -- an object that a place may hold is of a class that fits, and so is the part that unfolds as it does
      class_held : (j : ℕ) (w' : Ty) (s : Ref) → Same ns (obj j) v.nodes s → holds cs v.nodes w' s ≡ true → class_fits cs (node_at ns j).cls w'.cls ≡ true
      class_held j w' s h q =
          let b = same_object ns v.nodes j s h in
          subst (λ (c : ℕ). class_fits cs c w'.cls ≡ true) (sym (same_cls ns v.nodes j b.0 (subst (Same ns (obj j) v.nodes) b.1 h)))
          (subst (λ (x : Ref). holds cs v.nodes w' x ≡ true) b.1 q)

      -- a leaf that a place of a part holds, the same place of the object holds
      leaf_held_lem : (i f : ℕ) (w' : Ty) (l : Leaf) → PartReached ns i → get_elem? (fields_of cs (node_at ns i).cls) f ≡ some w' → get_elem? (refs_at ns i) f ≡ some (leaf l) → leaf_held w' l ≡ true
      leaf_held_lem i f w' l h p q =
          let a = held i f w' (leaf l) h p q in subst (λ (x : Ref). holds cs v.nodes w' x ≡ true) (same_leaf ns v.nodes l a.0 a.1) a.2

      fits-fitting : Fitting objects cs u ns
      fits-fitting =
          record {
            root = class_held 0 u v.root unfolds (fits_parts objects cs u v e).1;
            held = λ i f j w' h p q. let a = held i f w' (obj j) h p q in class_held j w' a.0 a.1 a.2;
            undetermined = λ i f w' h p q. eqb-true w'.tag 3 (leaf_held_lem i f w' undet h p q);
            number = λ i f x w' h p q. eqb-true w'.cls number_class (leaf_held_lem i f w' (num x) h p q);
            few = λ is h a. let m = apart_few is h a in let n = (fits_parts objects cs u v e).0 in omega arith;
          }

    -- the parts as written fit, and hold no mark: so does the value
    module _ (closed : (i f x : ℕ) → get_elem? (refs_at ns i) f ≡ some (leaf (mark x)) → ⊥) (h : Fitting objects cs u ns) where
      held_object : (k f : ℕ) (w' : Ty) (s : Ref) → k < length v.nodes → get_elem? (fields_of cs (node_at v.nodes k).cls) f ≡ some w' → get_elem? (refs_at v.nodes k) f ≡ some s
          → holds cs v.nodes w' s ≡ true
      held_object k f w' s l p q = go s (field_back i k o.2 f s q)
        where
          o : (i : ℕ) × PartReached ns i × Same v.nodes (obj k) ns (obj i)
          o = part_of k l

          i : ℕ
          i = o.0

          typed : get_elem? (fields_of cs (node_at ns i).cls) f ≡ some w'
          typed = subst (λ (c : ℕ). get_elem? (fields_of cs c) f ≡ some w') (same_cls v.nodes ns k i o.2) p

          go : (x : Ref) → (r : Ref) × (get_elem? (refs_at ns i) f ≡ some r) × Same v.nodes x ns r → holds cs v.nodes w' x ≡ true
          go (obj l') a =
              let b = same_object v.nodes ns l' a.0 a.2 in
              subst (λ (c : ℕ). class_fits cs c w'.cls ≡ true) (sym (same_cls v.nodes ns l' b.0 (subst (Same v.nodes (obj l') ns) b.1 a.2)))
              (h.held i f b.0 w' o.1 typed (a.1 ∙ ap {B = Option Ref} some b.1))
          go (leaf l') a = at_leaf_lem l' (a.1 ∙ ap {B = Option Ref} some (same_leaf v.nodes ns l' a.0 a.2))
            where
              at_leaf_lem : (l' : Leaf) → get_elem? (refs_at ns i) f ≡ some (leaf l') → leaf_held w' l' ≡ true
              at_leaf_lem (mark x) e = absurd (closed i f x e)
              at_leaf_lem undet e = eq-eqb w'.tag 3 (h.undetermined i f w' o.1 typed e)
              at_leaf_lem (num x) e = eq-eqb w'.cls number_class (h.number i f x w' o.1 typed e)

      root_held : holds cs v.nodes u v.root ≡ true
      root_held =
          let b = same_object ns v.nodes 0 v.root unfolds in
          subst (λ (x : Ref). holds cs v.nodes u x ≡ true) (sym b.1)
          (subst (λ (c : ℕ). class_fits cs c u.cls ≡ true) (same_cls ns v.nodes 0 b.0 (subst (Same ns (obj 0) v.nodes) b.1 unfolds)) h.root)

      fitting-fits : value_fits objects cs u v ≡ true
      unfolding value_fits
      fitting-fits =
          let r = parted 0 (length v.nodes) (omega arith) in
          let m = h.few r.ones r.reached r.apart in
          true_and (leb (length v.nodes) objects && holds cs v.nodes u v.root) (objects_hold cs v.nodes v.nodes)
          (true_and (leb (length v.nodes) objects) (holds cs v.nodes u v.root)
          (le-leb (length v.nodes) objects (subst (λ (k : ℕ). k ≤ objects) r.count m)) root_held)
          (hold_objects cs v.nodes v.nodes (λ k l. hold_each cs v.nodes (fields_of cs (node_at v.nodes k).cls) (refs_at v.nodes k) (λ f w' s p q. held_object k f w' s l p q)))

-- ---- the answers
module _ (t : Table) (wf : WellFormed t) (objects : ℕ) (u : Ty) (s : List ℕ) where
  lists_closed : (ns : List Node) → ListsParts t s ns → (i f x : ℕ) → get_elem? (refs_at ns i) f ≡ some (leaf (mark x)) → ⊥
  lists_closed ns h i f x e =
      let y : x < 0 = all_get (RefBelow 0) (refs_at ns i) (all_at (Formed t 0) (node 0 []) (formed_default t 0) ns h.parts i).leaves f (leaf (mark x)) e in
      omega arith

  -- what the text gives, by the test of 15
  by_test : (ns : List Node) → parts_of t.classes s ≡ some ns → (b : Bool) → value_fits objects t.classes u (started ns) ≡ b
      → input_of objects t.classes u s ≡ (elim b as (λ _. Input) [ true ↦ given (started ns) | false ↦ refused 15 ])
  by_test ns e b q = input_some objects t.classes u s ns e ∙ ap (λ (x : Bool). elim x as (λ _. Input) [ true ↦ given (started ns) | false ↦ refused 15 ]) q

  pub gives : Gives objects t u s (input_of objects t.classes u s)
  gives = go (parts_of t.classes s) refl
    where
      -- the parts that a text lists are one list
      one : (ns ms : List Node) → parts_of t.classes s ≡ some ns → ListsParts t s ms → ns ≡ ms
      one ns ms e h = let z : some ns ≡ some ms = sym e ∙ parts_round t wf s ms h in cc

      judged : (ns : List Node) → parts_of t.classes s ≡ some ns → (b : Bool) → value_fits objects t.classes u (started ns) ≡ b → Gives objects t u s (input_of objects t.classes u s)
      judged ns e true q =
          let i = by_test ns e true q in
          let l = parts_back t s ns e in
          let f = fits-fitting ns l.inside objects t.classes u q in
          record {
            fourteen = (λ z. let y : given (started ns) ≡ refused 14 = sym i ∙ z in absurd (let x : ◌≡◌ {A = ℕ} 0 1 = cc in omega arith), λ k. absurd (k ns l));
            fifteen = (
              λ z. let y : given (started ns) ≡ refused 15 = sym i ∙ z in absurd (let x : ◌≡◌ {A = ℕ} 0 1 = cc in omega arith),
              λ k. absurd (k.2 (subst (Fitting objects t.classes u) (one ns k.0 e k.1) f)),
            );
            value = λ v. (
              λ z. (ns, l, f, (let y : given (started ns) ≡ given v = sym i ∙ z in let x : v ≡ started ns = cc in x)),
              λ k. i ∙ ap given (ap started (one ns k.0 e k.1) ∙ sym k.3),
            );
          }
      judged ns e false q =
          let i = by_test ns e false q in
          let l = parts_back t s ns e in
          let not-fit : Fitting objects t.classes u ns → ⊥ = λ h. true≢false (sym (fitting-fits ns l.inside objects t.classes u (lists_closed ns l) h) ∙ q) in
          record {
            fourteen = (λ z. let y : refused 15 ≡ refused 14 = sym i ∙ z in absurd (let x : ◌≡◌ {A = ℕ} 15 14 = cc in omega arith), λ k. absurd (k ns l));
            fifteen = (λ z. (ns, l, not-fit), λ k. i);
            value = λ v. (
              λ z. let y : refused 15 ≡ given v = sym i ∙ z in absurd (let x : ◌≡◌ {A = ℕ} 0 1 = cc in omega arith),
              λ k. absurd (not-fit (subst (Fitting objects t.classes u) (sym (one ns k.0 e k.1)) k.2)),
            );
          }

      go : (o : Option (List Node)) → parts_of t.classes s ≡ o → Gives objects t u s (input_of objects t.classes u s)
      go none e =
          let i = input_none objects t.classes u s e in
          let no : (ns : List Node) → ListsParts t s ns → ⊥ = λ ns h. none-ne-some ns (sym e ∙ parts_round t wf s ns h) in
          record {
            fourteen = (λ z. no, λ k. i);
            fifteen = (λ z. let y : refused 14 ≡ refused 15 = sym i ∙ z in absurd (let x : ◌≡◌ {A = ℕ} 14 15 = cc in omega arith), λ k. absurd (no k.0 k.1));
            value = λ v. (λ z. let y : refused 14 ≡ given v = sym i ∙ z in absurd (let x : ◌≡◌ {A = ℕ} 0 1 = cc in omega arith), λ k. absurd (no k.0 k.1));
          }
      go (some ns) e = judged ns e (value_fits objects t.classes u (started ns)) refl
