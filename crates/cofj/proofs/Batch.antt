-- The second text of a run: which texts list parts (refusal 14), and that the value of what passes 15 is one of a run and has the type asked for.
-- Texts that unfold to the same tree give the same. Not here: refusal 15 by the parts as written (BatchFits).
use Prim.Native.Nat.{ℕ, zero, suc, ◌≤◌, ◌<◌, zero-le, suc-le-suc}
use native.Mathlib.Omega.{arith}
use mathlib.Core.Path.{◌≡◌, refl, sym, ap, ◌∙◌, subst}
use mathlib.Core.Bool.{Bool, true, false, ◌&&◌, false≢true}
use mathlib.Core.List.{List, [], ◌∷◌}
use mathlib.Core.Option.{Option, none, some, none-ne-some}
use lib.Dec.{eqb, leb}
use lib.ListN.{length, get_elem?}
use borrow.Author.Tests.{eqb-true, eq-eqb, leb-true, le-leb}
use Rattle.cofj.specs.Limits.{part_count, number_class}
use Rattle.cofj.specs.Partial.{◌>>=◌, guard}
use Rattle.cofj.specs.Text.{within, lines_from, hex_text}
use Rattle.cofj.specs.Syntax.{Ty, ty, Class, Table}
use Rattle.cofj.specs.Classes.{fields_of}
use Rattle.cofj.specs.Values.{Ref, obj, leaf, mark, undet, num, Node, node, Graph, graph, node_at, refs_at}
use Rattle.cofj.specs.Unfolding.{object, follow, SameTree, InRange, Whole}
use Rattle.cofj.specs.Formed.{AllIn, Formed, Good}
use Rattle.cofj.specs.Report.{object_lines}
use Rattle.cofj.specs.ReportForm.{objects_from, Plain}
use Rattle.cofj.specs.WellFormed.{WellFormed}
use Rattle.cofj.specs.Batch.{part_good, parts_good, parts_of, holds, all_hold, objects_hold, value_fits, Input, refused, given, started, fitting, input_of, ListsParts}
use Rattle.cofj.proofs.Partial.{and_true, true_and, opt_bind, guard-bind}
use Rattle.cofj.proofs.Basics.{at_lt, at_some}
use Rattle.cofj.proofs.Chain.{fits_self}
use Rattle.cofj.proofs.TextRound.{within_true, true_within, hex_lines, lines-written, read_bytes}
use Rattle.cofj.proofs.ReportFields.{RefsIn}
use Rattle.cofj.proofs.ReportLines.{length-lines, nodes_in_lem, in_nodes, objects_round, objects_back}
use Rattle.cofj.proofs.Reports.{plain, object_lines_lem}
use Rattle.cofj.proofs.Canon.{canon-whole}
use Rattle.cofj.proofs.Unique.{same_canon, canon-canon}
use Rattle.cofj.proofs.GoodValues.{all_at, all_weaken, formed_default, canon_formed, canon_root}
use Rattle.cofj.proofs.Typed.{under, Typed, Has}
use Rattle.cofj.proofs.Keeps.{leaf_typed}

-- ---- 14
module _ (t : Table) where
  part_formed : (n : Node) → Plain n → part_good t.classes n ≡ true → Formed t 0 n
  part_formed n p e =
      let a = and_true (leb n.cls (length t.classes)) (eqb (length n.refs) (length (fields_of t.classes n.cls))) e in
      record {
        known = leb-true n.cls (length t.classes) a.0;
        count = eqb-true (length n.refs) (length (fields_of t.classes n.cls)) a.1;
        leaves = p.closed;
      }

  parts_formed : (ns : List Node) → AllIn Plain ns → parts_good t.classes ns ≡ true → AllIn (Formed t 0) ns
  unfolding parts_good
  parts_formed [] p e = tt
  parts_formed (n ∷ ns) p e =
      let a = and_true (part_good t.classes n) (parts_good t.classes ns) e in (part_formed n p.0 a.0, parts_formed ns p.1 a.1)

  formed_parts : (ns : List Node) → AllIn (Formed t 0) ns → parts_good t.classes ns ≡ true
  unfolding parts_good
  formed_parts [] h = refl
  formed_parts (n ∷ ns) h =
      true_and (part_good t.classes n) (parts_good t.classes ns)
      (true_and (leb n.cls (length t.classes)) (eqb (length n.refs) (length (fields_of t.classes n.cls)))
      (le-leb n.cls (length t.classes) h.0.known) (eq-eqb (length n.refs) (length (fields_of t.classes n.cls)) h.0.count))
      (formed_parts ns h.1)

  -- a text that passes 14 lists its parts
  pub parts_back : (s : List ℕ) (ns : List Node) → parts_of t.classes s ≡ some ns → ListsParts t s ns
  unfolding parts_of
  parts_back s ns e =
      let a = opt_bind (lines_from s none []) (λ ls. guard (within 1 part_count (length ls)) >>= λ _. objects_from (length ls) 0 ls >>= λ ms. guard (parts_good t.classes ms) >>= λ _. some ms) ns e in
      let ls = a.0 in
      let b = guard-bind (within 1 part_count (length ls)) (λ _. objects_from (length ls) 0 ls >>= λ ms. guard (parts_good t.classes ms) >>= λ _. some ms) ns a.2 in
      let c = opt_bind (objects_from (length ls) 0 ls) (λ ms. guard (parts_good t.classes ms) >>= λ _. some ms) ns b.1 in
      let d = guard-bind (parts_good t.classes c.0) (λ _. some c.0) ns c.2 in
      let o = objects_back (length ls) 0 ls c.0 (read_bytes s ls a.1) c.1 in
      let n : length c.0 ≡ length ls = sym (length-lines 0 c.0) ∙ ap length o.2 in
      let l = within_true 1 part_count (length ls) b.0 in
      let y : some c.0 ≡ some ns = d.1 in
      subst (ListsParts t s) (let z : c.0 ≡ ns = cc in z)
      (record {
        some_part = subst (λ (k : ℕ). 1 ≤ k) (sym n) l.0;
        few = subst (λ (k : ℕ). k ≤ part_count) (sym n) l.1;
        parts = parts_formed c.0 o.0 d.0;
        inside =
            record {
              top = subst (λ (k : ℕ). 1 ≤ k) (sym n) l.0;
              inner = in_nodes (length c.0) c.0 (subst (λ (k : ℕ). AllIn (λ x. RefsIn k x.refs) c.0) (sym n) o.1);
            };
        text = ap hex_text o.2 ∙ hex_lines s ls a.1;
      })

  -- a text that lists parts passes 14
  pub parts_round : WellFormed t → (s : List ℕ) (ns : List Node) → ListsParts t s ns → parts_of t.classes s ≡ some ns
  unfolding parts_of
  parts_round wf s ns h =
      let n = length ns in
      let p = all_weaken (Formed t 0) Plain (plain t wf) ns h.parts in
      let r = nodes_in_lem n ns h.inside.inner in
      let ls = object_lines 0 ns in
      let rest : List (List ℕ) → Option (List Node) = λ xs. guard (within 1 part_count (length xs)) >>= λ _. objects_from (length xs) 0 xs >>= λ ms. guard (parts_good t.classes ms) >>= λ _. some ms in
      ap (λ (x : List ℕ). lines_from x none [] >>= rest) (sym h.text)
      ∙ ap (λ (o : Option (List (List ℕ))). o >>= rest) (lines-written ls (object_lines_lem n h.few ns 0 (omega arith) p r))
      ∙ ap (λ (k : ℕ). guard (within 1 part_count k) >>= λ _. objects_from k 0 ls >>= λ ms. guard (parts_good t.classes ms) >>= λ _. some ms) (length-lines 0 ns)
      ∙ ap (λ (b : Bool). guard b >>= λ _. objects_from n 0 ls >>= λ ms. guard (parts_good t.classes ms) >>= λ _. some ms) (true_within 1 part_count n h.some_part h.few)
      ∙ ap (λ (o : Option (List Node)). o >>= λ ms. guard (parts_good t.classes ms) >>= λ _. some ms) (objects_round n h.few ns 0 p r)
      ∙ ap (λ (b : Bool). guard b >>= λ _. some ns) (formed_parts ns h.parts)

-- ---- what is given
-- what a text gives, by its parts
pub input_none : (objects : ℕ) (cs : List Class) (u : Ty) (s : List ℕ) → parts_of cs s ≡ none → input_of objects cs u s ≡ refused 14
unfolding input_of
input_none objects cs u s e = ap (λ (o : Option (List Node)). elim o as (λ _. Input) [ none ↦ refused 14 | some ns ↦ fitting objects cs u (started ns) ]) e

pub input_some : (objects : ℕ) (cs : List Class) (u : Ty) (s : List ℕ) (ns : List Node) → parts_of cs s ≡ some ns → input_of objects cs u s ≡ fitting objects cs u (started ns)
unfolding input_of
input_some objects cs u s ns e = ap (λ (o : Option (List Node)). elim o as (λ _. Input) [ none ↦ refused 14 | some xs ↦ fitting objects cs u (started xs) ]) e

-- what passed 14 and 15
pub record Gave (objects : ℕ) (cs : List Class) (u : Ty) (s : List ℕ) (v : Graph) : Type 0 where
  pub nodes : List Node
  pub lists : parts_of cs s ≡ some nodes
  pub fits : value_fits objects cs u (started nodes) ≡ true
  pub is : v ≡ started nodes

pub gave : (objects : ℕ) (cs : List Class) (u : Ty) (s : List ℕ) (v : Graph) → input_of objects cs u s ≡ given v → Gave objects cs u s v
unfolding input_of
gave objects cs u s v e = go (parts_of cs s) refl e
  where
    judged : (ns : List Node) → parts_of cs s ≡ some ns → (b : Bool) → value_fits objects cs u (started ns) ≡ b
        → (elim b as (λ _. Input) [ true ↦ given (started ns) | false ↦ refused 15 ]) ≡ given v → Gave objects cs u s v
    judged ns p true q z = record { nodes = ns; lists = p; fits = q; is = let y : v ≡ started ns = cc in y }
    judged ns p false q z = absurd (let y : ◌≡◌ {A = ℕ} 0 1 = cc in omega arith)

    go : (o : Option (List Node)) → parts_of cs s ≡ o → (elim o as (λ _. Input) [ none ↦ refused 14 | some ns ↦ fitting objects cs u (started ns) ]) ≡ given v → Gave objects cs u s v
    go none p z = absurd (let y : ◌≡◌ {A = ℕ} 0 1 = cc in omega arith)
    go (some ns) p z = judged ns p (value_fits objects cs u (started ns)) refl z

-- the three tests of 15
pub fits_parts : (objects : ℕ) (cs : List Class) (u : Ty) (v : Graph) → value_fits objects cs u v ≡ true
    → (length v.nodes ≤ objects) × (holds cs v.nodes u v.root ≡ true) × (objects_hold cs v.nodes v.nodes ≡ true)
unfolding value_fits
fits_parts objects cs u v e =
    let a = and_true (leb (length v.nodes) objects && holds cs v.nodes u v.root) (objects_hold cs v.nodes v.nodes) e in
    let b = and_true (leb (length v.nodes) objects) (holds cs v.nodes u v.root) a.0 in
    (leb-true (length v.nodes) objects b.0, b.1, a.1)

-- a field that is there is held by its type
pub hold_at : (cs : List Class) (ns : List Node) (ws : List Ty) (rs : List Ref) → all_hold cs ns ws rs ≡ true
    → (f : ℕ) (w : Ty) (r : Ref) → get_elem? ws f ≡ some w → get_elem? rs f ≡ some r → holds cs ns w r ≡ true
unfolding all_hold
hold_at cs ns [] rs h f w r p q = absurd (none-ne-some w p)
hold_at cs ns (x ∷ ws) [] h f w r p q = absurd (none-ne-some r q)
hold_at cs ns (x ∷ ws) (y ∷ rs) h zero w r p q =
    let a = and_true (holds cs ns x y) (all_hold cs ns ws rs) h in
    subst (λ (z : Ty). holds cs ns z r ≡ true) (let z : x ≡ w = cc in z) (subst (λ (z : Ref). holds cs ns x z ≡ true) (let z : y ≡ r = cc in z) a.0)
hold_at cs ns (x ∷ ws) (y ∷ rs) h (suc f) w r p q = hold_at cs ns ws rs (and_true (holds cs ns x y) (all_hold cs ns ws rs) h).1 f w r p q

pub objects_at : (cs : List Class) (ns rest : List Node) → objects_hold cs ns rest ≡ true → (i : ℕ) → i < length rest → all_hold cs ns (fields_of cs (node_at rest i).cls) (refs_at rest i) ≡ true
unfolding objects_hold
objects_at cs ns [] h i l = absurd (omega arith)
objects_at cs ns (n ∷ rest) h zero l = (and_true (all_hold cs ns (fields_of cs n.cls) n.refs) (objects_hold cs ns rest) h).0
objects_at cs ns (n ∷ rest) h (suc i) l = objects_at cs ns rest (and_true (all_hold cs ns (fields_of cs n.cls) n.refs) (objects_hold cs ns rest) h).1 i (omega arith)

-- and from item to item
pub hold_each : (cs : List Class) (ns : List Node) (ws : List Ty) (rs : List Ref)
    → ((f : ℕ) (w : Ty) (r : Ref) → get_elem? ws f ≡ some w → get_elem? rs f ≡ some r → holds cs ns w r ≡ true) → all_hold cs ns ws rs ≡ true
unfolding all_hold
hold_each cs ns [] rs h = refl
hold_each cs ns (w ∷ ws) [] h = refl
hold_each cs ns (w ∷ ws) (r ∷ rs) h = true_and (holds cs ns w r) (all_hold cs ns ws rs) (h 0 w r refl refl) (hold_each cs ns ws rs (λ f. h (suc f)))

pub hold_objects : (cs : List Class) (ns rest : List Node) → ((i : ℕ) → i < length rest → all_hold cs ns (fields_of cs (node_at rest i).cls) (refs_at rest i) ≡ true) → objects_hold cs ns rest ≡ true
unfolding objects_hold
hold_objects cs ns [] h = refl
hold_objects cs ns (n ∷ rest) h =
    true_and (all_hold cs ns (fields_of cs n.cls) n.refs) (objects_hold cs ns rest) (h 0 (suc-le-suc zero-le)) (hold_objects cs ns rest (λ i l. h (suc i) (suc-le-suc l)))

under_above : (g h : ℕ) → h ≤ under g h
under_above zero h = omega arith
under_above (suc g) h = omega arith

-- objects that hold what their fields' types allow are typed, all the way down
module _ (t : Table) (wf : WellFormed t) (v : Graph) (whole : Whole v) (formed : AllIn (Formed t 0) v.nodes) (ok : objects_hold t.classes v.nodes v.nodes ≡ true) where
  held_typed : (n : ℕ) (w : Ty) (g : ℕ) (r : Ref) → w.tag ≤ g → InRange (length v.nodes) r → holds t.classes v.nodes w r ≡ true
      → Typed t [] n (ty w.cls g) (follow v.nodes r)
  held_typed zero w g r l q h = tt
  held_typed (suc n) w g (leaf (mark k)) l q h = absurd (false≢true h)
  held_typed (suc n) w g (leaf (num k)) l q h = leaf_typed t wf (suc n) [] (ty w.cls g) v.nodes (num k) (fits_self t.classes number_class w.cls (sym (eqb-true w.cls number_class h)))
  held_typed (suc n) w g (leaf undet) l q h = leaf_typed t wf (suc n) [] (ty w.cls g) v.nodes undet (let z = eqb-true w.tag 3 h in omega arith)
  held_typed (suc n) w g (obj i) l q h = ((h, count, formed_at.known), λ c k f x e z. field c k f x e z (held_typed n))
    where
      formed_at : Formed t 0 (node_at v.nodes i)
      formed_at = all_at (Formed t 0) (node 0 []) (formed_default t 0) v.nodes formed i

      count : length (refs_at v.nodes i) ≡ length (fields_of t.classes (node_at v.nodes i).cls)
      count = formed_at.count

      field : (c k f : ℕ) (x : Ty) → follow v.nodes (obj i) [] ≡ some (object c k) → get_elem? (fields_of t.classes c) f ≡ some x
          → ((w' : Ty) (g' : ℕ) (r' : Ref) → w'.tag ≤ g' → InRange (length v.nodes) r' → holds t.classes v.nodes w' r' ≡ true → Typed t [] n (ty w'.cls g') (follow v.nodes r'))
          → Typed t [] n (ty x.cls (under g x.tag)) (λ p. follow v.nodes (obj i) (f ∷ p))
      field c k f x e z ih =
          let d : (node_at v.nodes i).cls ≡ c = cc in
          let z' = subst (λ (y : ℕ). get_elem? (fields_of t.classes y) f ≡ some x) (sym d) z in
          let r = at_some (refs_at v.nodes i) f (subst (λ (m : ℕ). f < m) (sym count) (at_lt (fields_of t.classes (node_at v.nodes i).cls) f x z')) in
          subst (λ (o : Option Ref). Typed t [] n (ty x.cls (under g x.tag)) (λ p. o >>= λ y. follow v.nodes y p)) (sym r.1)
          (ih x (under g x.tag) r.0 (under_above g x.tag) (whole.inner i f r.0 r.1)
          (hold_at t.classes v.nodes (fields_of t.classes (node_at v.nodes i).cls) (refs_at v.nodes i) (objects_at t.classes v.nodes v.nodes ok i q) f x r.0 z' r.1))

module _ (t : Table) (wf : WellFormed t) (objects : ℕ) (u : Ty) (s : List ℕ) (v : Graph) (e : input_of objects t.classes u s ≡ given v) where
  abbrev from : Gave objects t.classes u s v
  from = gave objects t.classes u s v e

  -- it is a value of a run
  pub given_good : Good t objects 0 v
  given_good =
      let g = from in
      let l = parts_back t s g.nodes g.lists in
      let x = graph (obj 0) g.nodes in
      subst (Good t objects 0) (sym g.is)
      (record {
        whole = canon-whole x l.inside;
        own = canon-canon x l.inside;
        small = (fits_parts objects t.classes u (started g.nodes) g.fits).0;
        root = canon_root t 0 x tt;
        nodes = canon_formed t 0 x l.parts;
      })

  -- and of the type asked for
  pub given_has : u.tag ≤ 3 → Has t [] u v
  given_has l =
      let g = from in
      let y = given_good in
      let f = subst (λ (x : Graph). value_fits objects t.classes u x ≡ true) (sym g.is) g.fits in
      let p = fits_parts objects t.classes u v f in
      record {
        whole = y.whole;
        typed = λ n. held_typed t wf v y.whole y.nodes p.2 n u u.tag v.root (omega arith) y.whole.top p.1;
        tag = l;
      }

-- ---- the same tree, cut otherwise: the same value, or the same refusal
pub recut : (objects : ℕ) (t : Table) (u : Ty) (s s' : List ℕ) (ns ms : List Node) → parts_of t.classes s ≡ some ns → parts_of t.classes s' ≡ some ms
    → SameTree (graph (obj 0) ns) (graph (obj 0) ms) → input_of objects t.classes u s ≡ input_of objects t.classes u s'
recut objects t u s s' ns ms p q e =
    input_some objects t.classes u s ns p
    ∙ ap (fitting objects t.classes u) (same_canon (graph (obj 0) ns) (graph (obj 0) ms) (parts_back t s ns p).inside (parts_back t s' ms q).inside e)
    ∙ sym (input_some objects t.classes u s' ms q)
