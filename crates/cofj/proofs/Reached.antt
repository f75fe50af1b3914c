-- Every object of a value is reached from its root; so type soundness holds of the objects that a report lists.
use Prim.Native.Nat.{ℕ, zero, suc, ◌<◌}
use native.Mathlib.Omega.{arith}
use mathlib.Core.Path.{◌≡◌, refl, sym, ap, ◌∙◌, subst}
use mathlib.Core.Bool.{Bool, true, false, false≢true}
use mathlib.Core.List.{List, [], ◌∷◌, ◌++◌}
use mathlib.Core.Option.{Option, some}
use mathlib.Core.Logic.{◌⊎◌, inl, inr}
use lib.ListN.{length, get_or, get_elem?, length-map}
use Rattle.cofj.specs.Syntax.{Ty, ty, Table}
use Rattle.cofj.specs.Partial.{◌>>=◌}
use Rattle.cofj.specs.Classes.{fields_of}
use Rattle.cofj.specs.Values.{Ref, obj, leaf, Node, node, Graph, rename, rename_node, node_at, refs_at, colours, is_in, place_in, visit, visit_all, canon}
use Rattle.cofj.specs.Unfolding.{label_at, follow, Whole, Reached, top, below}
use Rattle.cofj.specs.Running.{Outcome, value, stopped, run_within}
use Rattle.cofj.specs.WellFormed.{WellFormed}
use Rattle.cofj.specs.Soundness.{Stands, Lists, EndsListed, Fed, unfed, fed, SoundListed}
use Rattle.cofj.proofs.Basics.{at_map, get_d_map_lt}
use Rattle.cofj.proofs.Colours.{colour}
use Rattle.cofj.proofs.Walk.{is_in_cases, Covered, walk, order, order_root, order_closed}
use Rattle.cofj.proofs.Canon.{place_in_spec, get_d_is_in, number, listed}
use Rattle.cofj.specs.Formed.{Good, IfAny, Out as Has-value}
use Rattle.cofj.proofs.Runs.{good_run}
use Rattle.cofj.proofs.Climb.{field_tag}
use Rattle.cofj.proofs.Typed.{under, OkAt, AllTyped, Has}
use Rattle.cofj.proofs.SoundCalls.{Out}
use Rattle.cofj.proofs.CheckSays.{check_says}
use Rattle.cofj.proofs.Sound.{has_run}
use Rattle.cofj.proofs.Places.{onward, stands, under_3}

module _ (g : Graph) (w : Whole g) where
  -- the colours that are reached, from the first object of each
  data Coloured : ℕ → Type 0 where
    first : (i : ℕ) → g.root ≡ obj i → Coloured (colour g w i)
    next : (c f i : ℕ) → Coloured c → get_elem? (refs_at g.nodes c) f ≡ some (obj i) → Coloured (colour g w i)

  abbrev AllColoured : List ℕ → Type 0
  AllColoured s = (c : ℕ) → is_in c s ≡ true → Coloured c

  abbrev RefColoured : Ref → Type 0
  RefColoured r = (i : ℕ) → r ≡ obj i → Coloured (colour g w i)

  all_coloured : (k : ℕ) → ((r : Ref) (s : List ℕ) → RefColoured r → AllColoured s → AllColoured (visit g.nodes (colours g.nodes) k r s))
      → (rs : List Ref) (s : List ℕ) → ((f : ℕ) (r : Ref) → get_elem? rs f ≡ some r → RefColoured r) → AllColoured s → AllColoured (walk g w k rs s)
  unfolding visit_all
  all_coloured k step [] s h a = a
  all_coloured k step (r ∷ rs) s h a = all_coloured k step rs (visit g.nodes (colours g.nodes) k r s) (λ f. h (suc f)) (step r s (h 0 r refl) a)

  visit_coloured : (k : ℕ) (r : Ref) (s : List ℕ) → RefColoured r → AllColoured s → AllColoured (visit g.nodes (colours g.nodes) k r s)
  unfolding visit
  visit_coloured zero r s h a = a
  visit_coloured (suc k) (leaf l) s h a = a
  visit_coloured (suc k) (obj i) s h a = go (is_in (colour g w i) s) (all_coloured k (visit_coloured k) (refs_at g.nodes (colour g w i)) (s ++ (colour g w i ∷ [])))
    where
      more : AllColoured (s ++ (colour g w i ∷ []))
      more c e = pick c (is_in_cases c (colour g w i) s e)
        where
          pick : (d : ℕ) → (is_in d s ≡ true) ⊎ (d ≡ colour g w i) → Coloured d
          pick d (inl q) = a d q
          pick d (inr q) = subst Coloured (sym q) (h i refl)

      go : (b : Bool) → (((f : ℕ) (r : Ref) → get_elem? (refs_at g.nodes (colour g w i)) f ≡ some r → RefColoured r) → AllColoured (s ++ (colour g w i ∷ [])) → AllColoured (walk g w k (refs_at g.nodes (colour g w i)) (s ++ (colour g w i ∷ []))))
          → AllColoured (elim b as (λ _. List ℕ) [ true ↦ s | false ↦ walk g w k (refs_at g.nodes (colour g w i)) (s ++ (colour g w i ∷ [])) ])
      go true ih = a
      go false ih = ih (λ f r e j q. next (colour g w i) f j (h i refl) (e ∙ ap {B = Option Ref} some q)) more

  order_coloured : AllColoured (order g w)
  unfolding is_in
  order_coloured = visit_coloured (suc (length g.nodes)) g.root [] (λ i e. first i e) (λ c e. absurd (false≢true e))

  -- the object listed for a colour
  at_place : (c : ℕ) → is_in c (order g w) ≡ true → node_at (listed g w) (place_in c (order g w)) ≡ rename_node (number g w) (node_at g.nodes c)
  at_place c e =
      let s = place_in_spec c (order g w) e in
      get_d_map_lt (λ d. rename_node (number g w) (node_at g.nodes d)) (order g w) (place_in c (order g w)) (node 0 []) 0 s.0
      ∙ ap (λ (d : ℕ). rename_node (number g w) (node_at g.nodes d)) s.1

  coloured_reached : (c : ℕ) → Coloured c → (is_in c (order g w) ≡ true) × Reached (listed g w) (rename (number g w) g.root) (obj (place_in c (order g w)))
  coloured_reached c (first i e) =
      (subst (Covered g w (order g w)) e (order_root g w), subst (Reached (listed g w) (rename (number g w) g.root)) (ap (rename (number g w)) e) top)
  coloured_reached c (next d f i h e) =
      let r = coloured_reached d h in (
        order_closed g w d r.0 f (obj i) e,
        below f (obj (number g w i)) r.1
            (ap (λ (n : Node). get_elem? n.refs f) (at_place d r.0) ∙ at_map (rename (number g w)) (refs_at g.nodes d) f ∙ ap (λ (o : Option Ref). o >>= λ x. some (rename (number g w) x)) e),
      )

  -- each object listed is, as to class and fields, one that is reached
  pub listed_reached : (j : ℕ) → j < length (listed g w) → (k : ℕ) × Reached (listed g w) (rename (number g w) g.root) (obj k) × (node_at (listed g w) k ≡ node_at (listed g w) j)
  listed_reached j l =
      let l' : j < length (order g w) = subst (λ (n : ℕ). j < n) (length-map (order g w) _) l in
      let m = get_d_is_in (order g w) j l' in
      let r = coloured_reached (get_or (order g w) j 0) (order_coloured (get_or (order g w) j 0) m) in (
        place_in (get_or (order g w) j 0) (order g w),
        r.1,
        at_place (get_or (order g w) j 0) m ∙ sym (get_d_map_lt (λ d. rename_node (number g w) (node_at g.nodes d)) (order g w) j (node 0 []) 0 l'),
      )

  pub canon_reached : (j : ℕ) → j < length (canon g).nodes → (k : ℕ) × Reached (canon g).nodes (canon g).root (obj k) × (node_at (canon g).nodes k ≡ node_at (canon g).nodes j)
  unfolding canon
  canon_reached j l = listed_reached j l

abbrev AllReached : Graph → Type 0
AllReached v = (j : ℕ) → j < length v.nodes → (k : ℕ) × Reached v.nodes v.root (obj k) × (node_at v.nodes k ≡ node_at v.nodes j)

module _ (t : Table) (wf : WellFormed t) where
  -- what is reached is typed
  reached_typed : (ns : List Node) (root : Ref) (u : Ty) → AllTyped t [] u (follow ns root) → (r : Ref) → Reached ns root r → (x : Ty) × AllTyped t [] x (follow ns r)
  reached_typed ns root u h r top = (u, h)
  reached_typed ns root u h r (below {r = q} f s d e) = let a = reached_typed ns root u h q d in onward t wf ns q a.0 a.1 f s e

  lists : (u : Ty) (v : Graph) → Has t [] u v → AllReached v → Lists t u v
  lists u v h a =
      record {
        root = stands t wf u u refl (λ l. let m = h.tag in omega arith) (some (label_at v.nodes v.root)) (h.typed 1).0;
        counts = λ i l. let k = a i l in
            subst (λ (n : Node). length n.refs ≡ length (fields_of t.classes n.cls)) k.2 ((reached_typed v.nodes v.root u h.typed (obj k.0) k.1).1 1).0.1;
        fields = λ i f w r l e z. let k = a i l in
            at k.0 (reached_typed v.nodes v.root u h.typed (obj k.0) k.1) f w r
            (subst (λ (n : Node). get_elem? (fields_of t.classes n.cls) f ≡ some w) (sym k.2) e) (subst (λ (n : Node). get_elem? n.refs f ≡ some r) (sym k.2) z);
      }
    where
      at : (k : ℕ) → (x : Ty) × AllTyped t [] x (follow v.nodes (obj k)) → (f : ℕ) (w : Ty) (r : Ref) → get_elem? (fields_of t.classes (node_at v.nodes k).cls) f ≡ some w
          → get_elem? (refs_at v.nodes k) f ≡ some r → Stands t w (label_at v.nodes r)
      at k x f w r e z =
          stands t wf (ty w.cls (under x.0.tag w.tag)) w refl (under_3 t wf x.0.tag w.tag (field_tag t wf (node_at v.nodes k).cls f w e)) (some (label_at v.nodes r))
          (subst (λ (o : Option Ref). OkAt t [] (ty w.cls (under x.0.tag w.tag)) (o >>= λ s. some (label_at v.nodes s))) z
          ((x.1 2).1 (node_at v.nodes k).cls (length (refs_at v.nodes k)) f w refl e).0)

  ends_listed : (objects : ℕ) (u : Ty) (o : Outcome Graph) → Out (Has t [] u) o → Has-value (Good t objects 0) o → EndsListed t u o
  ends_listed objects u (value v n) h q = lists u v h (subst AllReached q.own (canon_reached v q.whole))
  ends_listed objects u (stopped l n) h q = h

-- an input that belongs to the table is a value as runs make them
pub fed_good : (objects : ℕ) (t : Table) (i : Option Graph) → Fed objects t i → IfAny (Good t objects 0) i
fed_good objects t i (unfed e) = tt
fed_good objects t i (fed w v e s g) = g

pub sound_listed : SoundListed
unfolding SoundListed
sound_listed l t i u n wf d e =
    let c = check_says t u e in
    ends_listed t wf l.objects u (run_within l t i n) (has_run t wf c.0 l i u n d c.1) (good_run l t i n wf (fed_good l.objects t i d))
