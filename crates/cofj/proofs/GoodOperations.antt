-- The operations of a run give values that are canonical, whole, within the limit, made of their classes' objects and of leaves that may stand in them.
-- Not here: the interpreter, which uses them (Runs).
use Prim.Native.Nat.{ℕ, suc, ◌+◌, ◌-◌, ◌≤◌, ◌<◌}
use native.Mathlib.Omega.{arith}
use mathlib.Core.Path.{◌≡◌, refl, ◌∙◌}
use mathlib.Core.Bool.{Bool, true, false}
use mathlib.Core.List.{List, [], ◌∷◌, map}
use mathlib.Core.Option.{Option, none, some, none-ne-some}
use lib.Dec.{eqb, ltb}
use lib.ListN.{length, get_elem?, length-map}
use borrow.Author.Tests.{ltb-true, ltb-false}
use Rattle.cofj.specs.Limits.{number_count}
use Rattle.cofj.specs.Syntax.{Operation, sum, difference, Table}
use Rattle.cofj.specs.Classes.{fields_of}
use Rattle.cofj.specs.Values.{Ref, obj, leaf, Leaf, mark, undet, num, node, Graph, graph, rename_node, refs_at, canon, lay, select, selected, close, bind_leaf, bind, make, leaf_of, leaf_number, number_in}
use Rattle.cofj.specs.Running.{Outcome, value, stopped, Stop, ◌then◌, or_stuck, sized, reckon}
use Rattle.cofj.specs.Unfolding.{InRange}
use Rattle.cofj.specs.Formed.{AllIn, RefBelow, Formed, Good, IfAny, Out}
use Rattle.cofj.specs.WellFormed.{WellFormed}
use Rattle.cofj.proofs.Unique.{canon-canon}
use Rattle.cofj.proofs.Operations.{make-whole, laid, laid_whole, length-roots, at_ref, bound_whole, bound_node}
use Rattle.cofj.proofs.GoodValues.{all_map, all_append, all_at, all_get, ref_rename, leaf_bind, formed_rename, formed_default, formed_bind, canon_formed, canon_root, all_whole, good_canon, good_leaf}

-- ---- outcomes
pub out_then : {A B : Type 0} (P : A → Type 0) (Q : B → Type 0) (f : A → ℕ → Outcome B) → ((a : A) (n : ℕ) → P a → Out Q (f a n))
    → (o : Outcome A) → Out P o → Out Q (o then f)
out_then P Q f h (value a n) p = h a n p
out_then P Q f h (stopped l n) p = tt

pub out_or : {A : Type 0} (P : A → Type 0) (o : Option A) (n : ℕ) → IfAny P o → Out P (or_stuck o n)
out_or P none n h = tt
out_or P (some a) n h = h

module _ (t : Table) (wf : WellFormed t) (objects : ℕ) where
  abbrev G : ℕ → Graph → Type 0
  G k v = Good t objects k v

  abbrev Gs : ℕ → List Graph → Type 0
  Gs k vs = AllIn (Good t objects k) vs

  pub good_select : (k f : ℕ) (v : Graph) → G k v → IfAny (G k) (select f v)
  unfolding select
  good_select k f v h = go v.root
    where
      at_leaves : (i : ℕ) (r : Ref) → get_elem? (refs_at v.nodes i) f ≡ some r → RefBelow k r
      at_leaves i r e = all_get (RefBelow k) (refs_at v.nodes i) (all_at (Formed t k) (node 0 []) (formed_default t k) v.nodes h.nodes i).leaves f r e

      found_at : (i : ℕ) (o : Option Ref) → get_elem? (refs_at v.nodes i) f ≡ o → IfAny (G k) (selected v.nodes o)
      found_at i none e = tt
      found_at i (some r) e = good_canon t objects k (graph r v.nodes) (at_ref v h.whole r (h.whole.inner i f r e)) h.small (at_leaves i r e) h.nodes

      go : (r : Ref) → IfAny (G k) (elim r as (λ _. Option Graph) [ obj i ↦ selected v.nodes (get_elem? (refs_at v.nodes i) f) | leaf l ↦ none ])
      go (obj i) = found_at i (get_elem? (refs_at v.nodes i) f) refl
      go (leaf l) = tt

  pub good_close : (k : ℕ) (v : Graph) → G (suc k) v → G k (close k v)
  unfolding close
  good_close k v h = go v.root h.whole.top h.root
    where
      -- a leaf stays one
      leaves : (r : Ref) → InRange 0 r → RefBelow k r → G k (graph r [])
      leaves (obj i) p m = absurd (omega arith)
      leaves (leaf l) p m = good_leaf t objects k l m

      in_none : (l : Leaf) → InRange 0 (bind_leaf k (leaf undet) l)
      in_none (mark x) = pick (eqb x k)
        where
          pick : (b : Bool) → InRange 0 (elim b as (λ _. Ref) [ true ↦ leaf undet | false ↦ leaf (mark x) ])
          pick true = tt
          pick false = tt
      in_none undet = tt
      in_none (num n) = tt

      go : (r : Ref) → InRange (length v.nodes) r → RefBelow (suc k) r
          → G k (elim r as (λ _. Graph) [
            | obj i ↦ canon (graph (obj i) (map (λ n. node n.cls (map (bind k (obj i)) n.refs)) v.nodes))
            | leaf l ↦ graph (bind_leaf k (leaf undet) l) []
          ])
      go (obj i) p m =
          good_canon t objects k (graph (obj i) (map (bound_node k i) v.nodes)) (bound_whole v h.whole k i p)
          (omega (arith, h.small, length-map v.nodes (bound_node k i))) tt
          (all_map (Formed t (suc k)) (Formed t k) (bound_node k i) (formed_bind t k i) v.nodes h.nodes)
      go (leaf l) p m = leaves (bind_leaf k (leaf undet) l) (in_none l) (leaf_bind k (leaf undet) tt l m)

  -- the objects of the values, laid side by side
  lay_formed : (k : ℕ) (vs : List Graph) (n : ℕ) → Gs k vs → AllIn (RefBelow k) (lay n vs).roots × AllIn (Formed t k) (lay n vs).all
  unfolding lay
  lay_formed k [] n h = (tt, tt)
  lay_formed k (v ∷ vs) n h =
      let rest = lay_formed k vs (n + length v.nodes) h.1 in (
        (ref_rename k _ v.root h.0.root, rest.0),
        all_append (Formed t k) (map (rename_node (λ i. n + i)) v.nodes) (lay (n + length v.nodes) vs).all
            (all_map (Formed t k) (Formed t k) (rename_node (λ i. n + i)) (formed_rename t k _) v.nodes h.0.nodes) rest.1,
      )

  pub good_new : (k c : ℕ) (vs : List Graph) (n : ℕ) → c ≤ length t.classes → length vs ≡ length (fields_of t.classes c) → Gs k vs → Out (G k) (sized objects (make c vs) n)
  unfolding sized make
  good_new k c vs n kn e h = go (ltb objects (length (make c vs).nodes)) refl
    where
      go : (b : Bool) → ltb objects (length (make c vs).nodes) ≡ b → Out (G k) (elim b as (λ _. Outcome Graph) [ true ↦ stopped Stop.too_large n | false ↦ value (make c vs) n ])
      go true q = tt
      go false q =
          let f = lay_formed k vs 1 h in
          record {
            whole = make-whole c vs (all_whole t objects k vs h);
            own = canon-canon (laid c vs) (laid_whole c vs (all_whole t objects k vs h));
            small = ltb-false objects (length (make c vs).nodes) q;
            root = canon_root t k (laid c vs) tt;
            nodes = canon_formed t k (laid c vs) (record { known = kn; count = length-roots vs 1 ∙ e; leaves = f.0 }, f.1);
          }

  -- ---- numbers
  number_bound : (k : ℕ) (v : Graph) → G k v → (x : ℕ) → number_in v ≡ some x → x < number_count
  number_bound k v h x e = go v.root h.root e
    where
      go : (r : Ref) → RefBelow k r → (elim r as (λ _. Option ℕ) [ obj i ↦ none | leaf l ↦ leaf_number l ]) ≡ some x → x < number_count
      go (obj i) m z = absurd (none-ne-some x z)
      go (leaf (mark y)) m z = absurd (none-ne-some x z)
      go (leaf undet) m z = absurd (none-ne-some x z)
      go (leaf (num y)) m z = let q : y ≡ x = cc in omega arith

  -- an operand, and what is done with its number
  pub good_operand : (k : ℕ) (o : Outcome Graph) → Out (G k) o → (f : ℕ → ℕ → Outcome Graph) → ((x n : ℕ) → x < number_count → Out (G k) (f x n))
      → Out (G k) (o then λ v n. or_stuck (number_in v) n then f)
  good_operand k (stopped l n) h f g = tt
  good_operand k (value v n) h f g = go (number_in v) refl
    where
      go : (i : Option ℕ) → number_in v ≡ i → Out (G k) (or_stuck i n then f)
      go none e = tt
      go (some x) e = g x n (number_bound k v h x e)

  pub good_reckon : (k : ℕ) (o : Operation) (x y n : ℕ) → x < number_count → Out (G k) (reckon o x y n)
  unfolding reckon
  good_reckon k sum x y n l = go (ltb (x + y) number_count) refl
    where
      go : (b : Bool) → ltb (x + y) number_count ≡ b → Out (G k) (elim b as (λ _. Outcome Graph) [ true ↦ value (leaf_of (num (x + y))) n | false ↦ stopped Stop.overflow n ])
      go true e = good_leaf t objects k (num (x + y)) (ltb-true (x + y) number_count e)
      go false e = tt
  good_reckon k difference x y n l = good_leaf t objects k (num (x - y)) (omega arith)

  pub good_branch : (k : ℕ) (b : Bool) (o p : Outcome Graph) → Out (G k) o → Out (G k) p → Out (G k) (elim b as (λ _. Outcome Graph) [ true ↦ o | false ↦ p ])
  good_branch k true o p g h = g
  good_branch k false o p g h = h
