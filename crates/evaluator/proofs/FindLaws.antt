-- The method that a call names, found in a table's bytes: one law for each return of `find`.
-- Not here: the call itself (CallLaws, InvokeLaws).
use Rattle.std.specs.declared.option.Option.{Option as RustOption}
use Rattle.std.specs.declared.option.Option.TheVariants.{Some, None}
use Rattle.std.proofs.Common.{ℕ, ◌+◌, ◌*◌, ◌≤◌, ◌<◌, arith, ◌≡◌, refl, sym, ap, ◌∙◌, subst, Bool, true, false, List, [], eqb, length, get_or}
use Rattle.std.proofs.Math.Option.{Option, none, some, none-ne-some}
use Rattle.cofj.specs.Limits.{method_count}
use Rattle.cofj.specs.Syntax.{Table}
use Rattle.cofj.specs.Lookup as language
use Rattle.cofj.specs.Lookup.{found_in, lookup}
use Rattle.cofj.specs.Values.{Node, Ref, canon, leaf, node_at, obj, refs_at}
use Rattle.cofj.specs.Running.{class_of, target}
use Rattle.cofj.specs.WellFormed.{MethodFormed}
use Rattle.cofj.proofs.SideConditions.{target_object, target_lacks, target-count}
use Rattle.classes.specs.declared.methods.Found.{Found}
use Rattle.classes.specs.Machine.{pick, found_at, lookup_of, counted, method_with}
use Rattle.classes.specs.Layout.{layout, Tabled, Finds}
use Rattle.classes.proofs.Lists.{index_below, method_at}
use Rattle.classes.proofs.Zones.{param_count_at}
use Rattle.classes.proofs.OnTables.{lookup_on}
use Rattle.values.specs.declared.ValueRef.{ValueRef}
use Rattle.values.specs.declared.ValueRef.TheVariants.{Object}
use Rattle.canon.specs.Figures.{block_size, object_size}
use Rattle.canon.specs.Layout.{node_in, count_in, objects_in, graph_at, Inside}
use Rattle.values.specs.Layout.{HeldBy, value_of, Holds}
use Rattle.values.proofs.Blocks.{whole_at, inside_room, no_object}
use Rattle.cofj.proofs.Canon.{canon_same}
use Rattle.cofj.specs.Unfolding.{object, label_at}
use Rattle.canon.proofs.Nodes.{at_nodes}
use Rattle.evaluator.specs.Calling.{FewIf, FindsTarget}

-- ---- the class of an object
object_in : (W : List ℕ) (v : ValueRef) (b i : ℕ) → Holds W v → v ≡ Object i b → Inside W b i
object_in W v b i h e = subst (HeldBy W) e h.held

-- the class of object i of block b
abbrev class_at : List ℕ → ℕ → ℕ → ℕ
class_at W b i = get_or W (block_size * b + object_size * i) 0

class_in_lem : (W : List ℕ) (b i : ℕ) → Inside W b i → class_of (canon (graph_at W b i)) ≡ some (class_at W b i)
unfolding objects_in node_in
class_in_lem W b i ob =
    go (canon (graph_at W b i)).root (let z = canon_same (graph_at W b i) (whole_at W b ob.block i ob.low) [] in cc)
    ∙ ap (λ (n : Node). some n.cls) (at_nodes W (block_size * b) (count_in W b) i ob.low)
  where
    ns : List Node
    ns = (canon (graph_at W b i)).nodes

    go : (r : Ref) → label_at ns r ≡ object (node_at (objects_in W b) i).cls (length (refs_at (objects_in W b) i))
        → (elim r as (λ _. Option ℕ) [ obj j ↦ some (node_at ns j).cls | leaf l ↦ none ]) ≡ some (node_at (objects_in W b) i).cls
    go (obj j) e = ap some (let z : (node_at ns j).cls ≡ (node_at (objects_in W b) i).cls = cc in z)
    go (leaf l) e = absurd (let q : ◌≡◌ {A = ℕ} 0 1 = cc in omega arith)

pub object_room : (W : List ℕ) (v : ValueRef) (b i : ℕ) → Holds W v → v ≡ Object i b → block_size * b + object_size * i + object_size ≤ length W
object_room W v b i h e = inside_room W b i (object_in W v b i h e)

none_found : (t : Table) (x : Option language.Found) → x ≡ none → Finds t.methods None x
none_found t none e = Finds.nothing
none_found t (some y) e = absurd (none-ne-some y (sym e))

module _ (T W : List ℕ) (v : ValueRef) (m n : ℕ) where
  pub find_none : ((i b : ℕ) → v ≡ Object i b → ⊥) → FindsTarget T W v m n None
  find_none h = record { few = tt; is = λ t tb s. none_found t (target t (value_of W v) m n) (target_object t (value_of W v) m n no_class) }
    where
      no_class : class_of (value_of W v) ≡ none
      no_class = no_object (λ (r : ValueRef). class_of (value_of W r) ≡ none) (λ k. refl) (λ k. refl) refl v h

  module _ (hv : Holds W v) (b j : ℕ) (ev : v ≡ Object j b) where
    class_is : class_of (value_of W v) ≡ some (class_at W b j)
    class_is = ap (λ (r : ValueRef). class_of (value_of W r)) ev ∙ class_in_lem W b j (object_in W v b j hv ev)

    counted_is : (t : Table) → Tabled T t → (f : RustOption Found) (x : Option language.Found) → Finds t.methods f x → lookup t (class_at W b j) m ≡ x
        → Finds t.methods (counted T n f) (target t (value_of W v) m n)
    unfolding target
    counted_is t tb f x (Finds.at {o} {i} {d} e) q =
        let l : i < method_count = (let a = index_below t.methods i d e in let c = tb.formed.count in omega arith) in
        rw (tb.bytes, param_count_at t i d l e, class_is, target, q) (go (eqb (length d.params) n))
      where
        go : (y : Bool) → Finds t.methods (pick y (Some (found_at o i)) None) (elim y as (λ _. Option language.Found) [ true ↦ some (found_in o d) | false ↦ none ])
        go true = Finds.at e
        go false = Finds.nothing
    counted_is t tb f x Finds.nothing q = none_found t (target t (value_of W v) m n) (target_lacks t (value_of W v) m n (class_at W b j) class_is q)

    found_is : (t : Table) → Tabled T t → m < 256 → Finds t.methods (method_with T (class_at W b j) m n) (target t (value_of W v) m n)
    unfolding method_with
    found_is t tb s =
        counted_is t tb (lookup_of T (class_at W b j) m) (lookup t (class_at W b j) m)
        (subst (λ (B : List ℕ). Finds t.methods (lookup_of B (class_at W b j) m) (lookup t (class_at W b j) m)) (sym tb.bytes)
        (lookup_on t tb.formed m s (class_at W b j))) refl

    many_is : (t : Table) → Tabled T t → 3 < n → (f : RustOption Found) (x : Option language.Found) → Finds t.methods f x → lookup t (class_at W b j) m ≡ x → target t (value_of W v) m n ≡ none
    many_is t tb h f x (Finds.at {o} {i} {d} e) q =
        let few = (method_at (MethodFormed t) t.methods i d tb.formed.methods e).few in
        target-count t (value_of W v) m n (class_at W b j) (found_in o d) class_is q (λ z. omega arith)
    many_is t tb h f x Finds.nothing q = target_lacks t (value_of W v) m n (class_at W b j) class_is q

    pub find_many : 3 < n → FindsTarget T W v m n None
    find_many h = record {
      few = tt;
      is = λ t tb s. none_found t (target t (value_of W v) m n)
          (many_is t tb h (lookup_of (layout t) (class_at W b j) m) (lookup t (class_at W b j) m) (lookup_on t tb.formed m s (class_at W b j)) refl);
    }

    pub find_is : (f : RustOption Found) → n ≤ 3 → f ≡ method_with T (class_at W b j) m n → FindsTarget T W v m n f
    find_is f h e = record {
      few = few_if f;
      is = λ t tb s. subst (λ (x : RustOption Found). Finds t.methods x (target t (value_of W v) m n)) (sym e) (found_is t tb s);
    }
      where
        few_if : (x : RustOption Found) → FewIf n x
        few_if (Some f) = h
        few_if None = tt
