-- The open calls of a run, and the class that bounds the mark of each.
use Prim.Native.Nat.{ℕ, suc}
use mathlib.Core.Path.{◌≡◌, refl, ap, ◌∙◌, subst}
use mathlib.Core.Bool.{Bool, true, false, false≢true}
use mathlib.Core.List.{List, [], ◌∷◌}
use mathlib.Core.Option.{Option, some, none-ne-some}
use lib.Dec.{eqb}
use lib.ListN.{length}
use borrow.Author.Tests.{eqb-true}
use Rattle.cofj.specs.Syntax.{Ty, Method, Table}
use Rattle.cofj.specs.Lookup.{found_in, lookup}
use Rattle.cofj.specs.Values.{Node, Graph, graph, eq_ref, eq_node, eq_nodes, eq_graph, eq_graphs}
use Rattle.cofj.specs.Running.{OpenCall, class_of, open_mark}
use Rattle.cofj.proofs.Basics.{both_true, eq_ref_true, eq_node_true}
use Rattle.cofj.proofs.Typed.{bound, bound_new, bound_more}
use Rattle.cofj.proofs.CheckSays.{left_type}

-- ---- the open calls
eq_nodes_true : (ns ms : List Node) → eq_nodes ns ms ≡ true → ns ≡ ms
unfolding eq_nodes
eq_nodes_true [] [] h = refl
eq_nodes_true [] (m ∷ ms) h = absurd (false≢true h)
eq_nodes_true (n ∷ ns) [] h = absurd (false≢true h)
eq_nodes_true (n ∷ ns) (m ∷ ms) h =
    let p = both_true (eq_node n m) (eq_nodes ns ms) h in
    λ i. eq_node_true n m p.0 i ∷ eq_nodes_true ns ms p.1 i

pub eq_graph_true : (g h : Graph) → eq_graph g h ≡ true → g ≡ h
unfolding eq_graph
eq_graph_true g h e =
    let p = both_true (eq_ref g.root h.root) (eq_nodes g.nodes h.nodes) e in
    λ i. graph (eq_ref_true g.root h.root p.0 i) (eq_nodes_true g.nodes h.nodes p.1 i)

-- c is the class of the left type of the method that a call of m on v runs
abbrev pub Runs : Table → Graph → ℕ → ℕ → Type 0
Runs t v m c = (c' o : ℕ) (d : Method) (u : Ty) → class_of v ≡ some c' → lookup t c' m ≡ some (found_in o d) → left_type t d ≡ some u → u.cls ≡ c

-- the open calls have their numbers for marks, and the bounds of these are right
abbrev pub Trace : Table → List OpenCall → List ℕ → Type 0
Trace t [] [] = Unit {0}
Trace t [] (c ∷ σ) = ⊥
Trace t (o ∷ os) [] = ⊥
Trace t (o ∷ os) (c ∷ σ) = (o.label ≡ length σ) × Runs t o.receiver o.name c × Trace t os σ

pub trace_length : (t : Table) (os : List OpenCall) (σ : List ℕ) → Trace t os σ → length os ≡ length σ
trace_length t [] [] h = refl
trace_length t [] (c ∷ σ) h = absurd h
trace_length t (o ∷ os) [] h = absurd h
trace_length t (o ∷ os) (c ∷ σ) h = ap suc (trace_length t os σ h.2)

-- a call met again: its mark has a bound, and it is the class of the left type
pub open_bound : (t : Table) (os : List OpenCall) (σ : List ℕ) (v : Graph) (m : ℕ) (vs : List Graph) (x : ℕ) → Trace t os σ → open_mark os v m vs ≡ some x
    → (c : ℕ) × (bound σ x ≡ some c) × Runs t v m c
unfolding open_mark
open_bound t [] σ v m vs x h e = absurd (none-ne-some x e)
open_bound t (o ∷ os) [] v m vs x h e = absurd h
open_bound t (o ∷ os) (c ∷ σ) v m vs x h e = go (eqb o.name m) refl (eq_graph o.receiver v) refl (eq_graphs o.args vs) e (open_bound t os σ v m vs x h.2)
  where
    rest : (c' : ℕ) × (bound σ x ≡ some c') × Runs t v m c' → (c' : ℕ) × (bound (c ∷ σ) x ≡ some c') × Runs t v m c'
    rest r = (r.0, bound_more c σ x r.0 r.1, r.2)

    go : (a : Bool) → eqb o.name m ≡ a → (b : Bool) → eq_graph o.receiver v ≡ b → (b' : Bool)
        → ◌≡◌ {A = Option ℕ} (elim a [
          | true ↦ elim b [
            | true ↦ elim b' [ true ↦ some o.label | false ↦ open_mark os v m vs ]
            | false ↦ open_mark os v m vs
          ]
          | false ↦ open_mark os v m vs
        ]) (some x)
        → (open_mark os v m vs ≡ some x → (c' : ℕ) × (bound σ x ≡ some c') × Runs t v m c')
        → (c' : ℕ) × (bound (c ∷ σ) x ≡ some c') × Runs t v m c'
    go true p true q true z ih =
        let y : some o.label ≡ some x = z in
        let l : x ≡ length σ = cc h.0 in (
          c,
          ap (bound (c ∷ σ)) l ∙ bound_new c σ,
          subst (λ (w : Graph). Runs t w m c) (eq_graph_true o.receiver v q) (subst (λ (k : ℕ). Runs t o.receiver k c) (eqb-true o.name m p) h.1),
        )
    go true p true q false z ih = rest (ih z)
    go true p false q b' z ih = rest (ih z)
    go false p b q b' z ih = rest (ih z)
