-- What the side conditions of the big-step rules say (specs/RunningRules), in plain terms: the method that a call finds, the field of a
-- value that is no object, and the open call that a call equals. Asked for by RunningRules; the last part is for the reader of the rules.
use Prim.Native.Nat.{ℕ}
use mathlib.Core.Path.{◌≡◌, refl, sym, ap, ◌∙◌, subst}
use mathlib.Core.Bool.{Bool, true, false, false≢true}
use mathlib.Core.Logic.{⊎_elim}
use mathlib.Core.List.Memᴰ
use mathlib.Core.List.{List, [], ◌∷◌, Memᴰ}
use mathlib.Core.Option.{Option, none, some, none-ne-some}
use lib.Dec.{eqb}
use lib.ListN.{length, get_elem?}
use borrow.Author.Tests.{eqb-true, eq-eqb, ne_eqb}
use Rattle.cofj.specs.Syntax.{Table}
use Rattle.cofj.specs.Lookup.{Found, lookup}
use Rattle.cofj.specs.Values.{Graph, Node, Ref, obj, leaf, node_at, refs_at, selected, select, eq_ref, eq_node, eq_nodes, eq_graph, eq_graphs}
use Rattle.cofj.specs.Running.{OpenCall, open_mark, class_of, target}
use Rattle.cofj.specs.Promises.{Equals, OpenUnder}
use Rattle.cofj.proofs.Basics.{both_true, true_both, eq_ref_refl, eq_node_refl}
use Rattle.cofj.proofs.Traces.{eq_graph_true}

-- ---- mbody: W-INVK's three reasons why a call finds no method (that it finds one otherwise is Sound's `target_is`)
module _ (t : Table) (v : Graph) (m n : ℕ) where
  pub target_object : class_of v ≡ none → target t v m n ≡ none
  unfolding target
  target_object p = rw (p, target)

  pub target_lacks : (c : ℕ) → class_of v ≡ some c → lookup t c m ≡ none → target t v m n ≡ none
  unfolding target
  target_lacks c p q = rw (p, target, q)

  pub target-count : (c : ℕ) (f : Found) → class_of v ≡ some c → lookup t c m ≡ some f → (length f.body.params ≡ n → ⊥) → target t v m n ≡ none
  unfolding target
  target-count c f p q r = rw (p, target, q, ne_eqb (length f.body.params) n r)

-- ---- guarded: no object has no field
pub select_none : (f : ℕ) (v : Graph) → class_of v ≡ none → select f v ≡ none
unfolding select
select_none f v q = go v.root q
  where
    go : (r : Ref) → ◌≡◌ {A = Option ℕ} (elim r [ obj i ↦ some (node_at v.nodes i).cls | leaf l ↦ none ]) none
        → ◌≡◌ {A = Option Graph} (elim r [ obj i ↦ selected v.nodes (get_elem? (refs_at v.nodes i) f) | leaf l ↦ none ]) none
    go (obj i) z = absurd (none-ne-some (node_at v.nodes i).cls (sym z))
    go (leaf l) z = refl

-- ---- dom(σ): the open call that a call equals
eq_nodes_refl : (ns : List Node) → eq_nodes ns ns ≡ true
unfolding eq_nodes
eq_nodes_refl [] = refl
eq_nodes_refl (n ∷ ns) = true_both (eq_node n n) (eq_nodes ns ns) (eq_node_refl n) (eq_nodes_refl ns)

eq_graph_refl : (g : Graph) → eq_graph g g ≡ true
unfolding eq_graph
eq_graph_refl g = true_both (eq_ref g.root g.root) (eq_nodes g.nodes g.nodes) (eq_ref_refl g.root) (eq_nodes_refl g.nodes)

eq_graphs_true : (vs ws : List Graph) → eq_graphs vs ws ≡ true → vs ≡ ws
unfolding eq_graphs
eq_graphs_true [] [] h = refl
eq_graphs_true [] (w ∷ ws) h = absurd (false≢true h)
eq_graphs_true (v ∷ vs) [] h = absurd (false≢true h)
eq_graphs_true (v ∷ vs) (w ∷ ws) h =
    let p = both_true (eq_graph v w) (eq_graphs vs ws) h in
    λ i. eq_graph_true v w p.0 i ∷ eq_graphs_true vs ws p.1 i

eq_graphs_refl : (vs : List Graph) → eq_graphs vs vs ≡ true
unfolding eq_graphs
eq_graphs_refl [] = refl
eq_graphs_refl (v ∷ vs) = true_both (eq_graph v v) (eq_graphs vs vs) (eq_graph_refl v) (eq_graphs_refl vs)

module _ (v : Graph) (m : ℕ) (vs : List Graph) where
  -- what `open_mark` answers, when the tests of its first call gave a, b and c
  abbrev by_tests : OpenCall → List OpenCall → Bool → Bool → Bool → Option ℕ
  unfolding open_mark
  by_tests o os a b c = elim a [
    | true ↦ elim b [
      | true ↦ elim c [ true ↦ some o.label | false ↦ open_mark os v m vs ]
      | false ↦ open_mark os v m vs
    ]
    | false ↦ open_mark os v m vs
  ]

  -- σ(v.m(v̄)) = X
  pub open_some : (os : List OpenCall) (x : ℕ) → open_mark os v m vs ≡ some x → OpenUnder v m vs os x
  unfolding open_mark
  open_some [] x e = absurd (none-ne-some x e)
  open_some (o ∷ os) x e = go (eqb o.name m) refl (eq_graph o.receiver v) refl (eq_graphs o.args vs) refl e (λ z. later (open_some os x z))
    where
      later : OpenUnder v m vs os x → OpenUnder v m vs (o ∷ os) x
      later r = (r.0, Memᴰ.tail r.1, r.2, r.3)

      go : (a : Bool) → eqb o.name m ≡ a → (b : Bool) → eq_graph o.receiver v ≡ b → (c : Bool) → eq_graphs o.args vs ≡ c
          → by_tests o os a b c ≡ some x → (open_mark os v m vs ≡ some x → OpenUnder v m vs (o ∷ os) x) → OpenUnder v m vs (o ∷ os) x
      go true p true q true r z ih =
          let y : some o.label ≡ some x = z in
          (o, Memᴰ.head refl, (eqb-true o.name m p, eq_graph_true o.receiver v q, eq_graphs_true o.args vs r), let l : o.label ≡ x = cc in l)
      go true p true q false r z ih = ih z
      go true p false q c r z ih = ih z
      go false p b q c r z ih = ih z

  -- an equal call at the head is found
  open_head : (o : OpenCall) (os : List OpenCall) → Equals v m vs o → open_mark (o ∷ os) v m vs ≡ some o.label
  unfolding open_mark
  open_head o os e =
      rw (eq-eqb o.name m e.0, open_mark, ap (λ (g : Graph). eq_graph g v) e.1 ∙ eq_graph_refl v, ap (λ (gs : List Graph). eq_graphs gs vs) e.2 ∙ eq_graphs_refl vs)

  open_tail : (o : OpenCall) (os : List OpenCall) → open_mark (o ∷ os) v m vs ≡ none → open_mark os v m vs ≡ none
  unfolding open_mark
  open_tail o os e = go (eqb o.name m) (eq_graph o.receiver v) (eq_graphs o.args vs) e
    where
      go : (a b c : Bool) → by_tests o os a b c ≡ none → open_mark os v m vs ≡ none
      go true true true z = absurd (none-ne-some o.label (sym z))
      go true true false z = z
      go true false c z = z
      go false b c z = z

  -- the call is not in dom(σ): no equal call is open
  pub open_none : (os : List OpenCall) → open_mark os v m vs ≡ none → (o : OpenCall) → Memᴰ o os → Equals v m vs o → ⊥
  open_none [] e o k q = Memᴰ.not-nil k
  open_none (x ∷ os) e o k q =
      ⊎_elim (λ z. none-ne-some x.label (sym e ∙ open_head x os (subst (Equals v m vs) z q))) (λ k'. open_none os (open_tail x os e) o k' q) (Memᴰ.cases_cons k)
