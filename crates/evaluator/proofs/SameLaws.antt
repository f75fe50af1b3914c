-- Arguments and open calls compared: one law for each return of `same_args` and `same_call`.
-- Not here: what is told before they are compared (ApartLaws).
use Rattle.std.proofs.Common.{ℕ, zero, suc, ◌+◌, ◌≤◌, ◌<◌, arith, add-one, ◌≡◌, refl, sym, ap, ap₂, ◌∙◌, subst, Bool, true, false, not, List, [], ◌∷◌, map, eqb, length, take, drop, length-take, drop_of_length-le, drop-cons, get_or-take, length-take-le, eq-eqb, ne_eqb}
use borrow.Author.Tests.{not-true, not-false}
use Rattle.cofj.specs.Values.{Graph, eq_graph, eq_graphs}
use Rattle.classes.specs.Machine.{pick}
use Rattle.values.specs.declared.ValueRef.{ValueRef}
use Rattle.values.specs.Layout.{value_of, Holds}
use Rattle.maker.specs.Laying.{values_from, PartsHeld}
use Rattle.evaluator.specs.declared.trace.OpenCall.{OpenCall}
use Rattle.evaluator.specs.State.{slot_at, call_in, CallHolds, same_of}
use Rattle.evaluator.proofs.VariableLaws.{length_values}

-- ---- values from a place on
module _ (W : List ℕ) (ps : List ValueRef) (i n : ℕ) where
  values_end : n ≤ i → values_from W ps i n ≡ []
  unfolding values_from
  values_end h = ap (map (value_of W)) (drop_of_length-le (take n ps) {i = i} (omega (arith, length-take n ps)))

  values_cons : n ≤ length ps → i < n → values_from W ps i n ≡ value_of W (slot_at ps i) ∷ values_from W ps (i + 1) n
  unfolding values_from
  values_cons full h =
      let l : i < length (take n ps) = omega (arith, length-take-le n ps full) in
      ap (map (value_of W)) (drop-cons (take n ps) i (ValueRef.Object 0 0) l)
      ∙ ap₂ {A = Graph} {B = List Graph} {C = List Graph} ◌∷◌ (ap (value_of W) (get_or-take n ps i (ValueRef.Object 0 0) h))
      (ap (λ (k : ℕ). map (value_of W) (drop k (take n ps))) (sym (add-one i)))

-- ---- arguments compared
pub part_held : (W : List ℕ) (ps : List ValueRef) (n i : ℕ) → PartsHeld W ps n → i < n → Holds W (slot_at ps i)
part_held W ps n i h l = h.part i l

-- the comparison has come to place i
pub record Comparing (W : List ℕ) (ps qs : List ValueRef) (i n : ℕ) : Type 0 where
  pub rest : eq_graphs (values_from W ps i n) (values_from W qs i n) ≡ eq_graphs (values_from W ps 0 n) (values_from W qs 0 n)

pub args_start : (W : List ℕ) (ps qs : List ValueRef) (n : ℕ) → Comparing W ps qs 0 n
args_start W ps qs n = record { rest = refl }

module _ (W : List ℕ) (ps qs : List ValueRef) (i n : ℕ) (c : Comparing W ps qs i n) where
  pub args_end : n ≤ i → true ≡ eq_graphs (values_from W ps 0 n) (values_from W qs 0 n)
  unfolding eq_graphs
  args_end h = rw (values_end W ps i n h, values_end W qs i n h) at c.rest

  module _ (a : PartsHeld W ps n) (b : PartsHeld W qs n) (h : i < n) (r : Bool) (e : r ≡ eq_graph (value_of W (slot_at ps i)) (value_of W (slot_at qs i))) where
    differ : not r ≡ true → false ≡ eq_graphs (values_from W ps i n) (values_from W qs i n)
    unfolding eq_graphs
    differ z = rw (values_cons W ps i n a.full h, values_cons W qs i n b.full h, ← e, not-true r z, eq_graphs)

    more : r ≡ true → eq_graphs (values_from W ps (i + 1) n) (values_from W qs (i + 1) n) ≡ eq_graphs (values_from W ps i n) (values_from W qs i n)
    unfolding eq_graphs
    more z = rw (values_cons W ps i n a.full h, values_cons W qs i n b.full h, ← e, z, eq_graphs)

    pub args_differ : not r ≡ true → false ≡ eq_graphs (values_from W ps 0 n) (values_from W qs 0 n)
    args_differ z = differ z ∙ c.rest

    pub args_more : r ≡ true → Comparing W ps qs (i + 1) n
    args_more z = record { rest = more z ∙ c.rest }

-- lists of values one of which differs
module _ (W : List ℕ) (ps qs : List ValueRef) (n k : ℕ) (a : PartsHeld W ps n) (b : PartsHeld W qs n) (l : k < n) (ne : false ≡ eq_graph (value_of W (slot_at ps k)) (value_of W (slot_at qs k))) where
  one_differs : (d i : ℕ) → i + d ≡ k → false ≡ eq_graphs (values_from W ps i n) (values_from W qs i n)
  unfolding eq_graphs
  one_differs zero i e =
      let z : k ≡ i = omega arith in
      let ne' = subst (λ (j : ℕ). false ≡ eq_graph (value_of W (slot_at ps j)) (value_of W (slot_at qs j))) z ne in
      rw (values_cons W ps i n a.full (omega arith), values_cons W qs i n b.full (omega arith), ← ne', eq_graphs)
  one_differs (suc d) i e =
      rw (values_cons W ps i n a.full (omega arith), values_cons W qs i n b.full (omega arith), eq_graphs)
      (go (eq_graph (value_of W (slot_at ps i)) (value_of W (slot_at qs i))) (one_differs d (i + 1) (omega arith)))
    where
      go : (x : Bool) → false ≡ eq_graphs (values_from W ps (i + 1) n) (values_from W qs (i + 1) n)
          → ◌≡◌ {A = Bool} false (elim x [ true ↦ eq_graphs (values_from W ps (i + 1) n) (values_from W qs (i + 1) n) | false ↦ false ])
      go true z = z
      go false z = refl

  pub lists_differ : false ≡ eq_graphs (values_from W ps 0 n) (values_from W qs 0 n)
  lists_differ = one_differs k 0 (omega arith)

lengths_differ : (vs ws : List Graph) → (length vs ≡ length ws → ⊥) → eq_graphs vs ws ≡ false
unfolding eq_graphs
lengths_differ [] [] h = absurd (h refl)
lengths_differ [] (w ∷ ws) h = refl
lengths_differ (v ∷ vs) [] h = refl
lengths_differ (v ∷ vs) (w ∷ ws) h = go (eq_graph v w) (lengths_differ vs ws (λ e. h (ap suc e)))
  where
    go : (b : Bool) → eq_graphs vs ws ≡ false → ◌≡◌ {A = Bool} (elim b [ true ↦ eq_graphs vs ws | false ↦ false ]) false
    go true e = e
    go false e = refl

-- ---- calls compared
pick_false : (b : Bool) → pick b false false ≡ false
pick_false true = refl
pick_false false = refl

module _ (W : List ℕ) (c : OpenCall) (v : ValueRef) (m : ℕ) (ps : List ValueRef) (n : ℕ) where
  pub call_name : (c.name ≡ m → ⊥) → false ≡ same_of (call_in W 0 c) (value_of W v) m (values_from W ps 0 n)
  unfolding same_of
  call_name h = rw (ne_eqb c.name m h)

  pub by_args : eq_graphs (values_from W c.args 0 c.n) (values_from W ps 0 n) ≡ false → false ≡ same_of (call_in W 0 c) (value_of W v) m (values_from W ps 0 n)
  unfolding same_of
  by_args h = rw (h, pick_false (eq_graph (value_of W c.receiver) (value_of W v)), pick_false (eqb c.name m))

  pub call_count : CallHolds W c → PartsHeld W ps n → (c.n ≡ n → ⊥) → false ≡ same_of (call_in W 0 c) (value_of W v) m (values_from W ps 0 n)
  call_count a b h =
      by_args (lengths_differ (values_from W c.args 0 c.n) (values_from W ps 0 n) (λ e. h (sym (length_values W c.args c.n a.args.full) ∙ e ∙ length_values W ps n b.full)))

  module _ (r : Bool) (er : r ≡ eq_graph (value_of W c.receiver) (value_of W v)) where
    pub call_receiver : not r ≡ true → false ≡ same_of (call_in W 0 c) (value_of W v) m (values_from W ps 0 n)
    unfolding same_of
    call_receiver z = rw (← er, not-true r z, pick_false (eqb c.name m))

    pub call_args : c.name ≡ m → c.n ≡ n → not r ≡ false → (s : Bool) → s ≡ eq_graphs (values_from W c.args 0 n) (values_from W ps 0 n)
        → s ≡ same_of (call_in W 0 c) (value_of W v) m (values_from W ps 0 n)
    unfolding same_of
    call_args en e z s q = rw (eq-eqb c.name m en, ← er, not-false r z, e) q

pub receiver_held : (W : List ℕ) (c : OpenCall) → CallHolds W c → Holds W c.receiver
receiver_held W c h = h.receiver

pub args_held : (W : List ℕ) (c : OpenCall) → CallHolds W c → (n : ℕ) → c.n ≡ n → PartsHeld W c.args n
args_held W c h n e = subst (PartsHeld W c.args) e h.args
