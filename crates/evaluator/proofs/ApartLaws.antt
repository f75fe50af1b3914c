-- Values, arguments and open calls told apart before they are compared: a law for each return of `args_apart`, and what `other_call` tells.
-- Not here: calls compared (SameLaws).
use Rattle.std.proofs.Common.{ℕ, ◌<◌, ◌≡◌, refl, sym, ap, ◌∙◌, Bool, true, false, not, List, eqb, eqb-true}
use native.Mathlib.Decide.{ℕ_discrete}
use Rattle.std.proofs.Math.Bool.{false≢true}
use borrow.Author.Tests.{not-true}
use Rattle.cofj.specs.Values.{number_of, eq_graph, eq_graphs}
use Rattle.classes.specs.Machine.{pick}
use Rattle.values.specs.declared.ValueRef.{ValueRef}
use Rattle.values.specs.declared.ValueRef.TheVariants.{Object, Mark, Number, Undetermined}
use Rattle.values.specs.Layout.{value_of, Holds}
use Rattle.values.proofs.Blocks.{no_object, no_number}
use Rattle.values.proofs.Steps.{one_block}
use Rattle.maker.specs.Laying.{values_from}
use Rattle.evaluator.specs.declared.trace.OpenCall.{OpenCall}
use Rattle.evaluator.specs.State.{slot_at, call_in, CallHolds, apart_of, ApartTest, Other, same_of}
use Rattle.evaluator.proofs.SameLaws.{lists_differ, call_name, by_args, call_count, call_receiver, args_held}

-- ---- values told apart
module _ (w : ValueRef) where
  module _ (i b : ℕ) where
    pub apart_leaf : ((i b : ℕ) → w ≡ Object i b → ⊥) → false ≡ apart_of (Object i b) w
    apart_leaf h = no_object (λ (r : ValueRef). false ≡ apart_of (Object i b) r) (λ k. refl) (λ n. refl) refl w h

  module _ (x : ℕ) where
    pub apart_none_other : ((x : ℕ) → w ≡ Number x → ⊥) → false ≡ apart_of (Number x) w
    apart_none_other h = no_number (λ (r : ValueRef). false ≡ apart_of (Number x) r) (λ i b. refl) (λ k. refl) refl w h

numbers_differ : (x y : ℕ) → eqb x y ≡ false → false ≡ eq_graph (number_of x) (number_of y)
unfolding eq_graph
numbers_differ x y e = rw (e, eq_graph)

apart_differ : (W : List ℕ) (v w : ValueRef) → Holds W v → Holds W w → apart_of v w ≡ true → false ≡ eq_graph (value_of W v) (value_of W w)
apart_differ W (Object i b) (Object j c) hv hw z = go (eqb b c) refl (eqb i j) refl z
  where
    go : (x : Bool) → eqb b c ≡ x → (y : Bool) → eqb i j ≡ y → pick x (not y) false ≡ true → false ≡ eq_graph (value_of W (Object i b)) (value_of W (Object j c))
    go true ex false ey q = sym ey ∙ one_block W b i c j hv.held hw.held (eqb-true b c ex)
    go true ex true ey q = absurd (false≢true q)
    go false ex y ey q = absurd (false≢true q)
apart_differ W (Object i b) (Mark k) hv hw z = absurd (false≢true z)
apart_differ W (Object i b) (Number y) hv hw z = absurd (false≢true z)
apart_differ W (Object i b) Undetermined hv hw z = absurd (false≢true z)
apart_differ W (Mark k) w hv hw z = absurd (false≢true z)
apart_differ W (Number x) (Object j c) hv hw z = absurd (false≢true z)
apart_differ W (Number x) (Mark k) hv hw z = absurd (false≢true z)
apart_differ W (Number x) (Number y) hv hw z = numbers_differ x y (not-true (eqb x y) z)
apart_differ W (Number x) Undetermined hv hw z = absurd (false≢true z)
apart_differ W Undetermined w hv hw z = absurd (false≢true z)

-- ---- arguments told apart
pub apart_none : (ps qs : List ValueRef) (n : ℕ) → ApartTest ps qs n false
apart_none ps qs n = record { told = λ e. absurd (false≢true e) }

pub apart_found : (ps qs : List ValueRef) (n k : ℕ) → k < n → (r : Bool) → r ≡ apart_of (slot_at ps k) (slot_at qs k) → r ≡ true → ApartTest ps qs n true
apart_found ps qs n k l r er z = record { told = λ _. record { which = k; low = l; apart = sym er ∙ z } }

-- ---- calls told apart
module _ (o c : OpenCall) (W : List ℕ) (h : CallHolds W o) (k : CallHolds W c) where
  pub call_other : Other o c → false ≡ same_of (call_in W 0 o) (value_of W c.receiver) c.name (values_from W c.args 0 c.n)
  call_other (Other.by_name d) = call_name W o c.receiver c.name c.args c.n d
  call_other (Other.by_count d) = call_count W o c.receiver c.name c.args c.n h k.args d
  call_other (Other.by_receiver d) = call_receiver W o c.receiver c.name c.args c.n false (apart_differ W o.receiver c.receiver h.receiver k.receiver d) refl
  call_other (Other.by_argument d) = go (ℕ_discrete o.n c.n)
    where
      go : Dec (o.n ≡ c.n) → false ≡ same_of (call_in W 0 o) (value_of W c.receiver) c.name (values_from W c.args 0 c.n)
      go (no z) = call_count W o c.receiver c.name c.args c.n h k.args z
      go (yes z) =
          let own = args_held W o h c.n z in
          let ne = apart_differ W (slot_at o.args d.which) (slot_at c.args d.which) (own.part d.which d.low) (k.args.part d.which d.low) d.apart in
          by_args W o c.receiver c.name c.args c.n
          (ap (λ (x : ℕ). eq_graphs (values_from W o.args 0 x) (values_from W c.args 0 c.n)) z ∙ sym (lists_differ W o.args c.args c.n d.which own k.args d.low ne))
