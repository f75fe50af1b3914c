-- A call met again: one law for each return of `open_call`.
-- Not here: whether one open call is the call (ApartLaws, SameLaws).
use Rattle.std.proofs.Common.{ℕ, zero, suc, ◌-◌, ◌≤◌, ◌<◌, arith, sub-one, ◌≡◌, refl, sym, ap, ◌∙◌, Bool, true, false, not, List, ◌∷◌, eqb}
use Rattle.std.proofs.Math.Option.{Option, some}
use borrow.Author.Tests.{not-false}
use Rattle.cofj.specs.Values.{Graph, eq_graph, eq_graphs}
use Rattle.cofj.specs.Running as language
use Rattle.cofj.specs.Running.{open_mark}
use Rattle.classes.specs.Machine.{pick}
use Rattle.values.specs.declared.ValueRef.{ValueRef}
use Rattle.values.specs.Layout.{value_of}
use Rattle.maker.specs.Laying.{values_from}
use Rattle.evaluator.specs.Figures.{call_limit}
use Rattle.std.specs.declared.option.Option.TheVariants.{Some, None}
use Rattle.evaluator.specs.declared.trace.Trace.{Trace}
use Rattle.evaluator.specs.declared.trace.OpenCall.{OpenCall}
use Rattle.evaluator.specs.State.{call_at, call_in, CallHolds, CallsHold, trace_in, OtherTest, same_of, met_of}
use Rattle.evaluator.proofs.ApartLaws.{call_other}

-- ---- the trace searched, the newest call first
pub by_tests : (o : language.OpenCall) (os : List language.OpenCall) (v : Graph) (m : ℕ) (vs : List Graph)
    → open_mark (o ∷ os) v m vs ≡ pick (same_of o v m vs) (some o.label) (open_mark os v m vs)
unfolding open_mark same_of
by_tests o os v m vs = go (eqb o.name m) (eq_graph o.receiver v) (eq_graphs o.args vs)
  where
    go : (a b c : Bool) → ◌≡◌ {A = Option ℕ} (elim a [
      | true ↦ elim b [ true ↦ elim c [ true ↦ some o.label | false ↦ open_mark os v m vs ] | false ↦ open_mark os v m vs ]
      | false ↦ open_mark os v m vs
    ]) (pick (pick a (pick b c false) false) (some o.label) (open_mark os v m vs))
    go true true true = refl
    go true true false = refl
    go true false c = refl
    go false b c = refl

module _ (W : List ℕ) (S : Trace) (v : ValueRef) (m : ℕ) (ps : List ValueRef) (n : ℕ) where
  open_end : (k : ℕ) → k ≡ 0 → None ≡ met_of (open_mark (trace_in W S k) (value_of W v) m (values_from W ps 0 n))
  unfolding trace_in open_mark
  open_end k e = rw e

  open_step : (k : ℕ) → (k ≡ 0 → ⊥) → (r : Bool) → r ≡ same_of (call_in W 0 (call_at S (k - 1))) (value_of W v) m (values_from W ps 0 n)
      → open_mark (trace_in W S k) (value_of W v) m (values_from W ps 0 n) ≡ pick r (some (k - 1)) (open_mark (trace_in W S (k - 1)) (value_of W v) m (values_from W ps 0 n))
  unfolding trace_in same_of
  open_step zero z s e = absurd (z refl)
  open_step (suc j) z s e0 =
      let e = rw sub-one at e0 in
      rw sub-one (by_tests (call_in W j (call_at S j)) (trace_in W S j) (value_of W v) m (values_from W ps 0 n)
      ∙ ap (λ (b : Bool). pick b (some j) (open_mark (trace_in W S j) (value_of W v) m (values_from W ps 0 n))) (sym e))

-- ---- the loop through the open calls: the first j of k are left, and the others are not the call
pub record Left (W : List ℕ) (S : Trace) (k : ℕ) (v : ValueRef) (m : ℕ) (ps : List ValueRef) (n j : ℕ) : Type 0 where
  pub calls : CallsHold W S j
  pub same : open_mark (trace_in W S j) (value_of W v) m (values_from W ps 0 n) ≡ open_mark (trace_in W S k) (value_of W v) m (values_from W ps 0 n)

module _ (W : List ℕ) (S : Trace) (k : ℕ) (v : ValueRef) (m : ℕ) (ps : List ValueRef) (n : ℕ) where
  pub left_all : CallsHold W S k → Left W S k v m ps n k
  left_all h = record { calls = h; same = refl }

  module _ (j : ℕ) (l : Left W S k v m ps n j) where
    pub left_none : j ≤ 0 → None ≡ met_of (open_mark (trace_in W S k) (value_of W v) m (values_from W ps 0 n))
    left_none z = open_end W S v m ps n j (omega arith) ∙ ap met_of l.same

    left_last : 0 < j → CallHolds W (call_at S (j - 1))
    left_last p = l.calls.call (j - 1) (omega arith)

    left_less : 0 < j → (r : Bool) → r ≡ same_of (call_in W 0 (call_at S (j - 1))) (value_of W v) m (values_from W ps 0 n) → r ≡ false → Left W S k v m ps n (j - 1)
    left_less p r er z =
        let f = l.calls.few in
        record {
          calls = record { few = omega arith; call = λ i q. l.calls.call i (omega arith); mark = λ i q. l.calls.mark i (omega arith) };
          same = sym (open_step W S v m ps n j (λ e. omega arith) r er ∙ ap (λ (b : Bool). pick b (some (j - 1)) (open_mark (trace_in W S (j - 1)) (value_of W v) m (values_from W ps 0 n))) z) ∙ l.same;
        }

    pub left_index : j - 1 < call_limit
    left_index = let f = l.calls.few in omega arith

    module _ (p : 0 < j) where
      pub left_call : CallHolds W (call_at S (j - 1))
      left_call = left_last p

      module _ (r : Bool) (here : r ≡ same_of (call_in W 0 (call_at S (j - 1))) (value_of W v) m (values_from W ps 0 n)) where
        pub left_found : r ≡ true → Some (call_at S (j - 1)).gives ≡ met_of (open_mark (trace_in W S k) (value_of W v) m (values_from W ps 0 n))
        left_found z =
            ap Some (l.calls.mark (j - 1) (omega arith))
            ∙ ap met_of (sym (open_step W S v m ps n j (λ q. omega arith) r here ∙ ap (λ (b : Bool). pick b (some (j - 1)) (open_mark (trace_in W S (j - 1)) (value_of W v) m (values_from W ps 0 n))) z) ∙ l.same)

        pub left_more : r ≡ false → Left W S k v m ps n (j - 1)
        left_more z = left_less p r here z

pub left_other : (W : List ℕ) (S : Trace) (k : ℕ) (c : OpenCall) (j : ℕ) → Left W S k c.receiver c.name c.args c.n j → CallHolds W c → 0 < j
    → (o : Bool) → OtherTest (call_at S (j - 1)) c o → not o ≡ false → Left W S k c.receiver c.name c.args c.n (j - 1)
left_other W S k c j l h p o eo z =
    left_less W S k c.receiver c.name c.args c.n j l p false
    (call_other (call_at S (j - 1)) c W (left_last W S k c.receiver c.name c.args c.n j l p) h (eo.told (not-false o z))) refl
