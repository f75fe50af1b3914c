-- What a step that leaves the first k open calls as they were leaves of their meaning: everything. Steps one after the other.
-- Not here: what a change of the work bytes leaves (Keeping), a call more (BodyLaws).
use Rattle.std.proofs.Common.{ℕ, zero, suc, ◌≤◌, ◌<◌, arith, ◌≡◌, refl, sym, ap, ap₂, ◌∙◌, subst, List, ◌∷◌}
use Rattle.cofj.specs.Running as language
use Rattle.cofj.specs.Running.{◌then◌}
use Rattle.values.specs.declared.ValueRef.{ValueRef}
use Rattle.values.specs.Layout.{value_of}
use Rattle.maker.specs.Laying.{values_from}
use Rattle.evaluator.specs.declared.frame.Frame.{Frame}
use Rattle.evaluator.specs.declared.trace.Trace.{Trace}
use Rattle.evaluator.specs.declared.trace.OpenCall.{OpenCall}
use Rattle.evaluator.specs.State.{call_at, CallOlder, TraceHolds, call_in, frame_in, trace_in}
use Rattle.evaluator.specs.Answers.{Out, Listed}
use Rattle.evaluator.specs.Evaluation.{eval_in, evals_in, deeper, Fits, Evaluates, Lists}
use Rattle.evaluator.specs.Calling.{CallsWith, Invokes}
use Rattle.evaluator.specs.Steps.{Traced}

-- ---- steps, one after the other
pub traced_none : (k : ℕ) (S : Trace) → Traced k S S
traced_none k S = record { calls = λ i l. refl; spent = omega arith }

pub traced_then : (k : ℕ) (S S1 S2 : Trace) → Traced k S S1 → Traced k S1 S2 → Traced k S S2
traced_then k S S1 S2 a b = record { calls = λ i l. b.calls i l ∙ a.calls i l; spent = let x = a.spent in let y = b.spent in omega arith }

pub traced_down : (j k : ℕ) (S S1 : Trace) → j ≤ k → Traced k S S1 → Traced j S S1
traced_down j k S S1 l a = record { calls = λ i q. a.calls i (omega arith); spent = a.spent }

-- ---- the calls of a trace
pub trace_below : (W : List ℕ) (S S1 : Trace) (k : ℕ) → ((i : ℕ) → i < k → call_at S1 i ≡ call_at S i) → trace_in W S1 k ≡ trace_in W S k
unfolding trace_in
trace_below W S S1 zero h = refl
trace_below W S S1 (suc k) h =
    ap₂ {A = language.OpenCall} {B = List language.OpenCall} {C = List language.OpenCall} ◌∷◌ (ap (call_in W k) (h k (omega arith))) (trace_below W S S1 k (λ i l. h i (omega arith)))

module _ (k : ℕ) (S S1 : Trace) (st : Traced k S S1) where
  -- the trace stands for the same calls
  pub trace_on : (W : List ℕ) → trace_in W S1 k ≡ trace_in W S k
  trace_on W = trace_below W S S1 k st.calls

  pub calls_on : (W : List ℕ) (sp : ℕ) → TraceHolds W sp S k → TraceHolds W sp S1 k
  calls_on W sp h = record {
    call = λ i l. subst (CallOlder W sp) (sym (st.calls i l)) (h.call i l);
    mark = λ i l. ap (λ (c : OpenCall). c.gives) (st.calls i l) ∙ h.mark i l;
  }

  pub fits_on : (W : List ℕ) (f : Frame) (left objects d sp : ℕ) → Fits W f S k left objects d sp → Fits W f S1 k left objects d sp
  fits_on W f left objects d sp h = record { frame = h.frame; trace = calls_on W sp h.trace; calls = h.calls; limit = h.limit; room = h.room; long = h.long }

  -- ---- the same trace, the same meaning
  pub evaluates_on : (T W : List ℕ) (f : Frame) (at left objects d sp fuel : ℕ) (W' : List ℕ) (o : Out) → Evaluates T W f S1 k at left objects d sp fuel W' o → Evaluates T W f S k at left objects d sp fuel W' o
  evaluates_on T W f at left objects d sp fuel W' o x = let et = trace_on W in record {
    kept = x.kept;
    older = x.older;
    is = λ t e r. let z = x.is t e r in record { is = z.is ∙ (λ i. eval_in objects d t (frame_in W f) (et i) e fuel); next = z.next };
  }

  pub lists_on : (T W : List ℕ) (f : Frame) (at left objects d sp fuel n : ℕ) (W' : List ℕ) (l : Listed) → Lists T W f S1 k at left objects d sp fuel n W' l → Lists T W f S k at left objects d sp fuel n W' l
  lists_on T W f at left objects d sp fuel n W' l x = let et = trace_on W in record {
    kept = x.kept;
    older = x.older;
    is = λ t es r c. let z = x.is t es r c in record { is = z.is ∙ (λ i. evals_in objects d t (frame_in W f) (et i) es fuel); next = z.next };
  }

  pub calls_with_on : (T W : List ℕ) (f : Frame) (at left objects d sp fuel : ℕ) (v : ValueRef) (m n i : ℕ) (W' : List ℕ) (o : Out)
      → CallsWith T W f S1 k at left objects d sp fuel v m n i W' o → CallsWith T W f S k at left objects d sp fuel v m n i W' o
  calls_with_on T W f at left objects d sp fuel v m n i W' o x = let et = trace_on W in record {
    kept = x.kept;
    older = x.older;
    is = λ t es c r q ek. let z = x.is t es c r q ek in record {
      is = z.is ∙ (λ j. evals_in objects d t (frame_in W f) (et j) es fuel then λ vs n'. language.invoke (deeper objects d t) (et j) (value_of W v) m vs c n');
      next = z.next;
    };
  }

  pub invokes_on : (T W : List ℕ) (v : ValueRef) (ps : List ValueRef) (n i next objects d sp fuel m : ℕ) (W' : List ℕ) (o : Out)
      → Invokes T W S1 k v ps n i next objects d sp fuel m W' o → Invokes T W S k v ps n i next objects d sp fuel m W' o
  invokes_on T W v ps n i next objects d sp fuel m W' o x = let et = trace_on W in record {
    kept = x.kept;
    older = x.older;
    is = λ t c tb ek. let z = x.is t c tb ek in record { is = z.is ∙ (λ j. language.invoke (deeper objects d t) (et j) (value_of W v) m (values_from W ps 0 n) c fuel); next = z.next };
  }
