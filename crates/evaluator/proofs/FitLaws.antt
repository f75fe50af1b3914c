-- What evaluation, lists, calls and sides ask of the frame, the open calls and the room, carried from one to the next.
-- Not here: what the functions ask of one another (CallSteps).
use Rattle.std.proofs.Common.{ℕ, zero, suc, ◌+◌, ◌-◌, ◌≤◌, ◌<◌, arith, ◌≡◌, sym, ap, ◌∙◌, subst, List, Bool, true, false, length, get_or, take, get_or-take}
use Rattle.std.proofs.Math.Option.{some, none-ne-some}
use Rattle.cofj.specs.Limits.{nesting_limit}
use Rattle.classes.specs.Machine.{pick, found_at}
use Rattle.cofj.specs.Values.{Graph}
use Rattle.cofj.specs.Running.{open_mark}
use Rattle.classes.specs.declared.methods.Found.{Found}
use Rattle.values.specs.declared.ValueRef.{ValueRef}
use Rattle.values.specs.declared.ValueRef.TheVariants.{Object}
use Rattle.values.specs.Layout.{value_of}
use Rattle.maker.specs.Laying.{values_from}
use Rattle.evaluator.specs.Figures.{call_limit}
use Rattle.std.specs.declared.option.Option.{Option as RustOption}
use Rattle.std.specs.declared.option.Option.TheVariants.{Some, None}
use Rattle.evaluator.specs.declared.frame.Frame.{Frame}
use Rattle.evaluator.specs.declared.trace.Trace.{Trace}
use Rattle.evaluator.specs.State.{side_call, Older, slot_at, PartsOlder, CallPut, call_at, CallsHold, call_in, same_of, trace_in, met_of}
use Rattle.evaluator.specs.Answers.{Out, Value, Listed, Values, slots_of}
use Rattle.evaluator.specs.Calling.{FewIf, ArgsFit, CallFits, BodyFits, FindsTarget}
use Rattle.evaluator.specs.Evaluation.{Fits, ListFits, Evaluates, Lists}
use Rattle.evaluator.proofs.Keeping.{kept_down, older_kept, older_up, parts_up, frame_kept, frame-up, trace_kept, trace_up, parts_held}
use Rattle.evaluator.specs.Frames.{body_frame}
use Rattle.evaluator.specs.Steps.{mark_in, MarkGiven}
use Rattle.evaluator.proofs.MeetLaws.{by_tests}
use Rattle.evaluator.proofs.BodyLaws.{put_holds}
use Rattle.evaluator.proofs.Given.{given_older, all_older}
use Rattle.evaluator.proofs.InvokeLaws.{met_mark, met_some}

-- ---- one level in
module _ (W : List ℕ) (f : Frame) (tr : Trace) (top left objects d sp : ℕ) where
  pub fit_inner : Fits W f tr top (left + 1) objects d sp → Fits W f tr top left objects d sp
  fit_inner h = let r = h.room in record { frame = h.frame; trace = h.trace; calls = h.calls; limit = h.limit; room = omega arith; long = h.long }

  pub fit_list : (n : ℕ) → Fits W f tr top (left + 1) objects d sp → n ≤ 4 → ListFits W f tr top left objects d sp n
  fit_list n h l = let r = h.room in record { frame = h.frame; trace = h.trace; calls = h.calls; limit = h.limit; few = l; room = omega arith; long = h.long }

  pub list_fit : (n : ℕ) → ListFits W f tr top left objects d sp n → (n ≡ 0 → ⊥) → Fits W f tr top left objects d sp
  list_fit n h nz = let r = h.room in record { frame = h.frame; trace = h.trace; calls = h.calls; limit = h.limit; room = omega (arith, nz); long = h.long }

  pub args_list : (v : ValueRef) (n : ℕ) → ArgsFit W f tr top left objects d sp v n → ListFits W f tr top left objects d (sp + 1) n
  args_list v n h =
      let r = h.fits.room in
      let l = h.few in
      record {
        frame = frame-up W sp (sp + 1) (omega arith) f h.fits.frame;
        trace = trace_up W sp (sp + 1) (omega arith) tr top h.fits.trace;
        calls = h.fits.calls;
        limit = h.fits.limit;
        few = omega arith;
        room = omega arith;
        long = h.fits.long;
      }

-- ---- after an evaluation
module _ (T W : List ℕ) (f : Frame) (tr : Trace) (top at left objects d sp fuel : ℕ) (W1 : List ℕ) (o : Out) (ev : Evaluates T W f tr top at left objects d sp fuel W1 o) where
  pub list_later : (n b : ℕ) → ListFits W f tr top left objects d sp n → (n ≡ 0 → ⊥) → sp ≤ b → b ≤ sp + 1 → ListFits W1 f tr top left objects d b (n - 1)
  list_later n b h nz from to =
      let r = h.room in
      let l = h.few in
      record {
        frame = frame-up W1 sp b from f (frame_kept W W1 sp ev.kept f h.frame);
        trace = trace_up W1 sp b from tr top (trace_kept W W1 sp ev.kept tr top h.trace);
        calls = h.calls;
        limit = h.limit;
        few = omega arith;
        room = omega (arith, nz);
        long = omega (arith, h.long, ev.kept.same);
      }

  pub args_fit : (v : ValueRef) (at1 fuel1 m n : ℕ) (w : RustOption Found) (own i : ℕ) → Fits W f tr top (left + 1) objects d sp → (left ≡ 0 → ⊥) → o ≡ Value v at1 fuel1
      → FindsTarget T W1 v m n w → w ≡ Some (found_at own i) → ArgsFit W1 f tr top left objects d sp v n
  args_fit v at1 fuel1 m n w own i h nz eo fi ew =
      let r = h.room in
      record {
        fits = record {
          frame = frame_kept W W1 sp ev.kept f h.frame;
          trace = trace_kept W W1 sp ev.kept tr top h.trace;
          calls = h.calls;
          limit = h.limit;
          room = h.room;
          long = omega (arith, h.long, ev.kept.same);
        };
        deep = nz;
        receiver = given_older T W f tr top at left objects d sp fuel W1 o ev v at1 fuel1 eo;
        few = subst (FewIf n) ew fi.few;
      }

-- ---- after a list
-- lists with the same first n
parts_same : (W : List ℕ) (sp : ℕ) (ps qs : List ValueRef) (n : ℕ) → n ≤ length qs → take n qs ≡ take n ps → PartsOlder W sp ps n → PartsOlder W sp qs n
parts_same W sp ps qs n full e o = record { full = full; part = λ i l. subst (Older W sp) (sym (same i l)) (o.part i l) }
  where
    none : ValueRef
    none = Object 0 0

    same : (i : ℕ) → i < n → slot_at qs i ≡ slot_at ps i
    same i l = sym (get_or-take n qs i none l) ∙ ap (λ (xs : List ValueRef). get_or xs i none) e ∙ get_or-take n ps i none l

pub call_fit : (T W : List ℕ) (f : Frame) (tr : Trace) (top at left objects d sp fuel : ℕ) (v : ValueRef) (n : ℕ) (W1 : List ℕ) (l : Listed) (a b c e : ValueRef) (at1 fuel1 : ℕ) (ps : List ValueRef)
    → ArgsFit W f tr top left objects d sp v n → Lists T W f tr top at left objects d (sp + 1) fuel n W1 l → l ≡ Values a b c e at1 fuel1 → n ≤ length ps → take n ps ≡ take n (slots_of a b c e) → CallFits W1 tr top v ps n objects d sp
call_fit T W f tr top at left objects d sp fuel v n W1 l a b c e at1 fuel1 ps h li el full ep =
    let k = kept_down sp (sp + 1) W W1 (omega arith) li.kept in
    let r = h.fits.room in
    let few = h.few in
    record {
      trace = trace_kept W W1 sp k tr top h.fits.trace;
      receiver = older_up W1 (sp + 1) (sp + 4) (omega arith) v (older_kept W W1 (sp + 1) li.kept v h.receiver);
      args = parts_same W1 (sp + 4) (slots_of a b c e) ps n full ep
          (parts_up W1 (sp + 1 + n) (sp + 4) (omega arith) (slots_of a b c e) n (all_older T W f tr top at left objects d (sp + 1) fuel n W1 l li a b c e at1 fuel1 el));
      few = h.few;
      calls = h.fits.calls;
      limit = h.fits.limit;
      room = omega (arith, h.deep);
      long = omega (arith, h.fits.long, li.kept.same);
    }

-- ---- a call
module _ (W : List ℕ) (tr : Trace) (top : ℕ) (v : ValueRef) (ps : List ValueRef) (n objects d sp : ℕ) (h : CallFits W tr top v ps n objects d sp) where
  pub calls_held : CallsHold W tr top
  calls_held = let c = h.calls in record {
    few = omega arith;
    call = λ i l. let q = h.trace.call i l in record {
      receiver = q.receiver.held;
      args = parts_held W sp (call_at tr i).args (call_at tr i).n q.args;
      few = q.few;
    };
    mark = h.trace.mark;
  }

  pub body_fit : (d ≡ 0 → ⊥) → BodyFits W tr top v ps n objects (d - 1) sp
  body_fit nz =
      let c = h.calls in
      let r = h.room in
      record { trace = h.trace; receiver = h.receiver; args = h.args; few = h.few; calls = omega (arith, nz); limit = h.limit; room = omega (arith, nz); long = h.long }

-- ---- a side
module _ (W : List ℕ) (tr : Trace) (top : ℕ) (v : ValueRef) (A : List ValueRef) (n objects d sp : ℕ) (h : BodyFits W tr top v A n objects d sp) where
  pub push_room : top < call_limit
  push_room = let c = h.calls in omega arith

  pub right_fit : (x : ValueRef) (owner : ℕ) → MarkGiven x → Fits W (body_frame v (Some x) A n owner) tr top nesting_limit objects d (sp + 4)
  right_fit x owner g =
      let c = h.calls in
      let r = h.room in
      let few = h.few in
      record {
        frame = record { this = h.receiver; res = subst (Older W (sp + 4)) (sym g.is) (record { held = record { held = g.small }; low = tt }); args = h.args; few = omega arith };
        trace = trace_up W sp (sp + 4) (omega arith) tr top h.trace;
        calls = omega arith;
        limit = h.limit;
        room = omega arith;
        long = h.long;
      }

  pub left_fit : (m owner : ℕ) (tr1 : Trace) → CallPut tr top (side_call v m A n top) tr1 → Fits W (body_frame v None A n owner) tr1 (top + 1) nesting_limit objects d (sp + 4)
  left_fit m owner tr1 put =
      let c = h.calls in
      let r = h.room in
      let few = h.few in
      record {
        frame = record { this = h.receiver; res = tt; args = h.args; few = omega arith };
        trace = put_holds tr top v m A n tr1 put W (sp + 4) (trace_up W sp (sp + 4) (omega arith) tr top h.trace) h.receiver h.args (omega arith);
        calls = omega arith;
        limit = h.limit;
        room = omega arith;
        long = h.long;
      }

-- ---- the mark of a call met again
marks_below : (W : List ℕ) (tr : Trace) (v : Graph) (m : ℕ) (vs : List Graph) (x k : ℕ) → open_mark (trace_in W tr k) v m vs ≡ some x → x < k
unfolding trace_in open_mark
marks_below W tr v m vs x zero e = absurd (none-ne-some x e)
marks_below W tr v m vs x (suc k) e =
    go (same_of (call_in W k (call_at tr k)) v m vs) (sym (by_tests (call_in W k (call_at tr k)) (trace_in W tr k) v m vs) ∙ e) (λ q. marks_below W tr v m vs x k q)
  where
    go : (b : Bool) → pick b (some k) (open_mark (trace_in W tr k) v m vs) ≡ some x → (open_mark (trace_in W tr k) v m vs ≡ some x → x < k) → x < suc k
    go true q ih = let y : some k ≡ some x = q in let z : k ≡ x = cc in omega arith
    go false q ih = let z = ih q in omega arith

pub mark_given : (W : List ℕ) (tr : Trace) (top : ℕ) (v : ValueRef) (ps : List ValueRef) (n objects d sp m : ℕ) (h : RustOption ValueRef) → CallFits W tr top v ps n objects d sp
    → h ≡ met_of (open_mark (trace_in W tr top) (value_of W v) m (values_from W ps 0 n)) → (y : ValueRef) → h ≡ Some y → MarkGiven y
mark_given W tr top v ps n objects d sp m h fit e y q =
    let l = marks_below W tr (value_of W v) m (values_from W ps 0 n) (mark_in y) top (met_some (open_mark (trace_in W tr top) (value_of W v) m (values_from W ps 0 n)) h e y q) in
    let c = fit.calls in
    record { is = met_mark (open_mark (trace_in W tr top) (value_of W v) m (values_from W ps 0 n)) h e y q; small = omega arith }
