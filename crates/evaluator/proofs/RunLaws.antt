-- Main, run with its input the only variable and no open calls: the language's outcome.
-- Not here: where the input lies (InputLaws), that the table was read (Promise).
use Rattle.std.proofs.Common.{ℕ, zero, suc, ◌≤◌, ◌<◌, arith, ◌≡◌, refl, sym, ap, ◌∙◌, subst, Bool, true, false, List, [], leb, length, leb-true}
use Rattle.std.proofs.Math.Option.{some}
use Rattle.cofj.specs.Limits.{nesting_limit}
use Rattle.cofj.specs.Syntax.{Table}
use Rattle.cofj.specs.Writing.{code_of}
use Rattle.cofj.specs.Values.{Graph}
use Rattle.cofj.specs.Running as language
use Rattle.cofj.specs.Running.{run_within}
use Rattle.classes.specs.Machine.{pick, main_place}
use Rattle.classes.specs.Layout.{layout, Stands, Tabled}
use Rattle.classes.proofs.Zones.{main_stands}
use Rattle.maker.specs.Laying.{values_from}
use Rattle.evaluator.specs.Figures.{object_limit, call_limit, main_block, work_room}
use Rattle.evaluator.specs.declared.frame.Frame.{Frame}
use Rattle.evaluator.specs.declared.spot.Spot.{Spot}
use Rattle.evaluator.specs.declared.trace.Trace.{Trace}
use Rattle.evaluator.specs.State.{Older, slot_at, FrameHolds, frame_in, trace_in}
use Rattle.evaluator.specs.Frames.{main_frame}
use Rattle.evaluator.specs.Answers.{Done, out_with}
use Rattle.evaluator.specs.Evaluation.{eval_in}
use Rattle.evaluator.specs.Steps.{Runnable, EvalStep}
use Rattle.evaluator.specs.Main.{input_in, Laid, Runs}
use Rattle.evaluator.proofs.BodyLaws.{eval_to_is}

-- where main is evaluated, with d calls that may be opened
abbrev start_with : ℕ → ℕ → Spot
start_with d at = record { at = at; block = main_block; nesting = nesting_limit; calls = d; opened = 0; objects = object_limit }

abbrev start : ℕ → Spot
start at = start_with call_limit at

trace_none : (W : List ℕ) (S : Trace) → trace_in W S 0 ≡ []
unfolding trace_in
trace_none W S = refl

-- main's expression stands at its place
main_at_lem : (T : List ℕ) (t : Table) (at : ℕ) → at ≡ main_place T → Tabled T t → Stands (layout t) at (code_of t.main)
main_at_lem T t at e tb = subst (λ (p : ℕ). Stands (layout t) p (code_of t.main)) (sym (e ∙ ap main_place tb.bytes)) (main_stands t tb.formed.main_short)

module _ (fed : Bool) (B W0 W : List ℕ) (ld : Laid fed B W0 W) where
  -- ---- the frame
  few : (b : Bool) → pick b 1 0 ≤ 3
  few true = omega arith
  few false = omega arith

  first_older : fed ≡ true → (i : ℕ) → i < 1 → Older W main_block (slot_at (main_frame true).args i)
  first_older e zero h = record { held = ld.held e; low = omega arith }
  first_older e (suc i) h = absurd (omega arith)

  main_holds : FrameHolds W main_block (main_frame fed)
  main_holds = go fed refl
    where
      go : (b : Bool) → fed ≡ b → FrameHolds W main_block (main_frame b)
      go true e = record { this = tt; res = tt; args = record { full = omega arith; part = first_older e }; few = omega arith }
      go false e = record { this = tt; res = tt; args = record { full = omega arith; part = λ i h. absurd (omega arith) }; few = omega arith }

  frame_main : frame_in W (main_frame fed) ≡ language.main_frame (input_in fed B)
  unfolding frame_in values_from
  frame_main = go fed refl
    where
      go : (b : Bool) → fed ≡ b → frame_in W (main_frame b) ≡ language.main_frame (input_in b B)
      go true e = ap (λ (v : Graph). language.main_frame (some v)) (ld.is e)
      go false e = refl

  -- ---- the run
  module _ (f : Frame) (ef : f ≡ main_frame fed) (S : Trace) (at : ℕ) where
    pub main_runnable : (d : ℕ) → leb d call_limit ≡ true → work_room ≤ length W0 → Runnable W f S (start_with d at)
    main_runnable d b l = let open-few = leb-true d call_limit b in subst (λ (g : Frame). Runnable W g S (start_with d at)) (sym ef) (record {
      based = record { fieldless = ld.fieldless; above = omega arith };
      count = few fed;
      fits = record {
        frame = main_holds;
        trace = record { call = λ i h. absurd (omega arith); mark = λ i h. absurd (omega arith) };
        calls = omega arith;
        limit = record { some = omega arith; room = omega arith };
        room = omega arith;
        long = omega (arith, ld.same);
      };
    })

    module _ (fuel : ℕ) (es : S.fuel ≡ fuel) (T W' : List ℕ) (S' : Trace) (o : Done) where
      pub main_runs : EvalStep T W f S (start at) W' S' o → (at ≡ main_place T) × (at < 65536) → Runs T W0 fuel fed B W' (out_with S'.fuel o)
      unfolding run_within
      main_runs ev ea =
          let x = subst (λ (g : Frame). EvalStep T W g S (start at) W' S' o) ef ev in
          record {
            same = x.runs.kept.same ∙ ld.same;
            older = x.runs.older;
            is = λ t tb.
                (x.runs.is t t.main (record { table = tb; nested = tb.formed.main_nested; known = tb.formed.main_known; stands = main_at_lem T t at ea.0 tb })).is
                ∙ (λ i. eval_in object_limit call_limit t (frame_main i) (trace_none W S i) t.main (es i))
                ∙ eval_to_is object_limit call_limit t (language.main_frame (input_in fed B)) [] t.main fuel;
          }
