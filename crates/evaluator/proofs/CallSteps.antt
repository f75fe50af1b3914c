-- Calls: what their receiver and arguments ask, and one law for each return of `eval_call`.
-- Not here: the method called and its sides (SideSteps), what calls mean (CallLaws), other expressions.
use Rattle.std.specs.declared.option.Option.{Option as RustOption}
use Rattle.std.specs.declared.option.Option.TheVariants.{Some, None}
use Rattle.std.proofs.Common.{ℕ, zero, suc, ◌+◌, ◌≤◌, ◌<◌, arith, ◌≡◌, refl, sym, ap, ◌∙◌, subst, List, map, length, take}
use Rattle.classes.specs.declared.methods.Found.{Found}
use Rattle.values.specs.declared.ValueRef.{ValueRef}
use Rattle.values.specs.Layout.{value_of, Holds}
use Rattle.maker.specs.Laying.{values_from}
use Rattle.std.specs.declared.result.Result.TheVariants.{Ok, Err}
use Rattle.evaluator.specs.declared.Stop.{Stop}
use Rattle.evaluator.specs.declared.Stop.TheVariants.{Stuck}
use Rattle.evaluator.specs.declared.spot.Spot.{Spot}
use Rattle.evaluator.specs.declared.frame.Frame.{Frame}
use Rattle.evaluator.specs.declared.trace.Trace.{Trace}
use Rattle.evaluator.specs.declared.trace.OpenCall.{OpenCall}
use Rattle.evaluator.specs.State.{slot_at, args_of, side_call}
use Rattle.evaluator.specs.declared.Evaluated.{Evaluated}
use Rattle.evaluator.specs.Answers.{Out, Value, Done, Walked, value_at, Values, slots_of, out_with, list_from, stops_as}
use Rattle.evaluator.specs.Spots.{moved_spot}
use Rattle.evaluator.specs.Calling.{FindsTarget, ArgsFit, Calls, CallsWith, CallFits}
use Rattle.evaluator.specs.Steps.{PartRunnable, ArgsRunnable, ListRunnable, CallRunnable, EvalStep, ListStep, CallStep, ArgsStep, InvokeStep}
use Rattle.evaluator.proofs.Keeping.{kept_down, older_up, based_kept}
use Rattle.evaluator.proofs.Given.{given_older}
use Rattle.evaluator.proofs.TraceLaws.{traced_none, traced_then, calls_on, fits_on, calls_with_on, invokes_on}
use Rattle.evaluator.proofs.CallLaws.{call_flat, call_halt, call_none, call_is, args_halt, args_is, args_none}
use Rattle.evaluator.proofs.FitLaws as fits

-- ---- the arguments, of four values
module _ (A : List ValueRef) (x : ValueRef) where
  args_first : (n : ℕ) → n ≤ 3 → take n (args_of A) ≡ take n (slots_of (slot_at A 0) (slot_at A 1) (slot_at A 2) x)
  args_first zero h = refl
  args_first (suc zero) h = refl
  args_first (suc (suc zero)) h = refl
  args_first (suc (suc (suc zero))) h = refl
  args_first (suc (suc (suc (suc n)))) h = absurd (omega arith)

  args_values : (W : List ℕ) (n : ℕ) → n ≤ 3 → values_from W (args_of A) 0 n ≡ values_from W (slots_of (slot_at A 0) (slot_at A 1) (slot_at A 2) x) 0 n
  unfolding values_from
  args_values W n h = ap (map (value_of W)) (args_first n h)

-- ---- a call's receiver (eval_call)
module _ (T W : List ℕ) (f : Frame) (S : Trace) (p : Spot) (run : PartRunnable W f S p) where
  module _ (m n : ℕ) where
    pub call_nested : p.nesting ≡ 0 → CallStep T W f S p m n W S (Err Stuck)
    call_nested z = record { trace = traced_none p.opened S; runs = call_flat T W f S p.opened p.at p.nesting p.objects p.calls p.block S.fuel m n z }

    module _ (W1 : List ℕ) (S1 : Trace) (o : Done) (ev : EvalStep T W f S p W1 S1 o) where
      pub call_stops : (s : Stop) → o ≡ Err s → CallStep T W f S p m n W1 S1 o
      call_stops s e = record {
        trace = ev.trace;
        runs = call_halt T W f S p.opened p.at p.nesting p.objects p.calls p.block S.fuel m n W1 (out_with S1.fuel o) ev.runs s S1.fuel (ap (out_with S1.fuel) e);
      }

      module _ (got : Evaluated) (eo : o ≡ Ok got) where
        value_is : out_with S1.fuel o ≡ Value got.value got.next S1.fuel
        value_is = ap (out_with S1.fuel) eo

        pub receiver_there : Holds W1 got.value
        receiver_there = (given_older T W f S p.opened p.at p.nesting p.objects p.calls p.block S.fuel W1 (out_with S1.fuel o) ev.runs got.value got.next S1.fuel value_is).held

        module _ (w : RustOption Found) (fi : FindsTarget T W1 got.value m n w) where
          pub call_lacks : w ≡ None → CallStep T W f S p m n W1 S1 (Err Stuck)
          call_lacks ew = record {
            trace = ev.trace;
            runs = call_none T W f S p.opened p.at p.nesting p.objects p.calls p.block S.fuel m n W1 (out_with S1.fuel o) ev.runs got.value got.next S1.fuel value_is w fi ew;
          }

          module _ (nz : p.nesting ≡ 0 → ⊥) (f1 : Found) (ew : w ≡ Some f1) where
            args_fit : ArgsFit W1 f S p.opened p.nesting p.objects p.calls p.block got.value n
            args_fit =
                fits.args_fit T W f S p.opened p.at p.nesting p.objects p.calls p.block S.fuel W1 (out_with S1.fuel o) ev.runs got.value got.next S1.fuel m n w f1.owner f1.method run.fits nz value_is fi ew

            call_by : (W2 : List ℕ) (x : Out) → CallsWith T W1 f S p.opened got.next p.nesting p.objects p.calls p.block S1.fuel got.value m n f1.method W2 x
                → Calls T W f S p.opened p.at p.nesting p.objects p.calls p.block S.fuel m n W2 x
            call_by W2 x cw =
                call_is T W f S p.opened p.at p.nesting p.objects p.calls p.block S.fuel m n W1 (out_with S1.fuel o) ev.runs got.value got.next S1.fuel value_is w fi f1.owner f1.method W2 x run.fits ew cw

            -- the call goes on got.next q
            module _ (q : Spot) (eq : q ≡ moved_spot p got.next p.block) where
              pub args_asked : ArgsRunnable W1 f S1 q got.value n
              args_asked = subst (λ (y : Spot). ArgsRunnable W1 f S1 y got.value n) (sym eq) (record {
                based = based_kept W W1 p.block p.block ev.runs.kept (omega arith) run.based;
                count = run.count;
                fits = record {
                  fits = fits_on p.opened S S1 ev.trace W1 f (p.nesting + 1) p.objects p.calls p.block args_fit.fits;
                  deep = nz;
                  receiver = args_fit.receiver;
                  few = args_fit.few;
                };
              })

              pub call_goes_on : (W2 : List ℕ) (S2 : Trace) (x : Done) → ArgsStep T W1 f S1 q got.value m n f1.method W2 S2 x → (r : Done) → r ≡ x → CallStep T W f S p m n W2 S2 r
              call_goes_on W2 S2 x st r er =
                  let y : ArgsStep T W1 f S1 (moved_spot p got.next p.block) got.value m n f1.method W2 S2 x = subst (λ (z : Spot). ArgsStep T W1 f S1 z got.value m n f1.method W2 S2 x) eq st in
                  subst (CallStep T W f S p m n W2 S2) (sym er) (record {
                    trace = traced_then p.opened S S1 S2 ev.trace y.trace;
                    runs = call_by W2 (out_with S2.fuel x)
                        (calls_with_on p.opened S S1 ev.trace T W1 f got.next p.nesting p.objects p.calls p.block S1.fuel got.value m n f1.method W2 (out_with S2.fuel x) y.runs);
                  })

-- ---- its arguments (eval_call)
module _ (T W : List ℕ) (f : Frame) (S : Trace) (p : Spot) (v : ValueRef) (m n i : ℕ) (run : ArgsRunnable W f S p v n) where
  -- they are evaluated
  -- there are none
  module _ (z : n ≡ 0) (A : List ValueRef) (c : OpenCall) (ec : c ≡ side_call v m A n p.opened) where
    pub direct_run : CallRunnable W S c p
    direct_run =
        let r = run.fits.fits.room in
        subst (λ (x : OpenCall). CallRunnable W S x p) (sym ec) (record {
          based = run.based;
          mark = refl;
          fits = record {
            trace = run.fits.fits.trace;
            receiver = older_up W (p.block + 1) (p.block + 4) (omega arith) v run.fits.receiver;
            args = record { full = omega arith; part = λ j l. absurd (omega arith) };
            few = run.fits.few;
            calls = run.fits.fits.calls;
            limit = run.fits.fits.limit;
            room = omega (arith, run.fits.deep);
            long = run.fits.fits.long;
          };
        })

    pub direct_is : (W2 : List ℕ) (S2 : Trace) (r : Done) → InvokeStep T W S c i p W2 S2 r → (x : Done) → x ≡ r → ArgsStep T W f S p v m n i W2 S2 x
    direct_is W2 S2 r iv x ex = let inv = subst (λ (y : OpenCall). InvokeStep T W S y i p W2 S2 r) ec iv in subst (ArgsStep T W f S p v m n i W2 S2) (sym ex) (record {
      trace = inv.trace;
      runs = args_none T W f S p.opened p.at p.nesting p.objects p.calls p.block S.fuel v m n i z A W2 (out_with S2.fuel r) inv.runs;
    })

  -- they are evaluated
  module _ (q : Spot) (eq : q ≡ moved_spot p p.at (p.block + 1)) where
    pub args_run : ListRunnable W f S q n
    args_run = let a = run.based.above in subst (λ (y : Spot). ListRunnable W f S y n) (sym eq) (record {
      based = record { fieldless = run.based.fieldless; above = omega arith };
      count = run.count;
      fits = fits.args_list W f S p.opened p.nesting p.objects p.calls p.block v n run.fits;
    })

    module _ (W2 : List ℕ) (S2 : Trace) (A : List ValueRef) (l : Walked) (ls : ListStep T W f S q n W2 S2 A l) where
      li : ListStep T W f S (moved_spot p p.at (p.block + 1)) n W2 S2 A l
      li = subst (λ (y : Spot). ListStep T W f S y n W2 S2 A l) eq ls

      pub args_stop : (s : Stop) → l ≡ Err s → (x : Done) → x ≡ stops_as l → ArgsStep T W f S p v m n i W2 S2 x
      args_stop s el x ex = record {
        trace = li.trace;
        runs = args_halt T W f S p.opened p.at p.nesting p.objects p.calls p.block S.fuel v m n i run.fits W2 (list_from S2.fuel A 0 l) li.runs s S2.fuel (out_with S2.fuel x)
            (ap (list_from S2.fuel A 0) el) (ap (out_with S2.fuel) (ex ∙ ap stops_as el));
      }

      module _ (next : ℕ) (el : l ≡ Ok next) (c : OpenCall) (ec : c ≡ side_call v m (args_of A) n p.opened) (q2 : Spot) (eq2 : q2 ≡ moved_spot p next p.block) where
        values_are : list_from S2.fuel A 0 l ≡ Values (slot_at A 0) (slot_at A 1) (slot_at A 2) (slot_at A 3) next S2.fuel
        values_are = ap (list_from S2.fuel A 0) el

        fit_there : CallFits W2 S p.opened v (args_of A) n p.objects p.calls p.block
        fit_there =
            fits.call_fit T W f S p.opened p.at p.nesting p.objects p.calls p.block S.fuel v n W2 (list_from S2.fuel A 0 l) (slot_at A 0) (slot_at A 1) (slot_at A 2) (slot_at A 3) next S2.fuel
            (args_of A) run.fits li.runs values_are (omega (arith, run.fits.few)) (args_first A (slot_at A 3) n run.fits.few)

        pub call_run : CallRunnable W2 S2 c q2
        call_run = subst (CallRunnable W2 S2 c) (sym eq2) (subst (λ (x : OpenCall). CallRunnable W2 S2 x (moved_spot p next p.block)) (sym ec) (record {
          mark = refl;
          based = based_kept W W2 p.block p.block (kept_down p.block (p.block + 1) W W2 (omega arith) li.runs.kept) (omega arith) run.based;
          fits = record {
            trace = calls_on p.opened S S2 li.trace W2 p.block fit_there.trace;
            receiver = fit_there.receiver;
            args = fit_there.args;
            few = fit_there.few;
            calls = fit_there.calls;
            limit = fit_there.limit;
            room = fit_there.room;
            long = fit_there.long;
          };
        }))

        pub args_go_on : (W3 : List ℕ) (S3 : Trace) (r : Done) → InvokeStep T W2 S2 c i q2 W3 S3 r → (x : Done) → x ≡ r → ArgsStep T W f S p v m n i W3 S3 x
        args_go_on W3 S3 r inv x ex =
            let iv : InvokeStep T W2 S2 (side_call v m (args_of A) n p.opened) i (moved_spot p next p.block) W3 S3 r = subst (λ (y : Spot). InvokeStep T W2 S2 (side_call v m (args_of A) n p.opened) i y W3 S3 r) eq2 (subst (λ (x : OpenCall). InvokeStep T W2 S2 x i q2 W3 S3 r) ec inv) in
            subst (ArgsStep T W f S p v m n i W3 S3) (sym ex) (record {
              trace = traced_then p.opened S S2 S3 li.trace iv.trace;
              runs = args_is T W f S p.opened p.at p.nesting p.objects p.calls p.block S.fuel v m n i run.fits W2 (list_from S2.fuel A 0 l) li.runs
                  (slot_at A 0) (slot_at A 1) (slot_at A 2) (slot_at A 3) next S2.fuel (args_of A) W3 (out_with S3.fuel r) values_are
                  (args_values A (slot_at A 3) W2 n run.fits.few)
                  (invokes_on p.opened S S2 li.trace T W2 v (args_of A) n i next p.objects p.calls p.block S2.fuel m W3 (out_with S3.fuel r) iv.runs);
            })

-- ---- no evaluation changes how long the work buffer is
module _ (T W : List ℕ) (f : Frame) (S : Trace) (p : Spot) (W1 : List ℕ) (S1 : Trace) (o : Done) (ev : EvalStep T W f S p W1 S1 o) where
  pub bare_length : (c : OpenCall) (i : ℕ) (r : Spot) (W2 : List ℕ) (S2 : Trace) (x : Done) → InvokeStep T W1 S1 c i r W2 S2 x → length W2 ≡ length W
  bare_length c i r W2 S2 x inv = inv.runs.kept.same ∙ ev.runs.kept.same

  module _ (q : Spot) (n : ℕ) (W2 : List ℕ) (S2 : Trace) (A : List ValueRef) (l : Walked) (ls : ListStep T W1 f S1 q n W2 S2 A l) where
    pub list_length : length W2 ≡ length W
    list_length = ls.runs.kept.same ∙ ev.runs.kept.same

    pub invoke-length : (c : OpenCall) (i : ℕ) (r : Spot) (W3 : List ℕ) (S3 : Trace) (x : Done) → InvokeStep T W2 S2 c i r W3 S3 x → length W3 ≡ length W
    invoke-length c i r W3 S3 x inv = inv.runs.kept.same ∙ list_length

-- ---- the whole call (eval_call), its receiver v evaluated and its method found
module _ (T W : List ℕ) (f : Frame) (S : Trace) (p : Spot) (run : PartRunnable W f S p) where
  pub call_block : p.block + 1 < 65536
  call_block = let r = run.fits.room in omega arith

  module _ (m n : ℕ) (W1 : List ℕ) (S1 : Trace) (o : Done) (ev : EvalStep T W f S p W1 S1 o) (v : ValueRef) (at : ℕ) (eo : o ≡ value_at v at)
      (w : RustOption Found) (fi : FindsTarget T W1 v m n w) (nz : p.nesting ≡ 0 → ⊥) (f1 : Found) (ew : w ≡ Some f1) where
    abbrev here : Spot
    here = moved_spot p at p.block

    asked : ArgsRunnable W1 f S1 here v n
    asked = args_asked T W f S p run m n W1 S1 o ev (record { value = v; next = at }) eo w fi nz f1 ew here refl

    goes_on : (W2 : List ℕ) (S2 : Trace) (x : Done) → ArgsStep T W1 f S1 here v m n f1.method W2 S2 x → CallStep T W f S p m n W2 S2 x
    goes_on W2 S2 x st = call_goes_on T W f S p run m n W1 S1 o ev (record { value = v; next = at }) eo w fi nz f1 ew here refl W2 S2 x st x refl

    -- without arguments
    module _ (z : n ≡ 0) (A : List ValueRef) (c : OpenCall) (ec : c ≡ side_call v m A n p.opened) (q : Spot) (eq : q ≡ here) where
      pub bare_asked : CallRunnable W1 S1 c q
      bare_asked = subst (CallRunnable W1 S1 c) (sym eq) (direct_run T W1 f S1 here v m n f1.method asked z A c ec)

      pub bare_done : (W2 : List ℕ) (S2 : Trace) (r : Done) → InvokeStep T W1 S1 c f1.method q W2 S2 r → (x : Done) → x ≡ r → CallStep T W f S p m n W2 S2 x
      bare_done W2 S2 r inv x ex =
          goes_on W2 S2 x (direct_is T W1 f S1 here v m n f1.method asked z A c ec W2 S2 r (subst (λ (y : Spot). InvokeStep T W1 S1 c f1.method y W2 S2 r) eq inv) x ex)

    -- with arguments
    module _ (q : Spot) (eq : q ≡ moved_spot p at (p.block + 1)) where
      pub list_asked : ListRunnable W1 f S1 q n
      list_asked = args_run T W1 f S1 here v m n f1.method asked q eq

      module _ (W2 : List ℕ) (S2 : Trace) (A : List ValueRef) (l : Walked) (ls : ListStep T W1 f S1 q n W2 S2 A l) where
        pub list_stops : (s : Stop) → l ≡ Err s → (x : Done) → x ≡ stops_as l → CallStep T W f S p m n W2 S2 x
        list_stops s el x ex = goes_on W2 S2 x (args_stop T W1 f S1 here v m n f1.method asked q eq W2 S2 A l ls s el x ex)

        module _ (next : ℕ) (el : l ≡ Ok next) (c : OpenCall) (ec : c ≡ side_call v m (args_of A) n p.opened) (q2 : Spot) (eq2 : q2 ≡ moved_spot p next p.block) where
          pub call_asked : CallRunnable W2 S2 c q2
          call_asked = call_run T W1 f S1 here v m n f1.method asked q eq W2 S2 A l ls next el c ec q2 eq2

          pub call_done : (W3 : List ℕ) (S3 : Trace) (r : Done) → InvokeStep T W2 S2 c f1.method q2 W3 S3 r → (x : Done) → x ≡ r → CallStep T W f S p m n W3 S3 x
          call_done W3 S3 r inv x ex = goes_on W3 S3 x (args_go_on T W1 f S1 here v m n f1.method asked q eq W2 S2 A l ls next el c ec q2 eq2 W3 S3 r inv x ex)
