-- Expressions, calls apart: what the functions ask of one another, and one law for each of their returns.
-- Not here: what they mean (EvalLaws), new objects (NewSteps), fields of fields (FieldLaws), lists (WalkLaws), numbers (NumberSteps), calls (CallSteps).
use Rattle.std.proofs.Common.{ℕ, ◌+◌, ◌-◌, ◌≤◌, ◌<◌, arith, ◌≡◌, refl, sym, ap, ◌∙◌, subst, List, [], ◌∷◌}
use types.Run.{OneOf, miss}
use denote.Enum.Declared.{tag_of}
use Rattle.cofj.specs.Limits.{number_count}
use Rattle.classes.specs.declared.shape.Operation.{Operation}
use Rattle.classes.specs.declared.shape.Shape.{Shape}
use Rattle.classes.specs.declared.shape.Shape.TheVariants as shape
use Rattle.classes.specs.contracts.shape.Shape as ShapeT
use Rattle.classes.specs.Shapes.{shape_at}
use Rattle.classes.proofs.ShapeLaws.{Next, shape_next}
use Rattle.std.specs.declared.result.Result.TheVariants.{Err}
use Rattle.evaluator.specs.Figures.{place_limit}
use Rattle.evaluator.specs.declared.Stop.TheVariants.{Stuck}
use Rattle.values.specs.declared.ValueRef.{ValueRef}
use Rattle.std.specs.declared.option.Option.{Option as RustOption}
use Rattle.std.specs.declared.option.Option.TheVariants.{Some, None}
use Rattle.evaluator.specs.declared.frame.Frame.{Frame}
use Rattle.evaluator.specs.declared.spot.Spot.{Spot}
use Rattle.evaluator.specs.declared.trace.Trace.{Trace}
use Rattle.evaluator.specs.State.{variable_of}
use Rattle.evaluator.specs.Answers.{Done, out_with, done_of, out_of, two_bytes, number_at}
use Rattle.evaluator.specs.Spots.{inner_spot}
use Rattle.evaluator.specs.Evaluation.{Fits}
use Rattle.evaluator.specs.Steps.{Runnable, NumberShape, NumberRunnable, PartRunnable, ListRunnable, EvalStep, FieldStep, NewStep, CombineStep, ChooseStep, CallStep}
use Rattle.evaluator.proofs.TraceLaws.{traced_none}
use Rattle.evaluator.proofs.FitLaws.{fit_inner, fit_list, list_fit}
use Rattle.evaluator.proofs.EvalLaws.{eval_zero, eval_nothing, eval_this, eval_res, eval_param, eval_number_lem, eval_at_field, eval_at_call, eval_at_new, eval_at_combine, eval_at_choose}

-- ---- the place after an expression's first bytes
module _ (T : List ℕ) (at : ℕ) (s : Shape) (es : s ≡ shape_at T at) where
  ahead : (q : Shape) → s ≡ q → Next (λ k. k < place_limit) q
  ahead q e = subst (Next (λ k. k < place_limit)) (sym es ∙ e) (shape_next (λ k. k < place_limit) T at (λ k l h. let z : at + k < place_limit = omega arith in z))

  pub next_this : (next : ℕ) → s ≡ shape.This next → next < place_limit
  next_this next e = ahead (shape.This next) e

  pub next_result : (next : ℕ) → s ≡ shape.Result next → next < place_limit
  next_result next e = ahead (shape.Result next) e

  pub next_parameter : (k next : ℕ) → s ≡ shape.Parameter k next → next < place_limit
  next_parameter k next e = ahead (shape.Parameter k next) e

  pub next_field : (k next : ℕ) → s ≡ shape.Field k next → next < place_limit
  next_field k next e = ahead (shape.Field k next) e

  pub next_call : (m n next : ℕ) → s ≡ shape.Call m n next → next < place_limit
  next_call m n next e = ahead (shape.Call m n next) e

  pub next_new : (c n next : ℕ) → s ≡ shape.New c n next → next < place_limit
  next_new c n next e = ahead (shape.New c n next) e

  pub next_number : (k n next : ℕ) → s ≡ shape.Number k n next → next < place_limit
  next_number k n next e = ahead (shape.Number k n next) e

  pub next_combine : (x : Operation) (next : ℕ) → s ≡ shape.Combine x next → next < place_limit
  next_combine x next e = ahead (shape.Combine x next) e

  pub next_choose : (next : ℕ) → s ≡ shape.Choose next → next < place_limit
  next_choose next e = ahead (shape.Choose next) e

  pub new_fits : (c n next : ℕ) → s ≡ shape.New c n next → next < 65536
  new_fits c n next e = let l = next_new c n next e in omega arith

-- ---- what the functions ask
module _ (W : List ℕ) (f : Frame) (S : Trace) (p : Spot) where
  pub run-part : Runnable W f S p → (p.nesting ≡ 0 → ⊥) → (next : ℕ) → next < place_limit → (q : Spot) → q ≡ inner_spot p next → PartRunnable W f S q
  run-part run nz next l q eq = subst (PartRunnable W f S) (sym eq) (record {
    based = run.based;
    place = l;
    count = run.count;
    fits = subst (λ (k : ℕ). Fits W f S p.opened k p.objects p.calls p.block) (let e : p.nesting ≡ p.nesting - 1 + 1 = omega (arith, nz) in e) run.fits;
  })

  module _ (run : Runnable W f S p) (nz : p.nesting ≡ 0 → ⊥) (T : List ℕ) (s : Shape) (es : s ≡ shape_at T p.at) (next : ℕ) (q : Spot) (eq : q ≡ inner_spot p next) where
    pub part_field : (k : ℕ) → s ≡ shape.Field k next → PartRunnable W f S q
    part_field k z = run-part run nz next (next_field T p.at s es k next z) q eq

    pub part_call : (m n : ℕ) → s ≡ shape.Call m n next → PartRunnable W f S q
    part_call m n z = run-part run nz next (next_call T p.at s es m n next z) q eq

    pub part_new : (c n : ℕ) → s ≡ shape.New c n next → PartRunnable W f S q
    part_new c n z = run-part run nz next (next_new T p.at s es c n next z) q eq

    pub part_combine : (x : Operation) → s ≡ shape.Combine x next → PartRunnable W f S q
    part_combine x z = run-part run nz next (next_combine T p.at s es x next z) q eq

    pub part_choose : s ≡ shape.Choose next → PartRunnable W f S q
    part_choose z = run-part run nz next (next_choose T p.at s es next z) q eq

  pub run_inner : PartRunnable W f S p → Runnable W f S p
  run_inner run = record {
    based = run.based;
    count = run.count;
    fits = fit_inner W f S p.opened p.nesting p.objects p.calls p.block run.fits;
  }

  pub run_list : (n : ℕ) → PartRunnable W f S p → n ≤ 4 → ListRunnable W f S p n
  run_list n run l = record {
    based = run.based;
    count = run.count;
    fits = fit_list W f S p.opened p.nesting p.objects p.calls p.block n run.fits l;
  }

  pub list_run : (n : ℕ) → ListRunnable W f S p n → (n ≡ 0 → ⊥) → Runnable W f S p
  list_run n run nz = record {
    based = run.based;
    count = run.count;
    fits = list_fit W f S p.opened p.nesting p.objects p.calls p.block n run.fits nz;
  }

-- ---- variables
done_out : (h : RustOption ValueRef) (next fuel : ℕ) → out_with fuel (done_of h next) ≡ out_of h next fuel
done_out (Some r) next fuel = refl
done_out None next fuel = refl

-- ---- an expression
module _ (T W : List ℕ) (f : Frame) (S : Trace) (p : Spot) where
  pub step_zero : p.nesting ≡ 0 → EvalStep T W f S p W S (Err Stuck)
  step_zero z = record { trace = traced_none p.opened S; runs = eval_zero T W f S p.opened p.at p.nesting p.objects p.calls p.block S.fuel z }

  module _ (s : Shape) (es : s ≡ shape_at T p.at) where
    step_nothing : s ≡ shape.Nothing → EvalStep T W f S p W S (Err Stuck)
    step_nothing z = record { trace = traced_none p.opened S; runs = eval_nothing T W f S p.opened p.at p.nesting p.objects p.calls p.block S.fuel s es z }

    module _ (run : Runnable W f S p) (next : ℕ) (h : RustOption ValueRef) (o : Done) (eo : o ≡ done_of h next) where
      answered : (g : RustOption ValueRef) → h ≡ g → out_with S.fuel o ≡ out_of g next S.fuel
      answered g e = ap (out_with S.fuel) (eo ∙ ap (λ (x : RustOption ValueRef). done_of x next) e) ∙ done_out g next S.fuel

      pub step_this : s ≡ shape.This next → h ≡ f.this → EvalStep T W f S p W S o
      step_this z e = record {
        trace = traced_none p.opened S;
        runs = eval_this T W f S p.opened p.at p.nesting p.objects p.calls p.block S.fuel s es run.fits next (out_with S.fuel o) z (answered f.this e);
      }

      pub step_result : s ≡ shape.Result next → h ≡ f.res → EvalStep T W f S p W S o
      step_result z e = record {
        trace = traced_none p.opened S;
        runs = eval_res T W f S p.opened p.at p.nesting p.objects p.calls p.block S.fuel s es run.fits next (out_with S.fuel o) z (answered f.res e);
      }

      pub step_parameter : (k : ℕ) → s ≡ shape.Parameter k next → h ≡ variable_of f k → EvalStep T W f S p W S o
      step_parameter k z e = record {
        trace = traced_none p.opened S;
        runs = eval_param T W f S p.opened p.at p.nesting p.objects p.calls p.block S.fuel s es run.fits next (out_with S.fuel o) k z (answered (variable_of f k) e);
      }

    pub step_number : (k n next : ℕ) (o : Done) → (o ≡ number_at (two_bytes k n) next) × (two_bytes k n < number_count) → s ≡ shape.Number k n next → EvalStep T W f S p W S o
    step_number k n next o e z = subst (EvalStep T W f S p W S) (sym e.0) (record {
      trace = traced_none p.opened S;
      runs = eval_number_lem T W f S p.opened p.at p.nesting p.objects p.calls p.block S.fuel s es k n next e.1 z;
    })

    -- what a part of it gave is handed on
    module _ (nz : p.nesting ≡ 0 → ⊥) (next : ℕ) (q : Spot) (eq : q ≡ inner_spot p next) (W' : List ℕ) (S' : Trace) (x o : Done) (eo : o ≡ x) where
      pub step_field : (k : ℕ) → s ≡ shape.Field k next → FieldStep T W f S q k W' S' x → EvalStep T W f S p W' S' o
      step_field k z y = subst (EvalStep T W f S p W' S') (sym eo) (
          let u = subst (λ (r : Spot). FieldStep T W f S r k W' S' x) eq y in
          record { trace = u.trace; runs = eval_at_field T W f S p.opened p.at p.nesting p.objects p.calls p.block S.fuel s es nz next W' (out_with S'.fuel x) k z u.runs })

      pub step_call : (m n : ℕ) → s ≡ shape.Call m n next → CallStep T W f S q m n W' S' x → EvalStep T W f S p W' S' o
      step_call m n z y = subst (EvalStep T W f S p W' S') (sym eo) (
          let u = subst (λ (r : Spot). CallStep T W f S r m n W' S' x) eq y in
          record { trace = u.trace; runs = eval_at_call T W f S p.opened p.at p.nesting p.objects p.calls p.block S.fuel s es nz next W' (out_with S'.fuel x) m n z u.runs })

      pub step_new : (c n : ℕ) → s ≡ shape.New c n next → NewStep T W f S q c n W' S' x → EvalStep T W f S p W' S' o
      step_new c n z y = subst (EvalStep T W f S p W' S') (sym eo) (
          let u = subst (λ (r : Spot). NewStep T W f S r c n W' S' x) eq y in
          record { trace = u.trace; runs = eval_at_new T W f S p.opened p.at p.nesting p.objects p.calls p.block S.fuel s es nz next W' (out_with S'.fuel x) c n z u.runs })

      pub step_combine : (y : Operation) → s ≡ shape.Combine y next → CombineStep T W f S q y W' S' x → EvalStep T W f S p W' S' o
      step_combine y z w = subst (EvalStep T W f S p W' S') (sym eo) (
          let u = subst (λ (r : Spot). CombineStep T W f S r y W' S' x) eq w in
          record { trace = u.trace; runs = eval_at_combine T W f S p.opened p.at p.nesting p.objects p.calls p.block S.fuel s es nz next W' (out_with S'.fuel x) y z u.runs })

      pub step_choose : s ≡ shape.Choose next → ChooseStep T W f S q W' S' x → EvalStep T W f S p W' S' o
      step_choose z w = subst (EvalStep T W f S p W' S') (sym eo) (
          let u = subst (λ (r : Spot). ChooseStep T W f S r W' S' x) eq w in
          record { trace = u.trace; runs = eval_at_choose T W f S p.opened p.at p.nesting p.objects p.calls p.block S.fuel s es nz next W' (out_with S'.fuel x) z u.runs })

  pub step_again : (W' : List ℕ) (S' : Trace) (x o : Done) → o ≡ x → EvalStep T W f S p W' S' x → EvalStep T W f S p W' S' o
  step_again W' S' x o eo y = subst (EvalStep T W f S p W' S') (sym eo) y

-- ---- what is left to `eval_number`
number_shape_lem : (s : Shape) → OneOf (6 ∷ 7 ∷ 8 ∷ 9 ∷ []) (tag_of ShapeT.the_type s) → NumberShape s
number_shape_lem (shape.This next) h = miss (6 ∷ 7 ∷ 8 ∷ 9 ∷ []) 0 tt h
number_shape_lem (shape.Result next) h = miss (6 ∷ 7 ∷ 8 ∷ 9 ∷ []) 1 tt h
number_shape_lem (shape.Parameter k next) h = miss (6 ∷ 7 ∷ 8 ∷ 9 ∷ []) 2 tt h
number_shape_lem (shape.Field f next) h = miss (6 ∷ 7 ∷ 8 ∷ 9 ∷ []) 3 tt h
number_shape_lem (shape.Call m n next) h = miss (6 ∷ 7 ∷ 8 ∷ 9 ∷ []) 4 tt h
number_shape_lem (shape.New c n next) h = miss (6 ∷ 7 ∷ 8 ∷ 9 ∷ []) 5 tt h
number_shape_lem (shape.Number k n next) h = tt
number_shape_lem (shape.Combine o next) h = tt
number_shape_lem (shape.Choose next) h = tt
number_shape_lem shape.Nothing h = tt

nothing_left : (s : Shape) → NumberShape s → ((k n next : ℕ) → s ≡ shape.Number k n next → ⊥) → ((o : Operation) (next : ℕ) → s ≡ shape.Combine o next → ⊥) → ((next : ℕ) → s ≡ shape.Choose next → ⊥) → s ≡ shape.Nothing
nothing_left (shape.This next) r number combine choose = absurd r
nothing_left (shape.Result next) r number combine choose = absurd r
nothing_left (shape.Parameter k next) r number combine choose = absurd r
nothing_left (shape.Field f next) r number combine choose = absurd r
nothing_left (shape.Call m n next) r number combine choose = absurd r
nothing_left (shape.New c n next) r number combine choose = absurd r
nothing_left (shape.Number k n next) r number combine choose = absurd (number k n next refl)
nothing_left (shape.Combine o next) r number combine choose = absurd (combine o next refl)
nothing_left (shape.Choose next) r number combine choose = absurd (choose next refl)
nothing_left shape.Nothing r number combine choose = refl

module _ (T W : List ℕ) (f : Frame) (S : Trace) (p : Spot) (s : Shape) where
  pub number_asked : Runnable W f S p → (p.nesting ≡ 0 → ⊥) → s ≡ shape_at T p.at → OneOf (6 ∷ 7 ∷ 8 ∷ 9 ∷ []) (tag_of ShapeT.the_type s) → NumberRunnable T W f S p s
  number_asked run nz es h = record { run = run; deep = nz; stands = es; rare = number_shape_lem s h }

  pub number_nothing : NumberRunnable T W f S p s → ((k n next : ℕ) → s ≡ shape.Number k n next → ⊥) → ((o : Operation) (next : ℕ) → s ≡ shape.Combine o next → ⊥)
      → ((next : ℕ) → s ≡ shape.Choose next → ⊥) → EvalStep T W f S p W S (Err Stuck)
  number_nothing run number combine choose = step_nothing T W f S p s run.stands (nothing_left s run.rare number combine choose)
