-- A field of an expression, and fields of fields in a loop, from the innermost out: one law for each return of `eval_field`.
-- Not here: where they begin (ChainLaws), what a field means (ListLaws).
use Rattle.evaluator.specs.declared.trace.Trace.{Trace}
use Rattle.std.specs.declared.option.Option.{Option as RustOption}
use Rattle.std.specs.declared.option.Option.TheVariants.{Some, None}
use Rattle.std.proofs.Common.{ℕ, zero, suc, ◌+◌, ◌-◌, ◌*◌, ◌≤◌, ◌<◌, arith, ◌≡◌, refl, sym, subst, List, get_or}
use Rattle.classes.specs.Shapes.{shape_at}
use Rattle.classes.proofs.ShapeLaws.{field_low, field_shape}
use Rattle.values.specs.declared.ValueRef.{ValueRef}
use Rattle.values.specs.Layout.{Holds}
use Rattle.values.specs.Operations.{Chosen}
use Rattle.std.specs.declared.result.Result.TheVariants.{Err}
use Rattle.evaluator.specs.Answers.{Done, Value, Halt, value_at}
use Rattle.evaluator.specs.declared.Stop.{Stop}
use Rattle.evaluator.specs.declared.Stop.TheVariants.{Stuck}
use Rattle.evaluator.specs.declared.frame.Frame.{Frame}
use Rattle.evaluator.specs.declared.spot.Spot.{Spot}
use Rattle.evaluator.specs.Spots.{inner_spot, down_spot}
use Rattle.evaluator.specs.Chains.{Chain}
use Rattle.evaluator.specs.Steps.{Runnable, PartRunnable, EvalStep, FieldStep}
use Rattle.evaluator.proofs.Given.{given_older}
use Rattle.evaluator.proofs.ListLaws.{field_halt, field_none, field_some}
use Rattle.evaluator.proofs.StepLaws.{step_field}

-- ---- one field
module _ (T W : List ℕ) (f : Frame) (S : Trace) (p : Spot) (k : ℕ) (W1 : List ℕ) (S1 : Trace) where
  field_stops : (s : Stop) → EvalStep T W f S p W1 S1 (Err s) → FieldStep T W f S p k W1 S1 (Err s)
  field_stops s ev = record {
    trace = ev.trace;
    runs = field_halt T W f S p.opened p.at p.nesting p.objects p.calls p.block S.fuel k W1 (Halt s S1.fuel) ev.runs s S1.fuel refl;
  }

  module _ (v : ValueRef) (at : ℕ) (ev : EvalStep T W f S p W1 S1 (value_at v at)) where
    value_held : Holds W1 v
    value_held = (given_older T W f S p.opened p.at p.nesting p.objects p.calls p.block S.fuel W1 (Value v at S1.fuel) ev.runs v at S1.fuel refl).held

    module _ (x : RustOption ValueRef) (ch : Chosen W1 v k x) where
      field_lacks : x ≡ None → FieldStep T W f S p k W1 S1 (Err Stuck)
      field_lacks e = record {
        trace = ev.trace;
        runs = field_none T W f S p.opened p.at p.nesting p.objects p.calls p.block S.fuel k W1 (Value v at S1.fuel) ev.runs v at S1.fuel refl x ch e;
      }

      field_has : (r : ValueRef) → x ≡ Some r → FieldStep T W f S p k W1 S1 (value_at r at)
      field_has r e = record {
        trace = ev.trace;
        runs = field_some T W f S p.opened p.at p.nesting p.objects p.calls p.block S.fuel k W1 (Value v at S1.fuel) ev.runs v at S1.fuel refl x ch r e;
      }

-- ---- j levels in
module _ (W : List ℕ) (f : Frame) (S : Trace) (p : Spot) (run : PartRunnable W f S p) (j : ℕ) (l : j ≤ p.nesting) where
  down_run : Runnable W f S (down_spot p j)
  down_run = record {
    based = run.based;
    count = run.count;
    fits = let h = run.fits in let r = h.room in record { frame = h.frame; trace = h.trace; calls = h.calls; limit = h.limit; room = omega arith; long = h.long };
  }

module _ (T W : List ℕ) (f : Frame) (S : Trace) (p : Spot) (d : ℕ) (run : PartRunnable W f S p) (ch : Chain T p.at p.nesting d) where
  chain_run : (q : Spot) → q ≡ down_spot p d → Runnable W f S q
  chain_run q e = subst (Runnable W f S) (sym e) (down_run W f S p run d ch.few)

  -- one field out
  out : (j : ℕ) → j < d → (W1 : List ℕ) (S1 : Trace) (o : Done) → FieldStep T W f S (down_spot p (j + 1)) (get_or T (p.at + 2 * j + 1) 0) W1 S1 o → EvalStep T W f S (down_spot p j) W1 S1 o
  out j l W1 S1 o x =
      let few = ch.few in
      let near : p.at + 2 * (j + 1) ≡ p.at + 2 * j + 2 = omega arith in
      let less : p.nesting - (j + 1) ≡ p.nesting - j - 1 = omega arith in
      let same : down_spot p (j + 1) ≡ inner_spot (down_spot p j) (p.at + 2 * j + 2)
      = λ i. record { at = near i; block = p.block; nesting = less i; calls = p.calls; opened = p.opened; objects = p.objects } in
      step_field T W f S (down_spot p j) (shape_at T (p.at + 2 * j)) refl (λ z. omega arith) (p.at + 2 * j + 2) (down_spot p (j + 1)) same W1 S1 o o refl
      (get_or T (p.at + 2 * j + 1) 0) (field_shape T (p.at + 2 * j) (ch.each j l)) x

  -- no field out
  home : (W1 : List ℕ) (S1 : Trace) (o : Done) → EvalStep T W f S (down_spot p 0) W1 S1 o → EvalStep T W f S p W1 S1 o
  home W1 S1 o x =
      let e : p.at + 2 * 0 ≡ p.at = omega arith in
      let n : p.nesting - 0 ≡ p.nesting = omega arith in
      let same : down_spot p 0 ≡ p = λ i. record { at = e i; block = p.block; nesting = n i; calls = p.calls; opened = p.opened; objects = p.objects } in
      subst (λ (q : Spot). EvalStep T W f S q W1 S1 o) same x

  -- what stops inside stops the whole
  stops_out : (s : Stop) (j : ℕ) → j ≤ d → (W1 : List ℕ) (S1 : Trace) → EvalStep T W f S (down_spot p j) W1 S1 (Err s) → EvalStep T W f S p W1 S1 (Err s)
  stops_out s zero l W1 S1 x = home W1 S1 (Err s) x
  stops_out s (suc j) l W1 S1 x =
      stops_out s j (omega arith) W1 S1
      (out j (omega arith) W1 S1 (Err s) (field_stops T W f S (down_spot p (j + 1)) (get_or T (p.at + 2 * j + 1) 0) W1 S1 s
      (subst (λ (i : ℕ). EvalStep T W f S (down_spot p i) W1 S1 (Err s)) (let e : suc j ≡ j + 1 = omega arith in e) x)))

  chain_stops : (k : ℕ) (q : Spot) → q ≡ down_spot p d → (W1 : List ℕ) (S1 : Trace) (o : Done) → EvalStep T W f S q W1 S1 o → (s : Stop) → o ≡ Err s → FieldStep T W f S p k W1 S1 o
  chain_stops k q eq W1 S1 o x s eo = subst (FieldStep T W f S p k W1 S1) (sym eo)
      (field_stops T W f S p k W1 S1 s (stops_out s d (omega arith) W1 S1 (subst (EvalStep T W f S (down_spot p d) W1 S1) eo (subst (λ (r : Spot). EvalStep T W f S r W1 S1 o) eq x))))

-- ---- what the code has of it: the spot's place in a local, and how many fields there are
module _ (T W : List ℕ) (f : Frame) (S : Trace) (p : Spot) (place d : ℕ) (ep : place ≡ p.at) (ch : Chain T place p.nesting d) (run : PartRunnable W f S p) where
  chain : Chain T p.at p.nesting d
  chain = subst (λ (a : ℕ). Chain T a p.nesting d) ep ch

  pub fields_run : (q : Spot) → q ≡ down_spot p d → Runnable W f S q
  fields_run q e = chain_run T W f S p d run chain q e

  pub fields_stop : (k : ℕ) (q : Spot) → q ≡ down_spot p d → (W1 : List ℕ) (S1 : Trace) (o : Done) → EvalStep T W f S q W1 S1 o → (s : Stop) → o ≡ Err s → FieldStep T W f S p k W1 S1 o
  fields_stop k q eq W1 S1 o x s eo = chain_stops T W f S p d run chain k q eq W1 S1 o x s eo

-- ---- the loop: if the innermost expression gave v, the one j fields in gives u
pub record Down (T W1 : List ℕ) (f : Frame) (S1 : Trace) (place d at : ℕ) (v u : ValueRef) (j : ℕ) : Type 0 where
  pub step : (p : Spot) → place ≡ p.at → Chain T p.at p.nesting d → (W : List ℕ) (S : Trace) → PartRunnable W f S p
      → EvalStep T W f S (down_spot p d) W1 S1 (value_at v at) → EvalStep T W f S (down_spot p j) W1 S1 (value_at u at)

pub down_all : (T W1 : List ℕ) (f : Frame) (S1 : Trace) (place d at : ℕ) (v : ValueRef) → Down T W1 f S1 place d at v v d
down_all T W1 f S1 place d at v = record { step = λ p ep ch W S run x. x }

module _ (T W1 : List ℕ) (f : Frame) (S1 : Trace) (place d at : ℕ) (v u : ValueRef) (j : ℕ) (dn : Down T W1 f S1 place d at v u j) where
  module _ (left : ℕ) (ch : Chain T place left d) where
    pub down_index : j ≤ d → 0 < j → place + 2 * (j - 1) + 1 < 25616
    down_index few more = let l = field_low T (place + 2 * (j - 1)) (ch.each (j - 1) (omega arith)) in omega arith

  module _ (W : List ℕ) (S : Trace) (p : Spot) (run : PartRunnable W f S p) (ep : place ≡ p.at) (ch : Chain T place p.nesting d) (q : Spot) (eq : q ≡ down_spot p d) (o : Done) (ev : EvalStep T W f S q W1 S1 o)
      (eo : o ≡ value_at v at) where
    here : Chain T p.at p.nesting d
    here = chain T W f S p place d ep ch run

    so_far : EvalStep T W f S (down_spot p j) W1 S1 (value_at u at)
    so_far = dn.step p ep here W S run (subst (EvalStep T W f S (down_spot p d) W1 S1) eo (subst (λ (r : Spot). EvalStep T W f S r W1 S1 o) eq ev))

    pub down_held : Holds W1 u
    down_held = value_held T W f S (down_spot p j) 0 W1 S1 u at so_far

    -- no field is left but the outermost
    module _ (z : j ≤ 0) (k : ℕ) (x : RustOption ValueRef) (se : Chosen W1 u k x) where
      whole : EvalStep T W f S p W1 S1 (value_at u at)
      whole = home T W f S p d run here W1 S1 (value_at u at) (subst (λ (i : ℕ). EvalStep T W f S (down_spot p i) W1 S1 (value_at u at)) (let e : j ≡ 0 = omega arith in e) so_far)

      pub down_lacks : x ≡ None → FieldStep T W f S p k W1 S1 (Err Stuck)
      down_lacks e = field_lacks T W f S p k W1 S1 u at whole x se e

      pub down_has : (r : ValueRef) → x ≡ Some r → FieldStep T W f S p k W1 S1 (value_at r at)
      down_has r e = field_has T W f S p k W1 S1 u at whole x se r e

    pub down_stops : j ≤ d → 0 < j → (k : ℕ) (x : RustOption ValueRef) → Chosen W1 u (get_or T (place + 2 * (j - 1) + 1) 0) x → x ≡ None → FieldStep T W f S p k W1 S1 (Err Stuck)
    down_stops few more k x se e =
        let y = subst (λ (a : ℕ). Chosen W1 u (get_or T (a + 2 * (j - 1) + 1) 0) x) ep se in
        field_stops T W f S p k W1 S1 Stuck
        (stops_out T W f S p d run here Stuck (j - 1) (omega arith) W1 S1
        (out T W f S p d run here (j - 1) (omega arith) W1 S1 (Err Stuck)
        (subst (λ (i : ℕ). FieldStep T W f S (down_spot p i) (get_or T (p.at + 2 * (j - 1) + 1) 0) W1 S1 (Err Stuck)) (let r : j ≡ j - 1 + 1 = omega arith in r)
        (field_lacks T W f S (down_spot p j) (get_or T (p.at + 2 * (j - 1) + 1) 0) W1 S1 u at so_far x y e))))

  pub down_again : j ≤ d → 0 < j → (x : RustOption ValueRef) → Chosen W1 u (get_or T (place + 2 * (j - 1) + 1) 0) x → (r : ValueRef) → x ≡ Some r → Down T W1 f S1 place d at v r (j - 1)
  down_again few more x se r e =
      record {
        step = λ p ep ch W S run ev.
            let y = subst (λ (a : ℕ). Chosen W1 u (get_or T (a + 2 * (j - 1) + 1) 0) x) ep se in
            out T W f S p d run ch (j - 1) (omega arith) W1 S1 (value_at r at)
            (subst (λ (i : ℕ). FieldStep T W f S (down_spot p i) (get_or T (p.at + 2 * (j - 1) + 1) 0) W1 S1 (value_at r at)) (let q : j ≡ j - 1 + 1 = omega arith in q)
            (field_has T W f S (down_spot p j) (get_or T (p.at + 2 * (j - 1) + 1) 0) W1 S1 u at (dn.step p ep ch W S run ev) x y r e));
      }
