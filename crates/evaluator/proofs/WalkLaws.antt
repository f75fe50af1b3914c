-- The walk of a list, in a loop: what it has come to, and one law for each of its returns.
-- Not here: what a list means (ListLaws).
use Rattle.std.proofs.Common.{ℕ, ◌+◌, ◌-◌, ◌≤◌, ◌<◌, arith, ◌≡◌, refl, sym, ap, ◌∙◌, subst, Bool, true, false, List, eqb, length, set, length-set, get_or-set_same, get_or-set_other}
use borrow.Author.Tests.{eqb-false}
use Rattle.classes.specs.Machine.{pick}
use Rattle.values.specs.declared.ValueRef.{ValueRef}
use Rattle.values.specs.declared.ValueRef.TheVariants.{Object, Mark, Number, Undetermined}
use Rattle.values.specs.Layout.{Low}
use Rattle.std.specs.declared.result.Result.TheVariants.{Ok, Err}
use Rattle.evaluator.specs.declared.Stop.{Stop}
use Rattle.evaluator.specs.declared.frame.Frame.{Frame}
use Rattle.evaluator.specs.declared.spot.Spot.{Spot}
use Rattle.evaluator.specs.declared.trace.Trace.{Trace}
use Rattle.evaluator.specs.State.{slot_at, Older}
use Rattle.evaluator.specs.declared.Evaluated.{Evaluated}
use Rattle.evaluator.specs.Answers.{Done, Walked, Value, Halt, value_at, Values, Stops, front_of, list_from, stops_as}
use Rattle.evaluator.specs.Spots.{moved_spot, past_of}
use Rattle.evaluator.specs.Evaluation.{Lists}
use Rattle.evaluator.specs.Steps.{Traced, Runnable, ListRunnable, EvalStep, ListStep}
use Rattle.evaluator.proofs.Keeping.{based_kept}
use Rattle.evaluator.proofs.Given.{given_older}
use Rattle.evaluator.proofs.TraceLaws.{traced_none, traced_then, calls_on, lists_on}
use Rattle.evaluator.proofs.FitLaws.{list_later}
use Rattle.evaluator.proofs.ListLaws.{list_zero, list_halt, list_more}
use Rattle.evaluator.proofs.StepLaws.{list_run}

-- ---- the block for what follows a value
record After (b : ℕ) (v : ValueRef) (c : ℕ) : Type 0 where
  from : b ≤ c
  to : c ≤ b + 1
  low : Low c v

past_after : (b : ℕ) (v : ValueRef) → Low (b + 1) v → After b v (past_of b v)
past_after b (Object i x) l = go (eqb x b) refl
  where
    go : (y : Bool) → eqb x b ≡ y → After b (Object i x) (pick y (b + 1) b)
    go true q = record { from = omega arith; to = omega arith; low = l }
    go false q = record { from = omega arith; to = omega arith; low = omega (arith, eqb-false x b q) }
past_after b (Mark k) l = record { from = omega arith; to = omega arith; low = tt }
past_after b (Number n) l = record { from = omega arith; to = omega arith; low = tt }
past_after b Undetermined l = record { from = omega arith; to = omega arith; low = tt }

-- ---- the walk has come to spot q and item i: whatever the rest gives from there on, the whole gives
pub record Rest (T W : List ℕ) (f : Frame) (S : Trace) (p : Spot) (n : ℕ) (W1 : List ℕ) (S1 : Trace) (A1 : List ValueRef) (q : Spot) (i : ℕ) : Type 0 where
  pub full : length A1 ≡ 4
  pub ready : ListRunnable W1 f S1 q (n - i)
  pub size : n ≤ 4
  pub same : length W1 ≡ length W
  pub level : q.nesting ≡ p.nesting
  pub depth : q.calls ≡ p.calls
  pub whole : (W' : List ℕ) (S' : Trace) (A' : List ValueRef) (w : Walked) → length A' ≡ 4 → ((j : ℕ) → j < i → slot_at A' j ≡ slot_at A1 j) → Traced q.opened S1 S'
      → Lists T W1 f S1 q.opened q.at q.nesting q.objects q.calls q.block S1.fuel (n - i) W' (list_from S'.fuel A' i w)
      → ListStep T W f S p n W' S' A' w

pub rest_all : (T W : List ℕ) (f : Frame) (S : Trace) (p : Spot) (n : ℕ) (A : List ValueRef) → ListRunnable W f S p n → length A ≡ 4 → Rest T W f S p n W S A p 0
rest_all T W f S p n A run full = record {
  full = full;
  ready = subst (ListRunnable W f S p) (let e : n ≡ n - 0 = omega arith in e) run;
  size = run.fits.few;
  same = refl;
  level = refl;
  depth = refl;
  whole = λ W' S' A' w len same tr li. record {
    trace = tr;
    full = len;
    runs = subst (λ (k : ℕ). Lists T W f S p.opened p.at p.nesting p.objects p.calls p.block S.fuel k W' (list_from S'.fuel A' 0 w)) (let e : n - 0 ≡ n = omega arith in e) li;
  };
}

module _ (T W : List ℕ) (f : Frame) (S : Trace) (p : Spot) (n : ℕ) (W1 : List ℕ) (S1 : Trace) (A1 : List ValueRef) (q : Spot) (i : ℕ) (re : Rest T W f S p n W1 S1 A1 q i) where
  pub rest_block : q.block < 65535
  rest_block = let r = re.ready.fits.room in omega arith

  pub rest-length : length W1 ≡ length W
  rest-length = re.same

  pub rest_done : n ≤ i → ListStep T W f S p n W1 S1 A1 (Ok q.at)
  rest_done l = re.whole W1 S1 A1 (Ok q.at) re.full (λ j h. refl) (traced_none q.opened S1)
      (list_zero T W1 f S1 q.opened q.at q.nesting q.objects q.calls q.block S1.fuel (n - i) (slot_at A1 i) (slot_at A1 (i + 1)) (slot_at A1 (i + 2)) (slot_at A1 (i + 3)) (omega arith))

  module _ (more : i < n) where
    left : n - i ≡ 0 → ⊥
    left z = omega arith

    pub rest-run : Runnable W1 f S1 q
    rest-run = list_run W1 f S1 q (n - i) re.ready left

    pub rest_index : i < 4
    rest_index = let s = re.size in omega arith

    module _ (W2 : List ℕ) (S2 : Trace) (o : Done) (ev : EvalStep T W1 f S1 q W2 S2 o) where
      pub item_length : length W2 ≡ length W
      item_length = ev.runs.kept.same ∙ re.same

      pub rest_stops : (s : Stop) (w : Walked) → o ≡ Err s → w ≡ stops_as o → ListStep T W f S p n W2 S2 A1 w
      rest_stops s w eo ew = subst (ListStep T W f S p n W2 S2 A1) (sym (ew ∙ ap stops_as eo)) (
          let x = subst (EvalStep T W1 f S1 q W2 S2) eo ev in
          re.whole W2 S2 A1 (Err s) re.full (λ j h. refl) x.trace
          (list_halt T W1 f S1 q.opened q.at q.nesting q.objects q.calls q.block S1.fuel (n - i) re.ready.fits left W2 (Halt s S2.fuel) x.runs s S2.fuel (Stops s S2.fuel) refl refl))

      module _ (got : Evaluated) (eo : o ≡ Ok got) where
        first : EvalStep T W1 f S1 q W2 S2 (value_at got.value got.next)
        first = subst (EvalStep T W1 f S1 q W2 S2) eo ev

        first_older : Older W2 (q.block + 1) got.value
        first_older = given_older T W1 f S1 q.opened q.at q.nesting q.objects q.calls q.block S1.fuel W2 (Value got.value got.next S2.fuel) first.runs got.value got.next S2.fuel refl

        module _ (b : ℕ) (eb : b ≡ past_of q.block got.value) where
          after : After q.block got.value b
          after = subst (After q.block got.value) (sym eb) (past_after q.block got.value first_older.low)

          ready : ListRunnable W2 f S2 (moved_spot q got.next b) (n - (i + 1))
          ready =
              let k = first.runs.kept in
              let h = list_later T W1 f S1 q.opened q.at q.nesting q.objects q.calls q.block S1.fuel W2 (Value got.value got.next S2.fuel) first.runs (n - i) b re.ready.fits left after.from after.to in
              record {
                based = based_kept W1 W2 q.block b k after.from re.ready.based;
                count = re.ready.count;
                fits = record {
                  frame = h.frame;
                  trace = calls_on q.opened S1 S2 first.trace W2 b h.trace;
                  calls = h.calls;
                  limit = h.limit;
                  few = omega (arith, h.few);
                  room = omega (arith, h.room);
                  long = h.long;
                };
              }

          module _ (W' : List ℕ) (S' : Trace) (A' : List ValueRef) (w : Walked) (same : (j : ℕ) → j < i + 1 → slot_at A' j ≡ slot_at (set A1 i got.value) j) where
            here : slot_at A' i ≡ got.value
            here = same i (omega arith) ∙ get_or-set_same A1 i got.value (Object 0 0) (let l = rest_index in omega (arith, re.full))

            front : (y : Walked) → list_from S'.fuel A' i y ≡ front_of got.value (list_from S'.fuel A' (i + 1) y)
            front (Ok z) =
                let e2 : i + 2 ≡ i + 1 + 1 = omega arith in
                let e3 : i + 3 ≡ i + 1 + 2 = omega arith in
                λ j. Values (here j) (slot_at A' (i + 1)) (slot_at A' (e2 j)) (slot_at A' (e3 j)) z S'.fuel
            front (Err s) = refl

            goes_on : Traced q.opened S2 S' → Lists T W2 f S2 q.opened got.next q.nesting q.objects q.calls b S2.fuel (n - (i + 1)) W' (list_from S'.fuel A' (i + 1) w)
                → Lists T W1 f S1 q.opened q.at q.nesting q.objects q.calls q.block S1.fuel (n - i) W' (list_from S'.fuel A' i w)
            goes_on tr li =
                list_more T W1 f S1 q.opened q.at q.nesting q.objects q.calls q.block S1.fuel (n - i) re.ready.fits left W2 (Value got.value got.next S2.fuel) first.runs got.value got.next S2.fuel refl b
                after.from after.to after.low W' (list_from S'.fuel A' (i + 1) w)
                (lists_on q.opened S1 S2 first.trace T W2 f got.next q.nesting q.objects q.calls b S2.fuel (n - i - 1) W' (list_from S'.fuel A' (i + 1) w)
                (subst (λ (k : ℕ). Lists T W2 f S2 q.opened got.next q.nesting q.objects q.calls b S2.fuel k W' (list_from S'.fuel A' (i + 1) w)) (let e : n - (i + 1) ≡ n - i - 1 = omega arith in e) li))
                (list_from S'.fuel A' i w) (front w)

          pub rest_later : (q2 : Spot) → q2 ≡ moved_spot q got.next b → Rest T W f S p n W2 S2 (set A1 i got.value) q2 (i + 1)
          rest_later q2 e2 = subst (λ (r : Spot). Rest T W f S p n W2 S2 (set A1 i got.value) r (i + 1)) (sym e2) (record {
            full = length-set A1 i got.value ∙ re.full;
            ready = ready;
            size = re.size;
            same = first.runs.kept.same ∙ re.same;
            level = re.level;
            depth = re.depth;
            whole = λ W' S' A' w len same tr li.
                re.whole W' S' A' w len (λ j l. same j (omega arith) ∙ get_or-set_other A1 i j got.value (Object 0 0) (λ z. omega arith)) (traced_then q.opened S1 S2 S' first.trace tr) (goes_on W' S' A' w same tr li);
          })
