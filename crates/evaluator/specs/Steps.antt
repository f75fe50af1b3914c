-- What each function of the evaluator asks and does: the language's meaning (Evaluation, Calling) for a frame f and the open calls S, at a spot p;
-- the calls that were open are as before, and no fuel was won.
-- Not here: what evaluation means.
use Rattle.std.specs.Prelude.{ℕ, ◌+◌, ◌-◌, ◌*◌, ◌≤◌, ◌<◌, ◌≡◌, List, length}
use Rattle.canon.specs.Figures.{mark_count, block_size, spare_block}
use Rattle.classes.specs.declared.shape.Operation.{Operation}
use Rattle.classes.specs.declared.shape.Shape.{Shape}
use Rattle.classes.specs.declared.shape.Shape.TheVariants as shape
use Rattle.classes.specs.Shapes.{shape_at}
use Rattle.values.specs.declared.ValueRef.{ValueRef}
use Rattle.values.specs.declared.ValueRef.TheVariants.{Object, Mark, Number, Undetermined}
use Rattle.maker.specs.Fieldless.{Fieldless}
use Rattle.std.specs.declared.result.Result.TheVariants.{Ok}
use Rattle.evaluator.specs.Figures.{place_limit}
use Rattle.evaluator.specs.declared.frame.Frame.{Frame}
use Rattle.evaluator.specs.declared.spot.Spot.{Spot}
use Rattle.evaluator.specs.declared.trace.Trace.{Trace}
use Rattle.evaluator.specs.declared.trace.OpenCall.{OpenCall}
use Rattle.evaluator.specs.State.{call_at, PartsOlder}
use Rattle.evaluator.specs.Answers.{Done, Walked, out_with, list_from, Finishes}
use Rattle.evaluator.specs.Evaluation.{Fits, ListFits, Evaluates, Fields, Lists, News, Combines, Chooses}
use Rattle.evaluator.specs.Calling.{Calls, ArgsFit, CallsWith, CallFits, Invokes, BodyFits, RunsRight, RunsLeft}

-- the first k calls are as before, and no fuel was won
pub record Traced (k : ℕ) (S S' : Trace) : Type 0 where
  pub calls : (i : ℕ) → i < k → call_at S' i ≡ call_at S i
  pub spent : S'.fuel ≤ S.fuel

-- ---- what is asked
-- block 0 has the objects without fields, and lies below block b
pub record Based (W : List ℕ) (b : ℕ) : Type 0 where
  pub fieldless : Fieldless W
  pub above : 0 < b

pub record Runnable (W : List ℕ) (f : Frame) (S : Trace) (p : Spot) : Type 0 where
  pub based : Based W p.block
  pub count : f.n ≤ 3
  pub fits : Fits W f S p.opened p.nesting p.objects p.calls p.block

-- what stands at a spot that `eval` leaves to `eval_number`
abbrev pub NumberShape : Shape → Type 0
NumberShape (shape.This next) = ⊥
NumberShape (shape.Result next) = ⊥
NumberShape (shape.Parameter k next) = ⊥
NumberShape (shape.Field f next) = ⊥
NumberShape (shape.Call m n next) = ⊥
NumberShape (shape.New c n next) = ⊥
NumberShape (shape.Number k n next) = Unit {0}
NumberShape (shape.Combine o next) = Unit {0}
NumberShape (shape.Choose next) = Unit {0}
NumberShape shape.Nothing = Unit {0}

pub record NumberRunnable (T W : List ℕ) (f : Frame) (S : Trace) (p : Spot) (s : Shape) : Type 0 where
  pub run : Runnable W f S p
  pub deep : p.nesting ≡ 0 → ⊥
  pub stands : s ≡ shape_at T p.at
  pub rare : NumberShape s

-- one level in
pub record PartRunnable (W : List ℕ) (f : Frame) (S : Trace) (p : Spot) : Type 0 where
  pub based : Based W p.block
  pub place : p.at < place_limit
  pub count : f.n ≤ 3
  pub fits : Fits W f S p.opened (p.nesting + 1) p.objects p.calls p.block

pub record ListRunnable (W : List ℕ) (f : Frame) (S : Trace) (p : Spot) (n : ℕ) : Type 0 where
  pub based : Based W p.block
  pub count : f.n ≤ 3
  pub fits : ListFits W f S p.opened p.nesting p.objects p.calls p.block n

-- the n values A lie below block dst + n, and that below the spare block
pub record PartsReady (W : List ℕ) (A : List ValueRef) (n dst : ℕ) : Type 0 where
  pub older : PartsOlder W (dst + n) A n
  pub few : n ≤ 4
  pub full : length A ≡ 4
  pub under : dst + 4 < spare_block
  pub room : block_size * spare_block + block_size ≤ length W

-- the receiver v was evaluated
pub record ArgsRunnable (W : List ℕ) (f : Frame) (S : Trace) (p : Spot) (v : ValueRef) (n : ℕ) : Type 0 where
  pub based : Based W p.block
  pub count : f.n ≤ 3
  pub fits : ArgsFit W f S p.opened p.nesting p.objects p.calls p.block v n

-- the call c, as it will be opened: meeting it again gives the mark of the next call
pub record CallRunnable (W : List ℕ) (S : Trace) (c : OpenCall) (p : Spot) : Type 0 where
  pub based : Based W p.block
  pub mark : c.gives ≡ Mark p.opened
  pub fits : CallFits W S p.opened c.receiver c.args c.n p.objects p.calls p.block

-- a call is opened
pub record BodyRunnable (W : List ℕ) (S : Trace) (c : OpenCall) (p : Spot) : Type 0 where
  pub based : Based W p.block
  pub mark : c.gives ≡ Mark p.opened
  pub fits : BodyFits W S p.opened c.receiver c.args c.n p.objects (p.calls - 1) p.block
  pub deep : p.calls ≡ 0 → ⊥

-- the mark of a call
abbrev pub mark_in : ValueRef → ℕ
mark_in (Object i b) = 0
mark_in (Mark k) = k
mark_in (Number n) = 0
mark_in Undetermined = 0

pub record MarkGiven (r : ValueRef) : Type 0 where
  pub is : r ≡ Mark (mark_in r)
  pub small : mark_in r < mark_count

-- ---- what is done
pub record EvalStep (T W : List ℕ) (f : Frame) (S : Trace) (p : Spot) (W' : List ℕ) (S' : Trace) (o : Done) : Type 0 where
  pub trace : Traced p.opened S S'
  pub runs : Evaluates T W f S p.opened p.at p.nesting p.objects p.calls p.block S.fuel W' (out_with S'.fuel o)

pub record FieldStep (T W : List ℕ) (f : Frame) (S : Trace) (p : Spot) (k : ℕ) (W' : List ℕ) (S' : Trace) (o : Done) : Type 0 where
  pub trace : Traced p.opened S S'
  pub runs : Fields T W f S p.opened p.at p.nesting p.objects p.calls p.block S.fuel k W' (out_with S'.fuel o)

pub record ListStep (T W : List ℕ) (f : Frame) (S : Trace) (p : Spot) (n : ℕ) (W' : List ℕ) (S' : Trace) (A : List ValueRef) (w : Walked) : Type 0 where
  pub trace : Traced p.opened S S'
  pub full : length A ≡ 4
  pub runs : Lists T W f S p.opened p.at p.nesting p.objects p.calls p.block S.fuel n W' (list_from S'.fuel A 0 w)

-- whatever the fuel
pub record FinishStep (W : List ℕ) (c n : ℕ) (A : List ValueRef) (objects dst next : ℕ) (W' : List ℕ) (o : Done) : Type 0 where
  pub runs : (fuel : ℕ) → Finishes W c (list_from fuel A 0 (Ok next)) n objects dst W' (out_with fuel o)

pub record NewStep (T W : List ℕ) (f : Frame) (S : Trace) (p : Spot) (c n : ℕ) (W' : List ℕ) (S' : Trace) (o : Done) : Type 0 where
  pub trace : Traced p.opened S S'
  pub runs : News T W f S p.opened p.at p.nesting p.objects p.calls p.block S.fuel c n W' (out_with S'.fuel o)

pub record CombineStep (T W : List ℕ) (f : Frame) (S : Trace) (p : Spot) (x : Operation) (W' : List ℕ) (S' : Trace) (o : Done) : Type 0 where
  pub trace : Traced p.opened S S'
  pub runs : Combines T W f S p.opened p.at p.nesting p.objects p.calls p.block S.fuel x W' (out_with S'.fuel o)

pub record ChooseStep (T W : List ℕ) (f : Frame) (S : Trace) (p : Spot) (W' : List ℕ) (S' : Trace) (o : Done) : Type 0 where
  pub trace : Traced p.opened S S'
  pub runs : Chooses T W f S p.opened p.at p.nesting p.objects p.calls p.block S.fuel W' (out_with S'.fuel o)

pub record CallStep (T W : List ℕ) (f : Frame) (S : Trace) (p : Spot) (m n : ℕ) (W' : List ℕ) (S' : Trace) (o : Done) : Type 0 where
  pub trace : Traced p.opened S S'
  pub runs : Calls T W f S p.opened p.at p.nesting p.objects p.calls p.block S.fuel m n W' (out_with S'.fuel o)

pub record ArgsStep (T W : List ℕ) (f : Frame) (S : Trace) (p : Spot) (v : ValueRef) (m n i : ℕ) (W' : List ℕ) (S' : Trace) (o : Done) : Type 0 where
  pub trace : Traced p.opened S S'
  pub runs : CallsWith T W f S p.opened p.at p.nesting p.objects p.calls p.block S.fuel v m n i W' (out_with S'.fuel o)

-- the spot is after the call
pub record InvokeStep (T W : List ℕ) (S : Trace) (c : OpenCall) (i : ℕ) (p : Spot) (W' : List ℕ) (S' : Trace) (o : Done) : Type 0 where
  pub trace : Traced p.opened S S'
  pub runs : Invokes T W S p.opened c.receiver c.args c.n i p.at p.objects p.calls p.block S.fuel c.name W' (out_with S'.fuel o)

pub record RightStep (T W : List ℕ) (S : Trace) (c : OpenCall) (i : ℕ) (p : Spot) (mark : ValueRef) (W' : List ℕ) (S' : Trace) (o : Done) : Type 0 where
  pub trace : Traced p.opened S S'
  pub runs : RunsRight T W S p.opened c.receiver c.args c.n i p.at p.objects (p.calls - 1) p.block S.fuel (mark_in mark) W' (out_with S'.fuel o)

pub record LeftStep (T W : List ℕ) (S : Trace) (c : OpenCall) (i : ℕ) (p : Spot) (W' : List ℕ) (S' : Trace) (o : Done) : Type 0 where
  pub trace : Traced p.opened S S'
  pub runs : RunsLeft T W S p.opened c.receiver c.args c.n i p.at p.objects (p.calls - 1) p.block S.fuel c.name W' (out_with S'.fuel o)
