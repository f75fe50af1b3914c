-- What evaluation asks and answers, for every table and expression whose bytes stand where it looks.
-- Not here: calls (Calling), main (Main), what frames and open calls stand for (State), what the functions ask and do (Steps).
use Rattle.std.specs.Prelude.{ℕ, zero, suc, ◌+◌, ◌*◌, ◌≤◌, ◌<◌, ◌≡◌, true, List, length}
use Rattle.std.proofs.Math.Option.{Option, none, some}
use Rattle.cofj.specs.Syntax.{Expr, field, new, combine, choose, Exprs, count, Table}
use Rattle.cofj.specs.Tables.{expr_known, exprs_known}
use Rattle.cofj.specs.Writing.{code_of, codes_of}
use Rattle.cofj.specs.Nesting.{Each, Nested}
use Rattle.cofj.specs.Values.{Graph}
use Rattle.cofj.specs.Running as language
use Rattle.cofj.specs.Running.{Outcome, Deeper}
use Rattle.classes.specs.Layout.{layout, Stands, Tabled}
use Rattle.classes.specs.declared.shape.Operation.{Operation}
use Rattle.classes.specs.Shapes.{operation_of}
use Rattle.canon.specs.Figures.{capacity}
use Rattle.evaluator.specs.Figures.{call_limit, level_blocks, open_blocks, block_limit, work_room}
use Rattle.evaluator.specs.declared.frame.Frame.{Frame}
use Rattle.evaluator.specs.declared.trace.Trace.{Trace}
use Rattle.evaluator.specs.State.{Kept, FrameHolds, TraceHolds, frame_in, trace_in}
use Rattle.evaluator.specs.Answers.{Out, Listed, OutOlder, ListOlder, Shows, ShowsAll}

-- ---- the table's bytes are T, and an expression nested at most `left` deep stands in them
pub record Reads (T : List ℕ) (left at : ℕ) (t : Table) (e : Expr) : Type 0 where
  pub table : Tabled T t
  pub nested : Nested left e
  pub known : expr_known (length t.classes) e ≡ true
  pub stands : Stands (layout t) at (code_of e)

pub record ReadsAll (T : List ℕ) (left at : ℕ) (t : Table) (es : Exprs) : Type 0 where
  pub table : Tabled T t
  pub nested : Each (Nested left) es
  pub known : exprs_known (length t.classes) es ≡ true
  pub stands : Stands (layout t) at (codes_of es)

-- ---- evaluation with room for d more open calls, of values with at most so many objects
-- the evaluation of the bodies of calls, if one more may be opened
unfoldable pub deeper : ℕ → ℕ → Table → Option Deeper
deeper objects zero t = none
deeper objects (suc d) t = some (λ f os e n. language.eval_to objects d t f os e n)

abbrev pub eval_in : ℕ → ℕ → Table → Deeper
eval_in objects d t f os e n = language.eval objects t (deeper objects d t) f os e n

abbrev pub evals_in : ℕ → ℕ → Table → language.Frame → List language.OpenCall → Exprs → ℕ → Outcome (List Graph)
evals_in objects d t f os es n = language.evals objects t (deeper objects d t) f os es n

-- a limit on objects: an object alone is within it, and a block has room for that many
pub record Limited (objects : ℕ) : Type 0 where
  pub some : 0 < objects
  pub room : objects ≤ capacity

-- What evaluation asks: the frame and the trace stand for values below block sp, and there is room above (Figures).
pub record Fits (W : List ℕ) (f : Frame) (tr : Trace) (top left objects d sp : ℕ) : Type 0 where
  pub frame : FrameHolds W sp f
  pub trace : TraceHolds W sp tr top
  pub calls : top + d ≤ call_limit
  pub limit : Limited objects
  pub room : sp + open_blocks * d + level_blocks * left ≤ block_limit
  pub long : work_room ≤ length W

-- n expressions from block sp on
pub record ListFits (W : List ℕ) (f : Frame) (tr : Trace) (top left objects d sp n : ℕ) : Type 0 where
  pub frame : FrameHolds W sp f
  pub trace : TraceHolds W sp tr top
  pub calls : top + d ≤ call_limit
  pub limit : Limited objects
  pub few : n ≤ 4
  pub room : sp + n + open_blocks * d + level_blocks * left ≤ block_limit + 1
  pub long : work_room ≤ length W

-- the expression at `at`, evaluated at block sp
pub record Evaluates (T W : List ℕ) (f : Frame) (tr : Trace) (top at left objects d sp fuel : ℕ) (W' : List ℕ) (o : Out) : Type 0 where
  pub kept : Kept sp W W'
  pub older : OutOlder W' (sp + 1) o
  pub is : (t : Table) (e : Expr) → Reads T left at t e → Shows W' o (at + length (code_of e)) (eval_in objects d t (frame_in W f) (trace_in W tr top) e fuel)

-- field k of the expression at `at`
pub record Fields (T W : List ℕ) (f : Frame) (tr : Trace) (top at left objects d sp fuel k : ℕ) (W' : List ℕ) (o : Out) : Type 0 where
  pub kept : Kept sp W W'
  pub older : OutOlder W' (sp + 1) o
  pub is : (t : Table) (e : Expr) → Reads T left at t e → Shows W' o (at + length (code_of e)) (eval_in objects d t (frame_in W f) (trace_in W tr top) (field k e) fuel)

-- the n expressions at `at`, evaluated at the blocks from sp on
pub record Lists (T W : List ℕ) (f : Frame) (tr : Trace) (top at left objects d sp fuel n : ℕ) (W' : List ℕ) (o : Listed) : Type 0 where
  pub kept : Kept sp W W'
  pub older : ListOlder W' (sp + n) n o
  pub is : (t : Table) (es : Exprs) → ReadsAll T left at t es → count es ≡ n
      → ShowsAll W' n o (at + length (codes_of es)) (evals_in objects d t (frame_in W f) (trace_in W tr top) es fuel)

-- a new object of class c with the values of the n expressions at `at`
pub record News (T W : List ℕ) (f : Frame) (tr : Trace) (top at left objects d sp fuel c n : ℕ) (W' : List ℕ) (o : Out) : Type 0 where
  pub kept : Kept sp W W'
  pub older : OutOlder W' (sp + 1) o
  pub is : (t : Table) (es : Exprs) → ReadsAll T left at t es → count es ≡ n → c ≤ length t.classes
      → Shows W' o (at + length (codes_of es)) (eval_in objects d t (frame_in W f) (trace_in W tr top) (new c es) fuel)

-- the two expressions at `at`, put together
pub record Combines (T W : List ℕ) (f : Frame) (tr : Trace) (top at left objects d sp fuel : ℕ) (x : Operation) (W' : List ℕ) (o : Out) : Type 0 where
  pub kept : Kept sp W W'
  pub older : OutOlder W' (sp + 1) o
  pub is : (t : Table) (a b : Expr) → Reads T left at t a → Reads T left (at + length (code_of a)) t b
      → Shows W' o (at + length (code_of a) + length (code_of b)) (eval_in objects d t (frame_in W f) (trace_in W tr top) (combine (operation_of x) a b) fuel)

-- the choice at `at`: a number and two branches
pub record Chooses (T W : List ℕ) (f : Frame) (tr : Trace) (top at left objects d sp fuel : ℕ) (W' : List ℕ) (o : Out) : Type 0 where
  pub kept : Kept sp W W'
  pub older : OutOlder W' (sp + 1) o
  pub is : (t : Table) (c a b : Expr) → Reads T left at t c → Reads T left (at + length (code_of c)) t a → Reads T left (at + length (code_of c) + length (code_of a)) t b
      → Shows W' o (at + length (code_of c) + length (code_of a) + length (code_of b)) (eval_in objects d t (frame_in W f) (trace_in W tr top) (choose c a b) fuel)
