-- What calls ask and answer: the method, the arguments, the two sides of the method.
-- Not here: other expressions (Evaluation), what the functions ask and do (Steps).
use Rattle.std.specs.declared.option.Option.{Option as RustOption}
use Rattle.std.specs.declared.option.Option.TheVariants.{Some, None}
use Rattle.std.specs.Prelude.{ℕ, ◌+◌, ◌*◌, ◌≤◌, ◌<◌, ◌≡◌, List, length}
use Rattle.std.proofs.Math.Option.{none, some}
use Rattle.std.proofs.Math.ListN.{get_elem?}
use Rattle.cofj.specs.Syntax.{Expr, call, Exprs, count, Method, Table}
use Rattle.cofj.specs.Writing.{code_of, codes_of}
use Rattle.cofj.specs.Values.{mark_of, close}
use Rattle.cofj.specs.Running as language
use Rattle.cofj.specs.Running.{value, ◌then◌, target}
use Rattle.classes.specs.declared.methods.Found.{Found}
use Rattle.classes.specs.Layout.{Tabled, Finds}
use Rattle.values.specs.declared.ValueRef.{ValueRef}
use Rattle.values.specs.Layout.{value_of}
use Rattle.maker.specs.Laying.{values_from}
use Rattle.evaluator.specs.Figures.{call_limit, level_blocks, open_blocks, block_limit, work_room}
use Rattle.evaluator.specs.declared.frame.Frame.{Frame}
use Rattle.evaluator.specs.declared.trace.Trace.{Trace}
use Rattle.evaluator.specs.State.{Kept, Older, PartsOlder, TraceHolds, frame_in, trace_in}
use Rattle.evaluator.specs.Answers.{Out, OutOlder, Shows}
use Rattle.evaluator.specs.Evaluation.{Reads, ReadsAll, deeper, eval_in, evals_in, Limited, Fits}

-- ---- the method
abbrev pub FewIf : ℕ → RustOption Found → Type 0
FewIf n (Some f) = n ≤ 3
FewIf n None = Unit {0}

-- the method that a call of m with n arguments on v names
pub record FindsTarget (T W : List ℕ) (v : ValueRef) (m n : ℕ) (o : RustOption Found) : Type 0 where
  pub few : FewIf n o
  pub is : (t : Table) → Tabled T t → m < 256 → Finds t.methods o (target t (value_of W v) m n)

-- ---- the receiver and the arguments
-- the call of m with n arguments: the receiver at `at`, then the arguments
pub record Calls (T W : List ℕ) (f : Frame) (tr : Trace) (top at left objects d sp fuel m n : ℕ) (W' : List ℕ) (o : Out) : Type 0 where
  pub kept : Kept sp W W'
  pub older : OutOlder W' (sp + 1) o
  pub is : (t : Table) (e : Expr) (es : Exprs) → m < 256 → Reads T left at t e → ReadsAll T left (at + length (code_of e)) t es → count es ≡ n
      → Shows W' o (at + length (code_of e) + length (codes_of es)) (eval_in objects d t (frame_in W f) (trace_in W tr top) (call m e es) fuel)

-- what the arguments of a call ask, its receiver in block sp or below
pub record ArgsFit (W : List ℕ) (f : Frame) (tr : Trace) (top left objects d sp : ℕ) (v : ValueRef) (n : ℕ) : Type 0 where
  pub fits : Fits W f tr top (left + 1) objects d sp
  pub deep : left ≡ 0 → ⊥
  pub receiver : Older W (sp + 1) v
  pub few : n ≤ 3

-- the n arguments at `at` of a call of method i, which has the name m, on v
pub record CallsWith (T W : List ℕ) (f : Frame) (tr : Trace) (top at left objects d sp fuel : ℕ) (v : ValueRef) (m n i : ℕ) (W' : List ℕ) (o : Out) : Type 0 where
  pub kept : Kept sp W W'
  pub older : OutOlder W' (sp + 1) o
  pub is : (t : Table) (es : Exprs) (k : Method) → ReadsAll T left at t es → count es ≡ n → get_elem? t.methods i ≡ some k
      → Shows W' o (at + length (codes_of es))
      (evals_in objects d t (frame_in W f) (trace_in W tr top) es fuel then λ vs n'. language.invoke (deeper objects d t) (trace_in W tr top) (value_of W v) m vs k n')

-- what a call asks whose receiver and n arguments lie below block sp + 4
pub record CallFits (W : List ℕ) (tr : Trace) (top : ℕ) (v : ValueRef) (ps : List ValueRef) (n objects d sp : ℕ) : Type 0 where
  pub trace : TraceHolds W sp tr top
  pub receiver : Older W (sp + 4) v
  pub args : PartsOlder W (sp + 4) ps n
  pub few : n ≤ 3
  pub calls : top + d ≤ call_limit
  pub limit : Limited objects
  pub room : sp + open_blocks * d + 2 * level_blocks ≤ block_limit
  pub long : work_room ≤ length W

-- method i, which has the name m, called on v with the n arguments; `next` is the place after the call
pub record Invokes (T W : List ℕ) (tr : Trace) (top : ℕ) (v : ValueRef) (ps : List ValueRef) (n i next objects d sp fuel m : ℕ) (W' : List ℕ) (o : Out) : Type 0 where
  pub kept : Kept sp W W'
  pub older : OutOlder W' (sp + 1) o
  pub is : (t : Table) (k : Method) → Tabled T t → get_elem? t.methods i ≡ some k
      → Shows W' o next (language.invoke (deeper objects d t) (trace_in W tr top) (value_of W v) m (values_from W ps 0 n) k fuel)

-- ---- bodies, with room for d more open calls inside them
pub record BodyFits (W : List ℕ) (tr : Trace) (top : ℕ) (v : ValueRef) (ps : List ValueRef) (n objects d sp : ℕ) : Type 0 where
  pub trace : TraceHolds W sp tr top
  pub receiver : Older W (sp + 4) v
  pub args : PartsOlder W (sp + 4) ps n
  pub few : n ≤ 3
  pub calls : top + d + 1 ≤ call_limit
  pub limit : Limited objects
  pub room : sp + open_blocks * (d + 1) + 2 * level_blocks ≤ block_limit
  pub long : work_room ≤ length W

-- the right side, with res the mark x
pub record RunsRight (T W : List ℕ) (tr : Trace) (top : ℕ) (v : ValueRef) (ps : List ValueRef) (n i next objects d sp fuel x : ℕ) (W' : List ℕ) (o : Out) : Type 0 where
  pub kept : Kept sp W W'
  pub older : OutOlder W' (sp + 1) o
  pub is : (t : Table) (k : Method) → Tabled T t → get_elem? t.methods i ≡ some k
      → Shows W' o next (language.eval_to objects d t (language.frame_of (value_of W v) (some (mark_of x)) (values_from W ps 0 n)) (trace_in W tr top) k.right fuel)

-- the left side, under a fresh mark
pub record RunsLeft (T W : List ℕ) (tr : Trace) (top : ℕ) (v : ValueRef) (ps : List ValueRef) (n i next objects d sp fuel m : ℕ) (W' : List ℕ) (o : Out) : Type 0 where
  pub kept : Kept sp W W'
  pub older : OutOlder W' (sp + 1) o
  pub is : (t : Table) (k : Method) → Tabled T t → get_elem? t.methods i ≡ some k
      → Shows W' o next
      (language.eval_to objects d t (language.frame_of (value_of W v) none (values_from W ps 0 n)) (language.opened (trace_in W tr top) (value_of W v) m (values_from W ps 0 n)) k.left fuel
      then λ u n'. value (close (length (trace_in W tr top)) u) n')
