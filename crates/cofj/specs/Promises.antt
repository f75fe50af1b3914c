-- What is promised of the public calls, as statements of what a call returned. Proved of what the definitions give (proofs/ReadCalls, RunCalls
-- and Promises), and in the crate engine (proofs/Promise) of what its functions return. Read this file first.
-- Demand 1: refusals number by number, of every call. Demand 2: the checker and the runs give what the rules give; texts and tables are
-- each other's. Demand 3: equal reports exactly for the same end, and what an accepted program's report shows; the same report however the
-- second text is cut. Then values and reports.
use Rattle.std.specs.Prelude.{ℕ, ◌≤◌, ◌<◌, ◌≡◌, true, false, ◌↔◌, length, take}
use mathlib.Core.List.{List, [], ◌∷◌, Memᴰ}
use Rattle.std.proofs.Math.Option.{Option, none, some}
use Rattle.std.proofs.Math.ListN.{get_elem?}
use Rattle.cofj.specs.declared.Session.{Session}
use Rattle.cofj.specs.declared.Closing.{Closing}
use Rattle.cofj.specs.declared.Finding.{Finding}
use Rattle.cofj.specs.declared.Verdict.{Verdict}
use Rattle.cofj.specs.Limits.{Limits, standard, text_size, report_size, work_size}
use Rattle.cofj.specs.Partial.{◌>>=◌}
use Rattle.cofj.specs.Text.{lines}
use Rattle.cofj.specs.Syntax.{Ty, Method, Table}
use Rattle.cofj.specs.Lookup.{Found, Nearest, Nowhere}
use Rattle.cofj.specs.Frames.{TextFrame, frames}
use Rattle.cofj.specs.Tables.{Raw, ordered, few, table, overridden}
use Rattle.cofj.specs.Reading.{Answer, refusal, read, read_text}
use Rattle.cofj.specs.WellFormed.{AllMethods}
use Rattle.cofj.specs.Typing.{refused, accepted, check}
use Rattle.cofj.specs.TypingRules.{HasType, main_variables, MethodTyped, ProgramTyped}
use Rattle.cofj.specs.Values.{obj, Node, Graph, graph, canon, make, select, close, mark_of, undetermined, number_of}
use Rattle.cofj.specs.Unfolding.{object, follow, follow_bound, SameTree, Whole, AllWhole}
use Rattle.cofj.specs.Running.{Outcome, OpenCall, open_mark, run, run_within}
use Rattle.cofj.specs.RunningRules.{RunsTo}
use Rattle.cofj.specs.Writing.{Text, no_text, text, write_table}
use Rattle.cofj.specs.Formed.{Good, IfAny, Out}
use Rattle.cofj.specs.Report.{report_of, fuel_of, value_report, SameEnd}
use Rattle.cofj.specs.ReportForm.{reported, Reportable}
use Rattle.cofj.specs.Batch.{ListsParts, started, Fitting}
use Rattle.cofj.specs.Soundness.{Ends, EndsListed, Fed}
use Rattle.cofj.specs.Calls.{checked, trial, feed, input_in, Call, Ran, closed_session, with_fuel, turned_away, ended, verdict_of, Wrote, not_written, written, run_call}
use Rattle.cofj.specs.Finding.{nothing_found, found_at}
use Rattle.cofj.specs.Show.{first_text, second_text, shown_call, Presented, not_shown, written_after, linerun}

-- the report that a run wrote: as many bytes of the buffer as it answers
abbrev pub report_text : Ran → List ℕ
report_text x = take x.answer.length x.report

-- an accepted program
pub record Program (s : List ℕ) : Type 0 where
  pub table : Table
  pub type : Ty
  pub reads : read_text s ≡ read table
  pub accepts : check table ≡ accepted type

-- ---- demand 1: reading. Lowest number first, each over the whole text
pub data Reads (s : List ℕ) : Answer → Type 0 where
  REFUSAL-1 :
      lines s ≡ none
      -- -------------------
      → Reads s (refusal 1)
  REFUSAL-2 :
      {ls : List (List ℕ)}
      → lines s ≡ some ls
      → frames ls ≡ none
      -- -------------------
      → Reads s (refusal 2)
  REFUSAL-3 :
      {ls : List (List ℕ)} {fs : List TextFrame}
      → lines s ≡ some ls
      → frames ls ≡ some fs
      → (ordered fs >>= few) ≡ none
      -- --------------------------
      → Reads s (refusal 3)
  REFUSAL-4 :
      {ls : List (List ℕ)} {fs : List TextFrame} {r : Raw}
      → lines s ≡ some ls
      → frames ls ≡ some fs
      → (ordered fs >>= few) ≡ some r
      → table r ≡ none
      -- ----------------------------
      → Reads s (refusal 4)
  REFUSAL-5 :
      {ls : List (List ℕ)} {fs : List TextFrame} {r : Raw} {t : Table}
      → lines s ≡ some ls
      → frames ls ≡ some fs
      → (ordered fs >>= few) ≡ some r
      → table r ≡ some t
      → overridden t ≡ none
      -- ----------------------------
      → Reads s (refusal 5)
  READ :
      {ls : List (List ℕ)} {fs : List TextFrame} {r : Raw} {t u : Table}
      → lines s ≡ some ls
      → frames ls ≡ some fs
      → (ordered fs >>= few) ≡ some r
      → table r ≡ some t
      → overridden t ≡ some u
      -- ----------------------------
      → Reads s (read u)

-- ---- demand 1: the check
pub record Checks (s : List ℕ) (v : Verdict) : Type 0 where
  -- 1 to 5, by the text
  pub unread : (k : ℕ) → read_text s ≡ refusal k → v ≡ verdict_of (refused k)
  -- 6: some method has no type by the rules
  pub six : (t : Table) → read_text s ≡ read t → (v ≡ verdict_of (refused 6)) ↔ ((d : Method) × Memᴰ d t.methods × (MethodTyped t d → ⊥))
  -- 7: every method has one, and main has none
  pub seven : (t : Table) → read_text s ≡ read t
      → (v ≡ verdict_of (refused 7)) ↔ (AllMethods (MethodTyped t) t.methods × ((u : Ty) → HasType t true (main_variables t.input) t.main u → ⊥))
  -- else the type that the rules give
  pub types : (t : Table) (u : Ty) → read_text s ≡ read t → (v ≡ verdict_of (accepted u)) ↔ ProgramTyped t u
  -- 0 for an accepted program, and for no other text
  pub zero : (v.refusal ≡ 0) ↔ Program s
  pub most : v.refusal ≤ 7

-- ---- demand 1: closing
pub record Closes (σ : Session) (x : Closing) : Type 0 where
  pub first : σ.active ≡ true → x ≡ record { refusal = 0; session = closed_session σ }
  pub again : σ.active ≡ false → x ≡ record { refusal = 11; session = σ }

-- ---- demand 1: the writer. The text of the table is given, or that it has none: 8, and then 9; nothing is written
pub record Writes (o : Text) (buffer : List ℕ) (x : Wrote) : Type 0 where
  pub eight : o ≡ no_text → x ≡ not_written 8 buffer
  pub nine : (s : List ℕ) → o ≡ text s → length buffer < text_size → x ≡ not_written 9 buffer
  pub writes : (s : List ℕ) → o ≡ text s → text_size ≤ length buffer → x ≡ written s buffer
  -- the text fits, so that the buffer keeps its length
  pub kept : length x.buffer ≡ length buffer

-- ---- demand 1: the call of `linerun`. 12 and 13; else what a host writes after it is what the definition of the program gives, and the buffers are as
-- the checked run leaves them
pub record Shows (s report work : List ℕ) (x : Presented) : Type 0 where
  pub short_report : length report < report_size → x ≡ not_shown 12 report work
  pub short_work : report_size ≤ length report → length work < work_size → x ≡ not_shown 13 report work
  pub writes : report_size ≤ length report → work_size ≤ length work → written_after x ≡ linerun s
  pub buffers : report_size ≤ length report → work_size ≤ length work
      → (x.report ≡ (run_call (shown_call (first_text s) (second_text s) report work)).report) × (x.work ≡ (run_call (shown_call (first_text s) (second_text s) report work)).work)

-- ---- demand 1: where a method is found, asked of a table that is read, for any class byte c and name m. One of two:
pub data FindsMethod (t : Table) (c m : ℕ) : Finding → Type 0 where
  -- The nearest class from c up that declares m owns it, and its frame is number k among the methods'; no other has this owner and name.
  FOUND :
      {f : Found} {k : ℕ}
      → Nearest t c m f
      → get_elem? t.methods k ≡ some f.body
      → ((j : ℕ) (d : Method) → get_elem? t.methods j ≡ some d → d.owner ≡ f.owner → d.name ≡ m → j ≡ k)
      -- -----------------------------------------------------------------------------------------------
      → FindsMethod t c m (found_at f.owner k)
  -- No class from c up declares m.
  NOWHERE :
      Nowhere t c m
      -- -----------------------
      → FindsMethod t c m nothing_found

-- ---- demand 1: runs
-- the state refuses nothing
pub record Lent (a : Call) : Type 0 where
  pub active : a.session.active ≡ true
  pub report : report_size ≤ length a.report
  pub work : work_size ≤ length a.work

-- the text is not refused: a checked run's has a type, a trial's is read
pub data Ready (a : Call) (t : Table) : Type 0 where
  typed : (u : Ty) → read_text a.text ≡ read t → check t ≡ accepted u → Ready a t
  tried : a.mode ≡ trial → read_text a.text ≡ read t → Ready a t

-- what a second text gives a run of the table
pub data Feeds (t : Table) (s : List ℕ) : Option Graph → Type 0 where
  -- An `03` main has no second text, and no input.
  NOTHING :
      t.input ≡ none
      → s ≡ []
      -- ---------------
      → Feeds t s none
  -- An `04` main has one that lists parts, which fit: their value.
  PARTS :
      {u : Ty} {ns : List Node}
      → t.input ≡ some u
      → ListsParts t s ns
      → Fitting standard.objects t.classes u ns
      -- --------------------------------------------
      → Feeds t s (some (started ns))

-- `turned_away k` has the number, the session and both buffers as they were, and length 0
pub record Refusals (a : Call) (x : Ran) : Type 0 where
  pub closed : a.session.active ≡ false → x ≡ turned_away 11 a
  pub short_report : a.session.active ≡ true → length a.report < report_size → x ≡ turned_away 12 a
  pub short_work : a.session.active ≡ true → report_size ≤ length a.report → length a.work < work_size → x ≡ turned_away 13 a
  -- 1 to 5, by the text
  pub unread : (k : ℕ) → Lent a → read_text a.text ≡ refusal k → x ≡ turned_away k a
  -- 6 and 7, of a checked run only
  pub untyped : (t : Table) (k : ℕ) → Lent a → a.mode ≡ checked → read_text a.text ≡ read t → check t ≡ refused k → x ≡ turned_away k a
  -- 14: an `04` main without a second text, an `03` main with one, a text that lists no parts of the program's classes
  pub no_input : (t : Table) (u : Ty) → Lent a → Ready a t → t.input ≡ some u → a.input ≡ [] → x ≡ turned_away 14 a
  pub some_input : (t : Table) → Lent a → Ready a t → t.input ≡ none → 1 ≤ length a.input → x ≡ turned_away 14 a
  pub unlisted : (t : Table) (u : Ty) → Lent a → Ready a t → t.input ≡ some u → ((ns : List Node) → ListsParts t a.input ns → ⊥) → x ≡ turned_away 14 a
  -- 15: parts that do not fit, or too many
  pub unfitting : (t : Table) (u : Ty) (ns : List Node) → Lent a → Ready a t → t.input ≡ some u → ListsParts t a.input ns
      → (Fitting standard.objects t.classes u ns → ⊥) → x ≡ turned_away 15 a
  -- every other call is accepted, and ends with a report
  pub accepts : (t : Table) (u : Ty) (i : Option Graph) → Lent a → read_text a.text ≡ read t → check t ≡ accepted u → Feeds t a.input i
      → x ≡ ended (run t i a.session.fuel) a
  pub tries : (t : Table) (i : Option Graph) → Lent a → a.mode ≡ trial → read_text a.text ≡ read t → Feeds t a.input i → x ≡ ended (run t i a.session.fuel) a

-- every call is refused with a number that is not 0, or ends with 0
pub data Answers (a : Call) (x : Ran) : Type 0 where
  refuses : (k : ℕ) → 1 ≤ k → k ≤ 15 → x ≡ turned_away k a → Answers a x
  runs : (t : Table) (i : Option Graph) → Lent a → read_text a.text ≡ read t → Feeds t a.input i → x ≡ ended (run t i a.session.fuel) a → Answers a x

-- the report fits, and the buffers keep their lengths: of every call, refused or not, of a trial of an untyped program too
pub record Lengths (a : Call) (x : Ran) : Type 0 where
  pub fits : x.answer.length ≤ report_size
  pub report : length x.report ≡ length a.report
  pub work : length x.work ≡ length a.work

-- ---- demand 2
-- what a run reports is this outcome, and its fuel is left in the session
pub record EndsIn (o : Outcome Graph) (a : Call) (x : Ran) : Type 0 where
  pub whole : x ≡ ended o a
  pub report : report_text x ≡ report_of o
  pub session : x.answer.session ≡ with_fuel a.session (fuel_of o)

-- the calls, by the rules alone
pub record Follows (a : Call) (x : Ran) : Type 0 where
  -- a checked run of a typed program, and a trial run of any, end in what the big-step rules give
  pub typed : (t : Table) (u : Ty) (i : Option Graph) (o : Outcome Graph) → Lent a → read_text a.text ≡ read t → ProgramTyped t u → Feeds t a.input i
      → RunsTo standard t i a.session.fuel o → EndsIn o a x
  pub tried : (t : Table) (i : Option Graph) (o : Outcome Graph) → Lent a → a.mode ≡ trial → read_text a.text ≡ read t → Feeds t a.input i
      → RunsTo standard t i a.session.fuel o → EndsIn o a x
  -- 6: a method has no type; 7: every method has one, and main has none
  pub six : (t : Table) (d : Method) → Lent a → a.mode ≡ checked → read_text a.text ≡ read t → Memᴰ d t.methods → (MethodTyped t d → ⊥) → x ≡ turned_away 6 a
  pub seven : (t : Table) → Lent a → a.mode ≡ checked → read_text a.text ≡ read t → AllMethods (MethodTyped t) t.methods
      → ((u : Ty) → HasType t true (main_variables t.input) t.main u → ⊥) → x ≡ turned_away 7 a

-- the definitions
pub record Demand2 : Type 0 where
  -- a program that is read is accepted exactly when the typing rules give it a type, which is the one named
  pub checks : (s : List ℕ) (t : Table) (u : Ty) → read_text s ≡ read t → (check t ≡ accepted u) ↔ ProgramTyped t u
  -- a run ends in what the big-step rules give, and in nothing else, within any limits
  pub runs : (l : Limits) (t : Table) (i : Option Graph) (n : ℕ) (o : Outcome Graph) → (run_within l t i n ≡ o) ↔ RunsTo l t i n o
  -- every run ends
  pub total : (l : Limits) (t : Table) (i : Option Graph) (n : ℕ) → (o : Outcome Graph) × RunsTo l t i n o
  -- text to table to text, for every text that passes 1 to 5
  pub text_round : (s : List ℕ) (t : Table) → read_text s ≡ read t → write_table t ≡ text s
  -- table to text to table, for every table that is not refused
  pub table_round : (t : Table) (s : List ℕ) → write_table t ≡ text s → read_text s ≡ read t
  -- 8 for exactly the tables that no text passing 1 to 5 reads into
  pub refused_exactly : (t : Table) → (write_table t ≡ no_text) ↔ ((s : List ℕ) → read_text s ≡ read t → ⊥)

-- ---- demand 3
-- what an accepted program is given by the call's second text, where that is not refused
abbrev pub input_for : (a : Call) → Program a.text → Option Graph
input_for a p = input_in (feed p.table a.input)

-- what the rules give for an accepted program, its input and its session
abbrev pub ending : (a : Call) → Program a.text → Outcome Graph
ending a p = run p.table (input_for a p) a.session.fuel

pub record Kept (a : Call) (p : Program a.text) (x : Ran) : Type 0 where
  -- what is given is what the second text lists, and fits its places
  pub feeds : Feeds p.table a.input (input_for a p)
  pub fed : Fed standard.objects p.table (input_for a p)
  pub ends_in : EndsIn (ending a p) a x
  -- never stuck; classes fit; undetermined only at tag 03; no mark: on the tree, and on the objects listed
  pub ends : Ends p.table p.type (ending a p)
  pub listed : EndsListed p.table p.type (ending a p)

-- for any two accepted programs, with any second texts, run any way, neither refused
pub record Demand3 (a b : Call) (p : Program a.text) (q : Program b.text) (x y : Ran) : Type 0 where
  pub reports : (report_text x ≡ report_text y) ↔ SameEnd (ending a p) (ending b q)
  pub first : Kept a p x
  pub second : Kept b q y

-- two calls of one program text, with equal sessions, in any modes and buffers, whose second texts list parts that unfold to the same tree
pub record Recuts (a b : Call) : Type 0 where
  pub text : a.text ≡ b.text
  pub session : a.session ≡ b.session
  pub table : Table
  pub reads : read_text a.text ≡ read table
  pub parts : List Node
  pub others : List Node
  pub lists : ListsParts table a.input parts
  pub lists_too : ListsParts table b.input others
  pub same : SameTree (graph (obj 0) parts) (graph (obj 0) others)

-- neither refused: equal reports, and equal sessions after
pub record Recut (x y : Ran) : Type 0 where
  pub length : x.answer.length ≡ y.answer.length
  pub report : report_text x ≡ report_text y
  pub session : x.answer.session ≡ y.answer.session

-- ---- values and reports
-- an open call with this receiver, name and arguments
abbrev pub Equals : Graph → ℕ → List Graph → OpenCall → Type 0
Equals v m vs o = (o.name ≡ m) × (o.receiver ≡ v) × (o.args ≡ vs)

-- such a call among these is open, under the mark x
abbrev pub OpenUnder : Graph → ℕ → List Graph → List OpenCall → ℕ → Type 0
OpenUnder v m vs os x = (o : OpenCall) × Memᴰ o os × Equals v m vs o × (o.label ≡ x)

pub record Canonical : Type 0 where
  -- the canonical form unfolds to the same tree
  pub same : (g : Graph) → Whole g → SameTree (canon g) g
  -- the same tree exactly when the canonical forms are equal
  pub unique : (g h : Graph) → Whole g → Whole h → SameTree g h ↔ (canon g ≡ canon h)
  -- every value of a run of a program that is read, if its input is one: canonical, closed, within the limit, made of its classes' objects
  pub values : (l : Limits) (s : List ℕ) (t : Table) (i : Option Graph) (n : ℕ) → read_text s ≡ read t → IfAny (Good t l.objects 0) i → Out (Good t l.objects 0) (run_within l t i n)
  -- the operations that the rules use, by the trees that they give.
  -- A new object: its class and count, and below field f the value of field f
  pub new_object : (c : ℕ) (gs : List Graph) → AllWhole gs → follow (make c gs).nodes (make c gs).root [] ≡ some (object c (length gs))
  pub new_field : (c : ℕ) (gs : List Graph) → AllWhole gs → (f : ℕ) (p : List ℕ)
      → follow (make c gs).nodes (make c gs).root (f ∷ p) ≡ get_elem? gs f >>= (λ v. follow v.nodes v.root p)
  -- field f of a value: what lies below f, with marks back to the receiver unfolded
  pub selects : (g : Graph) → Whole g → (f : ℕ) (v : Graph) → select f g ≡ some v → (p : List ℕ) → follow v.nodes v.root p ≡ follow g.nodes g.root (f ∷ p)
  -- X = u: u's tree, with u's root for each mark X on the way; undetermined when u is X
  pub closes : (x i : ℕ) (ns : List Node) → Whole (graph (obj i) ns) → (p : List ℕ)
      → follow (close x (graph (obj i) ns)).nodes (close x (graph (obj i) ns)).root p ≡ follow_bound x (obj i) ns (obj i) p
  pub closes_itself : (x : ℕ) → close x (mark_of x) ≡ undetermined
  pub closes_other : (x k : ℕ) → (k ≡ x → ⊥) → close x (mark_of k) ≡ mark_of k
  pub closes_nothing : (x : ℕ) → close x undetermined ≡ undetermined
  pub closes_number : (x n : ℕ) → close x (number_of n) ≡ number_of n
  -- a call is met again exactly when an open one has this receiver, name and arguments
  pub met_again : (v : Graph) (m : ℕ) (vs : List Graph) (os : List OpenCall) (x : ℕ) → open_mark os v m vs ≡ some x → OpenUnder v m vs os x
  pub met_first : (v : Graph) (m : ℕ) (vs : List Graph) (os : List OpenCall) → open_mark os v m vs ≡ none → (o : OpenCall) → Memᴰ o os → Equals v m vs o → ⊥

-- a text is a value's report exactly when it is the report of one value, the one that it is read into
pub record Reports (objects : ℕ) : Type 0 where
  pub exact : (s : List ℕ) (v : Graph) → (reported objects s ≡ some v) ↔ (Reportable objects v × (value_report v ≡ s))
  pub injective : (v w : Graph) → Reportable objects v → Reportable objects w → value_report v ≡ value_report w → v ≡ w
  -- the values of runs have a report
  pub values : (l : Limits) (s : List ℕ) (t : Table) (i : Option Graph) (n : ℕ) → l.objects ≡ objects → read_text s ≡ read t → IfAny (Good t objects 0) i
      → Out (Reportable objects) (run_within l t i n)
