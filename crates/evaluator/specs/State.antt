-- What the variables of a body and the open calls stand for in the work bytes W, and when they do.
-- Not here: the frames that are begun with (Frames), what evaluation answers (Answers).
use Rattle.std.specs.Prelude.{ℕ, zero, suc, ◌≤◌, ◌<◌, ◌≡◌, Bool, true, false, not, List, [], ◌∷◌, eqb, ltb, length, get_or}
use Rattle.std.proofs.Math.Option.{Option, none, some}
use Rattle.cofj.specs.Values.{Graph, eq_graph, eq_graphs}
use Rattle.cofj.specs.Running as language
use Rattle.classes.specs.Machine.{pick}
use Rattle.values.specs.declared.ValueRef.{ValueRef}
use Rattle.values.specs.declared.ValueRef.TheVariants.{Object, Mark, Number, Undetermined}
use Rattle.canon.specs.Layout.{Beneath}
use Rattle.values.specs.Layout.{value_of, Holds, Low}
use Rattle.maker.specs.Laying.{values_from, PartsHeld}
use Rattle.evaluator.specs.Figures.{call_limit}
use Rattle.std.specs.declared.option.Option.{Option as RustOption}
use Rattle.std.specs.declared.option.Option.TheVariants.{Some, None}
use Rattle.evaluator.specs.declared.frame.Frame.{Frame}
use Rattle.evaluator.specs.declared.trace.Trace.{Trace}
use Rattle.evaluator.specs.declared.trace.OpenCall.{OpenCall}

-- ---- blocks below sp
-- the bytes below block sp are as before
abbrev pub Kept : ℕ → List ℕ → List ℕ → Type 0
Kept sp W W' = Beneath sp W W'

-- a reference stands for a value, which lies below block sp if it is an object
pub record Older (W : List ℕ) (sp : ℕ) (r : ValueRef) : Type 0 where
  pub held : Holds W r
  pub low : Low sp r

-- the value at a place of a list
abbrev pub slot_at : List ValueRef → ℕ → ValueRef
slot_at ps i = get_or ps i (Object 0 0)

-- the first n of a list are such
pub record PartsOlder (W : List ℕ) (sp : ℕ) (ps : List ValueRef) (n : ℕ) : Type 0 where
  pub full : n ≤ length ps
  pub part : (i : ℕ) → i < n → Older W sp (slot_at ps i)

-- ---- frames
abbrev pub HeldOlder : List ℕ → ℕ → RustOption ValueRef → Type 0
HeldOlder W sp (Some r) = Older W sp r
HeldOlder W sp None = Unit {0}

abbrev pub held_in : List ℕ → RustOption ValueRef → Option Graph
held_in W (Some r) = some (value_of W r)
held_in W None = none

pub record FrameHolds (W : List ℕ) (sp : ℕ) (f : Frame) : Type 0 where
  pub this : HeldOlder W sp f.this
  pub res : HeldOlder W sp f.res
  pub args : PartsOlder W sp f.args f.n
  pub few : f.n ≤ 4

unfoldable pub frame_in : List ℕ → Frame → language.Frame
frame_in W f = record { this = held_in W f.this; res = held_in W f.res; params = values_from W f.args 0 f.n }

-- what parameter k of n holds, v if there are so many
unfoldable pub passed_of : ℕ → ℕ → ValueRef → RustOption ValueRef
passed_of k n v = pick (ltb k n) (Some v) None

unfoldable pub variable_of : Frame → ℕ → RustOption ValueRef
variable_of f k = passed_of k f.n (slot_at f.args k)

-- ---- open calls
-- the arguments of a call: the first three values of a list
abbrev pub args_of : List ValueRef → List ValueRef
args_of A = slot_at A 0 ∷ slot_at A 1 ∷ slot_at A 2 ∷ []

-- what is read where no call is: no place is read but that of an open call
abbrev pub no_call : OpenCall
no_call = record { receiver = Object 0 0; name = 0; args = []; n = 0; gives = Object 0 0 }

abbrev pub call_at : Trace → ℕ → OpenCall
call_at S i = get_or S.calls i no_call

-- the call of m on v with the first n of these arguments, as call k: meeting it gives its mark
abbrev pub side_call : ValueRef → ℕ → List ValueRef → ℕ → ℕ → OpenCall
side_call v m ps n k = record { receiver = v; name = m; args = ps; n = n; gives = Mark k }

-- call k is this one; the others and the fuel are as before
pub record CallPut (S : Trace) (k : ℕ) (c : OpenCall) (S' : Trace) : Type 0 where
  pub call : call_at S' k ≡ c
  pub others : (i : ℕ) → (i ≡ k → ⊥) → call_at S' i ≡ call_at S i
  pub fuel : S'.fuel ≡ S.fuel

-- ---- traces: the open calls
pub record CallOlder (W : List ℕ) (sp : ℕ) (c : OpenCall) : Type 0 where
  pub receiver : Older W sp c.receiver
  pub args : PartsOlder W sp c.args c.n
  pub few : c.n ≤ 4

-- the first k calls stand for calls with values below block sp, and meeting one gives its mark
pub record TraceHolds (W : List ℕ) (sp : ℕ) (S : Trace) (k : ℕ) : Type 0 where
  pub call : (i : ℕ) → i < k → CallOlder W sp (call_at S i)
  pub mark : (i : ℕ) → i < k → (call_at S i).gives ≡ Mark i

-- the same, without where the values lie
pub record CallHolds (W : List ℕ) (c : OpenCall) : Type 0 where
  pub receiver : Holds W c.receiver
  pub args : PartsHeld W c.args c.n
  pub few : c.n ≤ 4

pub record CallsHold (W : List ℕ) (S : Trace) (k : ℕ) : Type 0 where
  pub few : k ≤ call_limit
  pub call : (i : ℕ) → i < k → CallHolds W (call_at S i)
  pub mark : (i : ℕ) → i < k → (call_at S i).gives ≡ Mark i

abbrev pub call_in : List ℕ → ℕ → OpenCall → language.OpenCall
call_in W k c = record { receiver = value_of W c.receiver; name = c.name; args = values_from W c.args 0 c.n; label = k }

-- the first k calls, the newest first
unfoldable pub trace_in : List ℕ → Trace → ℕ → List language.OpenCall
trace_in W S zero = []
trace_in W S (suc k) = call_in W k (call_at S k) ∷ trace_in W S k

-- ---- a call met again
-- two objects of one block that are not one, or two numbers that are not one
abbrev pub apart_of : ValueRef → ValueRef → Bool
apart_of (Object i b) (Object j c) = pick (eqb b c) (not (eqb i j)) false
apart_of (Object i b) (Mark k) = false
apart_of (Object i b) (Number y) = false
apart_of (Object i b) Undetermined = false
apart_of (Mark k) w = false
apart_of (Number x) (Object j c) = false
apart_of (Number x) (Mark k) = false
apart_of (Number x) (Number y) = not (eqb x y)
apart_of (Number x) Undetermined = false
apart_of Undetermined w = false

-- one of the first n of two lists is apart
pub record SomeApart (ps qs : List ValueRef) (n : ℕ) : Type 0 where
  pub which : ℕ
  pub low : which < n
  pub apart : apart_of (slot_at ps which) (slot_at qs which) ≡ true

pub record ApartTest (ps qs : List ValueRef) (n : ℕ) (r : Bool) : Type 0 where
  pub told : r ≡ true → SomeApart ps qs n

-- true only if a receiver is apart from another
pub record ReceiverTest (v w : ValueRef) (r : Bool) : Type 0 where
  pub told : r ≡ true → apart_of v w ≡ true

-- why an open call is not the same call as c
pub data Other (o c : OpenCall) : Type 0 where
  by_name : (o.name ≡ c.name → ⊥) → Other o c
  by_count : (o.n ≡ c.n → ⊥) → Other o c
  by_receiver : apart_of o.receiver c.receiver ≡ true → Other o c
  by_argument : SomeApart o.args c.args c.n → Other o c

pub record OtherTest (o c : OpenCall) (r : Bool) : Type 0 where
  pub told : r ≡ true → Other o c

unfoldable pub same_of : language.OpenCall → Graph → ℕ → List Graph → Bool
same_of o v m vs = pick (eqb o.name m) (pick (eq_graph o.receiver v) (eq_graphs o.args vs) false) false

-- what meeting a call gives: its mark
abbrev pub met_of : Option ℕ → RustOption ValueRef
met_of none = None
met_of (some x) = Some (Mark x)
