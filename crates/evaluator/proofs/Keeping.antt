-- What a change of block sp and of those above does to values, frames and open calls below it: nothing.
-- Not here: what a step does to the open calls (TraceLaws).
use Rattle.std.proofs.Common.{ℕ, zero, suc, ◌≤◌, ◌<◌, arith, ◌≡◌, refl, ap, ap₂, ◌∙◌, List, [], ◌∷◌, map, length, take}
use Rattle.std.proofs.Math.Option.{some}
use Rattle.cofj.specs.Values.{Graph}
use Rattle.cofj.specs.Running as language
use Rattle.values.specs.declared.ValueRef.{ValueRef}
use Rattle.values.specs.declared.ValueRef.TheVariants.{Object, Mark, Number, Undetermined}
use Rattle.canon.specs.Layout.{Outside}
use Rattle.values.specs.Layout.{value_of, Low}
use Rattle.maker.specs.Laying.{values_from, PartsHeld}
use Rattle.values.proofs.Kept as values
use Rattle.maker.proofs.FieldlessLaws.{fieldless_kept}
use Rattle.values.proofs.Kept.{object_kept}
use Rattle.std.specs.declared.option.Option.{Option as RustOption}
use Rattle.std.specs.declared.option.Option.TheVariants.{Some, None}
use Rattle.evaluator.specs.declared.frame.Frame.{Frame}
use Rattle.evaluator.specs.Steps.{Based}
use Rattle.evaluator.specs.declared.trace.Trace.{Trace}
use Rattle.evaluator.specs.declared.trace.OpenCall.{OpenCall}
use Rattle.evaluator.specs.State.{Kept, Older, slot_at, PartsOlder, HeldOlder, held_in, FrameHolds, frame_in, call_at, CallOlder, TraceHolds, call_in, trace_in}

-- ---- changes, one after the other
pub kept_none : (sp : ℕ) (W : List ℕ) → Kept sp W W
kept_none sp W = record { same = refl; below = λ p h. refl }

pub kept_then : (sp sp' : ℕ) (W W1 W2 : List ℕ) → sp ≤ sp' → Kept sp W W1 → Kept sp' W1 W2 → Kept sp W W2
kept_then sp sp' W W1 W2 l a b = record { same = b.same ∙ a.same; below = λ p h. b.below p (omega arith) ∙ a.below p h }

pub kept_down : (sp sp' : ℕ) (W W' : List ℕ) → sp ≤ sp' → Kept sp' W W' → Kept sp W W'
kept_down sp sp' W W' l k = record { same = k.same; below = λ p h. k.below p (omega arith) }

pub kept_outside : (sp : ℕ) (W W' : List ℕ) → Outside sp W W' → Kept sp W W'
kept_outside sp W W' o = record { same = o.same; below = o.below }

-- ---- values of a list of references
values_map : (W W' : List ℕ) (ps : List ValueRef) (n : ℕ) → ((i : ℕ) → i < n → value_of W' (slot_at ps i) ≡ value_of W (slot_at ps i)) → n ≤ length ps
    → map (value_of W') (take n ps) ≡ map (value_of W) (take n ps)
values_map W W' ps zero h l = refl
values_map W W' [] (suc n) h l = refl
values_map W W' (p ∷ ps) (suc n) h l = ap₂ {A = Graph} {B = List Graph} {C = List Graph} ◌∷◌ (h 0 (omega arith)) (values_map W W' ps n (λ i q. h (suc i) (omega arith)) (omega arith))

module _ (W W' : List ℕ) (sp : ℕ) (k : Kept sp W W') where
  -- ---- one value
  object_stays : (i b : ℕ) → Older W sp (Object i b) → values.Kept W W' (Object i b)
  object_stays i b o = object_kept W W' b k.same (λ p l m. k.below p (let q = o.low in omega arith)) i o.held

  pub value_kept : (r : ValueRef) → Older W sp r → value_of W' r ≡ value_of W r
  value_kept (Object i b) o = (object_stays i b o).is
  value_kept (Mark x) o = refl
  value_kept (Number n) o = refl
  value_kept Undetermined o = refl

  pub older_kept : (r : ValueRef) → Older W sp r → Older W' sp r
  older_kept (Object i b) o = record { held = (object_stays i b o).held; low = o.low }
  older_kept (Mark x) o = record { held = record { held = o.held.held }; low = tt }
  older_kept (Number n) o = record { held = record { held = o.held.held }; low = tt }
  older_kept Undetermined o = record { held = record { held = tt }; low = tt }

  -- ---- lists
  parts_kept : (ps : List ValueRef) (n : ℕ) → PartsOlder W sp ps n → PartsOlder W' sp ps n
  parts_kept ps n o = record { full = o.full; part = λ i h. older_kept (slot_at ps i) (o.part i h) }

  values_kept : (ps : List ValueRef) (n : ℕ) → PartsOlder W sp ps n → values_from W' ps 0 n ≡ values_from W ps 0 n
  unfolding values_from
  values_kept ps n o = values_map W W' ps n (λ i h. value_kept (slot_at ps i) (o.part i h)) o.full

  -- ---- frames
  held_kept : (h : RustOption ValueRef) → HeldOlder W sp h → HeldOlder W' sp h
  held_kept (Some r) o = older_kept r o
  held_kept None o = tt

  held_same : (h : RustOption ValueRef) → HeldOlder W sp h → held_in W' h ≡ held_in W h
  held_same (Some r) o = ap some (value_kept r o)
  held_same None o = refl

  pub frame_kept : (f : Frame) → FrameHolds W sp f → FrameHolds W' sp f
  frame_kept f h = record { this = held_kept f.this h.this; res = held_kept f.res h.res; args = parts_kept f.args f.n h.args; few = h.few }

  pub frame_same : (f : Frame) → FrameHolds W sp f → frame_in W' f ≡ frame_in W f
  unfolding frame_in
  frame_same f h = λ i. record { this = held_same f.this h.this i; res = held_same f.res h.res i; params = values_kept f.args f.n h.args i }

  -- ---- traces
  call_kept : (c : OpenCall) → CallOlder W sp c → CallOlder W' sp c
  call_kept c o = record { receiver = older_kept c.receiver o.receiver; args = parts_kept c.args c.n o.args; few = o.few }

  call_same : (x : ℕ) (c : OpenCall) → CallOlder W sp c → call_in W' x c ≡ call_in W x c
  call_same x c o = λ i. record { receiver = value_kept c.receiver o.receiver i; name = c.name; args = values_kept c.args c.n o.args i; label = x }

  pub trace_kept : (tr : Trace) (top : ℕ) → TraceHolds W sp tr top → TraceHolds W' sp tr top
  trace_kept tr top h = record { call = λ i l. call_kept (call_at tr i) (h.call i l); mark = h.mark }

  pub trace_same : (tr : Trace) (top : ℕ) → TraceHolds W sp tr top → trace_in W' tr top ≡ trace_in W tr top
  unfolding trace_in
  trace_same tr zero h = refl
  trace_same tr (suc n) h =
      ap₂ {A = language.OpenCall} {B = List language.OpenCall} {C = List language.OpenCall} ◌∷◌ (call_same n (call_at tr n) (h.call n (omega arith)))
      (trace_same tr n (record { call = λ i l. h.call i (omega arith); mark = λ i l. h.mark i (omega arith) }))

-- ---- block 0
pub based_kept : (W W' : List ℕ) (b b' : ℕ) → Kept b W W' → b ≤ b' → Based W b → Based W' b'
based_kept W W' b b' k l h = let z = h.above in record { fieldless = fieldless_kept b W W' k h.above h.fieldless; above = omega arith }

-- ---- what lies below a block lies below the blocks above it
module _ (W : List ℕ) (sp sp' : ℕ) (l : sp ≤ sp') where
  low_up : (r : ValueRef) → Low sp r → Low sp' r
  low_up (Object i b) h = omega arith
  low_up (Mark x) h = tt
  low_up (Number n) h = tt
  low_up Undetermined h = tt

  pub older_up : (r : ValueRef) → Older W sp r → Older W sp' r
  older_up r o = record { held = o.held; low = low_up r o.low }

  pub parts_up : (ps : List ValueRef) (n : ℕ) → PartsOlder W sp ps n → PartsOlder W sp' ps n
  parts_up ps n o = record { full = o.full; part = λ i h. older_up (slot_at ps i) (o.part i h) }

  held_up : (h : RustOption ValueRef) → HeldOlder W sp h → HeldOlder W sp' h
  held_up (Some r) o = older_up r o
  held_up None o = tt

  pub frame-up : (f : Frame) → FrameHolds W sp f → FrameHolds W sp' f
  frame-up f h = record { this = held_up f.this h.this; res = held_up f.res h.res; args = parts_up f.args f.n h.args; few = h.few }

  pub trace_up : (tr : Trace) (top : ℕ) → TraceHolds W sp tr top → TraceHolds W sp' tr top
  trace_up tr top h = record {
    call = λ i q. let c = h.call i q in record { receiver = older_up (call_at tr i).receiver c.receiver; args = parts_up (call_at tr i).args (call_at tr i).n c.args; few = c.few };
    mark = h.mark;
  }

-- ---- what lies below a block is held
pub parts_held : (W : List ℕ) (sp : ℕ) (ps : List ValueRef) (n : ℕ) → PartsOlder W sp ps n → PartsHeld W ps n
parts_held W sp ps n o = record { full = o.full; part = λ i h. (o.part i h).held }
