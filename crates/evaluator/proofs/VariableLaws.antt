-- Variables of a frame: one law for each return of `parameter`, and that they are the language's.
-- Not here: the frames that are begun with (FitLaws, RunLaws).
use Rattle.std.proofs.Common.{ℕ, zero, suc, ◌≤◌, ◌<◌, arith, ◌≡◌, refl, sym, ◌∙◌, Bool, true, false, List, [], ◌∷◌, map, ltb, length, take, length-take-le, ltb-true, ltb-false}
use Rattle.std.proofs.Math.Option.{none, some}
use Rattle.std.proofs.Math.ListN.{get_elem?, length-map}
use Rattle.classes.specs.Machine.{pick}
use Rattle.values.specs.declared.ValueRef.{ValueRef}
use Rattle.values.specs.Layout.{value_of}
use Rattle.maker.specs.Laying.{values_from}
use Rattle.std.specs.declared.option.Option.TheVariants.{Some, None}
use Rattle.evaluator.specs.declared.frame.Frame.{Frame}
use Rattle.evaluator.specs.State.{slot_at, HeldOlder, held_in, FrameHolds, frame_in, passed_of, variable_of}

-- ---- what a parameter holds is the frame's
get_values : (W : List ℕ) (ps : List ValueRef) (n k : ℕ) → n ≤ length ps → k < n → get_elem? (map (value_of W) (take n ps)) k ≡ some (value_of W (slot_at ps k))
get_values W ps zero k l h = absurd (omega arith)
get_values W [] (suc n) k l h = absurd (omega arith)
get_values W (p ∷ ps) (suc n) zero l h = refl
get_values W (p ∷ ps) (suc n) (suc k) l h = get_values W ps n k (omega arith) (omega arith)

get_past : {A : Type 0} (xs : List A) (k : ℕ) → length xs ≤ k → get_elem? xs k ≡ none
get_past [] k h = refl
get_past (x ∷ xs) zero h = absurd (omega arith)
get_past (x ∷ xs) (suc k) h = get_past xs k (omega arith)

pub length_values : (W : List ℕ) (ps : List ValueRef) (n : ℕ) → n ≤ length ps → length (values_from W ps 0 n) ≡ n
unfolding values_from
length_values W ps n h = length-map (take n ps) (value_of W) ∙ length-take-le n ps h

module _ (W : List ℕ) (sp : ℕ) (f : Frame) (k : ℕ) (h : FrameHolds W sp f) where
  pub variable_held : HeldOlder W sp (variable_of f k)
  unfolding variable_of passed_of
  variable_held = go (ltb k f.n) refl
    where
      go : (b : Bool) → ltb k f.n ≡ b → HeldOlder W sp (pick b (Some (slot_at f.args k)) None)
      go true q = h.args.part k (ltb-true k f.n q)
      go false q = tt

  pub variable_in : held_in W (variable_of f k) ≡ get_elem? (frame_in W f).params k
  unfolding variable_of passed_of frame_in values_from
  variable_in = go (ltb k f.n) refl
    where
      go : (b : Bool) → ltb k f.n ≡ b → held_in W (pick b (Some (slot_at f.args k)) None) ≡ get_elem? (values_from W f.args 0 f.n) k
      go true q = sym (get_values W f.args f.n k h.args.full (ltb-true k f.n q))
      go false q = sym (get_past (values_from W f.args 0 f.n) k (let l = ltb-false k f.n q in omega (arith, length_values W f.args f.n h.args.full)))
