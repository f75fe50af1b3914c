-- The frames that are begun with: of a body, and of main.
-- Not here: what a frame stands for (State).
use Rattle.std.specs.Prelude.{ℕ, Bool, List, [], ◌∷◌}
use Rattle.classes.specs.Machine.{pick}
use Rattle.values.specs.declared.ValueRef.{ValueRef}
use Rattle.values.specs.declared.ValueRef.TheVariants.{Object, Undetermined}
use Rattle.evaluator.specs.Figures.{input_block}
use Rattle.std.specs.declared.option.Option.{Option as RustOption}
use Rattle.std.specs.declared.option.Option.TheVariants.{Some, None}
use Rattle.evaluator.specs.declared.frame.Frame.{Frame}

-- the frame of a body on v, with the n first of the arguments A
abbrev pub body_frame : ValueRef → RustOption ValueRef → List ValueRef → ℕ → ℕ → Frame
body_frame v res A n owner = record { this = Some v; res = res; args = A; n = n; owner = owner }

-- the frame of main: parameter 0 is the input, if there is one, and nothing else has a value
abbrev pub main_frame : Bool → Frame
main_frame fed = record { this = None; res = None; args = Object 0 input_block ∷ Undetermined ∷ Undetermined ∷ []; n = pick fed 1 0; owner = 0 }
