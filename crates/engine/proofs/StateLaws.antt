-- Laws of what the state of a session and its buffers refuses.
use Rattle.std.proofs.Common.{ℕ, ◌≤◌, ◌≡◌, refl, sym, ap, ◌∙◌, Bool, true, false, not, cond, List, ltb, length, ltb-false, Ok, Err}
use Rattle.std.proofs.Math.Option.{Option, none, some}
use Rattle.std.specs.declared.result.Result.{Result}
use Rattle.cofj.specs.declared.Refusal.{Refusal}
use Rattle.cofj.specs.declared.Session.{Session}
use Rattle.cofj.specs.Refusals.{refusal_number}
use Rattle.cofj.specs.Limits.{report_size, work_size}
use Rattle.cofj.specs.Calls.{Mode, Call, state_refusal, Ran, admit, run_admitted, run_call}
use Rattle.cofj.proofs.RunCalls.{by_state}
use Rattle.engine.specs.Steps.{ran, answer_by, state_by, state_of}

-- ---- the language's refusal
abbrev pub numbered : Result (Unit {0}) Refusal → Option ℕ
numbered (Ok u) = none
numbered (Err k) = some (refusal_number k)

pub state_numbered : (a : Call) → state_refusal a ≡ numbered (state_of a.session.active (length a.report) (length a.work))
unfolding state_refusal state_of
state_numbered a = go a.session.active (ltb (length a.report) report_size) (ltb (length a.work) work_size)
  where
    go : (x y z : Bool) → cond (not x) (some 11) (cond y (some 12) (cond z (some 13) none)) ≡ numbered (state_by x y z)
    go true true z = refl
    go true false true = refl
    go true false false = refl
    go false y z = refl

-- ---- the lent buffers, where it refuses nothing
pub lent_by : (active : Bool) (r w : ℕ) → state_of active r w ≡ Ok tt → (report_size ≤ r) × (work_size ≤ w)
unfolding state_of
lent_by active r w e = go active (ltb r report_size) refl (ltb w work_size) refl e
  where
    go : (a b : Bool) → ltb r report_size ≡ b → (c : Bool) → ltb w work_size ≡ c → state_by a b c ≡ Ok tt → (report_size ≤ r) × (work_size ≤ w)
    go true true p c q z = cc
    go true false p true q z = cc
    go true false p false q z = (ltb-false r report_size p, ltb-false w work_size q)
    go false b p c q z = cc

module _ (g : Result (Unit {0}) Refusal) (active : Bool) (r w : ℕ) (e : g ≡ state_of active r w) (z : g ≡ Ok tt) where
  pub lent_report : report_size ≤ r
  lent_report = (lent_by active r w (sym e ∙ z)).0

  pub lent_work : work_size ≤ w
  lent_work = (lent_by active r w (sym e ∙ z)).1

-- ---- a run, by its state
module _ (m : Mode) (s i : List ℕ) (σ : Session) (R W : List ℕ) where
  abbrev pub call : Call
  call = record { mode = m; text = s; input = i; session = σ; report = R; work = W }

  module _ (g : Result (Unit {0}) Refusal) (e : g ≡ state_of σ.active (length R) (length W)) where
    pub state_refuses : (k : Refusal) → g ≡ Err k → ran (answer_by σ (Err k)) R W ≡ run_call call
    state_refuses k q = sym (by_state call (some (refusal_number k)) (state_numbered call ∙ ap numbered (sym e ∙ q)))

    pub state_admits : (x : Ran) → g ≡ Ok tt → x ≡ run_admitted (admit m s i) call → x ≡ run_call call
    state_admits x z q = q ∙ sym (by_state call none (state_numbered call ∙ ap numbered (sym e ∙ z)))
