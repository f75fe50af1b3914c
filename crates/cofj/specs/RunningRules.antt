-- The big-step rules of 002 (figures 2 and 3) as document 01 changes them: what a run of a program MEANS.
-- A constructor is a rule under the paper's name: its premises and side conditions, a line, its conclusion. The comment above says the
-- rule, and after "Document 01:" what differs from 002. The fuel in every judgement, and the rules of the last two sections, are document 01's
-- and, of numbers, document 02's.
-- The paper's side conditions: v = X̄ = new C(_) is `class_of v ≡ some c`, and `≡ none` where v is not guarded; mbody(C, m) is `lookup`, with the class c' that owns the body d;
-- σ(v.m(v̄)) = X is `open_mark σ v m vs ≡ some x`, and `≡ none` where the call is not in dom(σ); v.f unfolded is `select f v`; X = u is `close x u`. `number_in v` is the
-- number that v is, `none` where it is none: an object, a mark, undetermined.
-- The paper's w is any outcome without a value, `stopped`: what its own rules find wrong is `stuck`.
-- Not here: the interpreter, which computes these rules (Running; proofs/RunningRules proves it), and the values (Values).
use Rattle.std.specs.Prelude.{ℕ, zero, suc, ◌+◌, ◌-◌, ◌≤◌, ◌<◌, ◌≡◌, List, [], ◌∷◌, length}
use Rattle.std.proofs.Math.Option.{Option, none, some}
use Rattle.std.proofs.Math.ListN.{get_elem?}
use Rattle.cofj.specs.Limits.{Limits, number_count}
use Rattle.cofj.specs.Syntax.{Operation, sum, difference, Expr, this, res, param, field, call, new, literal, combine, choose, Exprs, done, also, count, Method, Table}
use Rattle.cofj.specs.Classes.{fields_of}
use Rattle.cofj.specs.Lookup.{found_in, lookup}
use Rattle.cofj.specs.Values.{Graph, make, select, close, mark_of, number_of, number_in}
use Rattle.cofj.specs.Running.{Stop, stuck, no_fuel, too_deep, too_large, overflow, Outcome, value, stopped, Frame, OpenCall, open_mark, class_of, frame_of, opened, main_frame}

module _ (objects : ℕ) (t : Table) where
  mutual
    -- The paper's e, σ, π ⇓ r. `Evaluates k π σ e n o`: with k more calls that may be opened, in the frame π and the trace σ of open
    -- left-side calls, the expression e, begun with fuel n, ends in o, which has the fuel left.
    pub data Evaluates : ℕ → Frame → List OpenCall → Expr → ℕ → Outcome Graph → Type 0 where
      -- ---- figure 2
      -- A variable has its value in the frame: this,
      VAR-this :
          {k n : ℕ} {π : Frame} {σ : List OpenCall} {v : Graph}
          → π.this ≡ some v
          -- ---------------------------------
          → Evaluates k π σ this n (value v n)
      -- res,
      VAR-res :
          {k n : ℕ} {π : Frame} {σ : List OpenCall} {v : Graph}
          → π.res ≡ some v
          -- --------------------------------
          → Evaluates k π σ res n (value v n)
      -- a parameter.
      VAR-param :
          {k n x : ℕ} {π : Frame} {σ : List OpenCall} {v : Graph}
          → get_elem? π.params x ≡ some v
          -- --------------------------------------
          → Evaluates k π σ (param x) n (value v n)
      -- The receiver is an object with a field f: the field's value, with marks back to the receiver unfolded.
      FIELD :
          {k n n₁ f : ℕ} {π : Frame} {σ : List OpenCall} {e : Expr} {v u : Graph}
          → Evaluates k π σ e n (value v n₁)
          → select f v ≡ some u
          -- -----------------------------------------
          → Evaluates k π σ (field f e) n (value u n₁)
      -- A call that is not open: the left side runs with it open under a fresh mark X, the length of σ; its value u becomes X = u.
      -- Document 01: one unit of fuel is spent, suc n₂ becomes n₂, and the body may open one call less, k of suc k.
      INVK :
          {k n n₁ n₂ n₃ m c c' : ℕ} {π : Frame} {σ : List OpenCall} {e : Expr} {es : Exprs} {v u : Graph} {vs : List Graph} {d : Method}
          → Evaluates (suc k) π σ e n (value v n₁)
          → class_of v ≡ some c
          → lookup t c m ≡ some (found_in c' d)
          → length d.params ≡ count es
          → EvaluateAll (suc k) π σ es n₁ (value vs (suc n₂))
          → open_mark σ v m vs ≡ none
          → Evaluates k (frame_of v none vs) (opened σ v m vs) d.left n₂ (value u n₃)
          -- --------------------------------------------------------------------------
          → Evaluates (suc k) π σ (call m e es) n (value (close (length σ) u) n₃)
      -- A call that is open under the mark x: the right side runs with x for res, and its outcome is the call's.
      -- Document 01: it spends its unit and counts as open while it runs, like any other.
      COREC :
          {k n n₁ n₂ m c c' x : ℕ} {π : Frame} {σ : List OpenCall} {e : Expr} {es : Exprs} {v : Graph} {vs : List Graph} {d : Method} {o : Outcome Graph}
          → Evaluates (suc k) π σ e n (value v n₁)
          → class_of v ≡ some c
          → lookup t c m ≡ some (found_in c' d)
          → length d.params ≡ count es
          → EvaluateAll (suc k) π σ es n₁ (value vs (suc n₂))
          → open_mark σ v m vs ≡ some x
          → Evaluates k (frame_of v (some (mark_of x)) vs) σ d.right n₂ o
          -- -------------------------------------------------------------
          → Evaluates (suc k) π σ (call m e es) n o
      -- As many values as the class has fields: their object. Document 01: it has no more distinct objects in it than a value may have.
      NEW :
          {k n n₁ c : ℕ} {π : Frame} {σ : List OpenCall} {es : Exprs} {vs : List Graph}
          → length (fields_of t.classes c) ≡ count es
          → EvaluateAll k π σ es n (value vs n₁)
          → length (make c vs).nodes ≤ objects
          -- --------------------------------------------------
          → Evaluates k π σ (new c es) n (value (make c vs) n₁)
      -- ---- figure 3
      -- The receiver is no object,
      W-FIELD-object :
          {k n n₁ f : ℕ} {π : Frame} {σ : List OpenCall} {e : Expr} {v : Graph}
          → Evaluates k π σ e n (value v n₁)
          → class_of v ≡ none
          -- -----------------------------------------------
          → Evaluates k π σ (field f e) n (stopped stuck n₁)
      -- or lacks the field (an object of a run has its class's fields: proofs/Runs).
      W-FIELD-lacks :
          {k n n₁ f c : ℕ} {π : Frame} {σ : List OpenCall} {e : Expr} {v : Graph}
          → Evaluates k π σ e n (value v n₁)
          → class_of v ≡ some c
          → select f v ≡ none
          -- -----------------------------------------------
          → Evaluates k π σ (field f e) n (stopped stuck n₁)
      -- The receiver is no object,
      W-INVK-object :
          {k n n₁ m : ℕ} {π : Frame} {σ : List OpenCall} {e : Expr} {es : Exprs} {v : Graph}
          → Evaluates k π σ e n (value v n₁)
          → class_of v ≡ none
          -- -------------------------------------------------
          → Evaluates k π σ (call m e es) n (stopped stuck n₁)
      -- or lacks the method,
      W-INVK-lacks :
          {k n n₁ m c : ℕ} {π : Frame} {σ : List OpenCall} {e : Expr} {es : Exprs} {v : Graph}
          → Evaluates k π σ e n (value v n₁)
          → class_of v ≡ some c
          → lookup t c m ≡ none
          -- -------------------------------------------------
          → Evaluates k π σ (call m e es) n (stopped stuck n₁)
      -- or the method has another number of parameters.
      W-INVK-count :
          {k n n₁ m c c' : ℕ} {π : Frame} {σ : List OpenCall} {e : Expr} {es : Exprs} {v : Graph} {d : Method}
          → Evaluates k π σ e n (value v n₁)
          → class_of v ≡ some c
          → lookup t c m ≡ some (found_in c' d)
          → (length d.params ≡ count es → ⊥)
          -- -------------------------------------------------
          → Evaluates k π σ (call m e es) n (stopped stuck n₁)
      -- The left side has no value u for X = u: it stops, and the call with it.
      W-INVK2 :
          {k n n₁ n₂ n₃ m c c' : ℕ} {π : Frame} {σ : List OpenCall} {e : Expr} {es : Exprs} {v : Graph} {vs : List Graph} {d : Method} {s : Stop}
          → Evaluates (suc k) π σ e n (value v n₁)
          → class_of v ≡ some c
          → lookup t c m ≡ some (found_in c' d)
          → length d.params ≡ count es
          → EvaluateAll (suc k) π σ es n₁ (value vs (suc n₂))
          → open_mark σ v m vs ≡ none
          → Evaluates k (frame_of v none vs) (opened σ v m vs) d.left n₂ (stopped s n₃)
          -- ----------------------------------------------------------------------------
          → Evaluates (suc k) π σ (call m e es) n (stopped s n₃)
      -- The class has another number of fields.
      W-NEW :
          {k n c : ℕ} {π : Frame} {σ : List OpenCall} {es : Exprs}
          → (length (fields_of t.classes c) ≡ count es → ⊥)
          -- ------------------------------------------------
          → Evaluates k π σ (new c es) n (stopped stuck n)
      -- A part stops, and the whole with it; document 01: the first part from the left. A field's receiver,
      PROP-field :
          {k n n₁ f : ℕ} {π : Frame} {σ : List OpenCall} {e : Expr} {s : Stop}
          → Evaluates k π σ e n (stopped s n₁)
          -- -------------------------------------------
          → Evaluates k π σ (field f e) n (stopped s n₁)
      -- a call's receiver,
      PROP-receiver :
          {k n n₁ m : ℕ} {π : Frame} {σ : List OpenCall} {e : Expr} {es : Exprs} {s : Stop}
          → Evaluates k π σ e n (stopped s n₁)
          -- ---------------------------------------------
          → Evaluates k π σ (call m e es) n (stopped s n₁)
      -- a call's arguments (document 01: W-INVK is judged before they are evaluated),
      PROP-arguments :
          {k n n₁ n₂ m c c' : ℕ} {π : Frame} {σ : List OpenCall} {e : Expr} {es : Exprs} {v : Graph} {d : Method} {s : Stop}
          → Evaluates k π σ e n (value v n₁)
          → class_of v ≡ some c
          → lookup t c m ≡ some (found_in c' d)
          → length d.params ≡ count es
          → EvaluateAll k π σ es n₁ (stopped s n₂)
          -- ---------------------------------------------
          → Evaluates k π σ (call m e es) n (stopped s n₂)
      -- a new object's values (document 01: W-NEW is judged before they are evaluated).
      PROP-new :
          {k n n₁ c : ℕ} {π : Frame} {σ : List OpenCall} {es : Exprs} {s : Stop}
          → length (fields_of t.classes c) ≡ count es
          → EvaluateAll k π σ es n (stopped s n₁)
          -- ------------------------------------------
          → Evaluates k π σ (new c es) n (stopped s n₁)
      -- ---- document 01's own
      -- A variable that has no value is stuck: this,
      W-VAR-this :
          {k n : ℕ} {π : Frame} {σ : List OpenCall}
          → π.this ≡ none
          -- ---------------------------------------
          → Evaluates k π σ this n (stopped stuck n)
      -- res,
      W-VAR-res :
          {k n : ℕ} {π : Frame} {σ : List OpenCall}
          → π.res ≡ none
          -- --------------------------------------
          → Evaluates k π σ res n (stopped stuck n)
      -- a parameter.
      W-VAR-param :
          {k n x : ℕ} {π : Frame} {σ : List OpenCall}
          → get_elem? π.params x ≡ none
          -- --------------------------------------------
          → Evaluates k π σ (param x) n (stopped stuck n)
      -- The call is known, open or not, and no fuel is left.
      OUT-OF-FUEL :
          {k n n₁ m c c' : ℕ} {π : Frame} {σ : List OpenCall} {e : Expr} {es : Exprs} {v : Graph} {vs : List Graph} {d : Method}
          → Evaluates k π σ e n (value v n₁)
          → class_of v ≡ some c
          → lookup t c m ≡ some (found_in c' d)
          → length d.params ≡ count es
          → EvaluateAll k π σ es n₁ (value vs zero)
          -- ----------------------------------------------------
          → Evaluates k π σ (call m e es) n (stopped no_fuel zero)
      -- The call is known, open or not, its unit is spent, and no more call may be opened.
      TOO-DEEP :
          {n n₁ n₂ m c c' : ℕ} {π : Frame} {σ : List OpenCall} {e : Expr} {es : Exprs} {v : Graph} {vs : List Graph} {d : Method}
          → Evaluates zero π σ e n (value v n₁)
          → class_of v ≡ some c
          → lookup t c m ≡ some (found_in c' d)
          → length d.params ≡ count es
          → EvaluateAll zero π σ es n₁ (value vs (suc n₂))
          -- ------------------------------------------------------
          → Evaluates zero π σ (call m e es) n (stopped too_deep n₂)
      -- The new object has more distinct objects in it than a value may have, itself included.
      TOO-LARGE :
          {k n n₁ c : ℕ} {π : Frame} {σ : List OpenCall} {es : Exprs} {vs : List Graph}
          → length (fields_of t.classes c) ≡ count es
          → EvaluateAll k π σ es n (value vs n₁)
          → objects < length (make c vs).nodes
          -- -------------------------------------------------
          → Evaluates k π σ (new c es) n (stopped too_large n₁)
      -- ---- document 02's numbers. No fuel is spent
      NUMBER :
          {k n x : ℕ} {π : Frame} {σ : List OpenCall}
          -- ------------------------------------------------
          → Evaluates k π σ (literal x) n (value (number_of x) n)
      -- Two numbers, from left to right: their sum, if it is a number,
      SUM :
          {k n n₁ n₂ x y : ℕ} {π : Frame} {σ : List OpenCall} {a b : Expr} {v w : Graph}
          → Evaluates k π σ a n (value v n₁)
          → number_in v ≡ some x
          → Evaluates k π σ b n₁ (value w n₂)
          → number_in w ≡ some y
          → x + y < number_count
          -- -----------------------------------------------------------
          → Evaluates k π σ (combine sum a b) n (value (number_of (x + y)) n₂)
      -- or their difference, 0 if it would be below 0 (so `◌-◌` is on natural numbers).
      DIFFERENCE :
          {k n n₁ n₂ x y : ℕ} {π : Frame} {σ : List OpenCall} {a b : Expr} {v w : Graph}
          → Evaluates k π σ a n (value v n₁)
          → number_in v ≡ some x
          → Evaluates k π σ b n₁ (value w n₂)
          → number_in w ≡ some y
          -- ------------------------------------------------------------------
          → Evaluates k π σ (combine difference a b) n (value (number_of (x - y)) n₂)
      -- The sum is above the largest number: judged after both operands.
      OVERFLOW :
          {k n n₁ n₂ x y : ℕ} {π : Frame} {σ : List OpenCall} {a b : Expr} {v w : Graph}
          → Evaluates k π σ a n (value v n₁)
          → number_in v ≡ some x
          → Evaluates k π σ b n₁ (value w n₂)
          → number_in w ≡ some y
          → number_count ≤ x + y
          -- ---------------------------------------------------
          → Evaluates k π σ (combine sum a b) n (stopped overflow n₂)
      -- An operand that is no number: the first, before the second is evaluated,
      W-COMBINE-first :
          {k n n₁ : ℕ} {π : Frame} {σ : List OpenCall} {o : Operation} {a b : Expr} {v : Graph}
          → Evaluates k π σ a n (value v n₁)
          → number_in v ≡ none
          -- ----------------------------------------------
          → Evaluates k π σ (combine o a b) n (stopped stuck n₁)
      -- or the second.
      W-COMBINE-second :
          {k n n₁ n₂ x : ℕ} {π : Frame} {σ : List OpenCall} {o : Operation} {a b : Expr} {v w : Graph}
          → Evaluates k π σ a n (value v n₁)
          → number_in v ≡ some x
          → Evaluates k π σ b n₁ (value w n₂)
          → number_in w ≡ none
          -- ----------------------------------------------
          → Evaluates k π σ (combine o a b) n (stopped stuck n₂)
      -- A number that is not 0 chooses the first branch, which alone is evaluated; its outcome is the whole's.
      CHOOSE-first :
          {k n n₁ x : ℕ} {π : Frame} {σ : List OpenCall} {c a b : Expr} {v : Graph} {o : Outcome Graph}
          → Evaluates k π σ c n (value v n₁)
          → number_in v ≡ some (suc x)
          → Evaluates k π σ a n₁ o
          -- -----------------------------------
          → Evaluates k π σ (choose c a b) n o
      -- 0 chooses the second.
      CHOOSE-second :
          {k n n₁ : ℕ} {π : Frame} {σ : List OpenCall} {c a b : Expr} {v : Graph} {o : Outcome Graph}
          → Evaluates k π σ c n (value v n₁)
          → number_in v ≡ some zero
          → Evaluates k π σ b n₁ o
          -- -----------------------------------
          → Evaluates k π σ (choose c a b) n o
      -- What is to choose is no number: stuck, before a branch is evaluated.
      W-CHOOSE :
          {k n n₁ : ℕ} {π : Frame} {σ : List OpenCall} {c a b : Expr} {v : Graph}
          → Evaluates k π σ c n (value v n₁)
          → number_in v ≡ none
          -- -----------------------------------------------
          → Evaluates k π σ (choose c a b) n (stopped stuck n₁)
      -- PROP: the first operand stops,
      PROP-first :
          {k n n₁ : ℕ} {π : Frame} {σ : List OpenCall} {o : Operation} {a b : Expr} {s : Stop}
          → Evaluates k π σ a n (stopped s n₁)
          -- ------------------------------------------
          → Evaluates k π σ (combine o a b) n (stopped s n₁)
      -- the second,
      PROP-second :
          {k n n₁ n₂ x : ℕ} {π : Frame} {σ : List OpenCall} {o : Operation} {a b : Expr} {v : Graph} {s : Stop}
          → Evaluates k π σ a n (value v n₁)
          → number_in v ≡ some x
          → Evaluates k π σ b n₁ (stopped s n₂)
          -- ------------------------------------------
          → Evaluates k π σ (combine o a b) n (stopped s n₂)
      -- or what is to choose.
      PROP-choose :
          {k n n₁ : ℕ} {π : Frame} {σ : List OpenCall} {c a b : Expr} {s : Stop}
          → Evaluates k π σ c n (stopped s n₁)
          -- -------------------------------------------
          → Evaluates k π σ (choose c a b) n (stopped s n₁)

    -- The paper's bar over e, σ, π ⇓ v, from left to right: the values of a list, or what its first item without a value stopped at.
    pub data EvaluateAll : ℕ → Frame → List OpenCall → Exprs → ℕ → Outcome (List Graph) → Type 0 where
      -- No item: no value.
      NONE :
          {k n : ℕ} {π : Frame} {σ : List OpenCall}
          -- ------------------------------------
          → EvaluateAll k π σ done n (value [] n)
      -- The values of the items.
      EACH :
          {k n n₁ n₂ : ℕ} {π : Frame} {σ : List OpenCall} {e : Expr} {es : Exprs} {v : Graph} {vs : List Graph}
          → Evaluates k π σ e n (value v n₁)
          → EvaluateAll k π σ es n₁ (value vs n₂)
          -- --------------------------------------------------
          → EvaluateAll k π σ (also e es) n (value (v ∷ vs) n₂)
      -- PROP at an item: this one stops,
      PROP-head :
          {k n n₁ : ℕ} {π : Frame} {σ : List OpenCall} {e : Expr} {es : Exprs} {s : Stop}
          → Evaluates k π σ e n (stopped s n₁)
          -- ---------------------------------------------
          → EvaluateAll k π σ (also e es) n (stopped s n₁)
      -- or one after it.
      PROP-tail :
          {k n n₁ n₂ : ℕ} {π : Frame} {σ : List OpenCall} {e : Expr} {es : Exprs} {v : Graph} {s : Stop}
          → Evaluates k π σ e n (value v n₁)
          → EvaluateAll k π σ es n₁ (stopped s n₂)
          -- ---------------------------------------------
          → EvaluateAll k π σ (also e es) n (stopped s n₂)

-- Main is evaluated with no open call and in a frame whose only variable is its input i, if there is one.
-- Document 01: within the limits l, and begun with fuel n.
pub data RunsTo (l : Limits) (t : Table) (i : Option Graph) (n : ℕ) (o : Outcome Graph) : Type 0 where
  PROG :
      Evaluates l.objects t l.depth (main_frame i) [] t.main n o
      -- ---------------------------------------------------------------
      → RunsTo l t i n o
