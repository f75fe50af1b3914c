-- Sums, differences and choices, as the language has them: one law for each return of the code.
-- Not here: what the functions ask of one another (NumberSteps).
use Rattle.std.proofs.Common.{ℕ, ◌+◌, ◌<◌, arith, ◌≡◌, refl, sym, ap, ◌∙◌, subst, Bool, List, eqb, length, eq-eqb, ne_eqb}
use Rattle.cofj.specs.Limits.{number_count}
use Rattle.cofj.specs.Syntax.{Expr, combine, choose, Table}
use Rattle.cofj.specs.Writing.{code_of}
use Rattle.cofj.specs.Running.{value, stopped, ◌then◌, reckon}
use Rattle.classes.specs.declared.shape.Operation.{Operation}
use Rattle.classes.specs.Shapes.{operation_of}
use Rattle.classes.specs.Skipping.{skip_of}
use Rattle.classes.proofs.SkipLaws.{skip_on}
use Rattle.values.specs.declared.ValueRef.{ValueRef}
use Rattle.values.specs.declared.ValueRef.TheVariants.{Number}
use Rattle.std.specs.declared.result.Result.TheVariants.{Ok, Err}
use Rattle.evaluator.specs.declared.Stop.{Stop}
use Rattle.evaluator.specs.declared.frame.Frame.{Frame}
use Rattle.evaluator.specs.declared.trace.Trace.{Trace}
use Rattle.evaluator.specs.State.{Kept, FrameHolds, TraceHolds, frame_in, trace_in}
use Rattle.evaluator.specs.Answers.{Out, Value, Halt, Done, Operand, counted_at, stop_of, out_in, out_with, OutOlder, NextIs, Shows, operand_of, number_with, reckoned, combined, passed_over}
use Rattle.evaluator.specs.Evaluation.{Reads, eval_in, Evaluates, Combines, Chooses}
use Rattle.evaluator.proofs.Keeping.{kept_then, frame_same, trace_same}
use Rattle.evaluator.proofs.Given.{going_on}
use Rattle.evaluator.proofs.OperandLaws.{as_number, operand_is, operand_back, combine_as, taken, choose_as, reckoned_in, reckoned_older, reckoned_next}

-- ---- the first operand, or what a choice goes by, was evaluated to o
module _ (T W : List ℕ) (f : Frame) (tr : Trace) (top at left objects d sp fuel : ℕ) (W1 : List ℕ) (o : Done) (fuel1 : ℕ) (ev : Evaluates T W f tr top at left objects d sp fuel W1 (out_with fuel1 o)) where
  number_given : (k : Operand) → operand_of o ≡ k → (t : Table) (e : Expr) → Reads T left at t e → number_with fuel1 k ≡ as_number (eval_in objects d t (frame_in W f) (trace_in W tr top) e fuel)
  number_given k ek t e r = ap (number_with fuel1) (sym ek) ∙ operand_is W1 o fuel1 ∙ ap as_number (ev.is t e r).is

  module _ (s : Stop) (eo : operand_of o ≡ Err s) where
    pub combine_halt : (x : Operation) → Combines T W f tr top at left objects d sp fuel x W1 (Halt s fuel1)
    combine_halt x = record {
      kept = ev.kept;
      older = tt;
      is = λ t a b ra rb. record {
        is = going_on (stopped (stop_of s) fuel1) (as_number (eval_in objects d t (frame_in W f) (trace_in W tr top) a fuel))
            (λ k n. as_number (eval_in objects d t (frame_in W f) (trace_in W tr top) b n) then λ l m. reckon (operation_of x) k l m) (number_given (Err s) eo t a ra)
            ∙ sym (combine_as objects d t (frame_in W f) (trace_in W tr top) fuel (operation_of x) a b);
        next = tt;
      };
    }

    pub choose_halt : Chooses T W f tr top at left objects d sp fuel W1 (Halt s fuel1)
    choose_halt = record {
      kept = ev.kept;
      older = tt;
      is = λ t c a b rc ra rb. record {
        is = going_on (stopped (stop_of s) fuel1) (as_number (eval_in objects d t (frame_in W f) (trace_in W tr top) c fuel))
            (λ k n. taken objects d t (frame_in W f) (trace_in W tr top) fuel a b (eqb k 0) n) (number_given (Err s) eo t c rc)
            ∙ sym (choose_as objects d t (frame_in W f) (trace_in W tr top) fuel c a b);
        next = tt;
      };
    }

  module _ (k at1 : ℕ) (eo : operand_of o ≡ counted_at k at1) where
    first_is : Evaluates T W f tr top at left objects d sp fuel W1 (Value (Number k) at1 fuel1)
    first_is = subst (λ (x : Done). Evaluates T W f tr top at left objects d sp fuel W1 (out_with fuel1 x)) (operand_back o k at1 eo) ev

    number_small : k < number_count
    number_small = first_is.older.held.held

    first_next : (t : Table) (e : Expr) → Reads T left at t e → at1 ≡ at + length (code_of e)
    first_next t e r = (first_is.is t e r).next

    -- what follows is evaluated at the same block, to o2
    module _ (fh : FrameHolds W sp f) (th : TraceHolds W sp tr top) (at2 : ℕ) (W2 : List ℕ) (o2 : Out) (ev2 : Evaluates T W1 f tr top at2 left objects d sp fuel1 W2 o2) where
      kept_both : Kept sp W W2
      kept_both = kept_then sp sp W W1 W2 (omega arith) ev.kept ev2.kept

      follows : (t : Table) (e : Expr) → Reads T left at2 t e → out_in W2 o2 ≡ eval_in objects d t (frame_in W f) (trace_in W tr top) e fuel1
      follows t e r =
          let ef = frame_same W W1 sp ev.kept f fh in
          let et = trace_same W W1 sp ev.kept tr top th in
          (ev2.is t e r).is ∙ (λ i. eval_in objects d t (ef i) (et i) e fuel1)

      -- the branch e was taken, and the choice ends at p
      branch_is : (t : Table) (c a b e : Expr) → Reads T left at t c → taken objects d t (frame_in W f) (trace_in W tr top) fuel a b (eqb k 0) fuel1 ≡ eval_in objects d t (frame_in W f) (trace_in W tr top) e fuel1
          → Reads T left at2 t e → out_in W2 o2 ≡ eval_in objects d t (frame_in W f) (trace_in W tr top) (choose c a b) fuel
      branch_is t c a b e rc z r =
          follows t e r ∙ sym z
          ∙ going_on (value k fuel1) (as_number (eval_in objects d t (frame_in W f) (trace_in W tr top) c fuel)) (λ l n. taken objects d t (frame_in W f) (trace_in W tr top) fuel a b (eqb l 0) n) (number_given (counted_at k at1) eo t c rc)
          ∙ sym (choose_as objects d t (frame_in W f) (trace_in W tr top) fuel c a b)

      first_taken : (k ≡ 0 → ⊥) → (t : Table) (a b : Expr) → taken objects d t (frame_in W f) (trace_in W tr top) fuel a b (eqb k 0) fuel1 ≡ eval_in objects d t (frame_in W f) (trace_in W tr top) a fuel1
      first_taken nz t a b = ap (λ (z : Bool). taken objects d t (frame_in W f) (trace_in W tr top) fuel a b z fuel1) (ne_eqb k 0 nz)

      second_taken : k ≡ 0 → (t : Table) (a b : Expr) → taken objects d t (frame_in W f) (trace_in W tr top) fuel a b (eqb k 0) fuel1 ≡ eval_in objects d t (frame_in W f) (trace_in W tr top) b fuel1
      second_taken z t a b = ap (λ (y : Bool). taken objects d t (frame_in W f) (trace_in W tr top) fuel a b y fuel1) (eq-eqb k 0 z)

      -- the place after an expression that is passed over
      skipped : (q : ℕ) → (t : Table) (e : Expr) → Reads T left q t e → skip_of T q ≡ q + length (code_of e)
      skipped q t e r = ap (λ (B : List ℕ). skip_of B q) r.table.bytes ∙ skip_on t e q r.stands

      -- ---- the branch for 0, after the other one
      pub choose_second : k ≡ 0 → at2 ≡ skip_of T at1 → Chooses T W f tr top at left objects d sp fuel W2 o2
      choose_second z e2 = record { kept = kept_both; older = ev2.older; is = shows }
        where
          shows : (t : Table) (c a b : Expr) → Reads T left at t c → Reads T left (at + length (code_of c)) t a → Reads T left (at + length (code_of c) + length (code_of a)) t b
              → Shows W2 o2 (at + length (code_of c) + length (code_of a) + length (code_of b)) (eval_in objects d t (frame_in W f) (trace_in W tr top) (choose c a b) fuel)
          shows t c a b rc ra rb =
              let n1 = first_next t c rc in
              let e : at2 ≡ at + length (code_of c) + length (code_of a) = e2 ∙ ap (skip_of T) n1 ∙ skipped (at + length (code_of c)) t a ra in
              let r = subst (λ (q : ℕ). Reads T left q t b) (sym e) rb in
              record {
                is = branch_is t c a b b rc (second_taken z t a b) r;
                next = subst (λ (q : ℕ). NextIs o2 (q + length (code_of b))) e (ev2.is t b r).next;
              }

      -- ---- the other branch: the one for 0 is passed over
      module _ (nz : k ≡ 0 → ⊥) (e2 : at2 ≡ at1) where
        branch_at : (t : Table) (c a : Expr) → Reads T left at t c → Reads T left (at + length (code_of c)) t a → Reads T left at2 t a
        branch_at t c a rc ra = subst (λ (q : ℕ). Reads T left q t a) (sym (e2 ∙ first_next t c rc)) ra

        choose_stops : (s : Stop) (fuel2 : ℕ) → o2 ≡ Halt s fuel2 → Chooses T W f tr top at left objects d sp fuel W2 (Halt s fuel2)
        choose_stops s fuel2 eo2 = subst (Chooses T W f tr top at left objects d sp fuel W2) eo2 (record {
          kept = kept_both;
          older = ev2.older;
          is = λ t c a b rc ra rb. record {
            is = branch_is t c a b a rc (first_taken nz t a b) (branch_at t c a rc ra);
            next = subst (λ (x : Out). NextIs x (at + length (code_of c) + length (code_of a) + length (code_of b))) (sym eo2) tt;
          };
        })

        choose_gives : (v : ValueRef) (at3 fuel2 : ℕ) → o2 ≡ Value v at3 fuel2 → Chooses T W f tr top at left objects d sp fuel W2 (Value v (skip_of T at3) fuel2)
        choose_gives v at3 fuel2 eo2 = record { kept = kept_both; older = subst (OutOlder W2 (sp + 1)) eo2 ev2.older; is = shows }
          where
            shows : (t : Table) (c a b : Expr) → Reads T left at t c → Reads T left (at + length (code_of c)) t a → Reads T left (at + length (code_of c) + length (code_of a)) t b
                → Shows W2 (Value v (skip_of T at3) fuel2) (at + length (code_of c) + length (code_of a) + length (code_of b)) (eval_in objects d t (frame_in W f) (trace_in W tr top) (choose c a b) fuel)
            shows t c a b rc ra rb =
                let r = branch_at t c a rc ra in
                let n2 : at3 ≡ at2 + length (code_of a) = subst (λ (x : Out). NextIs x (at2 + length (code_of a))) eo2 (ev2.is t a r).next in
                let n3 : at3 ≡ at + length (code_of c) + length (code_of a) = n2 ∙ ap (λ (q : ℕ). q + length (code_of a)) (e2 ∙ first_next t c rc) in
                record {
                  is = ap (out_in W2) (sym eo2) ∙ branch_is t c a b a rc (first_taken nz t a b) r;
                  next = ap (skip_of T) n3 ∙ skipped (at + length (code_of c) + length (code_of a)) t b rb;
                }

        pub choose_first : (y : Done) (fuel2 : ℕ) → o2 ≡ out_with fuel2 y → Chooses T W f tr top at left objects d sp fuel W2 (out_with fuel2 (passed_over T y))
        choose_first (Ok e) fuel2 eo2 = choose_gives e.value e.next fuel2 eo2
        choose_first (Err s) fuel2 eo2 = choose_stops s fuel2 eo2

    -- ---- the second operand
    module _ (fh : FrameHolds W sp f) (th : TraceHolds W sp tr top) (W2 : List ℕ) (o2 : Done) (fuel2 : ℕ) (ev2 : Evaluates T W1 f tr top at1 left objects d sp fuel1 W2 (out_with fuel2 o2)) (x : Operation) where
      both_as : (l : Operand) → operand_of o2 ≡ l → (t : Table) (a b : Expr) → Reads T left at t a → Reads T left (at + length (code_of a)) t b
          → (number_with fuel2 l then λ y m. reckon (operation_of x) k y m) ≡ eval_in objects d t (frame_in W f) (trace_in W tr top) (combine (operation_of x) a b) fuel
      both_as l el t a b ra rb =
          let r = subst (λ (q : ℕ). Reads T left q t b) (sym (first_next t a ra)) rb in
          going_on (number_with fuel2 l) (as_number (eval_in objects d t (frame_in W f) (trace_in W tr top) b fuel1)) (λ y m. reckon (operation_of x) k y m)
          (ap (number_with fuel2) (sym el) ∙ operand_is W2 o2 fuel2 ∙ ap as_number (follows fh th at1 W2 (out_with fuel2 o2) ev2 t b r))
          ∙ going_on (value k fuel1) (as_number (eval_in objects d t (frame_in W f) (trace_in W tr top) a fuel))
          (λ y n. as_number (eval_in objects d t (frame_in W f) (trace_in W tr top) b n) then λ z m. reckon (operation_of x) y z m) (number_given (counted_at k at1) eo t a ra)
          ∙ sym (combine_as objects d t (frame_in W f) (trace_in W tr top) fuel (operation_of x) a b)

      combine_stops : (s : Stop) → operand_of o2 ≡ Err s → Combines T W f tr top at left objects d sp fuel x W2 (Halt s fuel2)
      combine_stops s e = record {
        kept = kept_both fh th at1 W2 (out_with fuel2 o2) ev2;
        older = tt;
        is = λ t a b ra rb. record { is = both_as (Err s) e t a b ra rb; next = tt };
      }

      combine_is : (l at2 : ℕ) → operand_of o2 ≡ counted_at l at2 → Combines T W f tr top at left objects d sp fuel x W2 (out_with fuel2 (reckoned x k l at2))
      combine_is l at2 e = record {
        kept = kept_both fh th at1 W2 (out_with fuel2 o2) ev2;
        older = reckoned_older W2 k l at2 fuel2 x (sp + 1) number_small;
        is = λ t a b ra rb. record {
          is = reckoned_in W2 k l at2 fuel2 x ∙ both_as (counted_at l at2) e t a b ra rb;
          next = reckoned_next W2 k l at2 fuel2 x (at + length (code_of a) + length (code_of b)) (ends t a b ra rb);
        };
      }
        where
          ends : (t : Table) (a b : Expr) → Reads T left at t a → Reads T left (at + length (code_of a)) t b → at2 ≡ at + length (code_of a) + length (code_of b)
          ends t a b ra rb =
              let n1 = first_next t a ra in
              let r = subst (λ (q : ℕ). Reads T left q t b) (sym n1) rb in
              let n2 : at2 ≡ at1 + length (code_of b) = subst (λ (y : Done). NextIs (out_with fuel2 y) (at1 + length (code_of b))) (operand_back o2 l at2 e) (ev2.is t b r).next in
              n2 ∙ ap (λ (q : ℕ). q + length (code_of b)) n1

      pub combine_second : Combines T W f tr top at left objects d sp fuel x W2 (out_with fuel2 (combined x k (operand_of o2)))
      combine_second = go (operand_of o2) refl
        where
          go : (l : Operand) → operand_of o2 ≡ l → Combines T W f tr top at left objects d sp fuel x W2 (out_with fuel2 (combined x k l))
          go (Ok y) e = combine_is y.number y.next e
          go (Err s) e = combine_stops s e
