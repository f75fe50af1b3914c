-- An expression, by what stands at its place, as the language has it: one law for each return of `eval`.
-- Not here: fields, lists and new objects (ListLaws), calls (CallLaws), what the functions do (StepLaws).
use Rattle.std.proofs.Common.{ℕ, suc, ◌+◌, ◌-◌, ◌<◌, arith, ◌≡◌, refl, sym, ap, ◌∙◌, subst, List, length}
use Rattle.std.proofs.Math.Option.{Option}
use Rattle.std.proofs.Math.ListN.{get_elem?}
use Rattle.cofj.specs.Limits.{number_count}
use Rattle.cofj.specs.Syntax.{Expr, call, combine, choose, Table}
use Rattle.cofj.specs.Writing.{code_of, codes_of}
use Rattle.cofj.specs.Values.{Graph}
use Rattle.cofj.specs.Running.{Outcome, or_stuck, eval}
use Rattle.classes.specs.declared.shape.Shape.{Shape}
use Rattle.classes.specs.declared.shape.Shape.TheVariants as shape
use Rattle.classes.specs.declared.shape.Operation.{Operation}
use Rattle.classes.specs.Shapes.{shape_at, operation_of}
use Rattle.classes.proofs.ShapesOn.{HasShape}
use Rattle.evaluator.specs.declared.Stop.TheVariants.{Stuck}
use Rattle.values.specs.declared.ValueRef.TheVariants.{Number}
use Rattle.values.specs.declared.ValueRef.{ValueRef}
use Rattle.std.specs.declared.option.Option.{Option as RustOption}
use Rattle.std.specs.declared.option.Option.TheVariants.{Some, None}
use Rattle.evaluator.specs.declared.frame.Frame.{Frame}
use Rattle.evaluator.specs.declared.trace.Trace.{Trace}
use Rattle.evaluator.specs.State.{HeldOlder, held_in, frame_in, trace_in, variable_of}
use Rattle.evaluator.specs.Answers.{Out, Value, Halt, two_bytes, out_of, OutOlder, Shows}
use Rattle.evaluator.specs.Evaluation.{Reads, ReadsAll, eval_in, Fits, Evaluates, Fields, News, Combines, Chooses}
use Rattle.evaluator.specs.Calling.{Calls}
use Rattle.evaluator.proofs.Keeping.{kept_none, older_up}
use Rattle.evaluator.proofs.Standing.{shape_read, nested_none, field_reads, name_small, receiver_reads, args_read, call_end, class_known, values_read, operand_reads, other_reads, combine_end, number_reads, branch_reads, zero_reads, choose_end}
use Rattle.evaluator.proofs.VariableLaws.{variable_held, variable_in}

shows_at : (W : List ℕ) (o : Out) (p q : ℕ) (x : Outcome Graph) → p ≡ q → Shows W o p x → Shows W o q x
shows_at W o p q x e s = subst (λ (z : ℕ). Shows W o z x) e s

-- an answer that is what a variable holds
held_older : (W : List ℕ) (sp : ℕ) (h : RustOption ValueRef) (next fuel : ℕ) → HeldOlder W sp h → OutOlder W (sp + 1) (out_of h next fuel)
held_older W sp (Some r) next fuel o = older_up W sp (sp + 1) (omega arith) r o
held_older W sp None next fuel o = tt

held_shows : (W : List ℕ) (h : RustOption ValueRef) (p fuel : ℕ) (x : Option Graph) → held_in W h ≡ x → Shows W (out_of h p fuel) p (or_stuck x fuel)
held_shows W (Some r) p fuel x e = record { is = ap (λ (y : Option Graph). or_stuck y fuel) e; next = refl }
held_shows W None p fuel x e = record { is = ap (λ (y : Option Graph). or_stuck y fuel) e; next = tt }

module _ (T W : List ℕ) (f : Frame) (tr : Trace) (top at left objects d sp fuel : ℕ) where
  pub eval_zero : left ≡ 0 → Evaluates T W f tr top at left objects d sp fuel W (Halt Stuck fuel)
  eval_zero z = record { kept = kept_none sp W; older = tt; is = λ t e r. absurd (nested_none left e z r.nested) }

  -- o is what the language gives of e, and ends after e
  abbrev Says : List ℕ → Out → Table → Expr → Type 0
  Says W' o t e = Shows W' o (at + length (code_of e)) (eval_in objects d t (frame_in W f) (trace_in W tr top) e fuel)

  module _ (s : Shape) (es : s ≡ shape_at T at) where
    stands_as : (t : Table) (e : Expr) (q : Shape) → Reads T left at t e → s ≡ q → HasShape at e q
    stands_as t e q r z = shape_read T left at t e r q (sym z ∙ es)

    pub eval_nothing : s ≡ shape.Nothing → Evaluates T W f tr top at left objects d sp fuel W (Halt Stuck fuel)
    eval_nothing z = record { kept = kept_none sp W; older = tt; is = λ t e r. absurd (stands_as t e shape.Nothing r z) }

    -- ---- variables
    module _ (fit : Fits W f tr top left objects d sp) (next : ℕ) (o : Out) where
      pub eval_this : s ≡ shape.This next → o ≡ out_of f.this next fuel → Evaluates T W f tr top at left objects d sp fuel W o
      unfolding code_of eval frame_in
      eval_this z eo = subst (Evaluates T W f tr top at left objects d sp fuel W) (sym eo) (record {
        kept = kept_none sp W;
        older = held_older W sp f.this next fuel fit.frame.this;
        is = λ t e r.
            let w = stands_as t e (shape.This next) r z in
            subst (Says W (out_of f.this next fuel) t) (sym w.0) (shows_at W _ next (at + 1) _ w.1 (held_shows W f.this next fuel (held_in W f.this) refl));
      })

      pub eval_res : s ≡ shape.Result next → o ≡ out_of f.res next fuel → Evaluates T W f tr top at left objects d sp fuel W o
      unfolding code_of eval frame_in
      eval_res z eo = subst (Evaluates T W f tr top at left objects d sp fuel W) (sym eo) (record {
        kept = kept_none sp W;
        older = held_older W sp f.res next fuel fit.frame.res;
        is = λ t e r.
            let w = stands_as t e (shape.Result next) r z in
            subst (Says W (out_of f.res next fuel) t) (sym w.0) (shows_at W _ next (at + 1) _ w.1 (held_shows W f.res next fuel (held_in W f.res) refl));
      })

      pub eval_param : (k : ℕ) → s ≡ shape.Parameter k next → o ≡ out_of (variable_of f k) next fuel → Evaluates T W f tr top at left objects d sp fuel W o
      unfolding code_of eval
      eval_param k z eo = subst (Evaluates T W f tr top at left objects d sp fuel W) (sym eo) (record {
        kept = kept_none sp W;
        older = held_older W sp (variable_of f k) next fuel (variable_held W sp f k fit.frame);
        is = λ t e r.
            let w = stands_as t e (shape.Parameter k next) r z in
            subst (Says W (out_of (variable_of f k) next fuel) t) (sym w.0)
            (shows_at W _ next (at + 2) _ w.1 (held_shows W (variable_of f k) next fuel (get_elem? (frame_in W f).params k) (variable_in W sp f k fit.frame)));
      })

    -- ---- numbers
    pub eval_number_lem : (k n next : ℕ) → two_bytes k n < number_count → s ≡ shape.Number k n next → Evaluates T W f tr top at left objects d sp fuel W (Value (Number (two_bytes k n)) next fuel)
    unfolding code_of eval
    eval_number_lem k n next l z = record {
      kept = kept_none sp W;
      older = record { held = record { held = l }; low = tt };
      is = λ t e r.
          let w = stands_as t e (shape.Number k n next) r z in
          subst (Says W (Value (Number (two_bytes k n)) next fuel) t) (sym w.0) (shows_at W _ next (at + 3) _ w.1 (record { is = refl; next = refl }));
    }

    -- ---- fields, calls, objects, sums and differences, choices
    module _ (nz : left ≡ 0 → ⊥) (next : ℕ) (W' : List ℕ) (o : Out) where
      pub eval_at_field : (k : ℕ) → s ≡ shape.Field k next → Fields T W f tr top next (left - 1) objects d sp fuel k W' o → Evaluates T W f tr top at left objects d sp fuel W' o
      unfolding code_of
      eval_at_field k z x = record { kept = x.kept; older = x.older; is = λ t e r. go t e r (stands_as t e (shape.Field k next) r z) }
        where
          go : (t : Table) (e : Expr) → Reads T left at t e → HasShape at e (shape.Field k next) → Says W' o t e
          go t e r w =
              let i = w.0 in
              let r' = field_reads T left at t nz k i (subst (Reads T left at t) w.1 r) in
              let n = w.2 in
              subst (Says W' o t) (sym w.1)
              (shows_at W' o (next + length (code_of i)) (at + suc (suc (length (code_of i)))) _ (omega arith)
              (x.is t i (subst (λ (p : ℕ). Reads T (left - 1) p t i) (sym n) r')))

      pub eval_at_call : (m n : ℕ) → s ≡ shape.Call m n next → Calls T W f tr top next (left - 1) objects d sp fuel m n W' o → Evaluates T W f tr top at left objects d sp fuel W' o
      eval_at_call m n z x = record { kept = x.kept; older = x.older; is = λ t e r. go t e r (stands_as t e (shape.Call m n next) r z) }
        where
          go : (t : Table) (e : Expr) → Reads T left at t e → HasShape at e (shape.Call m n next) → Says W' o t e
          go t e r w =
              let i = w.0 in
              let xs = w.1 in
              let r' = subst (Reads T left at t) w.2 r in
              let en = w.4 in
              subst (Says W' o t) (sym w.2)
              (shows_at W' o (next + length (code_of i) + length (codes_of xs)) (at + length (code_of (call m i xs))) _ (omega (arith, call_end T left at t nz m i xs r'))
              (x.is t i xs (name_small T left at t nz m i xs r')
              (subst (λ (p : ℕ). Reads T (left - 1) p t i) (sym en) (receiver_reads T left at t nz m i xs r'))
              (subst (λ (p : ℕ). ReadsAll T (left - 1) (p + length (code_of i)) t xs) (sym en) (args_read T left at t nz m i xs r')) w.3))

      pub eval_at_new : (c n : ℕ) → s ≡ shape.New c n next → News T W f tr top next (left - 1) objects d sp fuel c n W' o → Evaluates T W f tr top at left objects d sp fuel W' o
      unfolding code_of
      eval_at_new c n z x = record { kept = x.kept; older = x.older; is = λ t e r. go t e r (stands_as t e (shape.New c n next) r z) }
        where
          go : (t : Table) (e : Expr) → Reads T left at t e → HasShape at e (shape.New c n next) → Says W' o t e
          go t e r w =
              let xs = w.0 in
              let r' = subst (Reads T left at t) w.1 r in
              let en = w.3 in
              subst (Says W' o t) (sym w.1)
              (shows_at W' o (next + length (codes_of xs)) (at + suc (suc (suc (length (codes_of xs))))) _ (omega arith)
              (x.is t xs (subst (λ (p : ℕ). ReadsAll T (left - 1) p t xs) (sym en) (values_read T left at t nz c xs r')) w.2 (class_known T left at t nz c xs r')))

      pub eval_at_combine : (x : Operation) → s ≡ shape.Combine x next → Combines T W f tr top next (left - 1) objects d sp fuel x W' o → Evaluates T W f tr top at left objects d sp fuel W' o
      eval_at_combine x z y = record { kept = y.kept; older = y.older; is = λ t e r. go t e r (stands_as t e (shape.Combine x next) r z) }
        where
          go : (t : Table) (e : Expr) → Reads T left at t e → HasShape at e (shape.Combine x next) → Says W' o t e
          go t e r w =
              let a = w.0 in
              let b = w.1 in
              let r' = subst (Reads T left at t) w.2 r in
              let en = w.3 in
              subst (Says W' o t) (sym w.2)
              (shows_at W' o (next + length (code_of a) + length (code_of b)) (at + length (code_of (combine (operation_of x) a b))) _ (omega (arith, combine_end T left at t nz (operation_of x) a b r'))
              (y.is t a b
              (subst (λ (p : ℕ). Reads T (left - 1) p t a) (sym en) (operand_reads T left at t nz (operation_of x) a b r'))
              (subst (λ (p : ℕ). Reads T (left - 1) (p + length (code_of a)) t b) (sym en) (other_reads T left at t nz (operation_of x) a b r'))))

      pub eval_at_choose : s ≡ shape.Choose next → Chooses T W f tr top next (left - 1) objects d sp fuel W' o → Evaluates T W f tr top at left objects d sp fuel W' o
      eval_at_choose z y = record { kept = y.kept; older = y.older; is = λ t e r. go t e r (stands_as t e (shape.Choose next) r z) }
        where
          go : (t : Table) (e : Expr) → Reads T left at t e → HasShape at e (shape.Choose next) → Says W' o t e
          go t e r w =
              let c = w.0 in
              let a = w.1 in
              let b = w.2 in
              let r' = subst (Reads T left at t) w.3 r in
              let en = w.4 in
              subst (Says W' o t) (sym w.3)
              (shows_at W' o (next + length (code_of c) + length (code_of a) + length (code_of b)) (at + length (code_of (choose c a b))) _ (omega (arith, choose_end T left at t nz c a b r'))
              (y.is t c a b
              (subst (λ (p : ℕ). Reads T (left - 1) p t c) (sym en) (number_reads T left at t nz c a b r'))
              (subst (λ (p : ℕ). Reads T (left - 1) (p + length (code_of c)) t a) (sym en) (branch_reads T left at t nz c a b r'))
              (subst (λ (p : ℕ). Reads T (left - 1) (p + length (code_of c) + length (code_of a)) t b) (sym en) (zero_reads T left at t nz c a b r'))))
