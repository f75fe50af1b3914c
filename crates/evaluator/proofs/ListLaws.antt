-- Fields, lists and new objects, as the language has them: one law for each return of the code.
-- Not here: what the functions do (FieldLaws, WalkLaws, NewSteps).
use Rattle.std.specs.declared.option.Option.{Option as RustOption}
use Rattle.std.specs.declared.option.Option.TheVariants.{Some, None}
use Rattle.std.proofs.Common.{ℕ, zero, suc, ◌+◌, ◌-◌, ◌≤◌, ◌<◌, arith, ◌≡◌, refl, sym, ap, ◌∙◌, subst, Bool, true, false, List, ◌∷◌, eqb, length, eq-eqb, ne_eqb}
use Rattle.std.proofs.Math.Option.{Option, none, some}
use Rattle.classes.specs.Machine.{total_of}
use Rattle.classes.specs.Layout.{Tabled}
use Rattle.cofj.specs.Syntax.{Expr, field, new, Exprs, done, also, count, Table}
use Rattle.cofj.specs.Classes.{fields_of}
use Rattle.cofj.specs.Writing.{codes_of}
use Rattle.cofj.specs.Values.{Graph, select, make}
use Rattle.cofj.specs.Running as language
use Rattle.cofj.specs.Running.{Outcome, value, stopped, ◌then◌, or_stuck, eval, evals, sized}
use Rattle.classes.proofs.OnTables.{total_on}
use Rattle.values.specs.declared.ValueRef.{ValueRef}
use Rattle.values.specs.Layout.{value_of, Low}
use Rattle.values.specs.Operations.{answer_in, AnswerHeld, AnswerLow, selected_ref, Chosen}
use Rattle.maker.specs.Laying.{values_from}
use Rattle.evaluator.specs.declared.Stop.{Stop}
use Rattle.evaluator.specs.declared.Stop.TheVariants.{Stuck}
use Rattle.evaluator.specs.declared.frame.Frame.{Frame}
use Rattle.evaluator.specs.declared.trace.Trace.{Trace}
use Rattle.evaluator.specs.State.{Older, slot_at, PartsOlder, Kept, frame_in, trace_in}
use Rattle.evaluator.specs.Answers.{Out, Value, Halt, Listed, Values, Stops, stop_of, slots_of, front_of, list_in, ListOlder, ListNext, ShowsAll, Finishes}
use Rattle.evaluator.specs.Evaluation.{ReadsAll, Reads, eval_in, evals_in, ListFits, Evaluates, Fields, Lists, News}
use Rattle.evaluator.proofs.Keeping.{kept_none, kept_then, value_kept, older_kept, older_up, parts_up, frame_same, trace_same}
use Rattle.evaluator.proofs.Standing.{first_reads, others_read, also_end}
use Rattle.evaluator.proofs.Given.{going_on, halted, given, given_next, given_older}

-- ---- a field: the expression at `at` was evaluated to o
module _ (T W : List ℕ) (f : Frame) (tr : Trace) (top at left objects d sp fuel k : ℕ) (W1 : List ℕ) (o : Out) (ev : Evaluates T W f tr top at left objects d sp fuel W1 o) where
  pub field_halt : (s : Stop) (fuel1 : ℕ) → o ≡ Halt s fuel1 → Fields T W f tr top at left objects d sp fuel k W1 o
  unfolding eval
  field_halt s fuel1 eo = subst (Fields T W f tr top at left objects d sp fuel k W1) (sym eo) (record {
    kept = ev.kept;
    older = tt;
    is = λ t e r. record {
      is = going_on (stopped (stop_of s) fuel1) (eval_in objects d t (frame_in W f) (trace_in W tr top) e fuel) (λ v n'. or_stuck (select k v) n') (halted T W f tr top at left objects d sp fuel W1 o ev s fuel1 eo t e r);
      next = tt;
    };
  })

  module _ (v : ValueRef) (at1 fuel1 : ℕ) (eo : o ≡ Value v at1 fuel1) (x : RustOption ValueRef) (ch : Chosen W1 v k x) where
    chosen : (t : Table) (e : Expr) → Reads T left at t e → (y : Option Graph) → y ≡ select k (value_of W1 v)
        → or_stuck y fuel1 ≡ eval_in objects d t (frame_in W f) (trace_in W tr top) (field k e) fuel
    unfolding eval
    chosen t e r y q =
        ap (λ (z : Option Graph). or_stuck z fuel1) q
        ∙ going_on (value (value_of W1 v) fuel1) (eval_in objects d t (frame_in W f) (trace_in W tr top) e fuel) (λ u n'. or_stuck (select k u) n') (given T W f tr top at left objects d sp fuel W1 o ev v at1 fuel1 eo t e r)

    pub field_none : x ≡ None → Fields T W f tr top at left objects d sp fuel k W1 (Halt Stuck fuel1)
    field_none ex = record {
      kept = ev.kept;
      older = tt;
      is = λ t e r. record { is = chosen t e r none (sym (ap (λ (y : RustOption ValueRef). answer_in W1 (selected_ref y)) ex) ∙ ch.is); next = tt };
    }

    pub field_some : (r : ValueRef) → x ≡ Some r → Fields T W f tr top at left objects d sp fuel k W1 (Value r at1 fuel1)
    field_some u ex = record {
      kept = ev.kept;
      older = record { held = subst (λ (y : RustOption ValueRef). AnswerHeld W1 (selected_ref y)) ex ch.held; low = subst (λ (y : RustOption ValueRef). AnswerLow (sp + 1) (selected_ref y)) ex (ch.place (sp + 1) (given_older T W f tr top at left objects d sp fuel W1 o ev v at1 fuel1 eo).low) };
      is = λ t e r. record {
        is = chosen t e r (some (value_of W1 u)) (sym (ap (λ (y : RustOption ValueRef). answer_in W1 (selected_ref y)) ex) ∙ ch.is);
        next = given_next T W f tr top at left objects d sp fuel W1 o ev v at1 fuel1 eo t e r;
      };
    }

-- ---- a list
-- a value in front of m others, m at most 3
front_values : (W : List ℕ) (v a b c e : ValueRef) (m : ℕ) → m ≤ 3 → values_from W (slots_of v a b c) 0 (suc m) ≡ value_of W v ∷ values_from W (slots_of a b c e) 0 m
unfolding values_from
front_values W v a b c e zero h = refl
front_values W v a b c e (suc zero) h = refl
front_values W v a b c e (suc (suc zero)) h = refl
front_values W v a b c e (suc (suc (suc zero))) h = refl
front_values W v a b c e (suc (suc (suc (suc m)))) h = absurd (omega arith)

front_older : (W : List ℕ) (sp : ℕ) (v a b c e : ValueRef) (m : ℕ) → m ≤ 3 → Older W sp v → PartsOlder W sp (slots_of a b c e) m → PartsOlder W sp (slots_of v a b c) (suc m)
front_older W sp v a b c e m h ov ps = record { full = omega arith; part = λ i l. go i l }
  where
    go : (i : ℕ) → i < suc m → Older W sp (slot_at (slots_of v a b c) i)
    go zero l = ov
    go (suc zero) l = ps.part 0 (omega arith)
    go (suc (suc zero)) l = ps.part 1 (omega arith)
    go (suc (suc (suc zero))) l = ps.part 2 (omega arith)
    go (suc (suc (suc (suc i)))) l = absurd (omega arith)

-- the first of a list, and the others, by what they give
module _ (objects d : ℕ) (t : Table) (p : language.Frame) (os : List language.OpenCall) (e : Expr) (es : Exprs) (fuel : ℕ) where
  first_stops : (s : language.Stop) (fuel1 : ℕ) → stopped s fuel1 ≡ eval_in objects d t p os e fuel → stopped s fuel1 ≡ evals_in objects d t p os (also e es) fuel
  unfolding evals
  first_stops s fuel1 q = going_on (stopped s fuel1) (eval_in objects d t p os e fuel) (λ v n'. evals_in objects d t p os es n' then λ vs n''. value (v ∷ vs) n'') q

  others_follow : (g : Graph) (fuel1 : ℕ) (y : Outcome (List Graph)) → value g fuel1 ≡ eval_in objects d t p os e fuel → y ≡ evals_in objects d t p os es fuel1
      → (y then λ vs n''. value (g ∷ vs) n'') ≡ evals_in objects d t p os (also e es) fuel
  unfolding evals
  others_follow g fuel1 y q z =
      going_on y (evals_in objects d t p os es fuel1) (λ vs n''. value (g ∷ vs) n'') z
      ∙ going_on (value g fuel1) (eval_in objects d t p os e fuel) (λ v n'. evals_in objects d t p os es n' then λ vs n''. value (v ∷ vs) n'') q

none_given : (W : List ℕ) (a b c e : ValueRef) (objects d : ℕ) (t : Table) (p : language.Frame) (os : List language.OpenCall) (at fuel : ℕ) (es : Exprs) → count es ≡ 0
    → ShowsAll W 0 (Values a b c e at fuel) (at + length (codes_of es)) (evals_in objects d t p os es fuel)
unfolding evals codes_of values_from
none_given W a b c e objects d t p os at fuel done q = record { is = refl; next = omega arith }
none_given W a b c e objects d t p os at fuel (also x xs) q = absurd (omega arith)

module _ (T W : List ℕ) (f : Frame) (tr : Trace) (top at left objects d sp fuel n : ℕ) where
  pub list_zero : (a b c e : ValueRef) → n ≡ 0 → Lists T W f tr top at left objects d sp fuel n W (Values a b c e at fuel)
  list_zero a b c e z = subst (λ (m : ℕ). Lists T W f tr top at left objects d sp fuel m W (Values a b c e at fuel)) (sym z) (record {
    kept = kept_none sp W;
    older = record { full = omega arith; part = λ i h. absurd (omega arith) };
    is = λ t es r k. none_given W a b c e objects d t (frame_in W f) (trace_in W tr top) at fuel es k;
  })

  module _ (fit : ListFits W f tr top left objects d sp n) (nz : n ≡ 0 → ⊥) (W1 : List ℕ) (o : Out) (ev : Evaluates T W f tr top at left objects d sp fuel W1 o) where
    pub list_halt : (s : Stop) (fuel1 : ℕ) (l : Listed) → o ≡ Halt s fuel1 → l ≡ Stops s fuel1 → Lists T W f tr top at left objects d sp fuel n W1 l
    list_halt s fuel1 l eo el = subst (Lists T W f tr top at left objects d sp fuel n W1) (sym el) (record { kept = ev.kept; older = tt; is = go })
      where
        go : (t : Table) (es : Exprs) → ReadsAll T left at t es → count es ≡ n
            → ShowsAll W1 n (Stops s fuel1) (at + length (codes_of es)) (evals_in objects d t (frame_in W f) (trace_in W tr top) es fuel)
        go t done r c = absurd (nz (sym c))
        go t (also e es) r c = record {
          is = first_stops objects d t (frame_in W f) (trace_in W tr top) e es fuel (stop_of s) fuel1 (halted T W f tr top at left objects d sp fuel W1 o ev s fuel1 eo t e (first_reads T left at t e es r));
          next = tt;
        }

    -- the others from block b on, which is sp if the first does not lie there, or the next
    module _ (v : ValueRef) (at1 fuel1 : ℕ) (eo : o ≡ Value v at1 fuel1) (b : ℕ) (from : sp ≤ b) (to : b ≤ sp + 1) (lv : Low b v)
        (W2 : List ℕ) (l : Listed) (li : Lists T W1 f tr top at1 left objects d b fuel1 (n - 1) W2 l) where
      pub list_more : (x : Listed) → x ≡ front_of v l → Lists T W f tr top at left objects d sp fuel n W2 x
      list_more x ex = subst (Lists T W f tr top at left objects d sp fuel n W2) (sym ex) (record { kept = kept_both; older = older_all l li.older; is = shows })
        where
          kept_both : Kept sp W W2
          kept_both = kept_then sp b W W1 W2 (omega arith) ev.kept li.kept

          first_older : Older W1 b v
          first_older = record { held = (given_older T W f tr top at left objects d sp fuel W1 o ev v at1 fuel1 eo).held; low = lv }

          suc_n : suc (n - 1) ≡ n
          suc_n = omega (arith, nz)

          few : n - 1 ≤ 3
          few = let h = fit.few in omega arith

          older_all : (y : Listed) → ListOlder W2 (b + (n - 1)) (n - 1) y → ListOlder W2 (sp + n) n (front_of v y)
          older_all (Values x y z e q k) ps =
              subst (PartsOlder W2 (sp + n) (slots_of v x y z)) suc_n
              (front_older W2 (sp + n) v x y z e (n - 1) few (older_up W2 b (sp + n) (omega (arith, nz)) v (older_kept W1 W2 b li.kept v first_older))
              (parts_up W2 (b + (n - 1)) (sp + n) (omega (arith, nz)) (slots_of x y z e) (n - 1) ps))
          older_all (Stops s k) ps = tt

          -- what the front gives, of what the others give
          front_in : (y : Listed) → list_in W2 n (front_of v y) ≡ (list_in W2 (n - 1) y then λ vs n''. value (value_of W1 v ∷ vs) n'')
          front_in (Values x y z e q k) =
              ap (λ (u : List Graph). value u k)
              (ap (values_from W2 (slots_of v x y z) 0) (sym suc_n) ∙ front_values W2 v x y z e (n - 1) few
              ∙ ap (λ (g : Graph). g ∷ values_from W2 (slots_of x y z e) 0 (n - 1)) (value_kept W1 W2 b li.kept v first_older))
          front_in (Stops s k) = refl

          front_next : (y : Listed) (p q : ℕ) → p ≡ q → ListNext y p → ListNext (front_of v y) q
          front_next (Values x y u e z k) p q h g = g ∙ h
          front_next (Stops s k) p q h g = tt

          shows : (t : Table) (es : Exprs) → ReadsAll T left at t es → count es ≡ n
              → ShowsAll W2 n (front_of v l) (at + length (codes_of es)) (evals_in objects d t (frame_in W f) (trace_in W tr top) es fuel)
          shows t done r c = absurd (nz (sym c))
          shows t (also e es) r c =
              let r1 = first_reads T left at t e es r in
              let a1 = given_next T W f tr top at left objects d sp fuel W1 o ev v at1 fuel1 eo t e r1 in
              let r2 = subst (λ (p : ℕ). ReadsAll T left p t es) (sym a1) (others_read T left at t e es r) in
              let z = li.is t es r2 (omega arith) in
              let ef = frame_same W W1 sp ev.kept f fit.frame in
              let et = trace_same W W1 sp ev.kept tr top fit.trace in
              let same : evals_in objects d t (frame_in W1 f) (trace_in W1 tr top) es fuel1 ≡ evals_in objects d t (frame_in W f) (trace_in W tr top) es fuel1 = (λ i. evals_in objects d t (ef i) (et i) es fuel1) in
              record {
                is = front_in l ∙ others_follow objects d t (frame_in W f) (trace_in W tr top) e es fuel (value_of W1 v) fuel1 (list_in W2 (n - 1) l) (given T W f tr top at left objects d sp fuel W1 o ev v at1 fuel1 eo t e r1) (z.is ∙ same);
                next = front_next l (at1 + length (codes_of es)) (at + length (codes_of (also e es))) (ap (λ (p : ℕ). p + length (codes_of es)) a1 ∙ also_end T left at t e es r) z.next;
              }

-- ---- a new object: x is the number of the class's fields
new_by : (objects d : ℕ) (t : Table) (p : language.Frame) (os : List language.OpenCall) (c : ℕ) (es : Exprs) (fuel : ℕ) (b : Bool) → eqb (length (fields_of t.classes c)) (count es) ≡ b
    → eval_in objects d t p os (new c es) fuel ≡ (elim b as (λ _. Outcome Graph) [ true ↦ evals_in objects d t p os es fuel then λ vs m. sized objects (make c vs) m | false ↦ stopped language.stuck fuel ])
unfolding eval
new_by objects d t p os c es fuel b q =
    ap (λ (x : Bool). elim x as (λ _. Outcome Graph) [ true ↦ evals_in objects d t p os es fuel then λ vs m. sized objects (make c vs) m | false ↦ stopped language.stuck fuel ]) q

module _ (T W : List ℕ) (f : Frame) (tr : Trace) (top at left objects d sp fuel c n x : ℕ) (ex : x ≡ total_of T c) where
  total : (t : Table) → Tabled T t → x ≡ length (fields_of t.classes c)
  total t tb = ex ∙ ap (λ (B : List ℕ). total_of B c) tb.bytes ∙ total_on t tb.formed c

  pub new_other : (x ≡ n → ⊥) → News T W f tr top at left objects d sp fuel c n W (Halt Stuck fuel)
  new_other h = record {
    kept = kept_none sp W;
    older = tt;
    is = λ t es r k l. record {
      is = sym (new_by objects d t (frame_in W f) (trace_in W tr top) c es fuel false (ne_eqb (length (fields_of t.classes c)) (count es) (λ z. h (total t r.table ∙ z ∙ k))));
      next = tt;
    };
  }

  pub new_many : x ≡ n → 4 < n → News T W f tr top at left objects d sp fuel c n W (Halt Stuck fuel)
  new_many h m = record {
    kept = kept_none sp W;
    older = tt;
    is = λ t es r k l. absurd (let b = r.table.formed.fields c l in let z = total t r.table in omega arith);
  }

  pub new_is : x ≡ n → (W1 : List ℕ) (y : Listed) (W2 : List ℕ) (o : Out) → Lists T W f tr top at left objects d sp fuel n W1 y → Finishes W1 c y n objects sp W2 o
      → News T W f tr top at left objects d sp fuel c n W2 o
  new_is h W1 y W2 o li fi = record {
    kept = kept_then sp sp W W1 W2 (omega arith) li.kept fi.kept;
    older = fi.older;
    is = λ t es r k l. let z = li.is t es r k in record {
      is = fi.is ∙ going_on (list_in W1 n y) (evals_in objects d t (frame_in W f) (trace_in W tr top) es fuel) (λ vs m. sized objects (make c vs) m) z.is
          ∙ sym (new_by objects d t (frame_in W f) (trace_in W tr top) c es fuel true (eq-eqb (length (fields_of t.classes c)) (count es) (sym (total t r.table) ∙ h ∙ sym k)));
      next = fi.next (at + length (codes_of es)) z.next;
    };
  }
