-- The type of an expression in the bytes of a table is the language's. Not here: methods and main (Programs).
use Rattle.std.proofs.Common.{ℕ, zero, suc, ◌+◌, ◌<◌, arith, ◌≡◌, refl, sym, ap, ◌∙◌, Bool, true, false, ◌&&◌, cond, List, ◌++◌, map, eqb, leb, length, length-append, eqb-true, Some, None}
use Rattle.std.proofs.Math.Option.{Option, none, some}
use Rattle.std.proofs.Math.ListN.{get_elem?}
use borrow.Author.Tests.{eqb-false}
use Rattle.cofj.specs.Limits.{method_count}
use Rattle.std.specs.declared.option.Option.{Option as RustOption}
use Rattle.cofj.specs.Partial.{◌>>=◌, guard}
use Rattle.cofj.specs.Syntax.{Expr, this, res, param, field, call, new, literal, combine, choose, Exprs, count, Ty, ty, Method, Table}
use Rattle.cofj.specs.Classes.{fields_of}
use Rattle.cofj.specs.Lookup as language
use Rattle.cofj.specs.Lookup.{lookup}
use Rattle.cofj.specs.Typing.{Env, all_closed, narrow, all_fit, field_type, call_type, new_type, type_of, types_of}
use Rattle.cofj.specs.Tables.{expr_known, exprs_known}
use Rattle.cofj.specs.Writing.{code_of, codes_of}
use Rattle.cofj.specs.Nesting.{Each, Parts, Nested}
use Rattle.cofj.specs.WellFormed.{MethodFormed, WellFormed}
use Rattle.cofj.proofs.Partial.{and_true}
use Rattle.classes.specs.declared.chain.FieldType.{FieldType}
use Rattle.classes.specs.declared.methods.Found.{Found}
use Rattle.classes.specs.Machine.{pick, found_at as method_at_place, field_of, param_of, lookup_of, counted, method_with}
use Rattle.classes.specs.Layout.{layout, Stands, bytes_of}
use Rattle.classes.specs.Layout as lay
use Rattle.classes.proofs.Zones.{stands_front, stands_after, param_count_at, first_at, second_at}
use Rattle.classes.proofs.Lists.{index_below, method_at}
use Rattle.classes.proofs.OnTables.{field_on, total_on, lookup_on}
use Rattle.classes.proofs.ShapesOn.{shape_on, field_part, call_parts, new_parts, combine_parts, choose_parts}
use Rattle.checker.specs.Items.{Parameters, Fields}
use Rattle.checker.specs.declared.scope.Typed.{Typed}
use Rattle.checker.specs.declared.scope.Scope.{Scope}
use Rattle.checker.specs.Listed.{Listed}
use Rattle.classes.specs.Shapes.{shape_at}
use Rattle.checker.specs.Types.{has, found_at, this_of, res_of, param_var, receiver_of, result_of}
use Rattle.checker.specs.Machine.{Walk, typed, list_by, field_by, args_then, args_by, called_by, call_by, new_then, new_by, step_by, type_in}
use Rattle.checker.specs.Answers.{typed_at}
use Rattle.checker.proofs.Known.{KnownEnv}
use Rattle.checker.proofs.OnBytes.{param_on}
use Rattle.checker.proofs.NumbersOn.{found_typed, none_after, combine_on, choose_on}
use Rattle.checker.proofs.Lists.{listed_at, Finds, unfit, length-narrow, narrow_same, types-length, list_on}

-- a scope of the code says what an environment of the language says
pub record Agree (t : Table) (s : Scope) (in_main : Bool) (g : Env) : Type 0 where
  pub main : s.main ≡ in_main
  pub this : (next : ℕ) → this_of (layout t) s next ≡ typed_at g.this next
  pub res : (next : ℕ) → res_of s next ≡ typed_at g.res next
  pub param : (k next : ℕ) → param_var (layout t) s k next ≡ typed_at (get_elem? g.params k) next
  pub known : KnownEnv (length t.classes) g

module _ (t : Table) (wf : WellFormed t) where
  -- ---- a field of a receiver
  field_of_lem : (o : Option Ty) (f next : ℕ) → typed (typed_at o next) (λ d to. pick (eqb d.tag 0) (found_at (field_of (layout t) d.class f) to) None) ≡ typed_at (o >>= λ u. field_type t u f) next
  unfolding field_type
  field_of_lem none f next = refl
  field_of_lem (some u) f next = go (eqb u.tag 0)
    where
      go : (b : Bool) → pick b (found_at (field_of (layout t) u.cls f) next) None ≡ typed_at (guard b >>= λ _. get_elem? (fields_of t.classes u.cls) f) next
      go true = ap (λ (x : RustOption FieldType). found_at x next) (field_on t wf u.cls f) ∙ found_typed (get_elem? (fields_of t.classes u.cls) f) next
      go false = refl

  -- ---- the arguments of a call of method i, which is d
  module _ (i : ℕ) (d : Method) (l : i < method_count) (e : get_elem? t.methods i ≡ some d) (in_main : Bool) (end : ℕ) where
    result_is : (b : Bool) → has (result_of (layout t) b i) end ≡ typed_at (some (cond b d.first d.second)) end
    result_is true = ap (λ (u : FieldType). has u end) (first_at t i d l e)
    result_is false = ap (λ (u : FieldType). has u end) (second_at t i d l e)

    args_is : (os : Option (List Ty)) → args_then (layout t) in_main i (listed_at t os d.params true end)
        ≡ typed_at (os >>= λ us. guard (all_closed us && all_fit t us d.params) >>= λ _. some (cond in_main d.first d.second)) end
    args_is none = refl
    args_is (some us) = go (all_closed us) refl
      where
        fitting : (b : Bool) → args_then (layout t) in_main i (pick b (Listed.Past true end) Listed.No)
            ≡ typed_at (guard b >>= λ _. some (cond in_main d.first d.second)) end
        fitting true = result_is in_main
        fitting false = refl

        open_ended : (b : Bool) → args_then (layout t) in_main i (pick b (Listed.Past false end) Listed.No) ≡ None
        open_ended true = refl
        open_ended false = refl

        go : (b : Bool) → all_closed us ≡ b → args_then (layout t) in_main i (pick (all_fit t (map narrow us) d.params) (Listed.Past b end) Listed.No)
            ≡ typed_at (guard (b && all_fit t us d.params) >>= λ _. some (cond in_main d.first d.second)) end
        go true q = rw (narrow_same us q) (fitting (all_fit t us d.params))
        go false q = open_ended (all_fit t (map narrow us) d.params)

  -- ---- the values of a new object
  new_is : (c end : ℕ) (os : Option (List Ty)) → new_then c (listed_at t os (fields_of t.classes c) true end) ≡ typed_at (os >>= λ us. new_type t c us) end
  unfolding new_type
  new_is c end none = refl
  new_is c end (some us) = go (all_closed us) refl
    where
      fitting : (b : Bool) → new_then c (pick b (Listed.Past true end) Listed.No) ≡ typed_at (guard b >>= λ _. some (ty c 0)) end
      fitting true = refl
      fitting false = refl

      fitting_open : (b : Bool) → new_then c (pick b (Listed.Past false end) Listed.No) ≡ typed_at (guard b >>= λ _. some (ty c 1)) end
      fitting_open true = refl
      fitting_open false = refl

      go : (b : Bool) → all_closed us ≡ b → new_then c (pick (all_fit t (map narrow us) (fields_of t.classes c)) (Listed.Past b end) Listed.No)
          ≡ typed_at (elim b as (λ _. Option Ty) [
            | true ↦ guard (all_fit t us (fields_of t.classes c)) >>= λ _. some (ty c 0)
            | false ↦ guard (all_fit t (map narrow us) (fields_of t.classes c)) >>= λ _. some (ty c 1)
          ]) end
      go true q = rw (narrow_same us q) (fitting (all_fit t us (fields_of t.classes c)))
      go false q = fitting_open (all_fit t (map narrow us) (fields_of t.classes c))

  -- a wrong count has no type
  new_other : (c : ℕ) (us : List Ty) → (length us ≡ length (fields_of t.classes c) → ⊥) → new_type t c us ≡ none
  unfolding new_type
  new_other c us h = go (all_closed us)
    where
      go : (b : Bool) → ◌≡◌ {A = Option Ty} (elim b [
        | true ↦ guard (all_fit t us (fields_of t.classes c)) >>= λ _. some (ty c 0)
        | false ↦ guard (all_fit t (map narrow us) (fields_of t.classes c)) >>= λ _. some (ty c 1)
      ]) none
      go true = rw (unfit t us (fields_of t.classes c) h)
      go false = rw (unfit t (map narrow us) (fields_of t.classes c) (λ z. h (sym (length-narrow us) ∙ z)))

  args_other : (in_main : Bool) (d : Method) (us : List Ty) → (length us ≡ length d.params → ⊥)
      → (guard (all_closed us && all_fit t us d.params) >>= λ _. some (cond in_main d.first d.second)) ≡ none
  args_other in_main d us h = rw (unfit t us d.params h) (go (all_closed us))
    where
      go : (b : Bool) → (guard (b && false) >>= λ _. some (cond in_main d.first d.second)) ≡ none
      go true = refl
      go false = refl

-- ---- one step: `one` finds the types of what is nested less deep
module _ (t : Table) (wf : WellFormed t) (in_main : Bool) (g : Env) (kg : KnownEnv (length t.classes) g) (P : Expr → Type 0) (one : Walk) (ih : Finds t in_main g P one) where
  -- the type of a call of m on a receiver of type u
  abbrev call_of : Option (List Ty) → Ty → ℕ → Option Ty
  call_of os u m = os >>= λ us. call_type t in_main u m us

  -- the arguments es stand at a1; the method was found
  module _ (es : Exprs) (each : Each P es) (kn : exprs_known (length t.classes) es ≡ true) (a1 : ℕ) (st : Stands (layout t) a1 (codes_of es)) where
    counted_is : (o i : ℕ) (d : Method) → get_elem? t.methods i ≡ some d
        → called_by (layout t) one in_main (count es) a1 (counted (layout t) (count es) (Some (method_at_place o i)))
        ≡ typed_at (types_of t in_main g es >>= λ us. guard (all_closed us && all_fit t us d.params) >>= λ _. some (cond in_main d.first d.second)) (a1 + length (codes_of es))
    unfolding args_by
    counted_is o i d e = rw (param_count_at t i d l e) (go (eqb (length d.params) (count es)) refl)
      where
        l : i < method_count
        l = let a = index_below t.methods i d e in let b = wf.count in omega arith

        go : (b : Bool) → eqb (length d.params) (count es) ≡ b
            → called_by (layout t) one in_main (count es) a1 (pick b (Some (method_at_place o i)) None)
            ≡ typed_at (types_of t in_main g es >>= λ us. guard (all_closed us && all_fit t us d.params) >>= λ _. some (cond in_main d.first d.second)) (a1 + length (codes_of es))
        go true q =
            let r = method_at (MethodFormed t) t.methods i d wf.methods e in
            ap (args_then (layout t) in_main i)
            (list_on t wf in_main g kg P one ih (Parameters i) es d.params 0 a1 true
            (λ j. ap (λ (x : ℕ). param_of (layout t) i x) (let z : 0 + j ≡ j = omega arith in z) ∙ param_on t i d l e r.few j)
            (sym (eqb-true (length d.params) (count es) q)) each kn st)
            ∙ args_is t wf i d l e in_main (a1 + length (codes_of es)) (types_of t in_main g es)
        go false q =
            ap (λ (o : Option Ty). typed_at o (a1 + length (codes_of es)))
            (sym (none_after (types_of t in_main g es) (λ us. guard (all_closed us && all_fit t us d.params) >>= λ _. some (cond in_main d.first d.second))
            (λ us z. args_other t wf in_main d us (λ y. eqb-false (length d.params) (count es) q (sym y ∙ types-length t in_main g es us z)))))

    found_is : (f : RustOption Found) (x : Option language.Found) → lay.Finds t.methods f x
        → called_by (layout t) one in_main (count es) a1 (counted (layout t) (count es) f)
        ≡ typed_at (types_of t in_main g es >>= λ us. x >>= λ h. guard (all_closed us && all_fit t us h.body.params) >>= λ _. some (cond in_main h.body.first h.body.second)) (a1 + length (codes_of es))
    found_is f x (lay.Finds.at {o} {i} {d} e) = counted_is o i d e
    found_is f x lay.Finds.nothing = ap (λ (o : Option Ty). typed_at o (a1 + length (codes_of es))) (sym (none_after (types_of t in_main g es) (λ us. none) (λ us z. refl)))

    called_is : (u : Ty) (m : ℕ) → m < 256 → called_by (layout t) one in_main (count es) a1 (receiver_of (layout t) (bytes_of u) m (count es)) ≡ typed_at (call_of (types_of t in_main g es) u m) (a1 + length (codes_of es))
    unfolding receiver_of method_with call_type
    called_is u m small = go (eqb u.tag 0)
      where
        go : (b : Bool) → called_by (layout t) one in_main (count es) a1 (pick b (counted (layout t) (count es) (lookup_of (layout t) u.cls m)) None)
            ≡ typed_at (types_of t in_main g es >>= λ us. guard b >>= λ _. lookup t u.cls m >>= λ h. guard (all_closed us && all_fit t us h.body.params) >>= λ _. some (cond in_main h.body.first h.body.second)) (a1 + length (codes_of es))
        go true = found_is (lookup_of (layout t) u.cls m) (lookup t u.cls m) (lookup_on t wf m small u.cls)
        go false = ap (λ (o : Option Ty). typed_at o (a1 + length (codes_of es))) (sym (none_after (types_of t in_main g es) (λ us. none) (λ us z. refl)))

    call_is : (o : Option Ty) (m : ℕ) → m < 256 → typed (typed_at o a1) (λ d next. called_by (layout t) one in_main (count es) next (receiver_of (layout t) d m (count es)))
        ≡ typed_at (o >>= λ u. call_of (types_of t in_main g es) u m) (a1 + length (codes_of es))
    call_is none m small = refl
    call_is (some u) m small = called_is u m small

    object_is : (c : ℕ) → new_by (layout t) one c (count es) a1 ≡ typed_at (types_of t in_main g es >>= λ us. new_type t c us) (a1 + length (codes_of es))
    unfolding new_by
    object_is c = rw (total_on t wf c) (go (eqb (length (fields_of t.classes c)) (count es)) refl)
      where
        go : (b : Bool) → eqb (length (fields_of t.classes c)) (count es) ≡ b
            → pick b (new_then c (list_by (layout t) one (Fields c) 0 (count es) true a1)) None ≡ typed_at (types_of t in_main g es >>= λ us. new_type t c us) (a1 + length (codes_of es))
        go true q =
            ap (new_then c)
            (list_on t wf in_main g kg P one ih (Fields c) es (fields_of t.classes c) 0 a1 true
            (λ j. ap (λ (x : ℕ). field_of (layout t) c x) (let z : 0 + j ≡ j = omega arith in z) ∙ field_on t wf c j)
            (sym (eqb-true (length (fields_of t.classes c)) (count es) q)) each kn st)
            ∙ new_is t wf c (a1 + length (codes_of es)) (types_of t in_main g es)
        go false q =
            ap (λ (o : Option Ty). typed_at o (a1 + length (codes_of es)))
            (sym (none_after (types_of t in_main g es) (λ us. new_type t c us)
            (λ us z. new_other t wf c us (λ y. eqb-false (length (fields_of t.classes c)) (count es) q (sym y ∙ types-length t in_main g es us z)))))

  -- ---- an expression, by what stands at its place
  module _ (s : Scope) (ag : Agree t s in_main g) where
    pub step_on : (e : Expr) (at : ℕ) → Parts P e → expr_known (length t.classes) e ≡ true → Stands (layout t) at (code_of e)
        → step_by (layout t) one s (shape_at (layout t) at) ≡ typed_at (type_of t in_main g e) (at + length (code_of e))
    unfolding code_of type_of expr_known field_by call_by
    step_on this at p kn st = ap (step_by (layout t) one s) (shape_on t this at st) ∙ ag.this (at + 1)
    step_on res at p kn st = ap (step_by (layout t) one s) (shape_on t res at st) ∙ ag.res (at + 1)
    step_on (param k) at p kn st = ap (step_by (layout t) one s) (shape_on t (param k) at st) ∙ ag.param k (at + 2)
    step_on (field f e) at p kn st =
        ap (step_by (layout t) one s) (shape_on t (field f e) at st)
        ∙ ap (λ (o : RustOption Typed). typed o (λ d to. pick (eqb d.tag 0) (found_at (field_of (layout t) d.class f) to) None))
        (ih.types e (at + 2) p kn (field_part t at f e st))
        ∙ field_of_lem t wf (type_of t in_main g e) f (at + 2 + length (code_of e))
        ∙ ap (typed_at (type_of t in_main g (field f e))) (let z : at + 2 + length (code_of e) ≡ at + suc (suc (length (code_of e))) = omega arith in z)
    step_on (call m e es) at p kn st =
        let k = and_true (expr_known (length t.classes) e) (exprs_known (length t.classes) es) kn in
        let n = count es in
        let a1 = at + 3 + length (code_of e) in
        let after = call_parts t at m e es st in
        let l = length-append (code_of e) (codes_of es) in
        ap (step_by (layout t) one s) (shape_on t (call m e es) at st)
        ∙ ap (λ (b : Bool). call_by (layout t) one b m n (at + 3)) ag.main
        ∙ ap (λ (o : RustOption Typed). typed o (λ d next. called_by (layout t) one in_main n next (receiver_of (layout t) d m n)))
        (ih.types e (at + 3) p.1 k.0 (stands_front (layout t) (at + 3) (code_of e) (codes_of es) after))
        ∙ call_is es p.2 k.1 a1 (stands_after (layout t) (at + 3) (code_of e) (codes_of es) after) (type_of t in_main g e) m p.0
        ∙ ap (typed_at (type_of t in_main g (call m e es)))
        (let z : a1 + length (codes_of es) ≡ at + suc (suc (suc (length (code_of e ++ codes_of es)))) = omega arith in z)
    step_on (new c es) at p kn st =
        let k = and_true (leb c (length t.classes)) (exprs_known (length t.classes) es) kn in
        ap (step_by (layout t) one s) (shape_on t (new c es) at st)
        ∙ object_is es p k.1 (at + 3) (new_parts t at c es st) c
        ∙ ap (typed_at (type_of t in_main g (new c es))) (let z : at + 3 + length (codes_of es) ≡ at + suc (suc (suc (length (codes_of es)))) = omega arith in z)
    step_on (literal n) at p kn st = ap (step_by (layout t) one s) (shape_on t (literal n) at st)
    step_on (combine o x y) at p kn st =
        ap (step_by (layout t) one s) (shape_on t (combine o x y) at st)
        ∙ combine_on t wf in_main g P one ih x y (at + 1) p (and_true (expr_known (length t.classes) x) (expr_known (length t.classes) y) kn) (combine_parts t at o x y st)
        ∙ ap (typed_at (type_of t in_main g (combine o x y))) (let z : at + 1 + length (code_of x ++ code_of y) ≡ at + suc (length (code_of x ++ code_of y)) = omega arith in z)
    step_on (choose x y z) at p kn st =
        ap (step_by (layout t) one s) (shape_on t (choose x y z) at st)
        ∙ choose_on t wf in_main g P one ih kg x y z (at + 1) p kn (choose_parts t at x y z st)
        ∙ ap (typed_at (type_of t in_main g (choose x y z)))
        (let e : at + 1 + length (code_of x ++ (code_of y ++ code_of z)) ≡ at + suc (length (code_of x ++ (code_of y ++ code_of z))) = omega arith in e)

-- where the bytes of an expression stand that is nested at most `left` deep, its type is found, and the place after it
pub types_on : (t : Table) → WellFormed t → (s : Scope) (in_main : Bool) (g : Env) → Agree t s in_main g → (left : ℕ) → Finds t in_main g (Nested left) (type_in (layout t) left s)
unfolding type_in Nested
types_on t wf s in_main g ag zero = record { types = λ e at p kn st. absurd p }
types_on t wf s in_main g ag (suc left) = record {
  types = λ e at p kn st. step_on t wf in_main g ag.known (Nested left) (type_in (layout t) left s) (types_on t wf s in_main g ag left) s ag e at p kn st;
}
