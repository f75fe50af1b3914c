-- The check of a table's bytes is the language's check. Not here: that a table that was read is well formed (cofj, Readable).
use Rattle.std.proofs.Common.{ℕ, zero, suc, ◌+◌, ◌<◌, ◌≤◌, arith, ◌≡◌, refl, ap, ◌∙◌, subst, Bool, true, false, ◌&&◌, List, [], ◌∷◌, length, ne_eqb, Some, None, Err}
use Rattle.std.proofs.Math.Option.{Option, none, some, none-ne-some}
use Rattle.std.proofs.Math.ListN.{get_elem?}
use Rattle.std.specs.declared.option.Option.{Option as RustOption}
use Rattle.cofj.specs.declared.Refusal.TheVariants.{UntypedMethod}
use Rattle.cofj.specs.Limits.{method_count, nesting_limit}
use Rattle.cofj.specs.Partial.{◌>>=◌, guard, as_list}
use Rattle.cofj.specs.Syntax.{Ty, ty, Method, Table}
use Rattle.cofj.specs.Classes.{fits}
use Rattle.cofj.specs.Typing.{Env, close_tag, type_of, method_typed, methods_typed, main_type, main_or7, refused, check}
use Rattle.cofj.specs.TypingRules.{main_variables}
use Rattle.cofj.specs.Tables.{known, all_known}
use Rattle.cofj.specs.WellFormed.{MethodFormed, WellFormed}
use Rattle.cofj.specs.Writing.{code_of}
use Rattle.classes.specs.declared.chain.FieldType.{FieldType}
use Rattle.classes.specs.Machine.{pick, type_at, param_of, row_of, left_of, right_of, main_place}
use Rattle.classes.specs.Layout.{layout, bytes_of, found_type}
use Rattle.classes.proofs.Lists.{index_below, method_at}
use Rattle.classes.proofs.Zones.{method_count_at_lem, owner_at, first_at, second_at, left_stands, right_stands, main_stands, input_at}
use Rattle.checker.specs.declared.scope.Typed.{Typed}
use Rattle.checker.specs.Types.{tagged, has, fits_type, found_at, input_var}
use Rattle.checker.specs.Machine.{type_in}
use Rattle.checker.specs.Program.{body, in_main, fits_first, fits_second, results_fit, holds, right_typed, method_in, methods_from, methods_in, main_of, check_of}
use Rattle.checker.specs.Answers.{typed_at, answer_of}
use Rattle.checker.proofs.Known.{just, class_known, typed-known}
use Rattle.checker.proofs.OnBytes.{fits_on, param_on}
use Rattle.checker.proofs.NumbersOn.{found_typed}
use Rattle.checker.proofs.Expressions.{Agree, types_on}

-- whether an answer is there
abbrev there : Option (Unit {0}) → Bool
there none = false
there (some u) = true

guarded : (b : Bool) → b ≡ there (guard b)
guarded true = refl
guarded false = refl

-- the variables of a body
abbrev body_env : Method → Option Ty → Env
body_env d r = record { this = some (ty d.owner 0); res = r; params = d.params }

nowhere : {A : Type 0} (x : A) {B : Type 0} → ◌≡◌ {A = Option A} none (some x) → B
nowhere x e = absurd (none-ne-some x e)

-- ---- the variables of main
input_typed : (t : Table) (k next : ℕ) → input_var (layout t) k next ≡ typed_at (get_elem? (as_list t.input) k) next
input_typed t zero next = ap (λ (w : RustOption FieldType). found_at w next) (input_at t) ∙ go t.input
  where
    go : (i : Option Ty) → found_at (found_type i) next ≡ typed_at (get_elem? (as_list i) 0) next
    go none = refl
    go (some u) = refl
input_typed t (suc k) next = rw (ne_eqb (suc k) 0 (λ z. omega arith)) (go t.input)
  where
    go : (i : Option Ty) → None ≡ typed_at (get_elem? (as_list i) (suc k)) next
    go none = refl
    go (some u) = refl

input_known_lem : (n : ℕ) (i : Option Ty) → ((u : Ty) → i ≡ some u → u.cls ≤ n) → all_known n (as_list i) ≡ true
unfolding all_known
input_known_lem n none h = refl
input_known_lem n (some u) h = rw (class_known n u.cls (h u refl))

main_agree : (t : Table) → WellFormed t → Agree t in_main true (main_variables t.input)
main_agree t wf = record {
  main = refl;
  this = λ next. refl;
  res = λ next. refl;
  param = input_typed t;
  known = record { this = λ u e. nowhere u e; res = λ u e. nowhere u e; params = input_known_lem (length t.classes) t.input wf.input_known };
}

four : (a b c d : Bool) → pick a (pick b (pick c d false) false) false ≡ a && b && c && d
four true true true d = refl
four true true false d = refl
four true false c d = refl
four false b c d = refl

-- ---- method i, which is d
module _ (t : Table) (wf : WellFormed t) (i : ℕ) (d : Method) (e : get_elem? t.methods i ≡ some d) where
  abbrev n : ℕ
  n = length t.classes

  formed : MethodFormed t d
  formed = method_at (MethodFormed t) t.methods i d wf.methods e

  row : i < method_count
  row = let a = index_below t.methods i d e in let b = wf.count in omega arith

  self_known : (u : Ty) → some (ty d.owner 0) ≡ some u → known n u ≡ true
  self_known u z = subst (λ (v : Ty). known n v ≡ true) (just (ty d.owner 0) u z) (class_known n d.owner formed.owner_known)

  param_typed : (k next : ℕ) → found_at (param_of (layout t) i k) next ≡ typed_at (get_elem? d.params k) next
  param_typed k next = ap (λ (w : RustOption FieldType). found_at w next) (param_on t i d row e formed.few k) ∙ found_typed (get_elem? d.params k) next

  left_agree : Agree t (body i None) false (body_env d none)
  left_agree = record {
    main = refl;
    this = λ next. ap (λ (c : ℕ). has (tagged c 0) next) (owner_at t i d row e);
    res = λ next. refl;
    param = param_typed;
    known = record { this = self_known; res = λ u z. nowhere u z; params = formed.params_known };
  }

  right_agree : (c : ℕ) → known n (ty c 2) ≡ true → Agree t (body i (Some c)) false (body_env d (some (ty c 2)))
  right_agree c h = record {
    main = refl;
    this = λ next. ap (λ (x : ℕ). has (tagged x 0) next) (owner_at t i d row e);
    res = λ next. refl;
    param = param_typed;
    known = record {
      this = self_known;
      res = λ u z. subst (λ (v : Ty). known n v ≡ true) (just (ty c 2) u z) h;
      params = formed.params_known;
    };
  }

  -- the four conditions
  first_fits : (u : Ty) → known n u ≡ true → fits_first (layout t) i (bytes_of u) ≡ fits t.classes u d.first
  unfolding fits_first
  first_fits u h = ap (λ (x : FieldType). fits_type (layout t) (bytes_of u) x) (first_at t i d row e) ∙ fits_on t wf u d.first h

  second_fits : (u : Ty) → known n u ≡ true → fits_second (layout t) i (bytes_of u) ≡ fits t.classes u d.second
  unfolding fits_second
  second_fits u h = ap (λ (x : FieldType). fits_type (layout t) (bytes_of u) x) (second_at t i d row e) ∙ fits_on t wf u d.second h

  both_fit : fits_second (layout t) i (type_at (layout t) (row_of i + 3)) ≡ fits t.classes d.first d.second
  both_fit = ap (λ (x : FieldType). fits_second (layout t) i x) (first_at t i d row e) ∙ second_fits d.first formed.first_known

  abbrev conditions : Ty → Ty → Bool
  conditions u v =
      fits t.classes (ty u.cls (close_tag u.tag)) d.first
      && fits t.classes v d.second
      && fits t.classes d.first d.second
      && fits t.classes u d.second

  results_on : (u v : Ty) → known n u ≡ true → known n v ≡ true → results_fit (layout t) i (bytes_of u) (bytes_of v) ≡ conditions u v
  unfolding results_fit
  results_on u v h k =
      (λ j. pick (first_fits (ty u.cls (close_tag u.tag)) h j) (pick (second_fits v k j) (pick (both_fit j) (second_fits u h j) false) false) false)
      ∙ four (fits t.classes (ty u.cls (close_tag u.tag)) d.first) (fits t.classes v d.second) (fits t.classes d.first d.second) (fits t.classes u d.second)

  -- the right side, given the left type
  right_on : (u : Ty) → known n u ≡ true → right_typed (layout t) i (bytes_of u)
      ≡ there (type_of t false (body_env d (some (ty u.cls 2))) d.right >>= λ v. guard (conditions u v))
  unfolding right_typed
  right_on u h =
      let g = body_env d (some (ty u.cls 2)) in
      let ag = right_agree u.cls h in
      ap (λ (o : RustOption Typed). holds o (λ v. results_fit (layout t) i (bytes_of u) v))
      ((types_on t wf (body i (Some u.cls)) false g ag nesting_limit).types d.right (right_of (layout t) i) formed.right_nested formed.right_known (right_stands t i d row e formed.short))
      ∙ go (type_of t false g d.right) (right_of (layout t) i + length (code_of d.right)) (λ v z. typed-known t wf false g ag.known d.right v formed.right_known z)
    where
      go : (o : Option Ty) (next : ℕ) → ((v : Ty) → o ≡ some v → known n v ≡ true)
          → holds (typed_at o next) (λ v. results_fit (layout t) i (bytes_of u) v) ≡ there (o >>= λ v. guard (conditions u v))
      go none next kn = refl
      go (some v) next kn = results_on u v h (kn v refl) ∙ guarded (conditions u v)

  pub method_on : method_in (layout t) i ≡ there (method_typed t d)
  unfolding method_in method_typed
  method_on =
      let g = body_env d none in
      ap (λ (o : RustOption Typed). holds o (λ u. right_typed (layout t) i u))
      ((types_on t wf (body i None) false g left_agree nesting_limit).types d.left (left_of (layout t) i) formed.left_nested formed.left_known (left_stands t i d row e formed.short))
      ∙ go (type_of t false g d.left) (left_of (layout t) i + length (code_of d.left)) (λ u z. typed-known t wf false g left_agree.known d.left u formed.left_known z)
    where
      go : (o : Option Ty) (next : ℕ) → ((u : Ty) → o ≡ some u → known n u ≡ true)
          → holds (typed_at o next) (λ u. right_typed (layout t) i u)
          ≡ there (o >>= λ u. type_of t false (body_env d (some (ty u.cls 2))) d.right >>= λ v. guard (conditions u v))
      go none next kn = refl
      go (some u) next kn = right_on u (kn u refl)

-- ---- the methods from number k on
methods_on : (t : Table) → WellFormed t → (ds : List Method) (k : ℕ) → ((j : ℕ) → get_elem? t.methods (k + j) ≡ get_elem? ds j)
    → methods_from (layout t) (length ds) k ≡ there (methods_typed t ds)
unfolding methods_from
methods_on t wf [] k h = refl
methods_on t wf (d ∷ ds) k h =
    ap (λ (b : Bool). pick b (methods_from (layout t) (length ds) (suc k)) false)
    (method_on t wf k d (ap (λ (x : ℕ). get_elem? t.methods x) (let z : k ≡ k + 0 = omega arith in z) ∙ h 0))
    ∙ go (method_typed t d)
    (methods_on t wf ds (suc k) (λ j. ap (λ (x : ℕ). get_elem? t.methods x) (let z : suc k + j ≡ k + suc j = omega arith in z) ∙ h (suc j)))
  where
    go : (o : Option (Unit {0})) → methods_from (layout t) (length ds) (suc k) ≡ there (methods_typed t ds)
        → pick (there o) (methods_from (layout t) (length ds) (suc k)) false ≡ there (o >>= λ _. methods_typed t ds)
    go none ih = refl
    go (some u) ih = ih

-- ---- the program
pub formed_check : (t : Table) → WellFormed t → answer_of (check_of (layout t)) ≡ check t
unfolding check_of check
formed_check t wf =
    ap answer_of (λ i. pick (methods i) (main_of (main i)) (Err UntypedMethod)) ∙ go (methods_typed t t.methods) (main_type t) (main_place (layout t) + length (code_of t.main))
  where
    methods : methods_in (layout t) ≡ there (methods_typed t t.methods)
    methods =
        ap (λ (n : ℕ). methods_from (layout t) n 0) (method_count_at_lem t)
        ∙ methods_on t wf t.methods 0 (λ j. ap (λ (x : ℕ). get_elem? t.methods x) (let z : 0 + j ≡ j = omega arith in z))

    main : type_in (layout t) nesting_limit in_main (main_place (layout t)) ≡ typed_at (main_type t) (main_place (layout t) + length (code_of t.main))
    main = (types_on t wf in_main true (main_variables t.input) (main_agree t wf) nesting_limit).types t.main (main_place (layout t)) wf.main_nested wf.main_known (main_stands t wf.main_short)

    go : (o : Option (Unit {0})) (m : Option Ty) (next : ℕ)
        → answer_of (pick (there o) (main_of (typed_at m next)) (Err UntypedMethod)) ≡ elim o [ none ↦ refused 6 | some u ↦ main_or7 m ]
    go none m next = refl
    go (some u) none next = refl
    go (some u) (some v) next = refl
