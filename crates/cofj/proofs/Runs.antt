-- Every value of a run is canonical, whole, within the limit, made of its classes' objects, and without a mark at main:
-- one induction over the interpreter. Not here: types (Sound).
use Prim.Native.Nat.{ℕ, zero, suc, ◌≤◌, ◌<◌}
use native.Mathlib.Omega.{arith}
use mathlib.Core.Path.{◌≡◌, refl, sym, ap, ◌∙◌}
use mathlib.Core.Bool.{Bool, true, false, ◌&&◌}
use mathlib.Core.List.{List, [], ◌∷◌}
use mathlib.Core.Option.{Option, none, some, none-ne-some}
use lib.Dec.{eqb, leb}
use lib.ListN.{length, get_elem?}
use borrow.Author.Tests.{leb-true, eqb-true}
use Rattle.cofj.specs.Limits.{Limits, number_count, nesting_limit}
use Rattle.cofj.specs.Partial.{as_list}
use Rattle.cofj.specs.Syntax.{Expr, this, res, param, field, call, new, literal, combine, choose, Exprs, done, also, count, Method, Table}
use Rattle.cofj.specs.Classes.{fields_of}
use Rattle.cofj.specs.Lookup.{Found, lookup}
use Rattle.cofj.specs.Tables.{expr_known, exprs_known}
use Rattle.cofj.specs.Values.{mark, num, Graph, select, close, make, mark_of, eq_graph, eq_graphs}
use Rattle.cofj.specs.Running.{Outcome, value, stopped, Stop, ◌then◌, Frame, OpenCall, or_stuck, Deeper, class_of, target, frame_of, opened, open_mark, invoke, sized, eval, evals, eval_to, main_frame, run_within}
use Rattle.cofj.specs.Formed.{AllIn, Good, IfAny, Out}
use Rattle.cofj.specs.Nesting.{Each, Nested}
use Rattle.cofj.specs.WellFormed.{AllMethods, MethodFormed, WellFormed}
use Rattle.cofj.proofs.Partial.{and_true}
use Rattle.cofj.proofs.Lookup.{found_in_lem}
use Rattle.cofj.proofs.GoodOperations.{out_then, out_or, good_select, good_close, good_new, good_operand, good_reckon, good_branch}
use Rattle.cofj.proofs.GoodValues.{all_weaken, good_leaf, good_more}

at_opt : {A : Type 0} (P : A → Type 0) (l : List A) → AllIn P l → (i : ℕ) → IfAny P (get_elem? l i)
at_opt P [] h i = tt
at_opt P (x ∷ xs) h zero = h.0
at_opt P (x ∷ xs) h (suc i) = at_opt P xs h.1 i

-- a method that is found is one of the table's
found : (P : Method → Type 0) (t : Table) → AllMethods P t.methods → (c m : ℕ) → IfAny (λ f. P f.body) (lookup t c m)
found P t h c m = go (lookup t c m) refl
  where
    go : (o : Option Found) → lookup t c m ≡ o → IfAny (λ f. P f.body) o
    go none q = tt
    go (some f) q = found_in_lem P t h c m f q

target_found : (P : Method → Type 0) (t : Table) → AllMethods P t.methods → (v : Graph) (m n : ℕ) → IfAny (λ f. P f.body) (target t v m n)
unfolding target
target_found P t h v m n = by_class (class_of v)
  where
    Q : Found → Type 0
    Q f = P f.body

    by_count : (f : Found) → Q f → (b : Bool) → IfAny Q (elim b as (λ _. Option Found) [ true ↦ some f | false ↦ none ])
    by_count f p true = p
    by_count f p false = tt

    by_method : (o : Option Found) → IfAny Q o → IfAny Q (elim o as (λ _. Option Found) [ none ↦ none | some f ↦ elim (eqb (length f.body.params) n) [ true ↦ some f | false ↦ none ] ])
    by_method none p = tt
    by_method (some f) p = by_count f p (eqb (length f.body.params) n)

    by_class : (o : Option ℕ) → IfAny Q (elim o as (λ _. Option Found) [
      | none ↦ none
      | some c ↦ elim (lookup t c m) [ none ↦ none | some f ↦ elim (eqb (length f.body.params) n) [ true ↦ some f | false ↦ none ] ]
    ])
    by_class none = tt
    by_class (some c) = by_method (lookup t c m) (found P t h c m)

-- ---- the numbers that a body writes have two bytes
abbrev mutual
  pub Bounded : Expr → Type 0
  Bounded this = Unit {0}
  Bounded res = Unit {0}
  Bounded (param k) = Unit {0}
  Bounded (field f e) = Bounded e
  Bounded (call m e es) = Bounded e × AllBounded es
  Bounded (new c es) = AllBounded es
  Bounded (literal n) = n < number_count
  Bounded (combine o a b) = Bounded a × Bounded b
  Bounded (choose c a b) = Bounded c × Bounded a × Bounded b

  pub AllBounded : Exprs → Type 0
  AllBounded done = Unit {0}
  AllBounded (also e es) = Bounded e × AllBounded es

each_bounded : (P : Expr → Type 0) → ((e : Expr) → P e → Bounded e) → (es : Exprs) → Each P es → AllBounded es
each_bounded P f done h = tt
each_bounded P f (also e es) h = (f e h.0, each_bounded P f es h.1)

nested_bounded : (k : ℕ) (e : Expr) → Nested k e → Bounded e
unfolding Nested
nested_bounded zero e h = absurd h
nested_bounded (suc k) this h = tt
nested_bounded (suc k) res h = tt
nested_bounded (suc k) (param x) h = tt
nested_bounded (suc k) (field f e) h = nested_bounded k e h
nested_bounded (suc k) (call m e es) h = (nested_bounded k e h.1, each_bounded (Nested k) (nested_bounded k) es h.2)
nested_bounded (suc k) (new c es) h = each_bounded (Nested k) (nested_bounded k) es h
nested_bounded (suc k) (literal n) h = h
nested_bounded (suc k) (combine o a b) h = (nested_bounded k a h.0, nested_bounded k b h.1)
nested_bounded (suc k) (choose c a b) h = (nested_bounded k c h.0, nested_bounded k a h.1, nested_bounded k b h.2)

-- ---- the marks of open calls
-- a call's mark is the number of calls before it
abbrev pub Numbered : List OpenCall → Type 0
Numbered [] = Unit {0}
Numbered (o ∷ os) = (o.label ≡ length os) × Numbered os

open_below : (os : List OpenCall) (v : Graph) (m : ℕ) (vs : List Graph) (x : ℕ) → Numbered os → open_mark os v m vs ≡ some x → x < length os
unfolding open_mark
open_below [] v m vs x h e = absurd (none-ne-some x e)
open_below (o ∷ os) v m vs x h e = go (eqb o.name m) (eq_graph o.receiver v) (eq_graphs o.args vs) e (open_below os v m vs x h.1)
  where
    go : (a b b' : Bool) → ◌≡◌ {A = Option ℕ} (elim a [
      | true ↦ elim b [
        | true ↦ elim b' [ true ↦ some o.label | false ↦ open_mark os v m vs ]
        | false ↦ open_mark os v m vs
      ]
      | false ↦ open_mark os v m vs
    ]) (some x) → (open_mark os v m vs ≡ some x → x < length os) → x < suc (length os)
    go true true true z ih = let y : o.label ≡ x = cc in let l = h.0 in omega arith
    go true true false z ih = let y = ih z in omega arith
    go true false b' z ih = let y = ih z in omega arith
    go false b b' z ih = let y = ih z in omega arith

module _ (t : Table) (wf : WellFormed t) (objects : ℕ) where
  abbrev G : ℕ → Graph → Type 0
  G k v = Good t objects k v

  abbrev Gs : ℕ → List Graph → Type 0
  Gs k vs = AllIn (Good t objects k) vs

  pub record GoodFrame (k : ℕ) (fr : Frame) : Type 0 where
    pub this : IfAny (G k) fr.this
    pub res : IfAny (G k) fr.res
    pub params : Gs k fr.params

  -- ---- the interpreter
  abbrev pub GoodDeeper : Deeper → Type 0
  GoodDeeper deeper = (fr : Frame) (os : List OpenCall) (e : Expr) (n : ℕ) → expr_known (length t.classes) e ≡ true → Bounded e → GoodFrame (length os) fr → Numbered os
      → Out (G (length os)) (deeper fr os e n)

  frame_more : (k : ℕ) (v : Graph) (vs : List Graph) → G k v → Gs k vs → GoodFrame (suc k) (frame_of v none vs)
  frame_more k v vs a b =
      record { this = good_more t objects k v a; res = tt; params = all_weaken (G k) (G (suc k)) (good_more t objects k) vs b }

  good_invoke : (deeper : Option Deeper) → IfAny GoodDeeper deeper → (os : List OpenCall) → Numbered os → (v : Graph) (m : ℕ) (vs : List Graph) (d : Method) (n : ℕ)
      → MethodFormed t d → G (length os) v → Gs (length os) vs → Out (G (length os)) (invoke deeper os v m vs d n)
  unfolding invoke
  good_invoke deeper D os ns v m vs d zero kd a b = tt
  good_invoke none D os ns v m vs d (suc n) kd a b = tt
  good_invoke (some body) D os ns v m vs d (suc n) kd a b = go (open_mark os v m vs) refl
    where
      go : (o : Option ℕ) → open_mark os v m vs ≡ o → Out (G (length os)) (elim o as (λ _. Outcome Graph) [
        | some x ↦ body (frame_of v (some (mark_of x)) vs) os d.right n
        | none ↦ body (frame_of v none vs) (opened os v m vs) d.left n then λ u n'. value (close (length os) u) n'
      ])
      go (some x) q =
          D (frame_of v (some (mark_of x)) vs) os d.right n kd.right_known (nested_bounded nesting_limit d.right kd.right_nested)
          (record { this = a; res = good_leaf t objects (length os) (mark x) (open_below os v m vs x ns q); params = b }) ns
      go none q =
          out_then (G (suc (length os))) (G (length os)) (λ u n'. value (close (length os) u) n') (λ u n' h. good_close t wf objects (length os) u h)
          (body (frame_of v none vs) (opened os v m vs) d.left n)
          (D (frame_of v none vs) (opened os v m vs) d.left n kd.left_known (nested_bounded nesting_limit d.left kd.left_nested) (frame_more (length os) v vs a b) (refl, ns))

  -- values of a list, and how many
  abbrev Listed : ℕ → ℕ → List Graph → Type 0
  Listed k n vs = Gs k vs × (length vs ≡ n)

  module _ (deeper : Option Deeper) (D : IfAny GoodDeeper deeper) (os : List OpenCall) (ns : Numbered os) (fr : Frame) (h : GoodFrame (length os) fr) where
    good_count : (c : ℕ) (es : Exprs) (n : ℕ) → c ≤ length t.classes → (b : Bool) → eqb (length (fields_of t.classes c)) (count es) ≡ b
        → Out (Listed (length os) (count es)) (evals objects t deeper fr os es n)
        → Out (G (length os)) (elim b as (λ _. Outcome Graph) [ true ↦ evals objects t deeper fr os es n then λ vs n'. sized objects (make c vs) n' | false ↦ stopped Stop.stuck n ])
    good_count c es n l true q p =
        out_then (Listed (length os) (count es)) (G (length os)) (λ vs n'. sized objects (make c vs) n')
        (λ vs n' r. good_new t wf objects (length os) c vs n' l (r.1 ∙ sym (eqb-true (length (fields_of t.classes c)) (count es) q)) r.0) (evals objects t deeper fr os es n) p
    good_count c es n l false q p = tt

    mutual
      unfolding eval expr_known

      good_eval : (e : Expr) (n : ℕ) → expr_known (length t.classes) e ≡ true → Bounded e → Out (G (length os)) (eval objects t deeper fr os e n)
      good_eval this n k b = out_or (G (length os)) fr.this n h.this
      good_eval res n k b = out_or (G (length os)) fr.res n h.res
      good_eval (param x) n k b = out_or (G (length os)) (get_elem? fr.params x) n (at_opt (G (length os)) fr.params h.params x)
      good_eval (field f e) n k b =
          out_then (G (length os)) (G (length os)) _ (λ v n' p. out_or (G (length os)) (select f v) n' (good_select t wf objects (length os) f v p)) (eval objects t deeper fr os e n) (good_eval e n k b)
      good_eval (call m e es) n k b =
          let ks = and_true (expr_known (length t.classes) e) (exprs_known (length t.classes) es) k in
          out_then (G (length os)) (G (length os)) _
          (λ v n' p. out_then (λ f. MethodFormed t f.body) (G (length os)) _
          (λ f n'' kd. out_then (Listed (length os) (count es)) (G (length os)) _ (λ vs n''' q. good_invoke deeper D os ns v m vs f.body n''' kd p q.0)
          (evals objects t deeper fr os es n'') (good_evals es n'' ks.1 b.1))
          (or_stuck (target t v m (count es)) n') (out_or (λ f. MethodFormed t f.body) (target t v m (count es)) n' (target_found (MethodFormed t) t wf.methods v m (count es))))
          (eval objects t deeper fr os e n) (good_eval e n ks.0 b.0)
      good_eval (new c es) n k b =
          let ks = and_true (leb c (length t.classes)) (exprs_known (length t.classes) es) k in
          good_count c es n (leb-true c (length t.classes) ks.0) (eqb (length (fields_of t.classes c)) (count es)) refl (good_evals es n ks.1 b)
      good_eval (literal x) n k b = good_leaf t objects (length os) (num x) b
      good_eval (combine o x y) n k b =
          let ks = and_true (expr_known (length t.classes) x) (expr_known (length t.classes) y) k in
          good_operand t wf objects (length os) (eval objects t deeper fr os x n) (good_eval x n ks.0 b.0) _
          (λ p n' l. good_operand t wf objects (length os) (eval objects t deeper fr os y n') (good_eval y n' ks.1 b.1) _ (λ q n'' l'. good_reckon t wf objects (length os) o p q n'' l))
      good_eval (choose c x y) n k b =
          let ks = and_true (expr_known (length t.classes) c && expr_known (length t.classes) x) (expr_known (length t.classes) y) k in
          let js = and_true (expr_known (length t.classes) c) (expr_known (length t.classes) x) ks.0 in
          good_operand t wf objects (length os) (eval objects t deeper fr os c n) (good_eval c n js.0 b.0) _
          (λ p n' l. good_branch t wf objects (length os) (eqb p 0) _ _ (good_eval y n' ks.1 b.2) (good_eval x n' js.1 b.1))

      good_evals : (es : Exprs) (n : ℕ) → exprs_known (length t.classes) es ≡ true → AllBounded es → Out (Listed (length os) (count es)) (evals objects t deeper fr os es n)
      good_evals done n k b = (tt, refl)
      good_evals (also e es) n k b =
          let ks = and_true (expr_known (length t.classes) e) (exprs_known (length t.classes) es) k in
          out_then (G (length os)) (Listed (length os) (suc (count es))) _
          (λ v n' p. out_then (Listed (length os) (count es)) (Listed (length os) (suc (count es))) _ (λ vs n'' q. ((p, q.0), ap suc q.1))
          (evals objects t deeper fr os es n') (good_evals es n' ks.1 b.1))
          (eval objects t deeper fr os e n) (good_eval e n ks.0 b.0)

  good_eval_to : (d : ℕ) → GoodDeeper (eval_to objects d t)
  unfolding eval_to
  good_eval_to zero fr os e n k b h ns = good_eval none tt os ns fr h e n k b
  good_eval_to (suc d) fr os e n k b h ns =
      good_eval (some (λ fr' os' e' n'. eval_to objects d t fr' os' e' n')) (λ fr' os' e' n' k' b' h' ns'. good_eval_to d fr' os' e' n' k' b' h' ns') os ns fr h e n k b

-- main's only parameter, if it has one
input_all : {A : Type 0} (P : A → Type 0) (i : Option A) → IfAny P i → AllIn P (as_list i)
input_all P none h = tt
input_all P (some a) h = (h, tt)

-- the value of a run: no left-side call is open at main
pub good_run : (l : Limits) (t : Table) (i : Option Graph) (n : ℕ) → WellFormed t → IfAny (Good t l.objects 0) i → Out (Good t l.objects 0) (run_within l t i n)
unfolding run_within
good_run l t i n wf g =
    good_eval_to t wf l.objects l.depth (main_frame i) [] t.main n wf.main_known (nested_bounded nesting_limit t.main wf.main_nested)
    (record { this = tt; res = tt; params = input_all (Good t l.objects 0) i g }) tt
