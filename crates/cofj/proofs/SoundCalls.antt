-- A call keeps types: outcomes, the tags of X = u, the call met again and the fresh one. Not here: expressions (Sound).
use Prim.Native.Nat.{ℕ, zero, suc, ◌≤◌, zero-le}
use native.Mathlib.Omega.{arith}
use mathlib.Core.Path.{◌≡◌, refl, sym, ap, ◌∙◌, subst}
use mathlib.Core.Bool.{Bool, true, false, cond}
use mathlib.Core.List.{List, [], ◌∷◌}
use mathlib.Core.Option.{Option, none, some, none-ne-some}
use lib.Dec.{eqb, leb}
use lib.ListN.{length}
use borrow.Author.Tests.{eq-eqb, leb-true, le-leb}
use Rattle.cofj.specs.Syntax.{Expr, Ty, ty, Method, Table}
use Rattle.cofj.specs.Classes.{class_fits}
use Rattle.cofj.specs.Lookup.{Found, found_in, lookup}
use Rattle.cofj.specs.Tables.{expr_known}
use Rattle.cofj.specs.Typing.{Env, close_tag, type_of}
use Rattle.cofj.specs.Values.{Ref, obj, leaf, mark, Graph, node_at, refs_at, close, mark_of}
use Rattle.cofj.specs.Unfolding.{object, at_leaf, label_at}
use Rattle.cofj.specs.Running.{Outcome, value, stopped, ◌then◌, Frame, OpenCall, or_stuck, Deeper, class_of, target, frame_of, opened, open_mark, invoke}
use Rattle.cofj.specs.WellFormed.{AllMethods, MethodFormed, WellFormed}
use Rattle.cofj.specs.Soundness.{NotStuck}
use Rattle.cofj.proofs.Chain.{fits_self}
use Rattle.cofj.proofs.Typed.{tree, bound, Has, Hold}
use Rattle.cofj.proofs.Keeps.{has_leaf, has_fits, has_more, hold_more, has_closed}
use Rattle.cofj.proofs.KeepsClose.{raise, has_close}
use Rattle.cofj.proofs.Partial.{and_true, true_and}
use Rattle.cofj.proofs.CheckSays.{left_env, right_env, left_type, MethodOk}
use Rattle.cofj.proofs.Traces.{Runs, Trace, trace_length, open_bound}

-- ---- outcomes
abbrev pub Out : {A : Type 0} → (A → Type 0) → Outcome A → Type 0
Out P (value a n) = P a
Out P (stopped l n) = NotStuck l

pub out_then : {A B : Type 0} (P : A → Type 0) (Q : B → Type 0) (f : A → ℕ → Outcome B) → ((a : A) (n : ℕ) → P a → Out Q (f a n))
    → (o : Outcome A) → Out P o → Out Q (o then f)
out_then P Q f h (value a n) p = h a n p
out_then P Q f h (stopped l n) p = p

pub out_map : {A : Type 0} (P Q : A → Type 0) → ((a : A) → P a → Q a) → (o : Outcome A) → Out P o → Out Q o
out_map P Q h (value a n) p = h a p
out_map P Q h (stopped l n) p = p

pub out_or : {A : Type 0} (P : A → Type 0) (o : Option A) (n : ℕ) (a : A) → o ≡ some a → P a → Out P (or_stuck o n)
out_or P none n a e p = absurd (none-ne-some a e)
out_or P (some b) n a e p = subst P (let y : a ≡ b = cc in y) p

-- a known option in front
pub out_known : {A B : Type 0} (Q : B → Type 0) (o : Option A) (n : ℕ) (f : A → ℕ → Outcome B) (a : A) → o ≡ some a → Out Q (f a n) → Out Q (or_stuck o n then f)
out_known Q none n f a e p = absurd (none-ne-some a e)
out_known Q (some b) n f a e p = subst (λ x. Out Q (f x n)) (let y : a ≡ b = cc in y) p

pub record FrameOk (t : Table) (σ : List ℕ) (g : Env) (fr : Frame) : Type 0 where
  pub this : (u : Ty) → g.this ≡ some u → (v : Graph) × (fr.this ≡ some v) × Has t σ u v
  pub res : (u : Ty) → g.res ≡ some u → (v : Graph) × (fr.res ≡ some v) × Has t σ u v
  pub params : Hold t σ g.params fr.params

-- what is known of the evaluation of bodies
abbrev pub BodyOk : Table → Deeper → Type 0
BodyOk t deeper = (fr : Frame) (os : List OpenCall) (σ : List ℕ) (g : Env) (e : Expr) (n : ℕ) (u : Ty) → FrameOk t σ g fr → Trace t os σ → expr_known (length t.classes) e ≡ true → type_of t false g e ≡ some u
    → Out (Has t σ u) (deeper fr os e n)

-- if one more call may be opened
abbrev pub DeeperOk : Table → Option Deeper → Type 0
DeeperOk t none = Unit {0}
DeeperOk t (some body) = BodyOk t body

-- ---- tags of a call
raise_le_second : (g a b : ℕ) → g ≤ 3 → close_tag g ≤ a → a ≤ b → g ≤ b → raise g ≤ b
raise_le_second zero a b l p q r = zero-le
raise_le_second (suc zero) a b l p q r = r
raise_le_second (suc (suc zero)) a b l p q r = omega arith
raise_le_second (suc (suc (suc zero))) a b l p q r = r
raise_le_second (suc (suc (suc (suc g)))) a b l p q r = absurd (omega arith)

raise_closed : (g : ℕ) → g ≤ 3 → (3 ≤ raise g → 3 ≤ close_tag g) × (close_tag g ≤ 3)
raise_closed zero l = (λ p. absurd (omega arith), omega arith)
raise_closed (suc zero) l = (λ p. absurd (omega arith), omega arith)
raise_closed (suc (suc zero)) l = (λ p. omega arith, omega arith)
raise_closed (suc (suc (suc zero))) l = (λ p. omega arith, omega arith)
raise_closed (suc (suc (suc (suc g)))) l = absurd (omega arith)

module _ (t : Table) (wf : WellFormed t) (ok : AllMethods (MethodOk t) t.methods) where
  -- X = u has the second type, and in main the first
  close_second : (σ : List ℕ) (d : Method) → MethodFormed t d → (m : MethodOk t d) (v : Graph) → Has t (m.u.cls ∷ σ) m.u v → Has t σ d.second (close (length σ) v)
  close_second σ d mf m v h =
      let a = and_true (class_fits t.classes m.u.cls d.first.cls) (leb (close_tag m.u.tag) d.first.tag) m.first in
      let b = and_true (class_fits t.classes d.first.cls d.second.cls) (leb d.first.tag d.second.tag) m.both in
      let c = and_true (class_fits t.classes m.u.cls d.second.cls) (leb m.u.tag d.second.tag) m.early in
      let l = raise_le_second m.u.tag d.first.tag d.second.tag h.tag
      (leb-true (close_tag m.u.tag) d.first.tag a.1) (leb-true d.first.tag d.second.tag b.1) (leb-true m.u.tag d.second.tag c.1) in
      has_fits t wf σ (ty m.u.cls (raise m.u.tag)) d.second (close (length σ) v)
      (true_and (class_fits t.classes m.u.cls d.second.cls) _ c.0 (le-leb (raise m.u.tag) d.second.tag l)) mf.second (has_close t wf σ m.u v h)

  close_first : (d : Method) → MethodFormed t d → (m : MethodOk t d) (v : Graph) → Has t (m.u.cls ∷ []) m.u v → Has t [] d.first (close 0 v)
  close_first d mf m v h =
      let r = raise_closed m.u.tag h.tag in
      has_fits t wf [] (ty m.u.cls (close_tag m.u.tag)) d.first (close 0 v) m.first mf.first
      (has_closed t wf (ty m.u.cls (raise m.u.tag)) (close_tag m.u.tag) (close 0 v) r.0 r.1 (has_close t wf [] m.u v h))

  closed : (in_main : Bool) (σ : List ℕ) → (in_main ≡ true → σ ≡ []) → (d : Method) → MethodFormed t d → (m : MethodOk t d) (v : Graph) → Has t (m.u.cls ∷ σ) m.u v
      → Has t σ (cond in_main d.first d.second) (close (length σ) v)
  closed false σ z d mf m v h = close_second σ d mf m v h
  closed true [] z d mf m v h = close_first d mf m v h
  closed true (c ∷ σ) z d mf m v h = let y : c ∷ σ ≡ [] = z refl in absurd (let k : ◌≡◌ {A = ℕ} 0 1 = cc in omega arith)

  -- in main no call is met again
  again : (in_main : Bool) (σ : List ℕ) → (in_main ≡ true → σ ≡ []) → (x c : ℕ) → bound σ x ≡ some c → (d : Method) → MethodFormed t d → (m : MethodOk t d) (v : Graph)
      → Has t σ m.v v → Has t σ (cond in_main d.first d.second) v
  unfolding bound
  again false σ z x c e d mf m v h = has_fits t wf σ m.v d.second v m.second mf.second h
  again true σ z x c e d mf m v h = absurd (none-ne-some c (sym (ap (λ (s : List ℕ). bound s x) (z refl)) ∙ e))

  -- the open call of v and m runs a body of the bound's class
  runs : (v : Graph) (m c o : ℕ) (d : Method) (u : Ty) → class_of v ≡ some c → lookup t c m ≡ some (found_in o d) → left_type t d ≡ some u → Runs t v m u.cls
  runs v m c o d u p q r c' o' d' u' p' q' r' =
      let a : c ≡ c' = cc in
      let q'' : lookup t c m ≡ some (found_in o' d') = ap (λ (x : ℕ). lookup t x m) a ∙ q' in
      let f : found_in o d ≡ found_in o' d' = cc in
      let b : d ≡ d' = ap (λ (x : Found). x.body) f in
      let r'' : left_type t d ≡ some u' = ap (left_type t) b ∙ r' in
      let e : u ≡ u' = cc in
      sym (ap (λ (x : Ty). x.cls) e)

  pub sound_invoke : (deeper : Option Deeper) → DeeperOk t deeper → (in_main : Bool) (os : List OpenCall) (σ : List ℕ) → Trace t os σ → (in_main ≡ true → σ ≡ [])
      → (v : Graph) (m c o : ℕ) (vs : List Graph) (d : Method) (n : ℕ) → class_of v ≡ some c → lookup t c m ≡ some (found_in o d) → MethodFormed t d → MethodOk t d
      → Has t σ (ty d.owner 0) v → Hold t σ d.params vs → Out (Has t σ (cond in_main d.first d.second)) (invoke deeper os v m vs d n)
  unfolding invoke left_type
  sound_invoke deeper D in_main os σ tr z v m c o vs d zero p q mf mo a b = tt
  sound_invoke none D in_main os σ tr z v m c o vs d (suc n) p q mf mo a b = tt
  sound_invoke (some body) D in_main os σ tr z v m c o vs d (suc n) p q mf mo a b = go (open_mark os v m vs) refl
    where
      meets : (x : ℕ) → (c' : ℕ) × (bound σ x ≡ some c') × Runs t v m c'
          → Out (Has t σ (cond in_main d.first d.second)) (body (frame_of v (some (mark_of x)) vs) os d.right n)
      meets x r =
          let e : mo.u.cls ≡ r.0 = r.2 c o d mo.u p q mo.left in
          out_map (Has t σ mo.v) (Has t σ (cond in_main d.first d.second)) (λ w h. again in_main σ z x r.0 r.1 d mf mo w h)
          (body (frame_of v (some (mark_of x)) vs) os d.right n)
          (D (frame_of v (some (mark_of x)) vs) os σ (right_env d mo.u.cls) d.right n mo.v
          (record {
            this = λ w y. (v, refl, subst (λ (k : Ty). Has t σ k v) (let s : ty d.owner 0 ≡ w = cc in s) a);
            res = λ w y. (
              mark_of x,
              refl,
              subst (λ (k : Ty). Has t σ k (mark_of x)) (let s : ty mo.u.cls 2 ≡ w = cc in s)
                  (has_leaf t wf σ (ty mo.u.cls 2) (mark x) (omega arith) (mo.u.cls, r.1 ∙ ap {B = Option ℕ} some (sym e), fits_self t.classes mo.u.cls mo.u.cls refl, omega arith)),
            );
            params = b;
          }) tr mf.right_known mo.right)

      go : (o : Option ℕ) → open_mark os v m vs ≡ o → Out (Has t σ (cond in_main d.first d.second)) (elim o as (λ _. Outcome Graph) [
        | some x ↦ body (frame_of v (some (mark_of x)) vs) os d.right n
        | none ↦ body (frame_of v none vs) (opened os v m vs) d.left n then λ u n'. value (close (length os) u) n'
      ])
      go (some x) y = meets x (open_bound t os σ v m vs x tr y)
      go none y =
          out_then (Has t (mo.u.cls ∷ σ) mo.u) (Has t σ (cond in_main d.first d.second)) (λ u n'. value (close (length os) u) n')
          (λ u n' h. subst (λ (k : ℕ). Has t σ (cond in_main d.first d.second) (close k u)) (sym (trace_length t os σ tr)) (closed in_main σ z d mf mo u h))
          (body (frame_of v none vs) (opened os v m vs) d.left n)
          (D (frame_of v none vs) (opened os v m vs) (mo.u.cls ∷ σ) (left_env d) d.left n mo.u
          (record {
            this = λ w s. (v, refl, subst (λ (k : Ty). Has t (mo.u.cls ∷ σ) k v) (let s' : ty d.owner 0 ≡ w = cc in s') (has_more t wf mo.u.cls σ (ty d.owner 0) v a));
            res = λ w s. absurd (none-ne-some w s);
            params = hold_more t wf mo.u.cls σ d.params vs b;
          }) (trace_length t os σ tr, runs v m c o d mo.u p q mo.left, tr) mf.left_known mo.left)

-- ---- receivers
pub class_of_lem : (v : Graph) (c k : ℕ) → tree v [] ≡ some (object c k) → class_of v ≡ some c
class_of_lem v c k e = go v.root e
  where
    go : (r : Ref) → some (label_at v.nodes r) ≡ some (object c k)
        → ◌≡◌ {A = Option ℕ} (elim r [ obj i ↦ some (node_at v.nodes i).cls | leaf l ↦ none ]) (some c)
    go (obj i) z = let y : some (object (node_at v.nodes i).cls (length (refs_at v.nodes i))) ≡ some (object c k) = z in cc
    go (leaf l) z = let y : some (at_leaf l) ≡ some (object c k) = z in cc

pub target_is : (t : Table) (v : Graph) (m n c : ℕ) (f : Found) → class_of v ≡ some c → lookup t c m ≡ some f → length f.body.params ≡ n → target t v m n ≡ some f
unfolding target
target_is t v m n c f p q r = ap by_class p ∙ ap by_method q ∙ ap by_count (eq-eqb (length f.body.params) n r)
  where
    by_count : Bool → Option Found
    by_count b = elim b [ true ↦ some f | false ↦ none ]

    by_method : Option Found → Option Found
    by_method o = elim o [ none ↦ none | some x ↦ elim (eqb (length x.body.params) n) [ true ↦ some x | false ↦ none ] ]

    by_class : Option ℕ → Option Found
    by_class o = elim o [ none ↦ none | some x ↦ by_method (lookup t x m) ]
