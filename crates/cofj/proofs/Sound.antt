-- Type soundness: an accepted program does not get stuck, and its value sits at main's type. Induction over the interpreter.
use Prim.Native.Nat.{ℕ, zero, suc, ◌+◌, ◌-◌, ◌≤◌, zero-le}
use native.Mathlib.Omega.{arith}
use mathlib.Core.Path.{◌≡◌, refl, sym, ap, ◌∙◌, subst}
use mathlib.Core.Bool.{Bool, true, false, ◌&&◌, cond, false≢true}
use mathlib.Core.List.{List, [], ◌∷◌, map}
use mathlib.Core.Logic.{◌⊎◌, inl, inr}
use mathlib.Core.Option.{Option, none, some, none-ne-some}
use lib.Dec.{eqb, leb, ltb}
use lib.ListN.{length, get_elem?}
use borrow.Author.Tests.{eqb-true, eq-eqb, leb-true}
use Rattle.cofj.specs.Limits.{Limits, number_count, number_class}
use Rattle.cofj.specs.Syntax.{Operation, sum, difference, Expr, this, res, param, field, call, new, literal, combine, choose, Exprs, done, also, count, Ty, ty, eq_ty, Method, Table}
use Rattle.cofj.specs.Partial.{◌>>=◌, as_list}
use Rattle.cofj.specs.Classes.{class_fits, fields_of}
use Rattle.cofj.specs.Lookup.{Found, lookup}
use Rattle.cofj.specs.Tables.{expr_known, exprs_known}
use Rattle.cofj.specs.Typing.{Env, all_fit, narrow, field_type, call_type, new_type, number_type, combine_type, choose_type, type_of, types_of, main_type}
use Rattle.cofj.specs.Values.{num, Graph, select, make, number_of, number_in}
use Rattle.cofj.specs.Running.{Outcome, value, stopped, Stop, ◌then◌, Frame, OpenCall, or_stuck, Deeper, class_of, target, invoke, sized, reckon, eval, evals, eval_to, main_frame, run_within}
use Rattle.cofj.specs.WellFormed.{AllMethods, MethodFormed, WellFormed}
use Rattle.cofj.specs.Soundness.{Ends, Fed, unfed, fed, Sound}
use Rattle.cofj.proofs.Chain.{fits_self}
use Rattle.cofj.proofs.Climb.{eq_ty_true, fields_tags, field_tag}
use Rattle.cofj.proofs.Lookup.{SameSig, lookup-fits, lookup_found}
use Rattle.cofj.proofs.Typed.{Has, Hold}
use Rattle.cofj.proofs.Keeps.{has_leaf, has_fits, hold_fits, fit_length, hold_get, has_object, has_methods, has_number, has_own, has_new, has_new_open, has_select}
use Rattle.cofj.proofs.Partial.{and_true, true_and, opt_bind, guard-bind}
use Rattle.cofj.proofs.TypeFinds.{call_ok, new_ok, new_count, combine_ok, choose_ok, wider-fits, wider_one}
use Rattle.cofj.proofs.CheckSays.{MethodOk, check_says}
use Rattle.cofj.proofs.Traces.{Trace}
use Rattle.cofj.proofs.SoundCalls.{Out, out_then, out_map, out_or, out_known, FrameOk, DeeperOk, sound_invoke, class_of_lem, target_is}
use Rattle.cofj.proofs.Places.{sits, has_sits}

module _ (t : Table) (wf : WellFormed t) (ok : AllMethods (MethodOk t) t.methods) where
  -- a value of tag 0
  at_0 : (σ : List ℕ) (u : Ty) (v : Graph) → u.tag ≡ 0 → Has t σ u v → Has t σ (ty u.cls 0) v
  at_0 σ u v e h = subst (λ (g : ℕ). Has t σ (ty u.cls g) v) e h

  sound_field : (σ : List ℕ) (u w : Ty) (f : ℕ) (v : Graph) (n : ℕ) → field_type t u f ≡ some w → Has t σ u v → Out (Has t σ w) (or_stuck (select f v) n)
  unfolding field_type
  sound_field σ u w f v n e h =
      let a = guard-bind (eqb u.tag 0) (λ _. get_elem? (fields_of t.classes u.cls) f) w e in
      let r = has_select t wf σ u.cls f w v (at_0 σ u v (eqb-true u.tag 0 a.0) h) a.1 in
      out_or (Has t σ w) (select f v) n r.0 r.1 r.2

  sound_new : (objects : ℕ) (σ : List ℕ) (c : ℕ) → c ≤ length t.classes → (us : List Ty) (w : Ty) (vs : List Graph) (n : ℕ) → new_type t c us ≡ some w → Hold t σ us vs → Out (Has t σ w) (sized objects (make c vs) n)
  unfolding sized
  sound_new objects σ c kn us w vs n e h = go (ltb objects (length (make c vs).nodes)) (new_ok t c us w e)
    where
      go : (b : Bool) → ((all_fit t us (fields_of t.classes c) ≡ true) × (ty c 0 ≡ w)) ⊎ ((all_fit t (map narrow us) (fields_of t.classes c) ≡ true) × (ty c 1 ≡ w))
          → Out (Has t σ w) (elim b as (λ _. Outcome Graph) [ true ↦ stopped Stop.too_large n | false ↦ value (make c vs) n ])
      go true a = tt
      go false (inl a) = subst (λ (k : Ty). Has t σ k (make c vs)) a.1 (has_new t wf σ c kn us vs h a.0 (fields_tags t.classes wf.parents wf.own c c))
      go false (inr a) = subst (λ (k : Ty). Has t σ k (make c vs)) a.1 (has_new_open t wf σ c kn us vs h a.0)

  same_result : (in_main : Bool) (d e : Method) → SameSig d e → cond in_main d.first d.second ≡ cond in_main e.first e.second
  same_result true d e s = s.first
  same_result false d e s = s.second

  -- the receiver is an object, and runs a method with the types that the checker found
  pub record Receives (σ : List ℕ) (in_main : Bool) (v : Graph) (m : ℕ) (us : List Ty) (w : Ty) : Type 0 where
    pub c : ℕ
    pub f : Found
    pub cls : class_of v ≡ some c
    pub has : lookup t c m ≡ some f
    pub formed : MethodFormed t f.body
    pub okay : MethodOk t f.body
    pub this : Has t σ (ty f.body.owner 0) v
    pub fit : all_fit t us f.body.params ≡ true
    pub gives : cond in_main f.body.first f.body.second ≡ w

  receives : (σ : List ℕ) (in_main : Bool) (u : Ty) (v : Graph) (m : ℕ) (us : List Ty) (w : Ty) → call_type t in_main u m us ≡ some w → Has t σ u v → Receives σ in_main v m us w
  receives σ in_main u v m us w e h =
      let k = call_ok t in_main u m us w e in
      let h0 = at_0 σ u v k.zero h in
      let o = has_object t wf σ (ty u.cls 0) v zero-le (has_methods t wf u.cls m k.f k.has) h0 in
      let l = lookup-fits t wf u.cls o.0 m k.f o.3 k.has in
      let f = lookup_found t wf (MethodFormed t) wf.methods o.0 m l.0 l.1 in
      let g = lookup_found t wf (MethodOk t) ok o.0 m l.0 l.1 in
      record {
        c = o.0;
        f = l.0;
        cls = class_of_lem v o.0 o.1 o.2;
        has = l.1;
        formed = f.0;
        okay = g.0;
        this = has_fits t wf σ (ty o.0 0) (ty l.0.body.owner 0) v (true_and (class_fits t.classes o.0 l.0.body.owner) _ f.1 refl) zero-le (has_own t wf σ (ty u.cls 0) v o.0 o.1 o.2 h0);
        fit = subst (λ (ps : List Ty). all_fit t us ps ≡ true) (sym l.2.params) k.fit;
        gives = same_result in_main l.0.body k.f.body l.2 ∙ k.gives;
      }

  types-count : (in_main : Bool) (g : Env) (es : Exprs) (us : List Ty) → types_of t in_main g es ≡ some us → length us ≡ count es
  unfolding type_of
  types-count in_main g done us e = let y : some [] ≡ some us = e in ap length (let x : us ≡ [] = cc in x)
  types-count in_main g (also e es) us z =
      let a = opt_bind (type_of t in_main g e) _ us z in
      let b = opt_bind (types_of t in_main g es) _ us a.2 in
      let y : some (a.0 ∷ b.0) ≡ some us = b.2 in
      ap length (let x : us ≡ a.0 ∷ b.0 = cc in x) ∙ ap suc (types-count in_main g es b.0 b.1)

  out_if : (P : Graph → Type 0) (b : Bool) (o : Outcome Graph) (n : ℕ) → b ≡ true → Out P o → Out P (elim b as (λ _. Outcome Graph) [ true ↦ o | false ↦ stopped Stop.stuck n ])
  out_if P true o n e h = h
  out_if P false o n e h = absurd (false≢true e)

  -- ---- numbers
  number_has : (σ : List ℕ) (n : ℕ) → Has t σ number_type (number_of n)
  number_has σ n = has_leaf t wf σ number_type (num n) zero-le (fits_self t.classes number_class number_class refl)

  -- an operand is a number, and what is done with it
  sound_operand : (σ : List ℕ) (u : Ty) (P : Graph → Type 0) (f : ℕ → ℕ → Outcome Graph) → eq_ty u number_type ≡ true → ((x n : ℕ) → Out P (f x n))
      → (o : Outcome Graph) → Out (Has t σ u) o → Out P (o then λ v n. or_stuck (number_in v) n then f)
  sound_operand σ u P f e g o h =
      out_then (Has t σ u) P _
      (λ v n p. let r = has_number t wf σ v (subst (λ (w : Ty). Has t σ w v) (eq_ty_true u number_type e) p) in out_known P (number_in v) n f r.0 r.1 (g r.0 n)) o h

  sound_reckon : (σ : List ℕ) (o : Operation) (x y n : ℕ) → Out (Has t σ number_type) (reckon o x y n)
  unfolding reckon
  sound_reckon σ sum x y n = go (ltb (x + y) number_count)
    where
      go : (b : Bool) → Out (Has t σ number_type) (elim b as (λ _. Outcome Graph) [ true ↦ value (number_of (x + y)) n | false ↦ stopped Stop.overflow n ])
      go true = number_has σ (x + y)
      go false = tt
  sound_reckon σ difference x y n = number_has σ (x - y)

  -- ---- a type that the checker gives has one of the four tags
  new_tag : (c : ℕ) (us : List Ty) (w : Ty) → new_type t c us ≡ some w → w.tag ≤ 3
  new_tag c us w e = go (new_ok t c us w e)
    where
      go : ((all_fit t us (fields_of t.classes c) ≡ true) × (ty c 0 ≡ w)) ⊎ ((all_fit t (map narrow us) (fields_of t.classes c) ≡ true) × (ty c 1 ≡ w)) → w.tag ≤ 3
      go (inl a) = subst (λ (x : Ty). x.tag ≤ 3) a.1 (omega arith)
      go (inr a) = subst (λ (x : Ty). x.tag ≤ 3) a.1 (omega arith)

  result_tag : (in_main : Bool) (d : Method) → MethodFormed t d → (cond in_main d.first d.second).tag ≤ 3
  result_tag true d f = f.first
  result_tag false d f = f.second

  type_tag : (e : Expr) (in_main : Bool) (g : Env) (fr : Frame) (σ : List ℕ) → FrameOk t σ g fr → (u : Ty) → type_of t in_main g e ≡ some u → u.tag ≤ 3
  unfolding type_of field_type
  type_tag this in_main g fr σ h u q = (h.this u q).2.tag
  type_tag res in_main g fr σ h u q = (h.res u q).2.tag
  type_tag (param k) in_main g fr σ h u q = (hold_get t wf σ g.params fr.params h.params k u q).2.tag
  type_tag (field f e) in_main g fr σ h u q =
      let a = opt_bind (type_of t in_main g e) (λ w. field_type t w f) u q in
      let b = guard-bind (eqb a.0.tag 0) (λ _. get_elem? (fields_of t.classes a.0.cls) f) u a.2 in
      field_tag t wf a.0.cls f u b.1
  type_tag (call m e es) in_main g fr σ h u q =
      let a = opt_bind (type_of t in_main g e) (λ w. types_of t in_main g es >>= λ us. call_type t in_main w m us) u q in
      let b = opt_bind (types_of t in_main g es) (λ us. call_type t in_main a.0 m us) u a.2 in
      let k = call_ok t in_main a.0 m b.0 u b.2 in
      subst (λ (w : Ty). w.tag ≤ 3) k.gives (result_tag in_main k.f.body (lookup_found t wf (MethodFormed t) wf.methods a.0.cls m k.f k.has).0)
  type_tag (new c es) in_main g fr σ h u q = let a = opt_bind (types_of t in_main g es) (λ us. new_type t c us) u q in new_tag c a.0 u a.2
  type_tag (literal n) in_main g fr σ h u q = let y : some number_type ≡ some u = q in subst (λ (w : Ty). w.tag ≤ 3) (let x : number_type ≡ u = cc in x) (omega arith)
  type_tag (combine o x y) in_main g fr σ h u q =
      let a = opt_bind (type_of t in_main g x) (λ v. type_of t in_main g y >>= λ w. combine_type t v w) u q in
      let b = opt_bind (type_of t in_main g y) (λ w. combine_type t a.0 w) u a.2 in
      subst (λ (w : Ty). w.tag ≤ 3) (combine_ok t a.0 b.0 u b.2).2 (omega arith)
  type_tag (choose e x y) in_main g fr σ h u q =
      let a = opt_bind (type_of t in_main g e) (λ c. type_of t in_main g x >>= λ v. type_of t in_main g y >>= λ w. choose_type t c v w) u q in
      let b = opt_bind (type_of t in_main g x) (λ v. type_of t in_main g y >>= λ w. choose_type t a.0 v w) u a.2 in
      let d = opt_bind (type_of t in_main g y) (λ w. choose_type t a.0 b.0 w) u b.2 in
      wider_one t (λ (w : Ty). w.tag ≤ 3) b.0 d.0 u (type_tag x in_main g fr σ h b.0 b.1) (type_tag y in_main g fr σ h d.0 d.1) (choose_ok t a.0 b.0 d.0 u d.2).1

  out_branch : (P : Graph → Type 0) (b : Bool) (o p : Outcome Graph) → Out P o → Out P p → Out P (elim b as (λ _. Outcome Graph) [ true ↦ o | false ↦ p ])
  out_branch P true o p g h = g
  out_branch P false o p g h = h

  module _ (objects : ℕ) (deeper : Option Deeper) (D : DeeperOk t deeper) where
    mutual
      unfolding eval type_of expr_known

      sound_eval : (e : Expr) (in_main : Bool) (g : Env) (fr : Frame) (os : List OpenCall) (σ : List ℕ) (n : ℕ) (u : Ty) → FrameOk t σ g fr → Trace t os σ → (in_main ≡ true → σ ≡ [])
          → expr_known (length t.classes) e ≡ true → type_of t in_main g e ≡ some u → Out (Has t σ u) (eval objects t deeper fr os e n)
      sound_eval this in_main g fr os σ n u h tr z kn q = let r = h.this u q in out_or (Has t σ u) fr.this n r.0 r.1 r.2
      sound_eval res in_main g fr os σ n u h tr z kn q = let r = h.res u q in out_or (Has t σ u) fr.res n r.0 r.1 r.2
      sound_eval (param k) in_main g fr os σ n u h tr z kn q =
          let r = hold_get t wf σ g.params fr.params h.params k u q in
          out_or (Has t σ u) (get_elem? fr.params k) n r.0 r.1 r.2
      sound_eval (field f e) in_main g fr os σ n u h tr z kn q =
          let a = opt_bind (type_of t in_main g e) (λ w. field_type t w f) u q in
          out_then (Has t σ a.0) (Has t σ u) _ (λ v n' p. sound_field σ a.0 u f v n' a.2 p) (eval objects t deeper fr os e n) (sound_eval e in_main g fr os σ n a.0 h tr z kn a.1)
      sound_eval (call m e es) in_main g fr os σ n u h tr z kn q =
          let ks = and_true (expr_known (length t.classes) e) (exprs_known (length t.classes) es) kn in
          let a = opt_bind (type_of t in_main g e) (λ w. types_of t in_main g es >>= λ us. call_type t in_main w m us) u q in
          let b = opt_bind (types_of t in_main g es) (λ us. call_type t in_main a.0 m us) u a.2 in
          out_then (Has t σ a.0) (Has t σ u) _
          (λ v n' p.
          let r = receives σ in_main a.0 v m b.0 u b.2 p in
          out_known (Has t σ u) (target t v m (count es)) n' _ r.f
          (target_is t v m (count es) r.c r.f r.cls r.has (sym (fit_length t wf b.0 r.f.body.params r.fit) ∙ types-count in_main g es b.0 b.1))
          (out_then (Hold t σ b.0) (Has t σ u) _
          (λ vs n''' k. subst (λ (w : Ty). Out (Has t σ w) (invoke deeper os v m vs r.f.body n''')) r.gives
          (sound_invoke t wf ok deeper D in_main os σ tr z v m r.c r.f.owner vs r.f.body n''' r.cls r.has r.formed r.okay r.this
          (hold_fits t wf σ b.0 r.f.body.params vs r.fit r.formed.params k)))
          (evals objects t deeper fr os es n') (sound_evals es in_main g fr os σ n' b.0 h tr z ks.1 b.1)))
          (eval objects t deeper fr os e n) (sound_eval e in_main g fr os σ n a.0 h tr z ks.0 a.1)
      sound_eval (new c es) in_main g fr os σ n u h tr z kn q =
          let ks = and_true (leb c (length t.classes)) (exprs_known (length t.classes) es) kn in
          let a = opt_bind (types_of t in_main g es) (λ us. new_type t c us) u q in
          out_if (Has t σ u) (eqb (length (fields_of t.classes c)) (count es)) _ n
          (eq-eqb (length (fields_of t.classes c)) (count es) (new_count t wf c a.0 u a.2 ∙ types-count in_main g es a.0 a.1))
          (out_then (Hold t σ a.0) (Has t σ u) _ (λ vs n' k. sound_new objects σ c (leb-true c (length t.classes) ks.0) a.0 u vs n' a.2 k) (evals objects t deeper fr os es n) (sound_evals es in_main g fr os σ n a.0 h tr z ks.1 a.1))
      sound_eval (literal x) in_main g fr os σ n u h tr z kn q =
          let y : some number_type ≡ some u = q in
          subst (λ (w : Ty). Has t σ w (number_of x)) (let s : number_type ≡ u = cc in s) (number_has σ x)
      sound_eval (combine o x y) in_main g fr os σ n u h tr z kn q =
          let ks = and_true (expr_known (length t.classes) x) (expr_known (length t.classes) y) kn in
          let a = opt_bind (type_of t in_main g x) (λ v. type_of t in_main g y >>= λ w. combine_type t v w) u q in
          let b = opt_bind (type_of t in_main g y) (λ w. combine_type t a.0 w) u a.2 in
          let c = combine_ok t a.0 b.0 u b.2 in
          subst (λ (w : Ty). Out (Has t σ w) (eval objects t deeper fr os (combine o x y) n)) c.2
          (sound_operand σ a.0 (Has t σ number_type) _ c.0
          (λ i n'. sound_operand σ b.0 (Has t σ number_type) _ c.1 (λ j n''. sound_reckon σ o i j n'')
          (eval objects t deeper fr os y n') (sound_eval y in_main g fr os σ n' b.0 h tr z ks.1 b.1))
          (eval objects t deeper fr os x n) (sound_eval x in_main g fr os σ n a.0 h tr z ks.0 a.1))
      sound_eval (choose e x y) in_main g fr os σ n u h tr z kn q =
          let ks = and_true (expr_known (length t.classes) e && expr_known (length t.classes) x) (expr_known (length t.classes) y) kn in
          let js = and_true (expr_known (length t.classes) e) (expr_known (length t.classes) x) ks.0 in
          let w = type_tag (choose e x y) in_main g fr σ h u q in
          let a = opt_bind (type_of t in_main g e) (λ c. type_of t in_main g x >>= λ v. type_of t in_main g y >>= λ w. choose_type t c v w) u q in
          let b = opt_bind (type_of t in_main g x) (λ v. type_of t in_main g y >>= λ w. choose_type t a.0 v w) u a.2 in
          let d = opt_bind (type_of t in_main g y) (λ w. choose_type t a.0 b.0 w) u b.2 in
          let c = choose_ok t a.0 b.0 d.0 u d.2 in
          let f = wider-fits t b.0 d.0 u c.1 in
          sound_operand σ a.0 (Has t σ u) _ c.0
          (λ i n'. out_branch (Has t σ u) (eqb i 0) _ _
          (out_map (Has t σ d.0) (Has t σ u) (λ v p. has_fits t wf σ d.0 u v f.1 w p) (eval objects t deeper fr os y n') (sound_eval y in_main g fr os σ n' d.0 h tr z ks.1 d.1))
          (out_map (Has t σ b.0) (Has t σ u) (λ v p. has_fits t wf σ b.0 u v f.0 w p) (eval objects t deeper fr os x n') (sound_eval x in_main g fr os σ n' b.0 h tr z js.1 b.1)))
          (eval objects t deeper fr os e n) (sound_eval e in_main g fr os σ n a.0 h tr z js.0 a.1)

      sound_evals : (es : Exprs) (in_main : Bool) (g : Env) (fr : Frame) (os : List OpenCall) (σ : List ℕ) (n : ℕ) (us : List Ty) → FrameOk t σ g fr → Trace t os σ → (in_main ≡ true → σ ≡ [])
          → exprs_known (length t.classes) es ≡ true → types_of t in_main g es ≡ some us → Out (Hold t σ us) (evals objects t deeper fr os es n)
      sound_evals done in_main g fr os σ n us h tr z kn q =
          let y : some [] ≡ some us = q in
          subst (λ (w : List Ty). Hold t σ w []) (let x : [] ≡ us = cc in x) tt
      sound_evals (also e es) in_main g fr os σ n us h tr z kn q =
          let ks = and_true (expr_known (length t.classes) e) (exprs_known (length t.classes) es) kn in
          let a = opt_bind (type_of t in_main g e) _ us q in
          let b = opt_bind (types_of t in_main g es) _ us a.2 in
          let y : some (a.0 ∷ b.0) ≡ some us = b.2 in
          out_then (Has t σ a.0) (Hold t σ us) _
          (λ v n' p. out_then (Hold t σ b.0) (Hold t σ us) _
          (λ vs n'' k. subst (λ (w : List Ty). Hold t σ w (v ∷ vs)) (let x : a.0 ∷ b.0 ≡ us = cc in x) (p, k))
          (evals objects t deeper fr os es n') (sound_evals es in_main g fr os σ n' b.0 h tr z ks.1 b.1))
          (eval objects t deeper fr os e n) (sound_eval e in_main g fr os σ n a.0 h tr z ks.0 a.1)

  sound_eval_to : (objects k : ℕ) (in_main : Bool) (fr : Frame) (os : List OpenCall) (σ : List ℕ) (g : Env) (e : Expr) (n : ℕ) (u : Ty) → FrameOk t σ g fr → Trace t os σ → (in_main ≡ true → σ ≡ [])
      → expr_known (length t.classes) e ≡ true → type_of t in_main g e ≡ some u → Out (Has t σ u) (eval_to objects k t fr os e n)
  unfolding eval_to
  sound_eval_to objects zero in_main fr os σ g e n u h tr z kn q = sound_eval objects none tt e in_main g fr os σ n u h tr z kn q
  sound_eval_to objects (suc k) in_main fr os σ g e n u h tr z kn q =
      sound_eval objects (some (λ fr' os' e' n'. eval_to objects k t fr' os' e' n'))
      (λ fr' os' σ' g' e' n' u' h' tr' kn' q'. sound_eval_to objects k false fr' os' σ' g' e' n' u' h' tr' (λ x. absurd (false≢true x)) kn' q') e in_main g fr os σ n u h tr z kn q

  -- main's parameter has its type
  hold_input : (objects : ℕ) (i : Option Graph) → Fed objects t i → Hold t [] (as_list t.input) (as_list i)
  hold_input objects i (unfed e) = subst (λ (o : Option Ty). Hold t [] (as_list o) []) (sym e) tt
  hold_input objects i (fed w v e s g) =
      subst (λ (o : Option Ty). Hold t [] (as_list o) (v ∷ [])) (sym e) (has_sits t wf objects w v g (omega (arith, wf.input_tag w e)) s, tt)

  -- the value of a run has main's type, with no call open
  pub has_run : (l : Limits) (i : Option Graph) (u : Ty) (n : ℕ) → Fed l.objects t i → main_type t ≡ some u → Out (Has t [] u) (run_within l t i n)
  unfolding run_within
  has_run l i u n d q =
      sound_eval_to l.objects l.depth true (main_frame i) [] [] (record { this = none; res = none; params = as_list t.input }) t.main n u
      (record { this = λ w e. absurd (none-ne-some w e); res = λ w e. absurd (none-ne-some w e); params = hold_input l.objects i d }) tt (λ _. refl) wf.main_known q

module _ (t : Table) (wf : WellFormed t) where
  ends : (u : Ty) (o : Outcome Graph) → Out (Has t [] u) o → Ends t u o
  ends u (value v n) h = sits t wf u v h
  ends u (stopped l n) h = h

pub sound : Sound
unfolding Sound
sound l t i u n wf d e = let c = check_says t u e in ends t wf u (run_within l t i n) (has_run t wf c.0 l i u n d c.1)
