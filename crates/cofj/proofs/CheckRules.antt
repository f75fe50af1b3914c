-- The check of a program answers what the rules say (specs/TypingRules, `Judged`): main's type, refusal 6 or refusal 7, and nothing else.
-- First the list of methods, then the answer, then what each answer means. Not here: expressions and single methods (TypingRules).
use Prim.Native.Nat.{ℕ}
use mathlib.Core.Path.{◌≡◌, refl, sym, ◌∙◌, subst}
use mathlib.Core.Bool.{true}
use mathlib.Core.Logic.{◌⊎◌, inl, inr, ⊎_elim, ◌↔◌}
use mathlib.Core.List.Memᴰ
use mathlib.Core.List.{List, [], ◌∷◌, Memᴰ}
use mathlib.Core.Option.{Option, none, some, none-ne-some}
use Rattle.cofj.specs.Syntax.{Ty, Method, Table}
use Rattle.cofj.specs.Typing.{method_typed, methods_typed, main_type, Checked, refused, accepted, check}
use Rattle.cofj.specs.WellFormed.{AllMethods}
use Rattle.cofj.specs.TypingRules.{HasType, MethodTyped, main_variables, ClassTyped, T-CDEC, ProgramTyped, T-PROG, Judged, REFUSAL-6, REFUSAL-7, ACCEPTED}
use Rattle.cofj.proofs.Chain.{ParentsSmaller}
use Rattle.cofj.proofs.TypingRules.{type_of_sound, type_of_complete, method_sound, method_complete}
use Rattle.cofj.proofs.Partial.{opt_bind}

module _ (t : Table) (h : ParentsSmaller t.classes) where
  -- ---- the methods
  pub methods_complete : (ds : List Method) → AllMethods (MethodTyped t) ds → methods_typed t ds ≡ some tt
  methods_complete [] p = refl
  methods_complete (d ∷ ds) p = rw (method_complete t h d p.0) (methods_complete ds p.1)

  methods_sound : (ds : List Method) (x : Unit {0}) → methods_typed t ds ≡ some x → AllMethods (MethodTyped t) ds
  methods_sound [] x e = tt
  methods_sound (d ∷ ds) x e = let a = opt_bind (method_typed t d) _ x e in (method_sound t h d a.0 a.1, methods_sound ds x a.2)

  methods_none : (ds : List Method) → (AllMethods (MethodTyped t) ds → ⊥) → methods_typed t ds ≡ none
  methods_none ds k = go (methods_typed t ds) refl
    where
      go : (o : Option (Unit {0})) → methods_typed t ds ≡ o → o ≡ none
      go none e = refl
      go (some x) e = absurd (k (methods_sound ds x e))

  -- a method of the list that has no type
  abbrev pub Untyped : List Method → Type 0
  Untyped ds = (d : Method) × Memᴰ d ds × (MethodTyped t d → ⊥)

  each_method : (ds : List Method) → AllMethods (MethodTyped t) ds ⊎ Untyped ds
  each_method [] = inl tt
  each_method (d ∷ ds) = go (method_typed t d) refl (each_method ds)
    where
      go : (o : Option (Unit {0})) → method_typed t d ≡ o → AllMethods (MethodTyped t) ds ⊎ Untyped ds → AllMethods (MethodTyped t) (d ∷ ds) ⊎ Untyped (d ∷ ds)
      go none e r = inr (d, Memᴰ.head refl, λ p. none-ne-some tt (sym e ∙ method_complete t h d p))
      go (some x) e (inl ps) = inl (method_sound t h d x e, ps)
      go (some x) e (inr r) = inr (r.0, Memᴰ.tail r.1, r.2)

  each_typed : (ds : List Method) → AllMethods (MethodTyped t) ds → (d : Method) → Memᴰ d ds → MethodTyped t d
  each_typed [] p d m = absurd (Memᴰ.not-nil m)
  each_typed (x ∷ xs) p d m = ⊎_elim (λ e. subst (MethodTyped t) (sym e) p.0) (λ k. each_typed xs p.1 d k) (Memᴰ.cases_cons m)

  -- T-CDEC's class by class is method by method
  classes_all : ((c : ℕ) → ClassTyped t c) → (ds : List Method) → ((d : Method) → Memᴰ d ds → Memᴰ d t.methods) → AllMethods (MethodTyped t) ds
  classes_all ps [] k = tt
  classes_all ps (d ∷ ds) k = (go (ps d.owner), classes_all ps ds (λ x m. k x (Memᴰ.tail m)))
    where
      go : ClassTyped t d.owner → MethodTyped t d
      go (T-CDEC p) = p d (k d (Memᴰ.head refl)) refl

  main_none : ((u : Ty) → HasType t true (main_variables t.input) t.main u → ⊥) → main_type t ≡ none
  main_none k = go (main_type t) refl
    where
      go : (o : Option Ty) → main_type t ≡ o → o ≡ none
      go none e = refl
      go (some u) e = absurd (k u (type_of_sound t h true (main_variables t.input) t.main u e))

  -- ---- the answer: what the rules say, the check answers,
  pub judged_complete : {x : Checked} → Judged t x → check t ≡ x
  unfolding check
  judged_complete (REFUSAL-6 {d = d} m k) = rw (methods_none t.methods (λ ps. k (each_typed t.methods ps d m)), check)
  judged_complete (REFUSAL-7 ps k) = rw (methods_complete t.methods ps, check, main_none k)
  judged_complete (ACCEPTED (T-PROG ps p)) = rw (methods_complete t.methods (classes_all ps t.methods (λ d m. m)), check, type_of_complete t h true (main_variables t.input) p)

  -- the rules say one of the three of every table
  judged : (x : Checked) × Judged t x
  judged = go (each_method t.methods) (main_type t) refl
    where
      go : AllMethods (MethodTyped t) t.methods ⊎ Untyped t.methods → (o : Option Ty) → main_type t ≡ o → (x : Checked) × Judged t x
      go (inr r) o e = (refused 6, REFUSAL-6 r.1 r.2)
      go (inl ps) none e = (refused 7, REFUSAL-7 ps (λ u p. none-ne-some u (sym e ∙ type_of_complete t h true (main_variables t.input) p)))
      go (inl ps) (some u) e = (accepted u, ACCEPTED (T-PROG (λ c. T-CDEC (λ d m _. each_typed t.methods ps d m)) (type_of_sound t h true (main_variables t.input) t.main u e)))

  -- and what the check answers, the rules say
  pub judged_sound : Judged t (check t)
  judged_sound = subst (Judged t) (sym (judged_complete judged.1)) judged.1

  -- ---- what each answer means
  pub check_sound : (u : Ty) → check t ≡ accepted u → ProgramTyped t u
  check_sound u e = go (subst (Judged t) e judged_sound)
    where
      go : Judged t (accepted u) → ProgramTyped t u
      go (ACCEPTED p) = p

  pub check_complete : (u : Ty) → ProgramTyped t u → check t ≡ accepted u
  check_complete u p = judged_complete (ACCEPTED p)

  -- refused 6 exactly when some method has no type, that is, when not every one has
  pub refused_6 : check t ≡ refused 6 ↔ Untyped t.methods
  refused_6 = (λ e. go (subst (Judged t) e judged_sound), λ r. judged_complete (REFUSAL-6 r.1 r.2))
    where
      go : Judged t (refused 6) → Untyped t.methods
      go (REFUSAL-6 {d = d} m k) = (d, m, k)

  pub refused_6_all : check t ≡ refused 6 ↔ (AllMethods (MethodTyped t) t.methods → ⊥)
  unfolding check
  refused_6_all = (λ e ps. let r = refused_6.0 e in r.2 (each_typed t.methods ps r.0 r.1), λ k. rw (methods_none t.methods k, check))

  -- refused 7 exactly when every method has a type and main has none
  pub refused_7 : check t ≡ refused 7 ↔ (AllMethods (MethodTyped t) t.methods × ((u : Ty) → HasType t true (main_variables t.input) t.main u → ⊥))
  refused_7 = (λ e. go (subst (Judged t) e judged_sound), λ r. judged_complete (REFUSAL-7 r.0 r.1))
    where
      go : Judged t (refused 7) → AllMethods (MethodTyped t) t.methods × ((u : Ty) → HasType t true (main_variables t.input) t.main u → ⊥)
      go (REFUSAL-7 ps k) = (ps, k)

  pub check_total : (check t ≡ refused 6) ⊎ (check t ≡ refused 7) ⊎ ((u : Ty) × (check t ≡ accepted u))
  check_total = go judged.1
    where
      go : {x : Checked} → Judged t x → (check t ≡ refused 6) ⊎ (check t ≡ refused 7) ⊎ ((u : Ty) × (check t ≡ accepted u))
      go (REFUSAL-6 m k) = inl (judged_complete (REFUSAL-6 m k))
      go (REFUSAL-7 ps k) = inr (inl (judged_complete (REFUSAL-7 ps k)))
      go (ACCEPTED {u = u} p) = inr (inr (u, judged_complete (ACCEPTED p)))
