-- Laws of the search for a method (specs/Lookup): what it answers is what its two answers stand for, and nothing else is; from Object and from past the table
-- it finds nothing; a class that fits another finds what that one finds, or a method that overrides it, with the same types.
-- Not here: the class of numbers (Numbers), a table's bytes (crate classes).
use Prim.Native.Nat.{ℕ, zero, suc, ◌≤◌, ◌<◌}
use native.Mathlib.Omega.{arith}
use native.Mathlib.Decide.{ℕ_discrete}
use mathlib.Core.Path.{◌≡◌, refl, sym, ap, ◌∙◌, subst}
use mathlib.Core.Bool.{Bool, true, false, ◌&&◌}
use mathlib.Core.List.{List, [], ◌∷◌}
use mathlib.Core.Logic.{◌⊎◌, inl, inr, ◌↔◌}
use mathlib.Core.Option.{Option, none, some, none-ne-some}
use lib.Dec.{eqb}
use lib.ListN.{length}
use borrow.Author.Tests.{eqb-true}
use Rattle.cofj.specs.Syntax.{Class, Method, Table, eq_ty, eq_tys}
use Rattle.cofj.specs.Classes.{class_fits, parent_or0, parent_of, class_at}
use Rattle.cofj.specs.Lookup.{Found, found_in, method_of, lookup_to, lookup, Declares, Nearest, Nowhere, StandsFor}
use Rattle.cofj.specs.Tables.{same_types}
use Rattle.cofj.specs.WellFormed.{AllMethods, MethodFormed, WellFormed}
use Rattle.cofj.proofs.Chain.{parent_le, class_past, fits_self}
use Rattle.cofj.proofs.Climb.{eq_ty_true, eq_tys_true, climb, fits-up, fits_or, fits_le, fits_linear}
use Rattle.cofj.proofs.Partial.{and_true}

-- ---- what a class itself has
-- it is one of the list, with that owner and name
pub own : (P : Method → Type 0) (ds : List Method) → AllMethods P ds → (c m : ℕ) (d : Method) → method_of ds c m ≡ some d → P d × (d.owner ≡ c) × (d.name ≡ m)
unfolding method_of
own P [] a c m d e = absurd (none-ne-some d e)
own P (x ∷ ds) a c m d e = go (eqb x.owner c && eqb x.name m) refl e (own P ds a.1 c m d)
  where
    go : (b : Bool) → eqb x.owner c && eqb x.name m ≡ b → (elim b as (λ _. Option Method) [ true ↦ some x | false ↦ method_of ds c m ]) ≡ some d
        → (method_of ds c m ≡ some d → P d × (d.owner ≡ c) × (d.name ≡ m)) → P d × (d.owner ≡ c) × (d.name ≡ m)
    go true q z ih =
        let y : x ≡ d = cc in
        let p = and_true (eqb x.owner c) (eqb x.name m) q in
        subst (λ (k : Method). P k × (k.owner ≡ c) × (k.name ≡ m)) y (a.0, eqb-true x.owner c p.0, eqb-true x.name m p.1)
    go false q z ih = ih z

-- what is found, its owner has itself
pub found_own : (t : Table) (n c m : ℕ) (f : Found) → lookup_to n t c m ≡ some f → Declares t f.owner m f.body
unfolding lookup_to
found_own t zero c m f e = absurd (none-ne-some f e)
found_own t (suc n) c m f e = go (method_of t.methods c m) refl e (found_own t n (parent_of t.classes c) m f)
  where
    go : (o : Option Method) → method_of t.methods c m ≡ o
        → (elim o as (λ _. Option Found) [ none ↦ lookup_to n t (parent_of t.classes c) m | some d ↦ some (found_in c d) ]) ≡ some f
        → (lookup_to n t (parent_of t.classes c) m ≡ some f → Declares t f.owner m f.body) → Declares t f.owner m f.body
    go none q z ih = ih z
    go (some d) q z ih = let y : found_in c d ≡ f = cc in subst (λ (g : Found). Declares t g.owner m g.body) y q

-- so it is one of the table's
pub found_in_lem : (P : Method → Type 0) (t : Table) → AllMethods P t.methods → (c m : ℕ) (f : Found) → lookup t c m ≡ some f → P f.body
found_in_lem P t a c m f e = (own P t.methods a f.owner m f.body (found_own t c c m f e)).0

-- a method belongs to a class, not to Object
abbrev pub Owned : Method → Type 0
Owned d = 1 ≤ d.owner

pub owned_of : (P : Method → Type 0) (ds : List Method) → ((d : Method) → P d → Owned d) → AllMethods P ds → AllMethods Owned ds
owned_of P [] h a = tt
owned_of P (d ∷ ds) h a = (h d a.0, owned_of P ds h a.1)

-- what a class has whose number no method's owner has
none_of : (P : Method → Type 0) (ds : List Method) → AllMethods P ds → (c m : ℕ) → ((d : Method) → P d → d.owner ≡ c → ⊥) → method_of ds c m ≡ none
none_of P ds a c m h = go (method_of ds c m) refl
  where
    go : (o : Option Method) → method_of ds c m ≡ o → o ≡ none
    go none q = refl
    go (some d) q = let f = own P ds a c m d q in absurd (h d f.0 f.1)

module _ (t : Table) (owned : AllMethods Owned t.methods) where
  pub none_at_0 : (m : ℕ) → method_of t.methods 0 m ≡ none
  none_at_0 m = none_of Owned t.methods owned 0 m (λ d o e. omega arith)

  pub lookup_object : (n m : ℕ) → lookup_to n t 0 m ≡ none
  unfolding lookup_to
  lookup_object zero m = refl
  lookup_object (suc n) m = rw (none_at_0 m, lookup_to) (lookup_object n m)

-- ---- two methods with the same types
pub record SameSig (d e : Method) : Type 0 where
  pub first : d.first ≡ e.first
  pub second : d.second ≡ e.second
  pub params : d.params ≡ e.params

same_sig : (d : Method) (f : Found) → same_types d (some f) ≡ true → SameSig d f.body
same_sig d f h =
    let e = f.body in
    let p = and_true (eq_ty d.first e.first && eq_ty d.second e.second) (eq_tys d.params e.params) h in
    let q = and_true (eq_ty d.first e.first) (eq_ty d.second e.second) p.0 in
    record {
      first = eq_ty_true d.first e.first q.0;
      second = eq_ty_true d.second e.second q.1;
      params = eq_tys_true d.params e.params p.1;
    }

sig_refl : (d : Method) → SameSig d d
sig_refl d = record { first = refl; second = refl; params = refl }

sig_trans : (d e f : Method) → SameSig d e → SameSig e f → SameSig d f
sig_trans d e f p q = record { first = p.first ∙ q.first; second = p.second ∙ q.second; params = p.params ∙ q.params }

module _ (t : Table) (wf : WellFormed t) where
  pub owned : AllMethods Owned t.methods
  owned = owned_of (MethodFormed t) t.methods (λ d f. f.owned) wf.methods

  -- a class byte past the table has no method
  none_past : (c m : ℕ) → length t.classes < c → method_of t.methods c m ≡ none
  none_past c m l = none_of (MethodFormed t) t.methods wf.methods c m (λ d f e. omega (arith, f.owner_known))

  pub lookup_past : (c m : ℕ) → length t.classes < c → lookup t c m ≡ none
  unfolding lookup_to
  lookup_past zero m l = refl
  lookup_past (suc k) m l = rw (none_past (suc k) m l, lookup_to, class_past t.classes (suc k) l) (lookup_object t owned k m)

  -- ---- what the answers stand for
  -- found in the class itself
  here : (c m : ℕ) (d : Method) → method_of t.methods c m ≡ some d → Nearest t c m (found_in c d)
  here c m d q = record {
    declares = q;
    above = fits_self t.classes c c refl;
    named = (own (MethodFormed t) t.methods wf.methods c m d q).1;
    between = λ b e u v n z. n (let l = fits_le t.classes wf.parents c b u in let k = fits_le t.classes wf.parents b c v in omega arith);
  }

  module _ (c m : ℕ) (lacks : method_of t.methods c m ≡ none) where
    -- one that has the method stands above the parent
    above_parent : (b : ℕ) (d : Method) → class_fits t.classes c b ≡ true → Declares t b m d → class_fits t.classes (parent_of t.classes c) b ≡ true
    above_parent b d z q = go (fits_or t.classes wf.parents c b z)
      where
        go : (c ≡ b) ⊎ (class_fits t.classes (parent_of t.classes c) b ≡ true) → class_fits t.classes (parent_of t.classes c) b ≡ true
        go (inl e) = absurd (none-ne-some d (sym lacks ∙ ap (λ (x : ℕ). method_of t.methods x m) e ∙ q))
        go (inr u) = u

    -- found above, or nowhere there
    nowhere_up : Nowhere t (parent_of t.classes c) m → Nowhere t c m
    nowhere_up h b d z q = h b d (above_parent b d z q) q

    nearest_up : (f : Found) → class_fits t.classes c f.owner ≡ true → Nearest t (parent_of t.classes c) m f → Nearest t c m f
    nearest_up f a h = record { declares = h.declares; above = a; named = h.named; between = λ b d u v n q. h.between b d (above_parent b d u q) v n q }

  stands_to : (n c m : ℕ) → c ≤ n → StandsFor t c m (lookup_to n t c m)
  unfolding lookup_to
  stands_to zero c m l = λ b d z q.
      let k = fits_le t.classes wf.parents c b z in
      let e : b ≡ 0 = omega arith in
      absurd (none-ne-some d (sym (none_at_0 t owned m) ∙ ap (λ (x : ℕ). method_of t.methods x m) (sym e) ∙ q))
  stands_to (suc n) c m l =
      go (method_of t.methods c m) refl (stands_to n (parent_of t.classes c) m (parent_le t.classes wf.parents c n l))
    where
      up : (x : ℕ) (o : Option Class) → class_at t.classes x ≡ o → method_of t.methods x m ≡ none → (y : Option Found) → lookup_to n t (parent_of t.classes x) m ≡ y
          → StandsFor t (parent_of t.classes x) m y → StandsFor t x m y
      up x o p q none e h = nowhere_up x m q h
      up zero o p q (some f) e h = h
      up (suc k) none p q (some f) e h =
          absurd (none-ne-some f (sym (lookup_object t owned n m) ∙ ap (λ (y : ℕ). lookup_to n t y m) (sym (ap parent_or0 p)) ∙ e))
      up (suc k) (some x) p q (some f) e h = nearest_up (suc k) m q f (fits-up t.classes wf.parents k f.owner x p h.above) h

      go : (o : Option Method) → method_of t.methods c m ≡ o → StandsFor t (parent_of t.classes c) m (lookup_to n t (parent_of t.classes c) m)
          → StandsFor t c m (elim o as (λ _. Option Found) [ none ↦ lookup_to n t (parent_of t.classes c) m | some d ↦ some (found_in c d) ])
      go none q ih = up c (class_at t.classes c) refl q (lookup_to n t (parent_of t.classes c) m) refl ih
      go (some d) q ih = here c m d q

  lookup_stands : (c m : ℕ) → StandsFor t c m (lookup t c m)
  lookup_stands c m = stands_to c c m (omega arith)

  -- there is one nearest class
  same_owner : (c m : ℕ) (f g : Found) → Nearest t c m f → Nearest t c m g → f.owner ≡ g.owner
  same_owner c m f g p q = go (ℕ_discrete f.owner g.owner) (fits_linear t.classes wf.parents c f.owner g.owner p.above q.above)
    where
      go : Dec (f.owner ≡ g.owner) → (class_fits t.classes f.owner g.owner ≡ true) ⊎ (class_fits t.classes g.owner f.owner ≡ true) → f.owner ≡ g.owner
      go (yes e) u = e
      go (no n) (inl u) = absurd (q.between f.owner f.body p.above u n p.declares)
      go (no n) (inr u) = absurd (p.between g.owner g.body q.above u (λ e. n (sym e)) q.declares)

  stands_one : (c m : ℕ) (x y : Option Found) → StandsFor t c m x → StandsFor t c m y → x ≡ y
  stands_one c m none none p q = refl
  stands_one c m none (some g) p q = absurd (p g.owner g.body q.above q.declares)
  stands_one c m (some f) none p q = absurd (q f.owner f.body p.above p.declares)
  stands_one c m (some f) (some g) p q =
      let e = same_owner c m f g p q in
      let z : some f.body ≡ some g.body = sym p.declares ∙ ap (λ (o : ℕ). method_of t.methods o m) e ∙ q.declares in
      let b : f.body ≡ g.body = cc in
      λ i. some (found_in (e i) (b i))

  pub lookup_exact : (c m : ℕ) (x : Option Found) → (lookup t c m ≡ x) ↔ StandsFor t c m x
  lookup_exact c m x = (λ e. subst (StandsFor t c m) e (lookup_stands c m), λ h. stands_one c m (lookup t c m) x (lookup_stands c m) h)

  -- the method found is one of the table, and its owner is the class or above it
  pub lookup_found : (P : Method → Type 0) → AllMethods P t.methods → (c m : ℕ) (f : Found) → lookup t c m ≡ some f → P f.body × (class_fits t.classes c f.body.owner ≡ true)
  lookup_found P a c m f e =
      let h : Nearest t c m f = (lookup_exact c m (some f)).0 e in
      (found_in_lem P t a c m f e, subst (λ (o : ℕ). class_fits t.classes c o ≡ true) (sym h.named) h.above)

  -- ---- overriding
  lookup_fuel : (n k c m : ℕ) → c ≤ n → c ≤ k → lookup_to n t c m ≡ lookup_to k t c m
  lookup_fuel n k c m p q = stands_one c m (lookup_to n t c m) (lookup_to k t c m) (stands_to n c m p) (stands_to k c m q)

  -- what is found at a parent is found at the class, or overridden there with the same types
  lookup-up : (k m : ℕ) (e : Found) → lookup t (parent_of t.classes (suc k)) m ≡ some e → (f : Found) × (lookup t (suc k) m ≡ some f) × SameSig f.body e.body
  unfolding lookup_to
  lookup-up k m e z = go (method_of t.methods (suc k) m) refl
    where
      go : (o : Option Method) → method_of t.methods (suc k) m ≡ o
          → (f : Found) × ((elim o as (λ _. Option Found) [ none ↦ lookup_to k t (parent_of t.classes (suc k)) m | some x ↦ some (found_in (suc k) x) ]) ≡ some f) × SameSig f.body e.body
      go none q = (e, lookup_fuel k (parent_of t.classes (suc k)) (parent_of t.classes (suc k)) m (wf.parents k) (omega arith) ∙ z, sig_refl e.body)
      go (some d) q =
          let f = own (MethodFormed t) t.methods wf.methods (suc k) m d q in
          let y : lookup t (parent_of t.classes d.owner) d.name ≡ some e =
          ap (λ (x : ℕ). lookup t (parent_of t.classes x) d.name) f.1 ∙ ap (λ (x : ℕ). lookup t (parent_of t.classes (suc k)) x) f.2 ∙ z in
          (found_in (suc k) d, refl, same_sig d e (sym (ap (λ (x : Option Found). same_types d x) y) ∙ f.0.same))

  -- a class that fits c has c's methods, with the same types
  pub lookup-fits : (c c' m : ℕ) (e : Found) → class_fits t.classes c' c ≡ true → lookup t c m ≡ some e → (f : Found) × (lookup t c' m ≡ some f) × SameSig f.body e.body
  lookup-fits c c' m e p z =
      climb t.classes wf.parents c (λ x. (f : Found) × (lookup t x m ≡ some f) × SameSig f.body e.body) (e, z, sig_refl e.body)
      (λ k x q ih. let up = lookup-up k m ih.0 ih.1 in (up.0, up.1, sig_trans up.0.body ih.0.body e.body up.2 ih.2)) c' p
