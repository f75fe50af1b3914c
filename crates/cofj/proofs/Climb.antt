-- Class fit is an order: transitive, downward in the class numbers, and of two classes above one, one is above the other. A class below has the fields of
-- the class that it fits. Not here: methods (Lookup).
use Prim.Native.Nat.{ℕ, zero, suc, ◌≤◌, ◌<◌}
use native.Mathlib.Nat.{not-suc-le-zero}
use native.Mathlib.Omega.{arith}
use native.Mathlib.Decide.{ℕ_discrete}
use mathlib.Core.Path.{◌≡◌, refl, sym, ap, ◌∙◌, subst}
use mathlib.Core.Bool.{Bool, true, false, false≢true}
use mathlib.Core.List.{List, [], ◌∷◌, ◌++◌}
use mathlib.Core.Option.{Option, none, some, none-ne-some}
use mathlib.Core.Logic.{◌⊎◌, inl, inr}
use lib.Dec.{eqb}
use lib.ListN.{length, get_elem?}
use borrow.Author.Tests.{eqb-true, eqb-false, ne_eqb}
use Rattle.cofj.specs.Syntax.{Ty, ty, Class, Table, eq_ty, eq_tys}
use Rattle.cofj.specs.Classes.{class_fits, chain_has, parent_or0, parent_of, class_at, own_or_none, fields_to, fields_of}
use Rattle.cofj.specs.WellFormed.{Tags, WellFormed}
use Rattle.cofj.proofs.Chain.{ParentsSmaller, parent_le, class_past, fits_self, fits-above}
use Rattle.cofj.proofs.Partial.{and_true}

-- ---- tests in a row
pub eq_ty_true : (a b : Ty) → eq_ty a b ≡ true → a ≡ b
eq_ty_true a b h =
    let p = and_true (eqb a.cls b.cls) (eqb a.tag b.tag) h in
    λ i. ty (eqb-true a.cls b.cls p.0 i) (eqb-true a.tag b.tag p.1 i)

pub eq_tys_true : (xs ys : List Ty) → eq_tys xs ys ≡ true → xs ≡ ys
eq_tys_true [] [] h = refl
eq_tys_true [] (b ∷ bs) h = absurd (false≢true h)
eq_tys_true (a ∷ xs) [] h = absurd (false≢true h)
eq_tys_true (a ∷ xs) (b ∷ ys) h =
    let p = and_true (eq_ty a b) (eq_tys xs ys) h in
    λ i. eq_ty_true a b p.0 i ∷ eq_tys_true xs ys p.1 i

-- ---- induction up the chain: what holds of d, and of a class when it holds of its parent, holds of every class that fits d
module _ (cs : List Class) (h : ParentsSmaller cs) (d : ℕ) (P : ℕ → Type 0) (base : P d)
    (step : (k : ℕ) (x : Class) → class_at cs (suc k) ≡ some x → P (parent_of cs (suc k)) → P (suc k)) where
  step' : (c : ℕ) (x : Class) → class_at cs c ≡ some x → P (parent_of cs c) → P c
  step' zero x q p = p
  step' (suc k) x q p = step k x q p

  climb_to : (n c : ℕ) → c ≤ n → chain_has n cs c d ≡ true → P c
  unfolding chain_has
  climb_to zero c l e = subst P (sym (eqb-true c d e)) base
  climb_to (suc n) c l e = go (eqb c d) (class_at cs c) refl refl e (climb_to n (parent_of cs c) (parent_le cs h c n l))
    where
      go : (b : Bool) (o : Option Class) → eqb c d ≡ b → class_at cs c ≡ o
          → (elim b as (λ _. Bool) [ true ↦ true | false ↦ elim o as (λ _. Bool) [ none ↦ false | some k ↦ chain_has n cs k.parent d ] ]) ≡ true
          → (chain_has n cs (parent_of cs c) d ≡ true → P (parent_of cs c)) → P c
      go true o q r z ih = subst P (sym (eqb-true c d q)) base
      go false none q r z ih = absurd (false≢true z)
      go false (some x) q r z ih = step' c x r (ih (ap (λ (o : Option Class). chain_has n cs (parent_or0 o) d) r ∙ z))

  pub climb : (c : ℕ) → class_fits cs c d ≡ true → P c
  climb c e = climb_to c c (omega arith) e

module _ (cs : List Class) (h : ParentsSmaller cs) where
  pub fits-up : (k e : ℕ) (x : Class) → class_at cs (suc k) ≡ some x → class_fits cs (parent_of cs (suc k)) e ≡ true → class_fits cs (suc k) e ≡ true
  fits-up k e x r z = go (eqb (suc k) e) refl
    where
      go : (b : Bool) → eqb (suc k) e ≡ b → class_fits cs (suc k) e ≡ true
      go true q = fits_self cs (suc k) e (eqb-true (suc k) e q)
      go false q = fits-above cs h k e x r (eqb-false (suc k) e q) ∙ z

  pub fits_trans : (c d e : ℕ) → class_fits cs c d ≡ true → class_fits cs d e ≡ true → class_fits cs c e ≡ true
  fits_trans c d e p q = climb cs h d (λ x. class_fits cs x e ≡ true) q (λ k x r z. fits-up k e x r z) c p

  -- another class above one stands above its parent
  fits_further : (k e : ℕ) → (suc k ≡ e → ⊥) → class_fits cs (suc k) e ≡ true → (x : Class) × (class_at cs (suc k) ≡ some x) × (class_fits cs (parent_of cs (suc k)) e ≡ true)
  unfolding chain_has
  fits_further k e n z = go (class_at cs (suc k)) refl
    where
      go : (o : Option Class) → class_at cs (suc k) ≡ o → (x : Class) × (class_at cs (suc k) ≡ some x) × (class_fits cs (parent_of cs (suc k)) e ≡ true)
      go none q = absurd (false≢true (rw (ne_eqb (suc k) e n, chain_has, q) at z))
      go (some x) q = (x, q, sym (fits-above cs h k e x q n) ∙ z)

  -- what stands above a class is that class or stands above its parent
  pub fits_or : (c e : ℕ) → class_fits cs c e ≡ true → (c ≡ e) ⊎ (class_fits cs (parent_of cs c) e ≡ true)
  fits_or zero e z = inr z
  fits_or (suc k) e z = go (ℕ_discrete (suc k) e)
    where
      go : Dec (suc k ≡ e) → (suc k ≡ e) ⊎ (class_fits cs (parent_of cs (suc k)) e ≡ true)
      go (yes q) = inl q
      go (no n) = inr (fits_further k e n z).2

  -- and has no larger number
  pub fits_le : (c d : ℕ) → class_fits cs c d ≡ true → d ≤ c
  fits_le c d z = climb cs h d (λ x. d ≤ x) (omega arith) (λ k x q l. omega (arith, h k)) c z

  -- of two classes above one, one stands above the other: there is one nearest class (Lookup)
  pub fits_linear : (c d e : ℕ) → class_fits cs c d ≡ true → class_fits cs c e ≡ true → (class_fits cs d e ≡ true) ⊎ (class_fits cs e d ≡ true)
  fits_linear c d e p q =
      (climb cs h d (λ x. (class_fits cs x d ≡ true) × (class_fits cs x e ≡ true → (class_fits cs d e ≡ true) ⊎ (class_fits cs e d ≡ true)))
      (fits_self cs d d refl, λ z. inl z) (λ k x r ih. (fits-up k d x r ih.0, λ z. go k (fits-up k d x r ih.0) ih.1 z (ℕ_discrete (suc k) e))) c p).1 q
    where
      go : (k : ℕ) → class_fits cs (suc k) d ≡ true → (class_fits cs (parent_of cs (suc k)) e ≡ true → (class_fits cs d e ≡ true) ⊎ (class_fits cs e d ≡ true))
          → class_fits cs (suc k) e ≡ true → Dec (suc k ≡ e) → (class_fits cs d e ≡ true) ⊎ (class_fits cs e d ≡ true)
      go k up ih z (yes a) = inr (subst (λ (y : ℕ). class_fits cs y d ≡ true) a up)
      go k up ih z (no n) = ih (fits_further k e n z).2

  -- ---- fields
  fields_object : (n : ℕ) → fields_to n cs 0 ≡ []
  unfolding fields_to
  fields_object zero = refl
  fields_object (suc n) = ap (λ (l : List Ty). l ++ []) (fields_object n)

  fields_fuel : (n m c : ℕ) → c ≤ n → c ≤ m → fields_to n cs c ≡ fields_to m cs c
  unfolding fields_to
  fields_fuel zero m zero p q = sym (fields_object m)
  fields_fuel zero m (suc c) p q = absurd (not-suc-le-zero p)
  fields_fuel (suc n) zero zero p q = fields_object (suc n)
  fields_fuel (suc n) zero (suc c) p q = absurd (not-suc-le-zero q)
  fields_fuel (suc n) (suc m) c p q =
      ap (λ (l : List Ty). l ++ own_or_none (class_at cs c)) (fields_fuel n m (parent_of cs c) (parent_le cs h c n p) (parent_le cs h c m q))

  fields_parent : (k : ℕ) → fields_of cs (suc k) ≡ fields_of cs (parent_of cs (suc k)) ++ own_or_none (class_at cs (suc k))
  unfolding fields_to
  fields_parent k = ap (λ (l : List Ty). l ++ own_or_none (class_at cs (suc k))) (fields_fuel k (parent_of cs (suc k)) (parent_of cs (suc k)) (h k) (omega arith))

  at_left : (xs ys : List Ty) (f : ℕ) (w : Ty) → get_elem? xs f ≡ some w → get_elem? (xs ++ ys) f ≡ some w
  at_left [] ys f w e = absurd (none-ne-some w e)
  at_left (x ∷ xs) ys zero w e = e
  at_left (x ∷ xs) ys (suc f) w e = at_left xs ys f w e

  -- a class that fits d has d's fields
  pub fits_fields : (c d f : ℕ) (w : Ty) → class_fits cs c d ≡ true → get_elem? (fields_of cs d) f ≡ some w → get_elem? (fields_of cs c) f ≡ some w
  fits_fields c d f w p e =
      climb cs h d (λ x. get_elem? (fields_of cs x) f ≡ some w) e
      (λ k x q z. ap (λ (l : List Ty). get_elem? l f) (fields_parent k) ∙ at_left (fields_of cs (parent_of cs (suc k))) _ f w z) c p

  -- a class byte past the table has none
  pub fields_past : (c : ℕ) → length cs < c → fields_of cs c ≡ []
  unfolding fields_to
  fields_past zero l = refl
  fields_past (suc k) l = rw (class_past cs (suc k) l, fields_to, fields_object k)

  tags_append : (xs ys : List Ty) → Tags xs → Tags ys → Tags (xs ++ ys)
  tags_append [] ys a b = b
  tags_append (x ∷ xs) ys a b = (a.0, tags_append xs ys a.1 b)

  pub fields_tags : ((c : ℕ) → Tags (own_or_none (class_at cs c))) → (n c : ℕ) → Tags (fields_to n cs c)
  unfolding fields_to
  fields_tags o zero c = tt
  fields_tags o (suc n) c = tags_append (fields_to n cs (parent_of cs c)) (own_or_none (class_at cs c)) (fields_tags o n (parent_of cs c)) (o c)

pub tag_at : (xs : List Ty) → Tags xs → (f : ℕ) (w : Ty) → get_elem? xs f ≡ some w → w.tag ≤ 3
tag_at [] a f w e = absurd (none-ne-some w e)
tag_at (x ∷ xs) a zero w e = subst (λ (y : Ty). y.tag ≤ 3) (let z : x ≡ w = cc in z) a.0
tag_at (x ∷ xs) a (suc f) w e = tag_at xs a.1 f w e

module _ (t : Table) (wf : WellFormed t) where
  pub field_tag : (c f : ℕ) (w : Ty) → get_elem? (fields_of t.classes c) f ≡ some w → w.tag ≤ 3
  field_tag c f w e = tag_at (fields_of t.classes c) (fields_tags t.classes wf.parents wf.own c c) f w e
