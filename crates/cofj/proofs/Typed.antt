-- The invariant of type soundness: what may stand at each place of a value, and that the operations keep it.
use Prim.Native.Nat.{ℕ, zero, suc, ◌≤◌, ◌<◌, max}
use native.Mathlib.Omega.{arith}
use mathlib.Core.Path.{◌≡◌, refl, ◌∙◌, subst}
use mathlib.Core.Bool.{Bool, true, false}
use mathlib.Core.List.{List, [], ◌∷◌}
use mathlib.Core.Option.{Option, none, some, none-ne-some}
use lib.Dec.{eqb}
use lib.ListN.{length, get_elem?}
use borrow.Author.Tests.{eqb-true, eq-eqb, ne_eqb}
use Rattle.cofj.specs.Limits.{number_class}
use Rattle.cofj.specs.Syntax.{Ty, ty, Table}
use Rattle.cofj.specs.Classes.{class_fits, fields_of}
use Rattle.cofj.specs.Values.{Leaf, mark, undet, num, Graph}
use Rattle.cofj.specs.Unfolding.{Label, object, at_leaf, follow, Whole}
use Rattle.cofj.specs.WellFormed.{WellFormed}
use Rattle.cofj.proofs.Chain.{fits_self}
use Rattle.cofj.proofs.Climb.{fits_trans}

-- a tree, given by what stands at the end of each path
abbrev pub Tree : Type 0
Tree = List ℕ → Option Label

abbrev pub tree : Graph → Tree
tree g p = follow g.nodes g.root p

-- the class that bounds the mark k: that of the left type of the method that open call k runs. The newest open call first; a call's mark is the number of calls before it.
unfoldable pub bound : List ℕ → ℕ → Option ℕ
bound [] k = none
bound (c ∷ σ) k = elim (eqb k (length σ)) [ true ↦ some c | false ↦ bound σ k ]

-- the tag of a field's place below a place of tag g. Below tag 0 it is the field's own. Below any other a plus place may hold a mark too.
abbrev pub under : ℕ → ℕ → ℕ
under zero h = h
under (suc g) h = max 2 h

-- tag 0, 1: an object or a number; 2: a mark too; 3: undetermined too. Its class, or its bound, fits; an object's is one of the table.
abbrev pub OkLeaf : Table → List ℕ → Ty → Leaf → Type 0
OkLeaf t σ u (mark k) = (c : ℕ) × (bound σ k ≡ some c) × (class_fits t.classes c u.cls ≡ true) × (2 ≤ u.tag)
OkLeaf t σ u undet = 3 ≤ u.tag
OkLeaf t σ u (num n) = class_fits t.classes number_class u.cls ≡ true

abbrev pub Ok : Table → List ℕ → Ty → Label → Type 0
Ok t σ u (object c n) = (class_fits t.classes c u.cls ≡ true) × (n ≡ length (fields_of t.classes c)) × (c ≤ length t.classes)
Ok t σ u (at_leaf l) = OkLeaf t σ u l

abbrev pub OkAt : Table → List ℕ → Ty → Option Label → Type 0
OkAt t σ u none = ⊥
OkAt t σ u (some l) = Ok t σ u l

-- the tree has type u down to depth n
abbrev pub Typed : Table → List ℕ → ℕ → Ty → Tree → Type 0
Typed t σ zero u T = Unit {0}
Typed t σ (suc n) u T = OkAt t σ u (T []) × ((c k f : ℕ) (w : Ty) → T [] ≡ some (object c k) → get_elem? (fields_of t.classes c) f ≡ some w
    → Typed t σ n (ty w.cls (under u.tag w.tag)) (λ p. T (f ∷ p)))

abbrev pub AllTyped : Table → List ℕ → Ty → Tree → Type 0
AllTyped t σ u T = (n : ℕ) → Typed t σ n u T

-- a value of type u
pub record Has (t : Table) (σ : List ℕ) (u : Ty) (v : Graph) : Type 0 where
  pub whole : Whole v
  pub typed : AllTyped t σ u (tree v)
  pub tag : u.tag ≤ 3

-- values of types, one for one
abbrev pub Hold : Table → List ℕ → List Ty → List Graph → Type 0
Hold t σ [] [] = Unit {0}
Hold t σ [] (v ∷ vs) = ⊥
Hold t σ (u ∷ us) [] = ⊥
Hold t σ (u ∷ us) (v ∷ vs) = Has t σ u v × Hold t σ us vs

-- ---- tags
under_le : (g g' h : ℕ) → g ≤ g' → under g h ≤ under g' h
under_le zero zero h p = omega arith
under_le zero (suc g') h p = omega arith
under_le (suc g) zero h p = omega arith
under_le (suc g) (suc g') h p = omega arith

-- ---- marks
pub bound_lt : (σ : List ℕ) (k c : ℕ) → bound σ k ≡ some c → k < length σ
unfolding bound
bound_lt [] k c e = absurd (none-ne-some c e)
bound_lt (x ∷ σ) k c e = go (eqb k (length σ)) refl e (bound_lt σ k c)
  where
    go : (b : Bool) → eqb k (length σ) ≡ b → (elim b as (λ _. Option ℕ) [ true ↦ some x | false ↦ bound σ k ]) ≡ some c → (bound σ k ≡ some c → k < length σ) → k < suc (length σ)
    go true q z ih = omega (arith, eqb-true k (length σ) q)
    go false q z ih = omega (arith, ih z)

pub bound_old : (x : ℕ) (σ : List ℕ) (k c : ℕ) → (k ≡ length σ → ⊥) → bound (x ∷ σ) k ≡ bound σ k
unfolding bound
bound_old x σ k c h = rw (ne_eqb k (length σ) h, bound)

pub bound_new : (x : ℕ) (σ : List ℕ) → bound (x ∷ σ) (length σ) ≡ some x
unfolding bound
bound_new x σ = rw (eq-eqb (length σ) (length σ) refl, bound)

pub bound_more : (x : ℕ) (σ : List ℕ) (k c : ℕ) → bound σ k ≡ some c → bound (x ∷ σ) k ≡ some c
bound_more x σ k c e = let l = bound_lt σ k c e in bound_old x σ k c (λ z. omega arith) ∙ e

-- ---- the invariant under weakening
module _ (t : Table) (wf : WellFormed t) where
  -- a larger type
  pub ok_fits : (σ : List ℕ) (u u' : Ty) → class_fits t.classes u.cls u'.cls ≡ true → u.tag ≤ u'.tag → (o : Option Label) → OkAt t σ u o → OkAt t σ u' o
  ok_fits σ u u' p q none h = h
  ok_fits σ u u' p q (some (object c n)) h = (fits_trans t.classes wf.parents c u.cls u'.cls h.0 p, h.1, h.2)
  ok_fits σ u u' p q (some (at_leaf (mark k))) h = (h.0, h.1, fits_trans t.classes wf.parents h.0 u.cls u'.cls h.2 p, omega (arith, h.3))
  ok_fits σ u u' p q (some (at_leaf undet)) h = omega arith
  ok_fits σ u u' p q (some (at_leaf (num n))) h = fits_trans t.classes wf.parents number_class u.cls u'.cls h p

  pub typed-fits : (n : ℕ) (σ : List ℕ) (u u' : Ty) (T : Tree) → class_fits t.classes u.cls u'.cls ≡ true → u.tag ≤ u'.tag → Typed t σ n u T → Typed t σ n u' T
  typed-fits zero σ u u' T p q h = tt
  typed-fits (suc n) σ u u' T p q h = (
    ok_fits σ u u' p q (T []) h.0,
    λ c k f w e z. typed-fits n σ _ _ (λ r. T (f ∷ r)) (fits_self t.classes w.cls w.cls refl) (under_le u.tag u'.tag w.tag q) (h.1 c k f w e z),
  )

  -- one more open call
  ok_more : (x : ℕ) (σ : List ℕ) (u : Ty) (o : Option Label) → OkAt t σ u o → OkAt t (x ∷ σ) u o
  ok_more x σ u none h = h
  ok_more x σ u (some (object c n)) h = h
  ok_more x σ u (some (at_leaf (mark k))) h = (h.0, bound_more x σ k h.0 h.1, h.2, h.3)
  ok_more x σ u (some (at_leaf undet)) h = h
  ok_more x σ u (some (at_leaf (num n))) h = h

  pub typed_more : (n x : ℕ) (σ : List ℕ) (u : Ty) (T : Tree) → Typed t σ n u T → Typed t (x ∷ σ) n u T
  typed_more zero x σ u T h = tt
  typed_more (suc n) x σ u T h = (ok_more x σ u (T []) h.0, λ c k f w e z. typed_more n x σ _ (λ r. T (f ∷ r)) (h.1 c k f w e z))

  -- no open call: a tag counts only as 3 or less
  ok_closed : (u u' : Ty) → u.cls ≡ u'.cls → (3 ≤ u.tag → 3 ≤ u'.tag) → (o : Option Label) → OkAt t [] u o → OkAt t [] u' o
  unfolding bound
  ok_closed u u' p q none h = h
  ok_closed u u' p q (some (object c n)) h = (subst (λ (d : ℕ). class_fits t.classes c d ≡ true) p h.0, h.1, h.2)
  ok_closed u u' p q (some (at_leaf (mark k))) h = absurd (none-ne-some h.0 h.1)
  ok_closed u u' p q (some (at_leaf undet)) h = q h
  ok_closed u u' p q (some (at_leaf (num n))) h = subst (λ (d : ℕ). class_fits t.classes number_class d ≡ true) p h

  under_closed : (g g' h : ℕ) → 3 ≤ under g h → 3 ≤ under g' h
  under_closed zero zero h p = p
  under_closed zero (suc g') h p = omega arith
  under_closed (suc g) zero h p = omega arith
  under_closed (suc g) (suc g') h p = p

  pub typed_closed : (n : ℕ) (u u' : Ty) (T : Tree) → u.cls ≡ u'.cls → (3 ≤ u.tag → 3 ≤ u'.tag) → Typed t [] n u T → Typed t [] n u' T
  typed_closed zero u u' T p q h = tt
  typed_closed (suc n) u u' T p q h =
      (ok_closed u u' p q (T []) h.0, λ c k f w e z. typed_closed n _ _ (λ r. T (f ∷ r)) refl (under_closed u.tag u'.tag w.tag) (h.1 c k f w e z))
