-- Places in lists, of methods by their owner and name too, and runs of stores.
use Rattle.std.proofs.Common.{ℕ, zero, suc, ◌+◌, ◌-◌, ◌<◌, ◌≤◌, not-suc-le-zero, arith, ◌≡◌, refl, ap, ◌∙◌, subst, Bool, true, false, ◌&&◌, List, [], ◌∷◌, ◌++◌, eqb, length, get_or, set, length-set, get_or-set_same, get_or-set_other}
use Rattle.std.proofs.Math.Option.{Option, none, some, none-ne-some}
use Rattle.std.proofs.Math.ListN.{get_elem?}
use Rattle.std.proofs.Math.Seq.{sets}
use Rattle.cofj.specs.Syntax.{Method}
use Rattle.cofj.specs.Lookup.{method_of}
use Rattle.cofj.specs.Finding.{place_of}
use Rattle.cofj.specs.WellFormed.{AllMethods}
use Rattle.classes.specs.Machine.{pick}
use Rattle.classes.specs.Layout.{index_from}

-- ---- what stands at a place
module _ {A : Type 0} where
  pub at_front : (xs ys : List A) (f : ℕ) → f < length xs → get_elem? (xs ++ ys) f ≡ get_elem? xs f
  at_front [] ys f h = absurd (not-suc-le-zero h)
  at_front (x ∷ xs) ys zero h = refl
  at_front (x ∷ xs) ys (suc f) h = at_front xs ys f (omega arith)

  pub at_after : (xs ys : List A) (f : ℕ) → length xs ≤ f → get_elem? (xs ++ ys) f ≡ get_elem? ys (f - length xs)
  at_after [] ys f h = ap (λ (k : ℕ). get_elem? ys k) (let q : f ≡ f - 0 = omega arith in q)
  at_after (x ∷ xs) ys zero h = absurd (not-suc-le-zero h)
  at_after (x ∷ xs) ys (suc f) h =
      at_after xs ys f (omega arith) ∙ ap (λ (k : ℕ). get_elem? ys k) (let q : f - length xs ≡ suc f - suc (length xs) = omega arith in q)

  pub at_seam : (xs : List A) (y : A) (ys : List A) → get_elem? (xs ++ y ∷ ys) (length xs) ≡ some y
  at_seam [] y ys = refl
  at_seam (x ∷ xs) y ys = at_seam xs y ys

  pub past : (xs : List A) (f : ℕ) → length xs ≤ f → get_elem? xs f ≡ none
  past [] f h = refl
  past (x ∷ xs) zero h = absurd (not-suc-le-zero h)
  past (x ∷ xs) (suc f) h = past xs f (omega arith)

  pub within : (xs : List A) (f : ℕ) → f < length xs → (u : A) × (get_elem? xs f ≡ some u)
  within [] f h = absurd (not-suc-le-zero h)
  within (x ∷ xs) zero h = (x, refl)
  within (x ∷ xs) (suc f) h = within xs f (omega arith)

  pub index_below : (xs : List A) (i : ℕ) (x : A) → get_elem? xs i ≡ some x → i < length xs
  index_below [] i x e = absurd (none-ne-some x e)
  index_below (y ∷ xs) zero x e = omega arith
  index_below (y ∷ xs) (suc i) x e = let h = index_below xs i x e in omega arith

pub method_at : (P : Method → Type 0) (ds : List Method) (i : ℕ) (d : Method) → AllMethods P ds → get_elem? ds i ≡ some d → P d
method_at P [] i d h e = absurd (none-ne-some d e)
method_at P (x ∷ ds) zero d h e = let q : x ≡ d = cc in subst P q h.0
method_at P (x ∷ ds) (suc i) d h e = method_at P ds i d h.1 e

-- ---- the place of a method, by its owner and name
-- the index of a list of methods, whose first has the number k, is the place of the method that the language finds
pub index_is : (k : ℕ) (ds : List Method) (c m : ℕ) → index_from k ds c m ≡ elim (method_of ds c m) as (λ _. ℕ) [ none ↦ 0 | some d ↦ suc (k + place_of ds c m) ]
unfolding index_from method_of place_of
index_is k [] c m = refl
index_is k (d ∷ ds) c m = go (eqb d.owner c && eqb d.name m) (index_is (suc k) ds c m)
  where
    next : (o : Option Method) (p : ℕ) → ◌≡◌ {A = ℕ} (elim o [ none ↦ 0 | some e ↦ suc (suc k + p) ]) (elim o [ none ↦ 0 | some e ↦ suc (k + suc p) ])
    next none p = refl
    next (some e) p = omega arith

    go : (b : Bool) → index_from (suc k) ds c m ≡ elim (method_of ds c m) as (λ _. ℕ) [ none ↦ 0 | some e ↦ suc (suc k + place_of ds c m) ]
        → pick b (suc k) (index_from (suc k) ds c m)
        ≡ elim (elim b as (λ _. Option Method) [ true ↦ some d | false ↦ method_of ds c m ]) as (λ _. ℕ)
        [ none ↦ 0 | some e ↦ suc (k + elim b as (λ _. ℕ) [ true ↦ 0 | false ↦ suc (place_of ds c m) ]) ]
    go true ih = omega arith
    go false ih = ih ∙ next (method_of ds c m) (place_of ds c m)

-- ---- a run of stores
pub sets_before : (xs B : List ℕ) (at i : ℕ) → i < at → get_or (sets B at xs) i 0 ≡ get_or B i 0
sets_before [] B at i h = refl
sets_before (x ∷ xs) B at i h = sets_before xs (set B at x) (suc at) i (omega arith) ∙ get_or-set_other B at i x 0 (λ e. omega arith)

pub sets_after : (xs B : List ℕ) (at i : ℕ) → at + length xs ≤ i → get_or (sets B at xs) i 0 ≡ get_or B i 0
sets_after [] B at i h = refl
sets_after (x ∷ xs) B at i h = sets_after xs (set B at x) (suc at) i (omega arith) ∙ get_or-set_other B at i x 0 (λ e. omega arith)

pub sets_in : (xs B : List ℕ) (at k : ℕ) → k < length xs → at + length xs ≤ length B → get_or (sets B at xs) (at + k) 0 ≡ get_or xs k 0
sets_in [] B at k h l = absurd (not-suc-le-zero h)
sets_in (x ∷ xs) B at zero h l =
    ap (λ (i : ℕ). get_or (sets (set B at x) (suc at) xs) i 0) (let q : at + 0 ≡ at = omega arith in q)
    ∙ sets_before xs (set B at x) (suc at) at (omega arith)
    ∙ get_or-set_same B at x 0 (omega arith)
sets_in (x ∷ xs) B at (suc k) h l =
    ap (λ (i : ℕ). get_or (sets (set B at x) (suc at) xs) i 0) (let q : at + suc k ≡ suc at + k = omega arith in q)
    ∙ sets_in xs (set B at x) (suc at) k (omega arith) (let e = length-set B at x in omega arith)
