-- Laws of rows hung up by the objects that their fields lead to.
use Rattle.std.proofs.Common.{ℕ, ◌+◌, ◌-◌, ◌*◌, ◌<◌, ◌≤◌, arith, ◌≡◌, refl, ◌∙◌, List, [], length, get_or, set, replicate, get_or-set_same, get_or-set_other, lt-ltb, le-ltb}
use native.Mathlib.Decide.{dec_lt, ℕ_discrete}
use Rattle.std.proofs.lemmas.List.{get_or-replicate}
use Rattle.canon.specs.Figures.{object_size, head_size, code_count, first_leaf}
use Rattle.canon.specs.declared.rows.Link.{Link}
use Rattle.canon.specs.Rows.{free, link_at, field_at}
use Rattle.canon.specs.Layout.{Codes}
use Rattle.canon.specs.Links.{Lists, target_of, ReferredTo, Referred, AllFree}
use Rattle.canon.proofs.Hangs.{free_new}

-- ---- by a field
module _ (b : ℕ) where
  pub target_object : b < first_leaf → b + 1 ≡ target_of b
  unfolding target_of
  target_object h = rw (lt-ltb b first_leaf h)

  pub target_leaf : first_leaf ≤ b → 0 ≡ target_of b
  unfolding target_of
  target_leaf h = rw (le-ltb b first_leaf h)

pub target_low : (N : List ℕ) (n i f v : ℕ) → Codes N (n - 1) → 0 < n → i + 1 < n → f < code_count → v ≡ target_of (get_or N (object_size * i + head_size + f) 0) → v < n
target_low N n i f v c pos h hf e = go (dec_lt (get_or N (object_size * i + head_size + f) 0) first_leaf)
  where
    go : Dec (get_or N (object_size * i + head_size + f) 0 < first_leaf) → v < n
    go (yes l) = omega (arith, c.low i f (omega arith) hf l, target_object (get_or N (object_size * i + head_size + f) 0) l)
    go (no l) = omega (arith, target_leaf (get_or N (object_size * i + head_size + f) 0) (omega (arith, l)))

-- ---- by all fields
pub fields_none : (N : List ℕ) (n : ℕ) (F : List (List Link)) → Referred N n 0 F F
fields_none N n F = record { done = λ f h. absurd (omega arith); targets = λ f h y p q. absurd (omega arith); others = λ g a. refl }

pub fields_more : (N : List ℕ) (n f : ℕ) (F F1 : List (List Link)) (K : List Link) → Referred N n f F F1 → f < length F1 → ReferredTo N n f n (field_at F1 f) K → Referred N n (f + 1) F (set F1 f K)
fields_more N n f F F1 K r hf q = record {
  done = λ g h. done g h (ℕ_discrete g f);
  targets = λ g h. targets g h (ℕ_discrete g f);
  others = λ g a. there g (λ z. omega arith) ∙ r.others g (omega arith);
}
  where
    here : (g : ℕ) → g ≡ f → field_at (set F1 f K) g ≡ K
    here g e = rw e (get_or-set_same F1 f K [] hf)

    there : (g : ℕ) → ((g ≡ f) → ⊥) → field_at (set F1 f K) g ≡ field_at F1 g
    there g e = get_or-set_other F1 f g K [] e

    done : (g : ℕ) → g < f + 1 → Dec (g ≡ f) → Lists n (field_at (set F1 f K) g)
    done g h (yes e) = rw (here g e) (record { all = q.hung })
    done g h (no e) = rw (there g e) (r.done g (omega (arith, e)))

    targets : (g : ℕ) → g < f + 1 → Dec (g ≡ f) → (y : ℕ) → 0 < y → y < n → (link_at (field_at (set F1 f K) g) y).target ≡ target_of (get_or N (object_size * (y - 1) + head_size + g) 0)
    targets g h (yes e) y p l = rw (here g e, e) (q.targets y p l)
    targets g h (no e) y p l = rw (there g e) (r.targets g (omega (arith, e)) y p l)

pub fields_done : (N : List ℕ) (n f : ℕ) (F F1 : List (List Link)) → Referred N n f F F1 → code_count ≤ f → f ≤ code_count → Referred N n 4 F F1
fields_done N n f F F1 r h l = let z : f ≡ 4 = omega arith in rw z at r

pub all_free : (k m n : ℕ) → n ≤ k → code_count ≤ m → AllFree n (replicate m (replicate k free))
all_free k m n h l = record { each = λ f p. rw (get_or-replicate m f (replicate k free) [] (omega arith)) (free_new k n h) }
