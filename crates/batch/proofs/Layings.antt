-- Laws of the parts that lead colours, laid as objects, byte by byte. Not here: what the objects unfold to (Quotients).
use Rattle.std.proofs.Common.{ℕ, ◌+◌, ◌*◌, ◌<◌, ◌≤◌, arith, ◌≡◌, refl, ◌∙◌, List, length, get_or, set, length-set, get_or-set_same, get_or-set_other}
use native.Mathlib.Decide.{dec_lt, ℕ_discrete}
use Rattle.canon.specs.Figures.{object_size, head_size, numbers_at}
use Rattle.canon.specs.Tables.{Carried}
use Rattle.canon.proofs.Lifts.{copy_plain, copy_rest, copy_turned}
use Rattle.batch.specs.Figures.{part_size}
use Rattle.batch.specs.Colouring.{look_in, shade_in}
use Rattle.batch.specs.Laying.{PartLaid, Laid}

module _ (P C : List ℕ) where
  -- its bytes copied, and then its fields as they look
  pub part-copied : (p : ℕ) (R₀ : List ℕ) (c : ℕ) (R : List ℕ) → Carried P (part_size * p) R₀ (object_size * c) part_size R → PartLaid P C p R c head_size R
  part-copied p R₀ c R ca = record {
    same = refl;
    here = λ f h. ca.here f (omega arith) ∙ copy_plain (look_in C) _ f h;
    rest = λ f a h. ca.here f h;
    below = λ q h. refl;
  }

  pub part_more : (p : ℕ) (R₀ : List ℕ) (c j : ℕ) (R : List ℕ) (v : ℕ) → PartLaid P C p R₀ c j R → head_size ≤ j → j < numbers_at → v ≡ look_in C (get_or P (part_size * p + j) 0)
      → object_size * c + j < length R → PartLaid P C p R₀ c (j + 1) (set R (object_size * c + j) v)
  part_more p R₀ c j R v so a k e h = record {
    same = length-set R (object_size * c + j) v ∙ so.same;
    here = λ f l. go f l (ℕ_discrete f j);
    rest = λ f b l. get_or-set_other R (object_size * c + j) (object_size * c + f) v 0 (λ z. omega arith) ∙ so.rest f b l;
    below = λ q l. get_or-set_other R (object_size * c + j) q v 0 (λ z. omega arith) ∙ so.below q l;
  }
    where
      go : (f : ℕ) → f < j + 1 → Dec (f ≡ j) → get_or (set R (object_size * c + j) v) (object_size * c + f) 0 ≡ shade_in C f (get_or P (part_size * p + f) 0)
      go f l (yes z) = rw z (get_or-set_same R (object_size * c + j) v 0 h ∙ copy_turned (look_in C) _ j v a k e)
      go f l (no z) = get_or-set_other R (object_size * c + j) (object_size * c + f) v 0 (λ q. z (omega arith)) ∙ so.here f (omega (arith, z))

  pub part_done : (p : ℕ) (R₀ : List ℕ) (c j : ℕ) (R₁ R : List ℕ) → Carried P (part_size * p) R₀ (object_size * c) part_size R₁ → PartLaid P C p R₁ c j R → numbers_at ≤ j
      → PartLaid P C p R₀ c object_size R
  part_done p R₀ c j R₁ R ca so h = record {
    same = so.same ∙ ca.same;
    here = λ f l. go f l (dec_lt f numbers_at);
    rest = so.rest;
    below = λ q l. so.below q l ∙ ca.below q l;
  }
    where
      go : (f : ℕ) → f < object_size → Dec (f < numbers_at) → get_or R (object_size * c + f) 0 ≡ shade_in C f (get_or P (part_size * p + f) 0)
      go f l (yes m) = so.here f (omega arith)
      go f l (no m) = so.rest f (omega (arith, m)) l ∙ copy_rest (look_in C) _ f (omega (arith, m))

  module _ (D R₀ : List ℕ) where
    pub leads_none : Laid P C D 0 R₀ R₀
    leads_none = record { same = refl; here = λ c f h. absurd (omega arith) }

    pub leads_more : (c : ℕ) (R R' : List ℕ) → Laid P C D c R₀ R → PartLaid P C (get_or D c 0) R c object_size R' → Laid P C D (c + 1) R₀ R'
    leads_more c R R' so pl = record { same = pl.same ∙ so.same; here = λ d f l h. go d f l h (ℕ_discrete d c) }
      where
        go : (d f : ℕ) → d < c + 1 → f < object_size → Dec (d ≡ c) → get_or R' (object_size * d + f) 0 ≡ shade_in C f (get_or P (part_size * get_or D d 0 + f) 0)
        go d f l h (yes z) = rw z (pl.here f h)
        go d f l h (no z) = let n : d < c = omega (arith, z) in pl.below (object_size * d + f) (omega arith) ∙ so.here d f n h

    pub leads_done : (c k : ℕ) (R : List ℕ) → Laid P C D c R₀ R → k ≤ c → Laid P C D k R₀ R
    leads_done c k R so h = record { same = so.same; here = λ d f l. so.here d f (omega arith) }
