-- Laws of the level of objects: no code of theirs is a mark of the level or above.
use Rattle.std.proofs.Common.{ℕ, zero, suc, ◌+◌, ◌-◌, ◌*◌, ◌<◌, ◌≤◌, arith, ◌≡◌, List, get_or}
use native.Mathlib.Decide.{ℕ_discrete}
use Rattle.canon.specs.Figures.{object_size, head_size, code_count, number_code, first_mark}
use Rattle.canon.specs.Numbers.{Above, Levels}

pub above_all : (W : List ℕ) (p m a b c r : ℕ) → (get_or W (p + head_size) 0 ≤ a) × (get_or W (p + head_size + 1) 0 ≤ a) → (get_or W (p + head_size + 2) 0 ≤ b) × (get_or W (p + head_size + 3) 0 ≤ b) → (a ≤ c) × (b ≤ c) → (m ≤ r) × (c ≤ r)
    → Above W p m r
above_all W p m a b c r ea eb ec er = record { more = er.0; codes = go }
  where
    go : (f : ℕ) → f < code_count → get_or W (p + head_size + f) 0 ≤ r
    go zero h = let z : p + head_size + 0 ≡ p + head_size = omega arith in rw z (omega arith)
    go (suc zero) h = omega arith
    go (suc (suc zero)) h = omega arith
    go (suc (suc (suc zero))) h = omega arith
    go (suc (suc (suc (suc f)))) h = absurd (omega arith)

pub level_none : (W : List ℕ) (at l : ℕ) → Levels W at 0 l
level_none W at l = record { below = λ i f h. absurd (omega arith) }

module _ (W : List ℕ) (at i m : ℕ) (low : number_code ≤ m) (lv : Levels W at i (m - number_code)) where
  pub level_more : (r : ℕ) → Above W (at + object_size * i) m r → Levels W at (i + 1) (r - number_code)
  level_more r a = record { below = λ j f h k. go j f h k (ℕ_discrete j i) }
    where
      go : (j f : ℕ) → j < i + 1 → f < code_count → Dec (j ≡ i) → get_or W (at + object_size * j + head_size + f) 0 < first_mark + (r - number_code)
      go j f h k (yes e) = rw e (omega (arith, a.codes f k, a.more))
      go j f h k (no e) = omega (arith, lv.below j f (omega (arith, e)) k, a.more)

  pub level_done : (n : ℕ) → i ≤ n → n ≤ i → Levels W at n (m - number_code)
  level_done n h k = let e : i ≡ n = omega arith in rw e at lv
