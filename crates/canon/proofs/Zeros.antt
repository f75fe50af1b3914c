-- A table of zeros, and how many of the first bytes of a table are 0: asked for where a table begins empty, or notes what is met (canon, values, maker, batch).
use Rattle.std.proofs.Common.{ℕ, zero, suc, ◌+◌, ◌<◌, ◌≤◌, arith, ◌≡◌, refl, ap, ap₂, ◌∙◌, Bool, true, false, cond, List, eqb, map, length, get_or, set, replicate, get_or-set_same, get_or-set_other, eq-eqb, ne_eqb}
use native.Mathlib.Decide.{ℕ_discrete}
use Rattle.std.proofs.Math.ListN.{get_or-map}
use Rattle.std.proofs.lemmas.List.{map-set, length-map}
use Rattle.canon.specs.Tables.{Zeros, zero_count}

pub zero_at : (k x : ℕ) → ◌≡◌ {A = ℕ} (get_or (replicate k 0) x 0) 0
zero_at zero x = refl
zero_at (suc k) zero = refl
zero_at (suc k) (suc x) = zero_at k x

pub zeros_new : (k m : ℕ) → Zeros m (replicate k 0)
zeros_new k m = record { at = λ i h. zero_at k i }

pub zeros-few : (k : ℕ) (S : List ℕ) → zero_count k S ≤ k
unfolding zero_count
zeros-few zero S = omega arith
zeros-few (suc k) S = go (eqb (get_or S k 0) 0) (zeros-few k S)
  where
    go : (b : Bool) → zero_count k S ≤ k → cond b 1 0 + zero_count k S ≤ suc k
    go true h = omega arith
    go false h = omega arith

-- one of them set: not among the first k, and among them to what is not 0
zeros_other : (k x v : ℕ) (S : List ℕ) → k ≤ x → zero_count k (set S x v) ≡ zero_count k S
unfolding zero_count
zeros_other zero x v S h = refl
zeros_other (suc k) x v S h =
    ap₂ {A = ℕ} {B = ℕ} {C = ℕ} (λ p q. cond (eqb p 0) 1 0 + q) (get_or-set_other S x k v 0 (λ z. omega arith)) (zeros_other k x v S (omega arith))

pub zeros-put : (k x v : ℕ) (S : List ℕ) → x < k → x < length S → get_or S x 0 ≡ 0 → 0 < v → suc (zero_count k (set S x v)) ≡ zero_count k S
unfolding zero_count
zeros-put zero x v S h l e d = absurd (omega arith)
zeros-put (suc k) x v S h l e d = go (ℕ_discrete k x) (λ h'. zeros-put k x v S h' l e d)
  where
    go : Dec (k ≡ x) → (x < k → suc (zero_count k (set S x v)) ≡ zero_count k S)
        → suc (cond (eqb (get_or (set S x v) k 0) 0) 1 0 + zero_count k (set S x v)) ≡ cond (eqb (get_or S k 0) 0) 1 0 + zero_count k S
    go (yes z) f =
        let n : get_or (set S x v) k 0 ≡ v = ap (λ (i : ℕ). get_or (set S x v) i 0) z ∙ get_or-set_same S x v 0 l in
        let o : get_or S k 0 ≡ 0 = ap (λ (i : ℕ). get_or S i 0) z ∙ e in
        rw (eq-eqb (get_or S k 0) 0 o, ne_eqb (get_or (set S x v) k 0) 0 (λ q. omega arith), zeros_other k x v S (omega arith)) (omega arith)
    go (no z) f = rw (get_or-set_other S x k v 0 z) (omega (arith, f (omega (arith, z))))

-- ---- the same of a table of flags, a flag that is set counted as 1
pub unseen_at : (k x : ℕ) → get_or (replicate k false) x false ≡ false
unseen_at zero x = refl
unseen_at (suc k) zero = refl
unseen_at (suc k) (suc x) = unseen_at k x

pub zeros-mark : (k x : ℕ) (S : List Bool) → x < k → x < length S → get_or S x false ≡ false
    → suc (zero_count k (map (λ b. cond b 1 0) (set S x true))) ≡ zero_count k (map (λ b. cond b 1 0) S)
zeros-mark k x S h l e =
    rw (map-set {A = Bool} {B = ℕ} (λ b. cond b 1 0) S x true)
    (zeros-put k x 1 (map (λ b. cond b 1 0) S) h (omega (arith, l, length-map {A = Bool} {B = ℕ} S (λ b. cond b 1 0)))
    (get_or-map {A = Bool} {B = ℕ} (λ b. cond b 1 0) S x false ∙ ap (λ (b : Bool). cond {A = ℕ} b 1 0) e) (omega arith))
