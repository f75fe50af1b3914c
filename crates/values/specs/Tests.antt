-- A test of the numbers below another.
use Rattle.std.specs.Prelude.{ℕ, zero, suc, Bool, true, false, cond}

-- whether it holds of one of the numbers below n
unfoldable pub any : (ℕ → Bool) → ℕ → Bool
any t zero = false
any t (suc n) = cond (t n) true (any t n)
