-- Taking answers apart: what a chain of `>>=` and tests gave, step by step. Laws of specs/Partial and of `&&` and `||`.
use mathlib.Core.Path.{◌≡◌, refl}
use mathlib.Core.Bool.{Bool, true, false, ◌&&◌, ◌||◌, true≢false, false≢true}
use mathlib.Core.Option.{Option, none, some, none-ne-some}
use Rattle.cofj.specs.Partial.{◌>>=◌, guard}

pub and_true : (a b : Bool) → a && b ≡ true → (a ≡ true) × (b ≡ true)
and_true true b h = (refl, h)
and_true false b h = absurd (false≢true h)

pub or_false : (a b : Bool) → a || b ≡ false → (a ≡ false) × (b ≡ false)
or_false true b e = absurd (true≢false e)
or_false false b e = (refl, e)

pub true_and : (a b : Bool) → a ≡ true → b ≡ true → a && b ≡ true
true_and true b p q = q
true_and false b p q = p

pub opt_bind : {A B : Type 0} (o : Option A) (f : A → Option B) (b : B) → o >>= f ≡ some b → (a : A) × (o ≡ some a) × (f a ≡ some b)
opt_bind none f b e = absurd (none-ne-some b e)
opt_bind (some a) f b e = (a, refl, e)

pub guard-bind : {B : Type 0} (g : Bool) (f : Unit {0} → Option B) (b : B) → guard g >>= f ≡ some b → (g ≡ true) × (f tt ≡ some b)
guard-bind true f b e = (refl, e)
guard-bind false f b e = absurd (none-ne-some b e)

pub guard_true : (g : Bool) (x : Unit {0}) → guard g ≡ some x → g ≡ true
guard_true true x e = refl
guard_true false x e = absurd (none-ne-some x e)

-- what comes after a step that succeeded
pub taken : {A B : Type 0} {C : Type 0} (o : Option A) {f : A → Option B} (b : B) → o >>= f ≡ some b → ((a : A) → o ≡ some a → f a ≡ some b → C) → C
taken none b e k = absurd (none-ne-some b e)
taken (some a) b e k = k a refl e
