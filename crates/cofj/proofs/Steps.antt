-- Steps of a reader of bytes that succeeded: what each gave, and that the bytes that it took are those that are written for it.
-- Not here: what is read (ExprRound, FrameRound).
use Prim.Native.Nat.{ℕ, suc}
use native.Mathlib.Omega.{arith}
use mathlib.Core.Path.{◌≡◌, refl, sym, ap, ap₂, ◌∙◌, subst}
use mathlib.Core.Bool.{Bool, true, false, cond}
use mathlib.Core.List.{List, [], ◌∷◌, ◌++◌, append_assoc}
use mathlib.Core.Option.{Option, none, some, none-ne-some}
use lib.Dec.{leb}
use lib.ListN.{length, length-append}
use Rattle.cofj.specs.Partial.{◌>>=◌}
use Rattle.cofj.specs.Frames.{Got, got, up_to, whole}
use Rattle.cofj.proofs.Partial.{guard-bind}
use Rattle.cofj.proofs.TextRound.{Bytes}

-- an item and the bytes after it
abbrev pub pair : {A : Type 0} → A → List ℕ → Got A
pair a bs = record { item = a; rest = bs }

-- the step gave what is known of it
pub taken_as : {A B : Type 0} (o : Option A) (f : A → Option B) (b : B) (x : A) → o >>= f ≡ some b → ((a : A) → o ≡ some a → a ≡ x) → f x ≡ some b
taken_as none f b x e h = absurd (none-ne-some b e)
taken_as (some a) f b x e h = subst (λ y. f y ≡ some b) (h a refl) e

-- the last step
pub given : {A : Type 0} (P : A → Type 0) (x y : A) → some x ≡ some y → P x → P y
given P x y e p = subst P (let w : x ≡ y = cc in w) p

-- which way a test went
pub branch : {B C : Type 0} (t : Bool) (o p : Option B) (b : B) → cond t o p ≡ some b
    → (t ≡ true → o ≡ some b → C) → (p ≡ some b → C) → C
branch true o p b e yea nay = yea refl e
branch false o p b e yea nay = nay e

pub same : {A : Type 0} (x y : A) → some x ≡ some y → y ≡ x
same x y e = cc

-- a count stands in front of what follows it
pub upto_forth : (n k : ℕ) (bs : List ℕ) (g : Got ℕ) → up_to n (k ∷ bs) ≡ some g → g ≡ pair k bs
upto_forth n k bs g e = same (pair k bs) g (guard-bind (leb k n) (λ _. got k bs) g e).1

pub upto_back : (n : ℕ) (bs : List ℕ) (g : Got ℕ) → up_to n bs ≡ some g → g.item ∷ g.rest ≡ bs
upto_back n [] g e = absurd (none-ne-some g e)
upto_back n (k ∷ bs) g e = ap (λ (x : Got ℕ). x.item ∷ x.rest) (upto_forth n k bs g e)

pub whole_back : {A : Type 0} (g : Got A) (a : A) → whole g ≡ some a → g ≡ pair a []
whole_back {A} g a e = go g.rest refl e
  where
    go : (r : List ℕ) → g.rest ≡ r → ◌≡◌ {A = Option A} (elim r [ [] ↦ some g.item | b ∷ bs ↦ none ]) (some a) → g ≡ pair a []
    go [] q z = λ i. pair (same a g.item (sym z) i) (q i)
    go (b ∷ bs) q z = absurd (none-ne-some a z)

-- ---- the bytes that were taken
-- the bytes in front of `rest` are as many as those of `code`, and the same if they are bytes: a number's low byte is written as it was read if it is below 256
pub record Spelt (bs code rest : List ℕ) : Type 0 where
  pub front : List ℕ
  pub split : front ++ rest ≡ bs
  pub size : length front ≡ length code
  pub same : Bytes front → front ≡ code

pub bytes_before : (xs ys : List ℕ) → Bytes (xs ++ ys) → Bytes xs
bytes_before [] ys h = tt
bytes_before (x ∷ xs) ys h = (h.0, bytes_before xs ys h.1)

pub bytes_after : (xs ys : List ℕ) → Bytes (xs ++ ys) → Bytes ys
bytes_after [] ys h = h
bytes_after (x ∷ xs) ys h = bytes_after xs ys h.1

pub spelt_as : {bs code rest : List ℕ} → Spelt bs code rest → Bytes bs → code ++ rest ≡ bs
spelt_as {rest = rest} p h =
    ap (λ (l : List ℕ). l ++ rest) (sym (p.same (bytes_before p.front rest (subst Bytes (sym p.split) h)))) ∙ p.split

pub spelt_none : (bs : List ℕ) → Spelt bs [] bs
spelt_none bs = record { front = []; split = refl; size = refl; same = λ _. refl }

pub spelt_cons : (b : ℕ) {bs code rest : List ℕ} → Spelt bs code rest → Spelt (b ∷ bs) (b ∷ code) rest
spelt_cons b p =
    record {
      front = b ∷ p.front;
      split = ap (λ (l : List ℕ). b ∷ l) p.split;
      size = ap suc p.size;
      same = λ h. ap (λ (l : List ℕ). b ∷ l) (p.same h.1);
    }

pub spelt_exact : {bs rest : List ℕ} (code : List ℕ) → code ++ rest ≡ bs → Spelt bs code rest
spelt_exact code e = record { front = code; split = e; size = refl; same = λ _. refl }

pub spelt_join : {bs c d mid rest : List ℕ} → Spelt bs c mid → Spelt mid d rest → Spelt bs (c ++ d) rest
spelt_join {c = c} {d = d} {rest = rest} p q =
    record {
      front = p.front ++ q.front;
      split = append_assoc p.front q.front rest ∙ ap (λ (l : List ℕ). p.front ++ l) q.split ∙ p.split;
      size = simp length-append (omega (arith, p.size, q.size));
      same = λ h. ap₂ {C = List ℕ} ◌++◌ (p.same (bytes_before p.front q.front h)) (q.same (bytes_after p.front q.front h));
    }
