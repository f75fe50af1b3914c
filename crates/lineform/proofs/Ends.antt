-- Ends of what is read: a reader's answer as a place in the line.
-- Not here: the readers themselves (ExprLaws, FrameLaws).
use Rattle.std.proofs.Common.{ℕ, ◌+◌, ◌-◌, ◌<◌, ◌≤◌, arith, ◌≡◌, refl, sym, ap, ◌∙◌, List, [], ◌∷◌, ◌++◌, add-one, length, get_or, drop, length-append, length-drop, drop_of_length-le, drop-cons, drop-drop, Some, None}
use Rattle.std.proofs.Math.Option.{Option, none, some}
use Rattle.std.proofs.Math.Seq.{drop-append_seam}
use Rattle.cofj.specs.Partial.{◌>>=◌}
use Rattle.cofj.specs.Frames.{Got, got}
use Rattle.std.specs.declared.option.Option.{Option as RustOption}
use Rattle.lineform.specs.Answers.{end_of}

-- a byte at a place
pub more : (s : List ℕ) (at : ℕ) → at < length s → drop at s ≡ get_or s at 0 ∷ drop (at + 1) s
more s at h = rw (add-one) (drop-cons s at 0 h)

pub no_more : (s : List ℕ) (at : ℕ) → length s ≤ at → drop at s ≡ []
no_more s at h = drop_of_length-le s h

-- what is left after p is s from the place that the end names
pub tail_at : (s : List ℕ) (at : ℕ) (p r : List ℕ) → p ++ r ≡ drop at s → r ≡ drop (length s - length r) s
tail_at s at p [] e = sym (drop_of_length-le s {i = length s - 0} (omega arith))
tail_at s at p (x ∷ r) e =
    let l = simp (length-append, length-drop) at (ap length e) in
    let k : length s - length (x ∷ r) ≡ at + length p = omega arith in
    rw k (sym (sym (drop-drop (length p) at s) ∙ ap (drop (length p)) (sym e) ∙ drop-append_seam p (x ∷ r)))

-- a reader of a part of s leaves a part of s
pub record Leaves {A : Type 0} (s : List ℕ) (p : Option (Got A)) : Type 0 where
  pub tail : (g : Got A) → p ≡ some g → g.rest ≡ drop (length s - length g.rest) s

-- what is made of an item ends where the item does
pub same_end : {A B : Type 0} (s : List ℕ) (p : Option (Got A)) (f : A → B) → end_of s (p >>= λ g. got (f g.item) g.rest) ≡ end_of s p
same_end s none f = refl
same_end s (some g) f = refl

-- nothing read
pub end_here : (s : List ℕ) (at : ℕ) → at ≤ length s → at ≡ length s - length (drop at s)
end_here s at h = rw (length-drop at s) (omega arith)

-- what a reader read that ended at a
pub record Read {A : Type 0} (s : List ℕ) (p : Option (Got A)) (a : ℕ) : Type 0 where
  pub item : A
  pub is : p ≡ got item (drop a s)
  pub within : a ≤ length s

pub read_to : {A : Type 0} (s : List ℕ) (p : Option (Got A)) (o : RustOption ℕ) (a : ℕ) → Leaves s p → o ≡ end_of s p → o ≡ Some a → Read s p a
read_to s none o a leaves e n = let z : ◌≡◌ {A = ℕ} 0 1 = cc in absurd (omega arith)
read_to s (some g) o a leaves e n =
    let ea : length s - length g.rest ≡ a = cc in
    let t : g.rest ≡ drop a s = leaves.tail g refl ∙ ap (λ (k : ℕ). drop k s) ea in
    record { item = g.item; is = λ i. some (record { item = g.item; rest = t i }); within = omega arith }

pub read_none : {A : Type 0} (s : List ℕ) (p : Option (Got A)) (o : RustOption ℕ) → o ≡ end_of s p → o ≡ None → p ≡ none
read_none s none o e n = refl
read_none s (some g) o e n = let z : ◌≡◌ {A = ℕ} 0 1 = cc in absurd (omega arith)

-- the length of what stands between two places
pub between : (s : List ℕ) (at a : ℕ) (p : List ℕ) → at ≤ length s → a ≤ length s → p ++ drop a s ≡ drop at s → a ≡ at + length p
between s at a p h k e =
    let l = simp (length-append, length-drop) at (ap length e) in
    omega arith
