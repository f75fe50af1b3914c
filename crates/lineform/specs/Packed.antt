-- Packed lines: each line as its count of bytes and its bytes, one after another. Not here: how a text gives them (Answers).
use Rattle.std.specs.Prelude.{ℕ, zero, suc, ◌≤◌, ◌≡◌, List, [], ◌∷◌, ◌++◌, length, take, drop}
use Rattle.std.proofs.Math.Option.{some}
use Rattle.cofj.specs.Limits.{line_size}
use Rattle.cofj.specs.Frames.{TextFrame, frames}

unfoldable pub packed : List (List ℕ) → List ℕ
packed [] = []
packed (l ∷ ls) = length l ∷ (l ++ packed ls)

-- at most n lines
unfoldable pub unpack_to : ℕ → List ℕ → List (List ℕ)
unpack_to zero d = []
unpack_to (suc n) [] = []
unpack_to (suc n) (b ∷ r) = take b r ∷ unpack_to n (drop b r)

unfoldable pub unpack : List ℕ → List (List ℕ)
unfolding unpack_to
unpack d = unpack_to (length d) d

-- lines of 1 to 255 bytes
pub data Sized : List (List ℕ) → Type 0 where
  none : Sized []
  also : {l : List ℕ} {ls : List (List ℕ)} → 1 ≤ length l → length l ≤ line_size → Sized ls → Sized (l ∷ ls)

-- what `decode` leaves
pub record Packed (d : List ℕ) : Type 0 where
  pub lines : List (List ℕ)
  pub is : d ≡ packed lines
  pub sized : Sized lines

-- what `frames_good` finds true
pub record FramedLines (d : List ℕ) : Type 0 where
  pub whole : Packed d
  pub found : List TextFrame
  pub read : frames (unpack d) ≡ some found
