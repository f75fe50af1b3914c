-- What `decode` and `frames_good` establish, in the form in which `frames_good`, `order` and the crates above require it.
-- Not here: the loops' laws (DecodeLaws, LineLaws).
use Rattle.std.proofs.Common.{ℕ, ◌+◌, ◌*◌, ◌≤◌, arith, ◌≡◌, refl, sym, ap, subst, ◌∙◌, Bool, true, false, List, [], ◌∷◌, reverse, eqb, length, take, length-append, length-take-le, Ok, Err}
use Rattle.std.proofs.Math.Option.{Option, none, some, none-ne-some}
use Rattle.std.proofs.Math.ListN.{length-reverse}
use Rattle.std.proofs.Math.Seq.{take-append_seam}
use Rattle.cofj.specs.Limits.{line_size, text_size}
use Rattle.cofj.specs.Partial.{◌>>=◌}
use Rattle.cofj.specs.Text.{within, digit, end_line, lines_from, lines}
use Rattle.cofj.specs.Frames.{TextFrame, frames}
use Rattle.cofj.proofs.Partial.{opt_bind, guard-bind}
use Rattle.cofj.proofs.TextRound.{within_true}
use Rattle.std.specs.declared.result.Result.{Result}
use Rattle.cofj.specs.declared.Refusal.{Refusal}
use Rattle.cofj.specs.declared.Refusal.TheVariants.{NoLineForm, BadFrame}
use Rattle.lineform.specs.Packed.{packed, unpack, Sized, none as no_line, also, Packed, FramedLines}
use Rattle.lineform.specs.Answers.{decoded_of, Decodes, framing_of}
use Rattle.lineform.proofs.PackedLaws.{unpack-packed}

-- ---- the lines of a text have 1 to 255 bytes
from_sized : (s : List ℕ) (p : Option ℕ) (bs : List ℕ) (ls : List (List ℕ)) → lines_from s p bs ≡ some ls → Sized ls
unfolding lines_from
from_sized [] none [] ls e = subst Sized (let w : [] ≡ ls = cc in w) no_line
from_sized [] none (b ∷ bs) ls e = absurd (none-ne-some ls e)
from_sized [] (some h) bs ls e = absurd (none-ne-some ls e)
from_sized (c ∷ cs) none bs ls e = go (eqb c 10) e (λ ms. from_sized cs none [] ms) (λ d. from_sized cs (some d) bs ls)
  where
    go : (x : Bool) → ◌≡◌ {A = Option (List (List ℕ))} (elim x [ true ↦ end_line none bs (lines_from cs none []) | false ↦ digit c >>= λ d. lines_from cs (some d) bs ]) (some ls)
        → ((ms : List (List ℕ)) → lines_from cs none [] ≡ some ms → Sized ms) → ((d : ℕ) → lines_from cs (some d) bs ≡ some ls → Sized ls) → Sized ls
    go true z ended onward =
        let a = guard-bind (within 1 line_size (length bs)) (λ _. lines_from cs none [] >>= λ ms. some (reverse bs ∷ ms)) ls z in
        let b = opt_bind (lines_from cs none []) (λ ms. some (reverse bs ∷ ms)) ls a.1 in
        let w = within_true 1 line_size (length bs) a.0 in
        let l = length-reverse bs in
        subst Sized (let q : reverse bs ∷ b.0 ≡ ls = cc b.2 in q) (also (omega arith) (omega arith) (ended b.0 b.1))
    go false z ended onward = let a = opt_bind (digit c) (λ d. lines_from cs (some d) bs) ls z in onward a.0 a.2
from_sized (c ∷ cs) (some h) bs ls e = go (eqb c 10) e (λ d. from_sized cs none ((16 * h + d) ∷ bs) ls)
  where
    go : (x : Bool) → ◌≡◌ {A = Option (List (List ℕ))} (elim x [ true ↦ none | false ↦ digit c >>= λ d. lines_from cs none ((16 * h + d) ∷ bs) ]) (some ls)
        → ((d : ℕ) → lines_from cs none ((16 * h + d) ∷ bs) ≡ some ls → Sized ls) → Sized ls
    go true z onward = absurd (none-ne-some ls z)
    go false z onward = let a = opt_bind (digit c) (λ d. lines_from cs none ((16 * h + d) ∷ bs)) ls z in onward a.0 a.2

pub lines-sized : (text : List ℕ) (ls : List (List ℕ)) → lines text ≡ some ls → Sized ls
unfolding lines
lines-sized text ls e = from_sized text none [] ls (guard-bind (within 1 text_size (length text)) (λ _. lines_from text none []) ls e).1

-- ---- what `decode` leaves in the first w places
module _ (text out₀ out : List ℕ) (r : Result ℕ Refusal) (w : ℕ) (h : Decodes text out₀ out r) (e : r ≡ Ok w) where
  record Lined : Type 0 where
    room : w ≤ length out
    given : lines text ≡ some (unpack (take w out))
    whole : Packed (take w out)

  lined : Lined
  lined = go (lines text) refl
    where
      go : (o : Option (List (List ℕ))) → lines text ≡ o → Lined
      go none q =
          let a : r ≡ Err NoLineForm = h.answer ∙ ap decoded_of q in
          let z : ◌≡◌ {A = ℕ} 0 1 = cc in
          absurd (omega arith)
      go (some ls) q =
          let a : r ≡ Ok (length (packed ls)) = h.answer ∙ ap decoded_of q in
          let n : length (packed ls) ≡ w = cc in
          let b = h.written ls q in
          let t : take w out ≡ packed ls = rw (← n, b) (take-append_seam (packed ls) _) in
          let l = simp length-append at (ap length b) in
          record {
            room = omega arith;
            given = q ∙ ap {B = Option (List (List ℕ))} some (sym (ap unpack t ∙ unpack-packed ls));
            whole = record { lines = ls; is = t; sized = lines-sized text ls q };
          }

  pub decoded_room : w ≤ length out
  decoded_room = lined.room

  pub decoded_count : w ≡ length (take w out)
  decoded_count = sym (length-take-le w out lined.room)

  pub decoded_packed : Packed (take w out)
  decoded_packed = lined.whole

  pub decoded_lines : lines text ≡ some (unpack (take w out))
  decoded_lines = lined.given

-- a refusal of `decode` is refusal 1, and the text has no lines
pub decoded_none : (text out₀ out : List ℕ) (r : Result ℕ Refusal) → Decodes text out₀ out r → (k : Refusal) → r ≡ Err k → (k ≡ NoLineForm) × (lines text ≡ none)
decoded_none text out₀ out r h k e = go (lines text) refl
  where
    go : (o : Option (List (List ℕ))) → lines text ≡ o → (k ≡ NoLineForm) × (lines text ≡ none)
    go none q =
        let a : r ≡ Err NoLineForm = h.answer ∙ ap decoded_of q in
        (let z : k ≡ NoLineForm = cc in z, q)
    go (some ls) q =
        let a : r ≡ Ok (length (packed ls)) = h.answer ∙ ap decoded_of q in
        let z : ◌≡◌ {A = ℕ} 0 1 = cc in
        absurd (omega arith)

-- ---- where `frames_good` is Ok
pub good_framed : (d : List ℕ) (b : Result (Unit {0}) Refusal) → Packed d → b ≡ framing_of (frames (unpack d)) → b ≡ Ok tt → FramedLines d
good_framed d b p e t = go (frames (unpack d)) refl
  where
    go : (o : Option (List TextFrame)) → frames (unpack d) ≡ o → FramedLines d
    go (some fs) q = record { whole = p; found = fs; read = q }
    go none q =
        let a : b ≡ Err BadFrame = e ∙ ap framing_of q in
        let z : ◌≡◌ {A = ℕ} 0 1 = cc in
        absurd (omega arith)
