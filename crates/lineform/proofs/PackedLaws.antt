-- Packed lines: put one after another, and unpacked again.
use Rattle.std.proofs.Common.{ℕ, zero, suc, ◌≤◌, arith, ◌≡◌, refl, sym, ap, ap₂, ◌∙◌, List, [], ◌∷◌, ◌++◌, append_assoc, length, length-append}
use Rattle.std.proofs.Math.Seq.{take-append_seam, drop-append_seam}
use Rattle.lineform.specs.Packed.{packed, unpack_to, unpack}

pub packed-append : (a b : List (List ℕ)) → packed (a ++ b) ≡ packed a ++ packed b
unfolding packed
packed-append [] b = refl
packed-append (l ∷ a) b = ap (λ (x : List ℕ). length l ∷ x) (ap (λ (x : List ℕ). l ++ x) (packed-append a b) ∙ sym (append_assoc l (packed a) (packed b)))

unpacked : (n : ℕ) (ls : List (List ℕ)) → length ls ≤ n → unpack_to n (packed ls) ≡ ls
unfolding packed unpack_to
unpacked zero [] h = refl
unpacked (suc n) [] h = refl
unpacked zero (l ∷ ls) h = absurd (omega arith)
unpacked (suc n) (l ∷ ls) h =
    ap₂ {C = List (List ℕ)} ◌∷◌ (take-append_seam l (packed ls)) (ap (unpack_to n) (drop-append_seam l (packed ls)) ∙ unpacked n ls (omega arith))

long_enough : (ls : List (List ℕ)) → length ls ≤ length (packed ls)
unfolding packed
long_enough [] = omega arith
long_enough (l ∷ ls) =
    let h = long_enough ls in
    let e = length-append l (packed ls) in
    omega arith

pub unpack-packed : (ls : List (List ℕ)) → unpack (packed ls) ≡ ls
unfolding unpack
unpack-packed ls = unpacked (length (packed ls)) ls (long_enough ls)
