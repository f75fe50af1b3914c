-- The parts that lines list, one line after another. Not here: lines as bytes (ReadLines), a line (ReadLine).
use Rattle.std.proofs.Common.{ℕ, suc, Err, ◌≡◌, refl, ap, ◌∙◌, Bool, true, false, ◌&&◌, List, [], ◌∷◌, length}
use Rattle.std.proofs.Math.Option.{Option, none, some}
use Rattle.cofj.specs.Limits.{part_count}
use Rattle.cofj.specs.Partial.{◌>>=◌, guard}
use Rattle.cofj.specs.Text.{within}
use Rattle.cofj.specs.Syntax.{Class}
use Rattle.cofj.specs.Classes.{fields_to}
use Rattle.cofj.specs.Values.{Node}
use Rattle.cofj.specs.ReportForm.{refs_of, object_of, objects_from}
use Rattle.cofj.specs.Batch.{part_good, parts_good}
use Rattle.cofj.specs.declared.Refusal.TheVariants.{BadParts}
use Rattle.batch.specs.Reading.{part_of, parts_in, Answered}

-- these lines, from line k of n on, listed one after another
unfoldable pub parts_from : List Class → ℕ → ℕ → List (List ℕ) → Option (List Node)
unfolding fields_to refs_of
parts_from cs n k [] = some []
parts_from cs n k (l ∷ ls) = part_of cs n k l >>= λ o. parts_from cs n (suc k) ls >>= λ os. some (o ∷ os)

-- a part with those after it
abbrev first_of : List Class → Option Node → Option (List Node) → Option (List Node)
first_of cs a c = a >>= (λ o. guard (part_good cs o) >>= λ _. some o) >>= λ o. c >>= λ os. some (o ∷ os)

-- which is what they list together
parts_good_lem : (cs : List Class) (n k : ℕ) (ls : List (List ℕ)) → objects_from n k ls >>= (λ ns. guard (parts_good cs ns) >>= λ _. some ns) ≡ parts_from cs n k ls
unfolding objects_from parts_good parts_from
parts_good_lem cs n k [] = refl
parts_good_lem cs n k (l ∷ ls) = go (object_of n k l) (objects_from n (suc k) ls) (parts_from cs n (suc k) ls) (parts_good_lem cs n (suc k) ls)
  where
    nothing : (o : Node) (x : Bool) → none ≡ guard x >>= (λ _. some o) >>= λ p. ◌>>=◌ {A = List Node} none (λ os. some (p ∷ os))
    nothing o true = refl
    nothing o false = refl

    both : (o : Node) (ns : List Node) (x y : Bool) → guard (x && y) >>= (λ _. some (o ∷ ns)) ≡ guard x >>= (λ _. some o) >>= λ p. guard y >>= (λ _. some ns) >>= λ os. some (p ∷ os)
    both o ns true true = refl
    both o ns true false = refl
    both o ns false y = refl

    go : (a : Option Node) (b c : Option (List Node)) → b >>= (λ ns. guard (parts_good cs ns) >>= λ _. some ns) ≡ c
        → a >>= (λ o. b >>= λ os. some (o ∷ os)) >>= (λ ns. guard (parts_good cs ns) >>= λ _. some ns) ≡ first_of cs a c
    go none b c e = refl
    go (some o) none c e = nothing o (part_good cs o) ∙ ap (first_of cs (some o)) e
    go (some o) (some ns) c e = both o ns (part_good cs o) (parts_good cs ns) ∙ ap (first_of cs (some o)) e

pub parts_in_lem : (cs : List Class) (ls : List (List ℕ)) → parts_in cs ls ≡ guard (within 1 part_count (length ls)) >>= λ _. parts_from cs (length ls) 0 ls
unfolding parts_in
parts_in_lem cs ls = ap (λ (p : Option (List Node)). guard (within 1 part_count (length ls)) >>= λ _. p) (parts_good_lem cs (length ls) 0 ls)

pub none_listed : (cs : List Class) (ls : List (List ℕ)) (P : List ℕ) → parts_from cs (length ls) 0 ls ≡ none → Answered (parts_in cs ls) P (Err BadParts)
none_listed cs ls P e = rw (parts_in_lem cs ls, e) (go (within 1 part_count (length ls)))
  where
    go : (x : Bool) → Answered (guard x >>= λ _. none) P (Err BadParts)
    go true = refl
    go false = refl
