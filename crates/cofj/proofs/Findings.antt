-- What a host is answered that asks where a method is found (specs/Finding): the promise `FindsMethod`, of every table that is read, and examples.
-- Not here: the search itself (Lookup), the call on a table's bytes (crate engine).
use Prim.Native.Nat.{ℕ, zero, suc}
use mathlib.Core.Path.{◌≡◌, refl, sym, ap, ◌∙◌, subst}
use mathlib.Core.Bool.{Bool, true, false, ◌&&◌}
use mathlib.Core.List.{List, [], ◌∷◌, map}
use mathlib.Core.Option.{Option, none, some, none-ne-some}
use lib.Dec.{eqb}
use lib.ListN.{length, get_elem?}
use borrow.Author.Tests.{eq-eqb}
use Rattle.cofj.specs.declared.Finding.{Finding}
use Rattle.cofj.specs.Syntax.{Method, Table}
use Rattle.cofj.specs.Lookup.{Found, method_of, lookup}
use Rattle.cofj.specs.Tables.{has_name, methods_good}
use Rattle.cofj.specs.Reading.{Answer, refusal, read, read_text}
use Rattle.cofj.specs.Finding.{place_of, nothing_found, found_at, finding_of, find_call}
use Rattle.cofj.specs.Promises.{FindsMethod, FOUND, NOWHERE}
use Rattle.cofj.specs.Bytes.{bytes}
use Rattle.cofj.proofs.Lookup.{lookup_exact}
use Rattle.cofj.proofs.Partial.{or_false}
use Rattle.cofj.proofs.Passed.{passed, table_ruled, methods_ruled, names_apart}
use Rattle.cofj.proofs.Readable.{read_formed}

-- ---- the number of a method
-- the method that a class itself has stands at its place
pub place_at : (ds : List Method) (c m : ℕ) (d : Method) → method_of ds c m ≡ some d → get_elem? ds (place_of ds c m) ≡ some d
unfolding method_of place_of
place_at [] c m d e = absurd (none-ne-some d e)
place_at (x ∷ ds) c m d e = go (eqb x.owner c && eqb x.name m) e (place_at ds c m d)
  where
    go : (b : Bool) → (elim b as (λ _. Option Method) [ true ↦ some x | false ↦ method_of ds c m ]) ≡ some d → (method_of ds c m ≡ some d → get_elem? ds (place_of ds c m) ≡ some d)
        → get_elem? (x ∷ ds) (elim b as (λ _. ℕ) [ true ↦ 0 | false ↦ suc (place_of ds c m) ]) ≡ some d
    go true z ih = z
    go false z ih = ih z

-- no method of a list that lacks an owner and a name has them
lacks : (x : Method) (ds : List Method) → has_name x ds ≡ false → (k : ℕ) (d : Method) → get_elem? ds k ≡ some d → eqb x.owner d.owner && eqb x.name d.name ≡ false
unfolding has_name
lacks x [] h k d e = absurd (none-ne-some d e)
lacks x (y ∷ ds) h zero d e =
    let z : y ≡ d = cc in
    subst (λ (u : Method). eqb x.owner u.owner && eqb x.name u.name ≡ false) z (or_false (eqb x.owner y.owner && eqb x.name y.name) (has_name x ds) h).0
lacks x (y ∷ ds) h (suc k) d e = lacks x ds (or_false (eqb x.owner y.owner && eqb x.name y.name) (has_name x ds) h).1 k d e

-- of methods that pass refusal 4, each stands at the place of its owner and name
one_place : (n : ℕ) (ds : List Method) → methods_good n ds ≡ true → (k : ℕ) (d : Method) → get_elem? ds k ≡ some d → place_of ds d.owner d.name ≡ k
unfolding place_of
one_place n [] g k d e = absurd (none-ne-some d e)
one_place n (x ∷ ds) g zero d e =
    let z : x ≡ d = cc in
    subst (λ (u : Method). place_of (x ∷ ds) u.owner u.name ≡ 0) z (rw (eq-eqb x.owner x.owner refl, eq-eqb x.name x.name refl, place_of))
one_place n (x ∷ ds) g (suc k) d e = rw (lacks x ds (names_apart n x ds g) k d e, place_of) (ap suc (one_place n ds (methods_ruled n x ds g).1 k d e))

-- ---- the promise
pub finds : (s : List ℕ) (t : Table) → read_text s ≡ read t → (c m : ℕ) → FindsMethod t c m (find_call t c m)
unfolding find_call
finds s t e c m = go (lookup t c m) refl
  where
    alone : (k : ℕ) (d : Method) → get_elem? t.methods k ≡ some d → place_of t.methods d.owner d.name ≡ k
    alone =
        let p = passed s t e in
        let g = table_ruled p.r t p.to_table in
        one_place _ t.methods (subst (λ (x : Table). methods_good (length x.classes) x.methods ≡ true) g.1 g.0.methods)

    go : (o : Option Found) → lookup t c m ≡ o → FindsMethod t c m (finding_of t m o)
    go none q = NOWHERE ((lookup_exact t (read_formed s t e) c m none).0 q)
    go (some f) q =
        let h = (lookup_exact t (read_formed s t e) c m (some f)).0 q in
        FOUND h (place_at t.methods f.owner m f.body h.declares)
        (λ j d z o k. sym (alone j d z) ∙ ap (λ (x : ℕ). place_of t.methods x d.name) o ∙ ap (λ (x : ℕ). place_of t.methods f.owner x) k)

-- ---- examples: three classes in a chain, methods 1 and 2 of the first two, and 1 again of the third
abbrev asked : Answer → ℕ × ℕ → Finding
asked (refusal k) q = nothing_found
asked (read t) q = find_call t q.0 q.1

text : List ℕ
unfolding bytes
text = bytes "01010000\n01020100\n01030200\n02010101000100004040\n02020201000100004040\n02030101000100004040\n03450000\n"

found_there : map (asked (read_text text)) ((1, 1) ∷ (2, 1) ∷ (2, 2) ∷ (3, 1) ∷ (3, 2) ∷ []) ≡ found_at 1 0 ∷ found_at 1 0 ∷ found_at 2 1 ∷ found_at 3 2 ∷ found_at 2 1 ∷ []
unfolding read_text text find_call
found_there = refl

found_nowhere : map (asked (read_text text)) ((1, 2) ∷ (0, 1) ∷ (33, 1) ∷ (254, 1) ∷ (1, 3) ∷ []) ≡ nothing_found ∷ nothing_found ∷ nothing_found ∷ nothing_found ∷ nothing_found ∷ []
unfolding read_text text find_call
found_nowhere = refl
