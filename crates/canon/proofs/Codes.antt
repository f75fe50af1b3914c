-- Codes and the references that they stand for. Not here: the bytes of an object (Nodes).
use Rattle.std.proofs.Common.{ℕ, zero, suc, ◌+◌, ◌-◌, ◌<◌, ◌≤◌, arith, ◌≡◌, refl, sym, ◌∙◌, List, [], ◌∷◌, length, get_or, lt-ltb, le-ltb, ne_eqb}
use native.Mathlib.Decide.{dec_lt, ℕ_discrete}
use Rattle.std.proofs.Math.Option.{some, none-ne-some}
use Rattle.std.proofs.Math.ListN.{get_elem?}
use Rattle.cofj.specs.Values.{Ref, obj, leaf, mark, undet, num}
use Rattle.cofj.specs.Unfolding.{InRange}
use Rattle.canon.specs.Figures.{code_count, first_leaf, undetermined_code, number_code, first_mark}
use Rattle.canon.specs.Layout.{leaf_from, ref_of, code_of, number_beside, ref_in, four}

pub ref_object : (b x : ℕ) → b < first_leaf → ref_of b x ≡ obj b
unfolding ref_of
ref_object b x h = rw (lt-ltb b first_leaf h)

pub ref_leaf : (b x : ℕ) → first_leaf ≤ b → ref_of b x ≡ leaf (leaf_from b x)
unfolding ref_of
ref_leaf b x h = rw (le-ltb b first_leaf h)

pub ref_undet : (x : ℕ) → ref_of undetermined_code x ≡ leaf undet
unfolding ref_of leaf_from
ref_undet x = refl

pub ref_number : (x : ℕ) → ref_of number_code x ≡ leaf (num x)
unfolding ref_of leaf_from
ref_number x = refl

pub ref_mark : (k x : ℕ) → ref_of (first_mark + k) x ≡ leaf (mark k)
unfolding leaf_from
ref_mark k x =
    let e : first_mark + k - first_mark ≡ k = omega arith in
    ref_leaf (first_mark + k) x (omega arith) ∙ rw (ne_eqb (first_mark + k) undetermined_code (λ z. omega arith), ne_eqb (first_mark + k) number_code (λ z. omega arith), e)

-- which of them a code is
pub data Code (b : ℕ) : Type 0 where
  is_object : b < first_leaf → Code b
  is_undet : b ≡ undetermined_code → Code b
  is_number : b ≡ number_code → Code b
  is_mark : (k : ℕ) → b ≡ first_mark + k → Code b

pub code_view : (b : ℕ) → Code b
code_view b = go (dec_lt b first_leaf) (ℕ_discrete b undetermined_code) (ℕ_discrete b number_code)
  where
    go : Dec (b < first_leaf) → Dec (b ≡ undetermined_code) → Dec (b ≡ number_code) → Code b
    go (yes h) d e = is_object h
    go (no h) (yes d) e = is_undet d
    go (no h) (no d) (yes e) = is_number e
    go (no h) (no d) (no e) = is_mark (b - first_mark) (omega (arith, h, d, e))

pub code_ref : (b x : ℕ) → code_of (ref_of b x) ≡ b
code_ref b x = go (code_view b)
  where
    go : Code b → code_of (ref_of b x) ≡ b
    go (is_object h) = rw (ref_object b x h)
    go (is_undet e) = rw (e, ref_undet x)
    go (is_number e) = rw (e, ref_number x)
    go (is_mark k e) = rw (e, ref_mark k x)

-- the number beside a code, where there is one only beside a number's
pub number_ref : (b x : ℕ) → (((b ≡ number_code) → ⊥) → x ≡ 0) → number_beside (ref_of b x) ≡ x
number_ref b x plain = go (code_view b)
  where
    go : Code b → number_beside (ref_of b x) ≡ x
    go (is_object h) = rw (ref_object b x h) (sym (plain (λ z. omega arith)))
    go (is_undet e) = rw (e, ref_undet x) (sym (plain (λ z. omega arith)))
    go (is_number e) = rw (e, ref_number x)
    go (is_mark k e) = rw (e, ref_mark k x) (sym (plain (λ z. omega arith)))

pub object_low : (n : ℕ) (r : Ref) → InRange n r → code_of r < first_leaf → code_of r < n
object_low n (obj i) l h = l
object_low n (leaf (mark k)) l h = absurd (omega arith)
object_low n (leaf undet) l h = absurd (omega arith)
object_low n (leaf (num x)) l h = absurd (omega arith)

-- ---- a reference of a list, if there is one
pub some_at : (rs : List Ref) (f : ℕ) → f < length rs → get_elem? rs f ≡ some (get_or rs f (leaf undet))
some_at [] f h = absurd (omega arith)
some_at (r ∷ rs) zero h = refl
some_at (r ∷ rs) (suc f) h = some_at rs f (omega arith)

pub at_some : (rs : List Ref) (k : ℕ) (r : Ref) → get_elem? rs k ≡ some r → (get_or rs k (leaf undet) ≡ r) × (k < length rs)
at_some [] k r e = absurd (none-ne-some r e)
at_some (x ∷ rs) zero r e = (let z : x ≡ r = cc in z, omega arith)
at_some (x ∷ rs) (suc k) r e = let p = at_some rs k r e in (p.0, omega (arith, p.1))

pub four_at_lem : (S : List ℕ) (at f : ℕ) → f < code_count → get_or (four S at) f (leaf undet) ≡ ref_in S at f
four_at_lem S at zero h = refl
four_at_lem S at (suc zero) h = refl
four_at_lem S at (suc (suc zero)) h = refl
four_at_lem S at (suc (suc (suc zero))) h = refl
four_at_lem S at (suc (suc (suc (suc f)))) h = absurd (omega arith)
