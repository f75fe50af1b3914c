-- Types and expressions both ways: what is read is written by the same bytes, and what is written is read, if at all, as what was written.
-- Not here: that it is read (a count or a nesting over its limit is not), frames (FrameRound).
use Prim.Native.Nat.{ℕ, zero, suc, ◌+◌, ◌*◌, ◌/◌, ◌%◌}
use native.Mathlib.Omega.{arith}
use mathlib.Core.Path.{◌≡◌, refl, sym, ap, ap₂, ◌∙◌, subst}
use mathlib.Core.Bool.{true}
use mathlib.Core.List.{List, [], ◌∷◌, ◌++◌, append_assoc}
use mathlib.Core.Option.{some, none-ne-some}
use lib.Dec.{eqb}
use lib.ListN.{length}
use borrow.Author.Tests.{eqb-true}
use Rattle.cofj.specs.Limits.{field_count, param_count}
use Rattle.cofj.specs.Partial.{◌>>=◌}
use Rattle.cofj.specs.Syntax.{Operation, sum, difference, Expr, this, res, param, field, call, new, literal, combine, choose, Exprs, done, also, count, Ty}
use Rattle.cofj.specs.Frames.{Got, Reader, got, byte, up_to, type, types, two_bytes, exprs_by, field_after, call_after, new_after, combine_after, choose_after, expr_after, expr}
use Rattle.cofj.specs.Writing.{number_bytes, operation_sign, code_of, codes_of, types_bytes}
use Rattle.cofj.proofs.Partial.{taken}
use Rattle.cofj.proofs.TextRound.{Bytes}
use Rattle.cofj.proofs.Steps.{pair, given, same, taken_as, branch, upto_forth, upto_back, Spelt, spelt_none, spelt_cons, spelt_join, spelt_as}

-- ---- from bytes to what is read, and back to the bytes
pub type_back : (bs : List ℕ) (g : Got Ty) → type bs ≡ some g → g.item.cls ∷ g.item.tag ∷ g.rest ≡ bs
unfolding type
type_back [] g e = absurd (none-ne-some g e)
type_back (c ∷ []) g e = absurd (none-ne-some g e)
type_back (c ∷ k ∷ bs) g e =
    taken (up_to 3 (k ∷ bs)) g e λ n q e1.
    given (λ (x : Got Ty). x.item.cls ∷ x.item.tag ∷ x.rest ≡ c ∷ k ∷ bs) _ g e1
    (ap (λ (l : List ℕ). c ∷ l) (upto_back 3 (k ∷ bs) n q))

-- and there are as many as were asked for
pub types_back : (n : ℕ) (bs : List ℕ) (g : Got (List Ty)) → types n bs ≡ some g → (types_bytes g.item ++ g.rest ≡ bs) × (length g.item ≡ n)
unfolding types
types_back zero bs g e = given (λ (x : Got (List Ty)). (types_bytes x.item ++ x.rest ≡ bs) × (length x.item ≡ 0)) _ g e (refl, refl)
types_back (suc n) bs g e =
    taken (type bs) g e λ t q e1.
    taken (types n t.rest) g e1 λ ts r e2.
    let p = type_back bs t q in
    let s = types_back n t.rest ts r in
    given (λ (x : Got (List Ty)). (types_bytes x.item ++ x.rest ≡ bs) × (length x.item ≡ suc n)) _ g e2
    (ap (λ (x : List ℕ). t.item.cls ∷ t.item.tag ∷ x) s.0 ∙ p, ap suc s.1)

-- an expression, where `one` reads those nested less deep
abbrev Back : Reader Expr → Type 0
Back one = (bs : List ℕ) (g : Got Expr) → one bs ≡ some g → Spelt bs (code_of g.item) g.rest

-- what follows the sign b
abbrev After : ℕ → List ℕ → Got Expr → Type 0
After b bs g = Spelt (b ∷ bs) (code_of g.item) g.rest

module _ (one : Reader Expr) (ih : Back one) where
  exprs_back : (n : ℕ) (bs : List ℕ) (g : Got Exprs) → exprs_by one n bs ≡ some g → Spelt bs (codes_of g.item) g.rest × (count g.item ≡ n)
  unfolding exprs_by code_of
  exprs_back zero bs g e = given (λ (x : Got Exprs). Spelt bs (codes_of x.item) x.rest × (count x.item ≡ 0)) _ g e (spelt_none bs, refl)
  exprs_back (suc n) bs g e =
      taken (one bs) g e λ x q e1.
      taken (exprs_by one n x.rest) g e1 λ xs r e2.
      let s = exprs_back n x.rest xs r in
      given (λ (y : Got Exprs). Spelt bs (codes_of y.item) y.rest × (count y.item ≡ suc n)) _ g e2 (spelt_join (ih bs x q) s.0, ap suc s.1)

  field_back : (bs : List ℕ) (g : Got Expr) → field_after one bs ≡ some g → After 0x43 bs g
  unfolding field_after code_of
  field_back [] g e = absurd (none-ne-some g e)
  field_back (f ∷ bs) g e =
      taken (one bs) g e λ x q e1.
      given (After 0x43 (f ∷ bs)) _ g e1 (spelt_cons 0x43 (spelt_cons f (ih bs x q)))

  call_back : (bs : List ℕ) (g : Got Expr) → call_after one bs ≡ some g → After 0x44 bs g
  unfolding call_after code_of
  call_back [] g e = absurd (none-ne-some g e)
  call_back (m ∷ []) g e = absurd (none-ne-some g e)
  call_back (m ∷ k ∷ bs) g e =
      let e1 = taken_as (up_to param_count (k ∷ bs)) _ g (pair k bs) e (upto_forth param_count k bs) in
      taken (one bs) g e1 λ x q e2.
      taken (exprs_by one k x.rest) g e2 λ xs r e3.
      let s = exprs_back k x.rest xs r in
      given (After 0x44 (m ∷ k ∷ bs)) _ g e3
      (subst (λ (n : ℕ). Spelt (0x44 ∷ m ∷ k ∷ bs) (0x44 ∷ m ∷ n ∷ (code_of x.item ++ codes_of xs.item)) xs.rest) (sym s.1)
      (spelt_cons 0x44 (spelt_cons m (spelt_cons k (spelt_join (ih bs x q) s.0)))))

  new_back : (bs : List ℕ) (g : Got Expr) → new_after one bs ≡ some g → After 0x45 bs g
  unfolding new_after code_of
  new_back [] g e = absurd (none-ne-some g e)
  new_back (c ∷ []) g e = absurd (none-ne-some g e)
  new_back (c ∷ k ∷ bs) g e =
      let e1 = taken_as (up_to field_count (k ∷ bs)) _ g (pair k bs) e (upto_forth field_count k bs) in
      taken (exprs_by one k bs) g e1 λ xs r e2.
      let s = exprs_back k bs xs r in
      given (After 0x45 (c ∷ k ∷ bs)) _ g e2
      (subst (λ (n : ℕ). Spelt (0x45 ∷ c ∷ k ∷ bs) (0x45 ∷ c ∷ n ∷ codes_of xs.item) xs.rest) (sym s.1)
      (spelt_cons 0x45 (spelt_cons c (spelt_cons k s.0))))

  param_back : (bs : List ℕ) (g : Got Expr) → byte bs >>= (λ k. got (param k.item) k.rest) ≡ some g → After 0x42 bs g
  unfolding code_of
  param_back [] g e = absurd (none-ne-some g e)
  param_back (k ∷ bs) g e = given (After 0x42 (k ∷ bs)) _ g e (spelt_cons 0x42 (spelt_cons k (spelt_none bs)))

  -- two bytes are those of their number
  two_same : (a b : ℕ) → Bytes (0x46 ∷ a ∷ b ∷ []) → 0x46 ∷ a ∷ b ∷ [] ≡ 0x46 ∷ number_bytes (256 * a + b)
  two_same a b h =
      let l = h.1.1.0 in
      let p : a ≡ (256 * a + b) / 256 = omega arith in
      let q : b ≡ (256 * a + b) % 256 = omega arith in
      ap₂ {C = List ℕ} (λ (x y : ℕ). 0x46 ∷ x ∷ y ∷ []) p q

  literal_back : (bs : List ℕ) (g : Got Expr) → two_bytes bs >>= (λ n. got (literal n.item) n.rest) ≡ some g → After 0x46 bs g
  unfolding two_bytes code_of
  literal_back [] g e = absurd (none-ne-some g e)
  literal_back (a ∷ []) g e = absurd (none-ne-some g e)
  literal_back (a ∷ b ∷ bs) g e =
      given (After 0x46 (a ∷ b ∷ bs)) _ g e (record { front = 0x46 ∷ a ∷ b ∷ []; split = refl; size = refl; same = two_same a b })

  combine_back : (o : Operation) (bs : List ℕ) (g : Got Expr) → combine_after one o bs ≡ some g → After (operation_sign o) bs g
  unfolding combine_after code_of
  combine_back o bs g e =
      taken (one bs) g e λ x q e1.
      taken (one x.rest) g e1 λ y r e2.
      given (After (operation_sign o) bs) _ g e2 (spelt_cons (operation_sign o) (spelt_join (ih bs x q) (ih x.rest y r)))

  choose_back : (bs : List ℕ) (g : Got Expr) → choose_after one bs ≡ some g → After 0x49 bs g
  unfolding choose_after code_of
  choose_back bs g e =
      taken (one bs) g e λ x q e1.
      taken (one x.rest) g e1 λ y r e2.
      taken (one y.rest) g e2 λ z p e3.
      given (After 0x49 bs) _ g e3 (spelt_cons 0x49 (spelt_join (ih bs x q) (spelt_join (ih x.rest y r) (ih y.rest z p))))

  after_back : (b : ℕ) (bs : List ℕ) (g : Got Expr) → expr_after one b bs ≡ some g → After b bs g
  unfolding expr_after code_of
  after_back b bs g e =
      branch (eqb b 0x40) _ _ g e (λ q z. first 0x40 q (given (After 0x40 bs) _ g z (spelt_cons 0x40 (spelt_none bs)))) λ e1.
      branch (eqb b 0x41) _ _ g e1 (λ q z. first 0x41 q (given (After 0x41 bs) _ g z (spelt_cons 0x41 (spelt_none bs)))) λ e2.
      branch (eqb b 0x42) _ _ g e2 (λ q z. first 0x42 q (param_back bs g z)) λ e3.
      branch (eqb b 0x43) _ _ g e3 (λ q z. first 0x43 q (field_back bs g z)) λ e4.
      branch (eqb b 0x44) _ _ g e4 (λ q z. first 0x44 q (call_back bs g z)) λ e5.
      branch (eqb b 0x45) _ _ g e5 (λ q z. first 0x45 q (new_back bs g z)) λ e6.
      branch (eqb b 0x46) _ _ g e6 (λ q z. first 0x46 q (literal_back bs g z)) λ e7.
      branch (eqb b 0x47) _ _ g e7 (λ q z. first 0x47 q (combine_back sum bs g z)) λ e8.
      branch (eqb b 0x48) _ _ g e8 (λ q z. first 0x48 q (combine_back difference bs g z)) λ e9.
      branch (eqb b 0x49) _ _ g e9 (λ q z. first 0x49 q (choose_back bs g z)) λ e10. absurd (none-ne-some g e10)
    where
      first : (k : ℕ) → eqb b k ≡ true → After k bs g → After b bs g
      first k q p = subst (λ (x : ℕ). After x bs g) (sym (eqb-true b k q)) p

pub expr_spelt : (n : ℕ) (bs : List ℕ) (g : Got Expr) → expr n bs ≡ some g → Spelt bs (code_of g.item) g.rest
unfolding expr
expr_spelt zero bs g e = absurd (none-ne-some g e)
expr_spelt (suc n) [] g e = absurd (none-ne-some g e)
expr_spelt (suc n) (b ∷ bs) g e = after_back (λ xs. expr n xs) (expr_spelt n) b bs g e

pub expr_back : (n : ℕ) (bs : List ℕ) (g : Got Expr) → expr n bs ≡ some g → Bytes bs → code_of g.item ++ g.rest ≡ bs
expr_back n bs g e h = spelt_as (expr_spelt n bs g e) h

-- ---- what is written is read, if at all, as what was written
pub type_forth : (u : Ty) (rest : List ℕ) (g : Got Ty) → type (u.cls ∷ u.tag ∷ rest) ≡ some g → g ≡ pair u rest
unfolding type
type_forth u rest g e =
    let e1 = taken_as (up_to 3 (u.tag ∷ rest)) _ g (pair u.tag rest) e (upto_forth 3 u.tag rest) in
    same (pair u rest) g e1

pub types_forth : (us : List Ty) (rest : List ℕ) (g : Got (List Ty)) → types (length us) (types_bytes us ++ rest) ≡ some g → g ≡ pair us rest
unfolding types
types_forth [] rest g e = same (pair [] rest) g e
types_forth (u ∷ us) rest g e =
    let e1 = taken_as (type (u.cls ∷ u.tag ∷ (types_bytes us ++ rest))) _ g (pair u (types_bytes us ++ rest)) e (type_forth u (types_bytes us ++ rest)) in
    let e2 = taken_as (types (length us) (types_bytes us ++ rest)) _ g (pair us rest) e1 (types_forth us rest) in
    same (pair (u ∷ us) rest) g e2

-- an expression in front of other bytes
in_front_lem : (e : Expr) (xs : List ℕ) (n : ℕ) (rest : List ℕ) (g : Got Expr) → expr n (code_of e ++ xs ++ rest) ≡ some g → expr n (code_of e ++ (xs ++ rest)) ≡ some g
in_front_lem e xs n rest g z = subst (λ (l : List ℕ). expr n l ≡ some g) (append_assoc (code_of e) xs rest) z

combine_forth : (o : Operation) (a b : Expr) (n : ℕ) (rest : List ℕ) (g : Got Expr) → combine_after (λ xs. expr n xs) o (code_of a ++ code_of b ++ rest) ≡ some g
    → ((r : List ℕ) (x : Got Expr) → expr n (code_of a ++ r) ≡ some x → x ≡ pair a r)
    → ((r : List ℕ) (x : Got Expr) → expr n (code_of b ++ r) ≡ some x → x ≡ pair b r) → g ≡ pair (combine o a b) rest
unfolding combine_after
combine_forth o a b n rest g z fa fb =
    let z1 = taken_as (expr n (code_of a ++ code_of b ++ rest)) _ g (pair a (code_of b ++ rest)) z (λ x q. fa (code_of b ++ rest) x (in_front_lem a (code_of b) n rest x q)) in
    let z2 = taken_as (expr n (code_of b ++ rest)) _ g (pair b rest) z1 (fb rest) in
    same (pair (combine o a b) rest) g z2

mutual
  unfolding code_of expr

  pub expr_forth : (e : Expr) (n : ℕ) (rest : List ℕ) (g : Got Expr) → expr n (code_of e ++ rest) ≡ some g → g ≡ pair e rest
  expr_forth this zero rest g z = absurd (none-ne-some g z)
  expr_forth this (suc n) rest g z = same (pair this rest) g z
  expr_forth res zero rest g z = absurd (none-ne-some g z)
  expr_forth res (suc n) rest g z = same (pair res rest) g z
  expr_forth (param k) zero rest g z = absurd (none-ne-some g z)
  expr_forth (param k) (suc n) rest g z = same (pair (param k) rest) g z
  expr_forth (field f e) zero rest g z = absurd (none-ne-some g z)
  expr_forth (field f e) (suc n) rest g z =
      let z1 = taken_as (expr n (code_of e ++ rest)) _ g (pair e rest) z (λ x q. expr_forth e n rest x q) in
      same (pair (field f e) rest) g z1
  expr_forth (call m e es) zero rest g z = absurd (none-ne-some g z)
  expr_forth (call m e es) (suc n) rest g z =
      let bs = code_of e ++ codes_of es ++ rest in
      let z1 = taken_as (up_to param_count (count es ∷ bs)) _ g (pair (count es) bs) z (upto_forth param_count (count es) bs) in
      let z2 = taken_as (expr n bs) _ g (pair e (codes_of es ++ rest)) z1 (λ x q. expr_forth e n (codes_of es ++ rest) x (in_front_lem e (codes_of es) n rest x q)) in
      let z3 = taken_as (exprs_by (λ xs. expr n xs) (count es) (codes_of es ++ rest)) _ g (pair es rest) z2 (λ xs q. exprs_forth es n rest xs q) in
      same (pair (call m e es) rest) g z3
  expr_forth (new c es) zero rest g z = absurd (none-ne-some g z)
  expr_forth (new c es) (suc n) rest g z =
      let bs = codes_of es ++ rest in
      let z1 = taken_as (up_to field_count (count es ∷ bs)) _ g (pair (count es) bs) z (upto_forth field_count (count es) bs) in
      let z2 = taken_as (exprs_by (λ xs. expr n xs) (count es) bs) _ g (pair es rest) z1 (λ xs q. exprs_forth es n rest xs q) in
      same (pair (new c es) rest) g z2
  expr_forth (literal k) zero rest g z = absurd (none-ne-some g z)
  expr_forth (literal k) (suc n) rest g z =
      subst (λ (x : ℕ). g ≡ pair (literal x) rest) (let y : 256 * (k / 256) + k % 256 ≡ k = omega arith in y)
      (same (pair (literal (256 * (k / 256) + k % 256)) rest) g z)
  expr_forth (combine o a b) zero rest g z = absurd (none-ne-some g z)
  expr_forth (combine sum a b) (suc n) rest g z = combine_forth sum a b n rest g z (λ r x q. expr_forth a n r x q) (λ r x q. expr_forth b n r x q)
  expr_forth (combine difference a b) (suc n) rest g z = combine_forth difference a b n rest g z (λ r x q. expr_forth a n r x q) (λ r x q. expr_forth b n r x q)
  expr_forth (choose c a b) zero rest g z = absurd (none-ne-some g z)
  expr_forth (choose c a b) (suc n) rest g z =
      let after = code_of a ++ code_of b ++ rest in
      let z1 = taken_as (expr n (code_of c ++ (code_of a ++ code_of b) ++ rest)) _ g (pair c after) z
      (λ x q. expr_forth c n after x (in_front_lem c (code_of a ++ code_of b) n rest x q)) in
      let z2 = taken_as (expr n after) _ g (pair a (code_of b ++ rest)) z1 (λ x q. expr_forth a n (code_of b ++ rest) x (in_front_lem a (code_of b) n rest x q)) in
      let z3 = taken_as (expr n (code_of b ++ rest)) _ g (pair b rest) z2 (λ x q. expr_forth b n rest x q) in
      same (pair (choose c a b) rest) g z3

  pub exprs_forth : (es : Exprs) (n : ℕ) (rest : List ℕ) (g : Got Exprs) → exprs_by (λ xs. expr n xs) (count es) (codes_of es ++ rest) ≡ some g → g ≡ pair es rest
  exprs_forth done n rest g z = same (pair done rest) g z
  exprs_forth (also e es) n rest g z =
      let z1 = taken_as (expr n (code_of e ++ codes_of es ++ rest)) _ g (pair e (codes_of es ++ rest)) z (λ x q. expr_forth e n (codes_of es ++ rest) x (in_front_lem e (codes_of es) n rest x q)) in
      let z2 = taken_as (exprs_by (λ xs. expr n xs) (count es) (codes_of es ++ rest)) _ g (pair es rest) z1 (λ xs q. exprs_forth es n rest xs q) in
      same (pair (also e es) rest) g z2
