-- The walk over the signs of an expression: what it keeps, one law for each return, and that it ends after the expression's code.
-- Not here: what stands at a place (ShapesOn).
use Rattle.std.proofs.Common.{ℕ, zero, suc, ◌+◌, ◌-◌, ◌*◌, ◌<◌, ◌≤◌, arith, ◌≡◌, refl, sym, ap, ap₂, ◌∙◌, subst, Bool, true, false, List, [], ◌∷◌, ◌++◌, eqb, leb, length, length-append, eq-eqb, ne_eqb, le-leb, leb-true, leb-false}
use borrow.Author.Tests.{lt-leb, eqb-false}
use Rattle.cofj.specs.Syntax.{Operation, sum, difference, Expr, this, res, param, field, call, new, literal, combine, choose, Exprs, done, also, count, Table}
use Rattle.cofj.specs.Writing.{number_bytes, operation_sign, code_of, codes_of}
use Rattle.lineform.specs.declared.sign.SignRow.{SignRow}
use Rattle.lineform.specs.Signs.{this_sign, res_sign, parameter_sign, field_sign, call_sign, new_sign, number_sign, sum_sign, difference_sign, choose_sign, row, sign_row}
use Rattle.classes.specs.Figures.{table_size}
use Rattle.classes.specs.Machine.{pick}
use Rattle.classes.specs.Layout.{layout, Stands}
use Rattle.classes.specs.Shapes.{byte_in}
use Rattle.classes.specs.Skipping.{row_at, SignIn, skip_to, skip_of, Skipped}
use Rattle.classes.proofs.Zones.{stands_first, stands_front, stands_after}
use Rattle.classes.proofs.ShapesOn.{past, byte_is}

-- ---- one sign after another
module _ (B : List ℕ) where
  no_more : (n at : ℕ) → skip_to n B 0 at ≡ at
  unfolding skip_to
  no_more zero at = refl
  no_more (suc n) at = refl

  stuck : (n left at : ℕ) → (row_at B at).size ≡ 0 → skip_to n B left at ≡ at
  unfolding skip_to
  stuck zero left at z = refl
  stuck (suc n) zero at z = refl
  stuck (suc n) (suc left) at z = rw (eq-eqb (row_at B at).size 0 z) (go (leb table_size at))
    where
      go : (b : Bool) → pick b at at ≡ at
      go true = refl
      go false = refl

  -- as many steps as there are bytes left are enough
  enough : (n m left at : ℕ) → table_size ≤ n + at → table_size ≤ m + at → skip_to n B left at ≡ skip_to m B left at
  unfolding skip_to
  enough zero zero left at h k = refl
  enough zero (suc m) zero at h k = refl
  enough zero (suc m) (suc left) at h k = rw (le-leb table_size at (omega arith))
  enough (suc n) zero zero at h k = refl
  enough (suc n) zero (suc left) at h k = rw (le-leb table_size at (omega arith))
  enough (suc n) (suc m) zero at h k = refl
  enough (suc n) (suc m) (suc left) at h k = go (eqb (row_at B at).size 0) refl (enough n m (left + (row_at B at).parts) (at + (row_at B at).size))
    where
      go : (b : Bool) → eqb (row_at B at).size 0 ≡ b
          → (table_size ≤ n + (at + (row_at B at).size) → table_size ≤ m + (at + (row_at B at).size)
          → skip_to n B (left + (row_at B at).parts) (at + (row_at B at).size) ≡ skip_to m B (left + (row_at B at).parts) (at + (row_at B at).size))
          → pick (leb table_size at) at (pick b at (skip_to n B (left + (row_at B at).parts) (at + (row_at B at).size)))
          ≡ pick (leb table_size at) at (pick b at (skip_to m B (left + (row_at B at).parts) (at + (row_at B at).size)))
      go true q f = refl
      go false q f = let z = eqb-false (row_at B at).size 0 q in rw (f (omega arith) (omega arith))

  -- the place after `left` expressions from `at` on
  unfoldable pub skip_from : ℕ → ℕ → ℕ
  skip_from left at = skip_to (table_size - at) B left at

  step : (left at size parts : ℕ) → at < table_size → row_at B at ≡ row size parts → (size ≡ 0 → ⊥) → skip_from (suc left) at ≡ skip_from (left + parts) (at + size)
  unfolding skip_from skip_to
  step left at size parts h e nz =
      let q : table_size - at ≡ suc (table_size - (at + 1)) = omega arith in
      rw (q, lt-leb table_size at h, e, ne_eqb size 0 nz)
      (enough (table_size - (at + 1)) (table_size - (at + size)) (left + parts) (at + size) (omega arith) (omega arith))

-- ---- what the walk keeps, from `from` on
pub record Skips (B : List ℕ) (from left at : ℕ) : Type 0 where
  pub is : skip_of B from ≡ skip_from B left at
  pub low : (limit : ℕ) → table_size + 3 ≤ limit → from < limit → at < limit
  pub few : left ≤ 1 + 257 * at

pub skips_begin : (B : List ℕ) (from : ℕ) → Skips B from 1 from
unfolding skip_of skip_from
skips_begin B from = record { is = refl; low = λ limit h l. l; few = omega arith }

module _ (B : List ℕ) (from left at : ℕ) (s : Skips B from left at) where
  ended : skip_from B left at ≡ at → Skipped B from at
  ended e = record { is = sym (s.is ∙ e); low = s.low }

  pub skip_past : table_size ≤ at → Skipped B from at
  unfolding skip_from skip_to
  skip_past h = let q : table_size - at ≡ 0 = omega arith in ended (rw q)

  pub skip_done : left ≤ 0 → Skipped B from at
  unfolding skip_from skip_to
  skip_done h = let q : left ≡ 0 = omega arith in ended (rw q (no_more B (table_size - at) at))

  -- no sign at `at`
  pub skip_none : (g : SignRow) → SignIn B at g → g.size ≡ 0 → Skipped B from at
  unfolding skip_from
  skip_none g t z = ended (stuck B (table_size - at) left at (ap (λ (x : SignRow). x.size) (sym t.is) ∙ z))

  module _ (some_left : 0 < left) (h : at < table_size) (g : SignRow) (t : SignIn B at g) where
    pub skip_next : (g.size ≡ 0 → ⊥) → Skips B from (left - 1 + g.parts) (at + g.size)
    skip_next nz = record {
      is = s.is ∙ ap (λ (k : ℕ). skip_from B k at) (let q : left ≡ suc (left - 1) = omega arith in q) ∙ step B (left - 1) at g.size g.parts h (sym t.is) nz;
      low = λ limit l k. let a = t.short in omega arith;
      few = omega (arith, s.few, t.few);
    }

-- ---- on the bytes of a table
module _ (t : Table) where
  abbrev from : ℕ → ℕ → ℕ
  from left at = skip_from (layout t) left at

  module _ (at b : ℕ) (bs : List ℕ) (st : Stands (layout t) at (b ∷ bs)) (nz : b ≡ 0 → ⊥) where
    sign_low : at < table_size
    sign_low = go (leb table_size at) refl
      where
        go : (x : Bool) → leb table_size at ≡ x → at < table_size
        go true q = absurd (nz (sym (stands_first (layout t) at b bs st) ∙ past t at (leb-true table_size at q)))
        go false q = leb-false table_size at q

    row_at_lem : row_at (layout t) at ≡ sign_row b (byte_in (layout t) (at + 2))
    row_at_lem = ap (λ (x : ℕ). sign_row x (byte_in (layout t) (at + 2))) (stands_first (layout t) at b bs st)

    sign_step : (left size parts : ℕ) → sign_row b (byte_in (layout t) (at + 2)) ≡ row size parts → (size ≡ 0 → ⊥) → from (suc left) at ≡ from (left + parts) (at + size)
    sign_step left size parts e ns = step (layout t) left at size parts sign_low (row_at_lem ∙ e) ns

  -- the count that a sign of three bytes has
  third : (at b k n : ℕ) (bs : List ℕ) → Stands (layout t) at (b ∷ k ∷ n ∷ bs) → byte_in (layout t) (at + 2) ≡ n
  third at b k n bs st = byte_is t (at + 2) ∙ stands_first (layout t) (at + 2) n bs (stands_after (layout t) at (b ∷ k ∷ []) (n ∷ bs) st)

  -- the same place and the same number of expressions, written in another way
  moved : {left left' at at' : ℕ} → left ≡ left' → at ≡ at' → from left at ≡ from left' at'
  moved p q = ap₂ from p q

  -- one expression and then others
  abbrev Passed : ℕ → List ℕ → Type 0
  Passed k code = (left at : ℕ) → Stands (layout t) at code → from (left + k) at ≡ from left (at + length code)

  then : (k l : ℕ) (xs ys : List ℕ) → Passed k xs → Passed l ys → Passed (k + l) (xs ++ ys)
  then k l xs ys f g left at st =
      moved (let q : left + (k + l) ≡ left + l + k = omega arith in q) refl
      ∙ f (left + l) at (stands_front (layout t) at xs ys st)
      ∙ g left (at + length xs) (stands_after (layout t) at xs ys st)
      ∙ moved refl (let e = length-append xs ys in let q : at + length xs + length ys ≡ at + length (xs ++ ys) = omega arith in q)

  as_many : {k l : ℕ} (code : List ℕ) → k ≡ l → Passed k code → Passed l code
  as_many code e f = subst (λ (n : ℕ). Passed n code) e f

  no_code : Passed 0 []
  no_code left at st = moved (let q : left + 0 ≡ left = omega arith in q) (let q : at ≡ at + 0 = omega arith in q)

  -- a sign, the bytes that belong to it, and k expressions
  after_sign : (b k : ℕ) (own code : List ℕ) → (b ≡ 0 → ⊥) → ((at : ℕ) → Stands (layout t) at (b ∷ (own ++ code)) → sign_row b (byte_in (layout t) (at + 2)) ≡ row (1 + length own) k)
      → Passed k code → Passed 1 (b ∷ (own ++ code))
  after_sign b k own code nz e f left at st =
      moved (let q : left + 1 ≡ suc left = omega arith in q) refl
      ∙ sign_step at b (own ++ code) st nz left (1 + length own) k (e at st) (λ z. omega arith)
      ∙ moved refl (let q : at + (1 + length own) ≡ at + length (b ∷ own) = omega arith in q)
      ∙ f left (at + length (b ∷ own)) (stands_after (layout t) at (b ∷ own) code st)
      ∙ moved refl (let z = length-append own code in let q : at + length (b ∷ own) + length code ≡ at + length (b ∷ (own ++ code)) = omega arith in q)

  after_operation : (o : Operation) (code : List ℕ) → Passed 2 code → Passed 1 (operation_sign o ∷ code)
  unfolding sign_row
  after_operation sum code f = after_sign sum_sign 2 [] code (λ z. omega arith) (λ at st. refl) f
  after_operation difference code f = after_sign difference_sign 2 [] code (λ z. omega arith) (λ at st. refl) f

  mutual
    unfolding code_of sign_row

    passed : (e : Expr) → Passed 1 (code_of e)
    passed this = after_sign this_sign 0 [] [] (λ z. omega arith) (λ at st. refl) no_code
    passed res = after_sign res_sign 0 [] [] (λ z. omega arith) (λ at st. refl) no_code
    passed (param k) = after_sign parameter_sign 0 (k ∷ []) [] (λ z. omega arith) (λ at st. refl) no_code
    passed (field f e) = after_sign field_sign 1 (f ∷ []) (code_of e) (λ z. omega arith) (λ at st. refl) (passed e)
    passed (call m e es) =
        after_sign call_sign (1 + count es) (m ∷ count es ∷ []) (code_of e ++ codes_of es) (λ z. omega arith)
        (λ at st. ap (λ (n : ℕ). row 3 (1 + n)) (third at call_sign m (count es) (code_of e ++ codes_of es) st))
        (then 1 (count es) (code_of e) (codes_of es) (passed e) (all_passed es))
    passed (new c es) =
        after_sign new_sign (count es) (c ∷ count es ∷ []) (codes_of es) (λ z. omega arith) (λ at st. ap (row 3) (third at new_sign c (count es) (codes_of es) st)) (all_passed es)
    passed (literal n) = after_sign number_sign 0 (number_bytes n) [] (λ z. omega arith) (λ at st. refl) no_code
    passed (combine o a b) = after_operation o (code_of a ++ code_of b) (then 1 1 (code_of a) (code_of b) (passed a) (passed b))
    passed (choose c a b) =
        after_sign choose_sign 3 [] (code_of c ++ (code_of a ++ code_of b)) (λ z. omega arith) (λ at st. refl)
        (then 1 2 (code_of c) (code_of a ++ code_of b) (passed c) (then 1 1 (code_of a) (code_of b) (passed a) (passed b)))

    all_passed : (es : Exprs) → Passed (count es) (codes_of es)
    all_passed done = no_code
    all_passed (also e es) = as_many (code_of e ++ codes_of es) (let q : 1 + count es ≡ suc (count es) = omega arith in q) (then 1 (count es) (code_of e) (codes_of es) (passed e) (all_passed es))

  -- `skip_expr` on the place of an expression
  pub skip_on : (e : Expr) (at : ℕ) → Stands (layout t) at (code_of e) → skip_of (layout t) at ≡ at + length (code_of e)
  unfolding skip_of skip_from
  skip_on e at st = passed e 0 at st ∙ no_more (layout t) (table_size - (at + length (code_of e))) (at + length (code_of e))
