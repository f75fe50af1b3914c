-- Where an expression of a line ends: where its sign says that its last part does.
-- Not here: the laws that the goals of `exprs` cite (ExprLaws).
use Rattle.std.proofs.Common.{ℕ, zero, suc, ◌+◌, ◌-◌, ◌<◌, ◌≤◌, arith, sub-one, ◌≡◌, refl, sym, ap, ◌∙◌, Bool, true, false, List, [], ◌∷◌, eqb, leb, ltb, length, drop, get_or, Some, None, le-leb, le-ltb, ne_eqb, eqb-true, leb-true, leb-false, ltb-true, ltb-false}
use Rattle.std.proofs.Math.Option.{Option, none, some}
use borrow.Author.Tests.{lt-leb}
use Rattle.cofj.specs.Partial.{◌>>=◌}
use Rattle.cofj.specs.Syntax.{Operation, sum, difference, Expr, field, call, new, literal, combine, choose, also}
use Rattle.cofj.specs.Frames.{Got, Reader, got, two_bytes, exprs_by, field_after, call_after, new_after, combine_after, choose_after, expr_after, expr}
use Rattle.std.specs.declared.option.Option.{Option as RustOption}
use Rattle.lineform.specs.declared.exprs.Sign.{Sign}
use Rattle.lineform.specs.Signs.{this_sign, res_sign, parameter_sign, field_sign, call_sign, new_sign, number_sign, sum_sign, difference_sign, choose_sign, row, InTable}
use Rattle.lineform.specs.Answers.{end_of, pick, after, sign_of, sign_at, end_by}
use Rattle.lineform.proofs.SignLaws.{row_this, row_res, row_parameter, row_field, row_call, row_new, row_number, row_sum, row_difference, row_choose, NoSign, which_sign, row_missing}
use Rattle.lineform.proofs.Ends.{more, no_more, same_end, end_here}

-- ---- an expression, and the expressions in it
pub empty : (left : ℕ) → expr left [] ≡ none
unfolding expr
empty zero = refl
empty (suc left) = refl

step : (s : List ℕ) (left at : ℕ) → 1 ≤ left → at < length s → expr left (drop at s) ≡ expr_after (expr (left - 1)) (get_or s at 0) (drop (at + 1) s)
unfolding expr
step s zero at nz h = absurd (omega arith)
step s (suc left) at nz h = rw (sub-one, more s at h)

-- and after an item all goes on in the same way
then_end : {A B C : Type 0} (s : List ℕ) (p : Option (Got A)) (q : Got A → Option (Got B)) (r : Got A → Option (Got C)) → ((g : Got A) → end_of s (q g) ≡ end_of s (r g)) → end_of s (p >>= q) ≡ end_of s (p >>= r)
then_end s none q r e = refl
then_end s (some g) q r e = e g

-- the parts of an expression end where the expression does
module _ (s : List ℕ) (one : Reader Expr) where
  one_part : (f : Expr → Expr) (bs : List ℕ) → end_of s (one bs >>= λ a. got (f a.item) a.rest) ≡ end_of s (exprs_by one 1 bs)
  unfolding exprs_by
  one_part f bs = then_end s (one bs) _ _ (λ a. refl)

  two_parts : (f : Expr → Expr → Expr) (bs : List ℕ) → end_of s (one bs >>= λ a. one a.rest >>= λ b. got (f a.item b.item) b.rest) ≡ end_of s (exprs_by one 2 bs)
  unfolding exprs_by
  two_parts f bs = then_end s (one bs) _ _ (λ a. one_part (f a.item) a.rest ∙ sym (same_end s (exprs_by one 1 a.rest) (also a.item)))

  field_parts : (f : ℕ) (bs : List ℕ) → end_of s (field_after one (f ∷ bs)) ≡ end_of s (exprs_by one 1 bs)
  unfolding field_after
  field_parts f bs = one_part (field f) bs

  call_parts : (m n : ℕ) (bs : List ℕ) → n ≤ 3 → end_of s (call_after one (m ∷ n ∷ bs)) ≡ end_of s (exprs_by one (suc n) bs)
  unfolding call_after exprs_by
  call_parts m n bs h =
      rw (le-leb n 3 h)
      (then_end s (one bs) _ _ (λ a. same_end s (exprs_by one n a.rest) (call m a.item) ∙ sym (same_end s (exprs_by one n a.rest) (also a.item))))

  new_parts : (c n : ℕ) (bs : List ℕ) → n ≤ 4 → end_of s (new_after one (c ∷ n ∷ bs)) ≡ end_of s (exprs_by one n bs)
  unfolding new_after
  new_parts c n bs h = rw (le-leb n 4 h) (same_end s (exprs_by one n bs) (new c))

  combine_parts : (o : Operation) (bs : List ℕ) → end_of s (combine_after one o bs) ≡ end_of s (exprs_by one 2 bs)
  unfolding combine_after
  combine_parts o bs = two_parts (combine o) bs

  choose_parts : (bs : List ℕ) → end_of s (choose_after one bs) ≡ end_of s (exprs_by one 3 bs)
  unfolding choose_after exprs_by
  choose_parts bs =
      then_end s (one bs) _ _ (λ c. two_parts (choose c.item) c.rest ∙ sym (same_end s (exprs_by one 2 c.rest) (also c.item)))

list_none : (s : List ℕ) (left at : ℕ) → at ≤ length s → Some at ≡ end_of s (exprs_by (expr left) 0 (drop at s))
unfolding exprs_by
list_none s left at h = ap {B = RustOption ℕ} Some (end_here s at h)

at_end_lem : (s : List ℕ) (left at : ℕ) → length s ≤ at → None ≡ end_of s (expr left (drop at s))
at_end_lem s left at h = rw (no_more s at h, empty left)

-- an expression ends where its sign says
abbrev pub ends : List ℕ → ℕ → RustOption Sign → RustOption ℕ
ends s left None = None
ends s left (Some g) = end_by s left g.next g.parts

parts_after : (s : List ℕ) (left next p : ℕ) → next ≤ length s → end_by s left next p ≡ end_of s (exprs_by (expr (left - 1)) p (drop next s))
unfolding end_by
parts_after s left next p h = go (eqb p 0) refl
  where
    go : (b : Bool) → eqb p 0 ≡ b → pick b (Some next) (end_of s (exprs_by (expr (left - 1)) p (drop next s))) ≡ end_of s (exprs_by (expr (left - 1)) p (drop next s))
    go true q = rw (eqb-true p 0 q) (list_none s (left - 1) next h)
    go false q = refl

-- ---- an expression, by its sign
module _ (s : List ℕ) (left at : ℕ) (nz : 1 ≤ left) (h : at < length s) where
  abbrev sign : ℕ
  sign = get_or s at 0

  abbrev number : ℕ
  number = get_or s (at + 2) 0

  abbrev end : RustOption ℕ
  end = end_of s (expr left (drop at s))

  abbrev one : Reader Expr
  one = expr (left - 1)

  -- the two bytes after the sign
  second : at + 1 < length s → drop (at + 1) s ≡ get_or s (at + 1) 0 ∷ drop (at + 2) s
  second h1 = more s (at + 1) h1 ∙ ap (λ (k : ℕ). get_or s (at + 1) 0 ∷ drop k s) (let z : at + 1 + 1 ≡ at + 2 = omega arith in z)

  third : at + 2 < length s → drop (at + 2) s ≡ number ∷ drop (at + 3) s
  third h2 = more s (at + 2) h2 ∙ ap (λ (k : ℕ). number ∷ drop k s) (let z : at + 2 + 1 ≡ at + 3 = omega arith in z)

  -- what a sign of k bytes with p expressions must say: bytes of it are missing, the expressions are too many, or they are read
  record Told (k p : ℕ) : Type 0 where
    missing : length s < at + k → None ≡ end
    many : at + k ≤ length s → 4 < p → None ≡ end
    read : at + k ≤ length s → p ≤ 4 → end_of s (exprs_by one p (drop (at + k) s)) ≡ end

  told : (k p : ℕ) → InTable sign number (row k p) → (k ≡ 0 → ⊥) → Told k p → ends s left (sign_at s at) ≡ end
  unfolding sign_at sign_of end_by
  told k p e nk w =
      rw (lt-leb (length s) at h, ← e.is, ne_eqb k 0 nk) (short (ltb (length s - at) k) refl)
    where
      over : at + k ≤ length s → (z : Bool) → ltb 4 p ≡ z → ends s left (pick z None (Some (after (at + k) p))) ≡ end
      over l true q = w.many l (ltb-true 4 p q)
      over l false q = parts_after s left (at + k) p l ∙ w.read l (ltb-false 4 p q)

      short : (z : Bool) → ltb (length s - at) k ≡ z → ends s left (pick z None (pick (ltb 4 p) None (Some (after (at + k) p)))) ≡ end
      short true q = w.missing (let m = ltb-true (length s - at) k q in omega arith)
      short false q = over (let m = ltb-false (length s - at) k q in omega arith) (ltb 4 p) refl

  -- this and res have nothing after them
  this_told : sign ≡ this_sign → Told 1 0
  unfolding expr_after exprs_by
  this_told e = record { missing = λ m. absurd (omega arith); many = λ l m. absurd (omega arith); read = λ l m. rw (step s left at nz h, e) }

  res_told : sign ≡ res_sign → Told 1 0
  unfolding expr_after exprs_by
  res_told e = record { missing = λ m. absurd (omega arith); many = λ l m. absurd (omega arith); read = λ l m. rw (step s left at nz h, e) }

  -- a parameter and a field have a byte
  parameter_told : sign ≡ parameter_sign → Told 2 0
  unfolding expr_after exprs_by
  parameter_told e = record {
    missing = λ m. rw (step s left at nz h, e, no_more s (at + 1) (let z : length s ≤ at + 1 = omega arith in z));
    many = λ l m. absurd (omega arith);
    read = λ l m. rw (step s left at nz h, e, second (let z : at + 1 < length s = omega arith in z));
  }

  field_told : sign ≡ field_sign → Told 2 1
  unfolding expr_after field_after
  field_told e = record {
    missing = λ m. rw (step s left at nz h, e, no_more s (at + 1) (let z : length s ≤ at + 1 = omega arith in z));
    many = λ l m. absurd (omega arith);
    read = λ l m. rw (step s left at nz h, e, second (let z : at + 1 < length s = omega arith in z)) (sym (field_parts s one (get_or s (at + 1) 0) (drop (at + 2) s)));
  }

  -- a call and a new object have two
  cut : (f : Reader Expr) → f [] ≡ none → ((m : ℕ) → f (m ∷ []) ≡ none) → length s < at + 3 → f (drop (at + 1) s) ≡ none
  cut f e0 e1 l = go (leb (length s) (at + 1)) refl
    where
      go : (z : Bool) → leb (length s) (at + 1) ≡ z → f (drop (at + 1) s) ≡ none
      go true q = rw (no_more s (at + 1) (leb-true (length s) (at + 1) q)) e0
      go false q = rw (second (leb-false (length s) (at + 1) q), no_more s (at + 2) (let z : length s ≤ at + 2 = omega arith in z)) (e1 (get_or s (at + 1) 0))

  call_told : sign ≡ call_sign → Told 3 (1 + number)
  unfolding expr_after call_after
  call_told e = record {
    missing = λ m. rw (step s left at nz h, e, cut (call_after one) refl (λ k. refl) m);
    many = λ l m. rw (step s left at nz h, e, second (let z : at + 1 < length s = omega arith in z), third (let z : at + 2 < length s = omega arith in z), lt-leb number 3 (let z : 3 < number = omega arith in z));
    read = λ l m.
        rw (step s left at nz h, e, second (let z : at + 1 < length s = omega arith in z), third (let z : at + 2 < length s = omega arith in z), (let z : 1 + number ≡ suc number = omega arith in z))
        (sym (call_parts s one (get_or s (at + 1) 0) number (drop (at + 3) s) (let z : number ≤ 3 = omega arith in z)));
  }

  new_told : sign ≡ new_sign → Told 3 number
  unfolding expr_after new_after
  new_told e = record {
    missing = λ m. rw (step s left at nz h, e, cut (new_after one) refl (λ k. refl) m);
    many = λ l m. rw (step s left at nz h, e, second (let z : at + 1 < length s = omega arith in z), third (let z : at + 2 < length s = omega arith in z), lt-leb number 4 m);
    read = λ l m.
        rw (step s left at nz h, e, second (let z : at + 1 < length s = omega arith in z), third (let z : at + 2 < length s = omega arith in z))
        (sym (new_parts s one (get_or s (at + 1) 0) number (drop (at + 3) s) m));
  }

  -- so has a number
  number_told : sign ≡ number_sign → Told 3 0
  unfolding expr_after two_bytes exprs_by
  number_told e = record {
    missing = λ m. rw (step s left at nz h, e, cut (λ bs. two_bytes bs >>= λ n. got (literal n.item) n.rest) refl (λ k. refl) m);
    many = λ l m. absurd (omega arith);
    read = λ l m. rw (step s left at nz h, e, second (let z : at + 1 < length s = omega arith in z), third (let z : at + 2 < length s = omega arith in z));
  }

  -- the others have their expressions at once
  sum_told : sign ≡ sum_sign → Told 1 2
  unfolding expr_after
  sum_told e = record {
    missing = λ m. absurd (omega arith);
    many = λ l m. absurd (omega arith);
    read = λ l m. rw (step s left at nz h, e) (sym (combine_parts s one sum (drop (at + 1) s)));
  }

  difference_told : sign ≡ difference_sign → Told 1 2
  unfolding expr_after
  difference_told e = record {
    missing = λ m. absurd (omega arith);
    many = λ l m. absurd (omega arith);
    read = λ l m. rw (step s left at nz h, e) (sym (combine_parts s one difference (drop (at + 1) s)));
  }

  choose_told : sign ≡ choose_sign → Told 1 3
  unfolding expr_after
  choose_told e = record {
    missing = λ m. absurd (omega arith);
    many = λ l m. absurd (omega arith);
    read = λ l m. rw (step s left at nz h, e) (sym (choose_parts s one (drop (at + 1) s)));
  }

  none_told : NoSign sign → ends s left (sign_at s at) ≡ end
  unfolding sign_at sign_of end_by expr_after
  none_told m =
      let e : expr_after one sign (drop (at + 1) s) ≡ none =
      rw (
        ne_eqb _ _ m.this,
        ne_eqb _ _ m.res,
        ne_eqb _ _ m.parameter,
        ne_eqb _ _ m.field,
        ne_eqb _ _ m.call,
        ne_eqb _ _ m.new,
        ne_eqb _ _ m.number,
        ne_eqb _ _ m.sum,
        ne_eqb _ _ m.difference,
        ne_eqb _ _ m.choose,
        expr_after,
      )
      in
      rw (lt-leb (length s) at h, ← (row_missing sign number m).is, le-ltb (length s - at) 0 (let z : 0 ≤ length s - at = omega arith in z), step s left at nz h, e)

  in_line : ends s left (sign_at s at) ≡ end
  in_line =
      which_sign sign _
      (λ e. told 1 0 (row_this sign number e) (λ z. omega arith) (this_told e))
      (λ e. told 1 0 (row_res sign number e) (λ z. omega arith) (res_told e))
      (λ e. told 2 0 (row_parameter sign number e) (λ z. omega arith) (parameter_told e))
      (λ e. told 2 1 (row_field sign number e) (λ z. omega arith) (field_told e))
      (λ e. told 3 (1 + number) (row_call sign number e) (λ z. omega arith) (call_told e))
      (λ e. told 3 number (row_new sign number e) (λ z. omega arith) (new_told e))
      (λ e. told 3 0 (row_number sign number e) (λ z. omega arith) (number_told e))
      (λ e. told 1 2 (row_sum sign number e) (λ z. omega arith) (sum_told e))
      (λ e. told 1 2 (row_difference sign number e) (λ z. omega arith) (difference_told e))
      (λ e. told 1 3 (row_choose sign number e) (λ z. omega arith) (choose_told e))
      none_told

pub sign_is : (s : List ℕ) (left at : ℕ) → 1 ≤ left → ends s left (sign_at s at) ≡ end_of s (expr left (drop at s))
unfolding sign_at end_by
sign_is s left at nz = go (leb (length s) at) refl
  where
    go : (z : Bool) → leb (length s) at ≡ z → ends s left (sign_at s at) ≡ end_of s (expr left (drop at s))
    go true q = rw (le-leb (length s) at (leb-true (length s) at q)) (at_end_lem s left at (leb-true (length s) at q))
    go false q = in_line s left at nz (leb-false (length s) at q)
