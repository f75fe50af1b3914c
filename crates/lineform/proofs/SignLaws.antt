-- Laws of the table of signs and of a sign at a place of a line, one for each return; and which sign a byte is.
-- Not here: where an expression with a sign ends (ExprLaws).
use Rattle.std.proofs.Common.{ℕ, ◌+◌, ◌-◌, ◌<◌, ◌≤◌, arith, ◌≡◌, sym, ap, ◌∙◌, subst, List, length, get_or, Some, None, eq-eqb, ne_eqb, le-leb, le-ltb, lt-ltb}
use native.Mathlib.Decide.{ℕ_discrete}
use Rattle.std.proofs.Math.ListN.{get_or-eq_default}
use borrow.Author.Tests.{lt-leb}
use Rattle.std.specs.declared.option.Option.{Option}
use Rattle.lineform.specs.declared.exprs.Sign.{Sign}
use Rattle.lineform.specs.declared.sign.SignRow.{SignRow}
use Rattle.lineform.specs.Signs.{this_sign, res_sign, parameter_sign, field_sign, call_sign, new_sign, number_sign, sum_sign, difference_sign, choose_sign, row, sign_row, InTable, sign_size}
use Rattle.lineform.specs.Answers.{after, sign_of, row_at, sign_at}

-- ---- the rows
module _ (b n : ℕ) where
  pub row_this : b ≡ this_sign → InTable b n (row 1 0)
  unfolding sign_row
  row_this e = record { is = rw e; short = omega arith; few = omega arith }

  pub row_res : b ≡ res_sign → InTable b n (row 1 0)
  unfolding sign_row
  row_res e = record { is = rw e; short = omega arith; few = omega arith }

  pub row_parameter : b ≡ parameter_sign → InTable b n (row 2 0)
  unfolding sign_row
  row_parameter e = record { is = rw e; short = omega arith; few = omega arith }

  pub row_field : b ≡ field_sign → InTable b n (row 2 1)
  unfolding sign_row
  row_field e = record { is = rw e; short = omega arith; few = omega arith }

  pub row_call : b ≡ call_sign → InTable b n (row 3 (1 + n))
  unfolding sign_row
  row_call e = record { is = rw e; short = omega arith; few = omega arith }

  pub row_new : b ≡ new_sign → InTable b n (row 3 n)
  unfolding sign_row
  row_new e = record { is = rw e; short = omega arith; few = omega arith }

  pub row_number : b ≡ number_sign → InTable b n (row 3 0)
  unfolding sign_row
  row_number e = record { is = rw e; short = omega arith; few = omega arith }

  pub row_sum : b ≡ sum_sign → InTable b n (row 1 2)
  unfolding sign_row
  row_sum e = record { is = rw e; short = omega arith; few = omega arith }

  pub row_difference : b ≡ difference_sign → InTable b n (row 1 2)
  unfolding sign_row
  row_difference e = record { is = rw e; short = omega arith; few = omega arith }

  pub row_choose : b ≡ choose_sign → InTable b n (row 1 3)
  unfolding sign_row
  row_choose e = record { is = rw e; short = omega arith; few = omega arith }

  pub row_none : (b ≡ this_sign → ⊥) → (b ≡ res_sign → ⊥) → (b ≡ parameter_sign → ⊥) → (b ≡ field_sign → ⊥) → (b ≡ call_sign → ⊥) → (b ≡ new_sign → ⊥) → (b ≡ number_sign → ⊥) → (b ≡ sum_sign → ⊥) → (b ≡ difference_sign → ⊥) → (b ≡ choose_sign → ⊥) → InTable b n (row 0 0)
  unfolding sign_row
  row_none p q r s t u v w x y =
      record {
        is = rw (ne_eqb _ _ p, ne_eqb _ _ q, ne_eqb _ _ r, ne_eqb _ _ s, ne_eqb _ _ t, ne_eqb _ _ u, ne_eqb _ _ v, ne_eqb _ _ w, ne_eqb _ _ x, ne_eqb _ _ y);
        short = omega arith;
        few = omega arith;
      }

-- ---- which sign a byte is
pub record NoSign (b : ℕ) : Type 0 where
  pub this : b ≡ this_sign → ⊥
  pub res : b ≡ res_sign → ⊥
  pub parameter : b ≡ parameter_sign → ⊥
  pub field : b ≡ field_sign → ⊥
  pub call : b ≡ call_sign → ⊥
  pub new : b ≡ new_sign → ⊥
  pub number : b ≡ number_sign → ⊥
  pub sum : b ≡ sum_sign → ⊥
  pub difference : b ≡ difference_sign → ⊥
  pub choose : b ≡ choose_sign → ⊥

whether : (b k : ℕ) (P : Type 0) → (b ≡ k → P) → ((b ≡ k → ⊥) → P) → P
whether b k P yea nay = go (ℕ_discrete b k)
  where
    go : Dec (b ≡ k) → P
    go (yes q) = yea q
    go (no q) = nay q

pub which_sign : (b : ℕ) (P : Type 0) → (b ≡ this_sign → P) → (b ≡ res_sign → P) → (b ≡ parameter_sign → P) → (b ≡ field_sign → P) → (b ≡ call_sign → P) → (b ≡ new_sign → P) → (b ≡ number_sign → P) → (b ≡ sum_sign → P) → (b ≡ difference_sign → P) → (b ≡ choose_sign → P) → (NoSign b → P) → P
which_sign b P t r p f c n l s d h none =
    whether b this_sign P t λ n0.
    whether b res_sign P r λ n1.
    whether b parameter_sign P p λ n2.
    whether b field_sign P f λ n3.
    whether b call_sign P c λ n4.
    whether b new_sign P n λ n5.
    whether b number_sign P l λ n6.
    whether b sum_sign P s λ n7.
    whether b difference_sign P d λ n8.
    whether b choose_sign P h λ n9.
    none (record { this = n0; res = n1; parameter = n2; field = n3; call = n4; new = n5; number = n6; sum = n7; difference = n8; choose = n9 })

pub row_missing : (b n : ℕ) → NoSign b → InTable b n (row 0 0)
row_missing b n m = row_none b n m.this m.res m.parameter m.field m.call m.new m.number m.sum m.difference m.choose

short_of : {b n : ℕ} {r : SignRow} → InTable b n r → (sign_row b n).size ≤ 3
short_of t = subst (λ (x : SignRow). x.size ≤ 3) t.is t.short

pub size_short : (b n : ℕ) → (sign_row b n).size ≤ 3
size_short b n =
    which_sign b _
    (λ e. short_of (row_this b n e))
    (λ e. short_of (row_res b n e))
    (λ e. short_of (row_parameter b n e))
    (λ e. short_of (row_field b n e))
    (λ e. short_of (row_call b n e))
    (λ e. short_of (row_new b n e))
    (λ e. short_of (row_number b n e))
    (λ e. short_of (row_sum b n e))
    (λ e. short_of (row_difference b n e))
    (λ e. short_of (row_choose b n e))
    (λ m. short_of (row_missing b n m))

-- the place after a sign
pub past_is : (b at : ℕ) (g : SignRow) → InTable b 0 g → at + g.size ≡ at + sign_size b
past_is b at g t = ap (λ (x : SignRow). at + x.size) t.is

-- ---- a sign at a place, all of it in the line
module _ (at b n : ℕ) (g : SignRow) (t : InTable b n g) where
  eg : g ≡ sign_row b n
  eg = t.is

  as_row : (r : Option Sign) → r ≡ sign_of at g → r ≡ sign_of at (sign_row b n)
  as_row r e = e ∙ ap (sign_of at) eg

  pub of_none : g.size ≡ 0 → None ≡ sign_of at (sign_row b n)
  unfolding sign_of
  of_none z = as_row None (rw (eq-eqb g.size 0 z))

  module _ (nz : g.size ≡ 0 → ⊥) where
    pub of_over : 4 < g.parts → None ≡ sign_of at (sign_row b n)
    unfolding sign_of
    of_over l = as_row None (rw (ne_eqb g.size 0 nz, lt-ltb 4 g.parts l))

    pub of_is : g.parts ≤ 4 → Some (after (at + g.size) g.parts) ≡ sign_of at (sign_row b n)
    unfolding sign_of
    of_is l = as_row _ (rw (ne_eqb g.size 0 nz, le-ltb 4 g.parts l))

-- ---- one of the last two places
module _ (s : List ℕ) (at : ℕ) where
  pub last_end : length s ≤ at → None ≡ sign_at s at
  unfolding sign_at
  last_end h = rw (le-leb (length s) at h)

  module _ (few : length s - 2 ≤ at) (h : at < length s) (g : SignRow) (t : InTable (get_or s at 0) 0 g) where
    no_count : sign_row (get_or s at 0) 0 ≡ row_at s at
    no_count = ap (sign_row (get_or s at 0)) (sym (get_or-eq_default s 0 {n = at + 2} (let q : length s ≤ at + 2 = omega arith in q)))

    pub last_short : length s - at < g.size → None ≡ sign_at s at
    unfolding sign_at
    last_short l =
        let z : length s - at < (row_at s at).size = subst (λ (x : SignRow). length s - at < x.size) (t.is ∙ no_count) l in
        rw (lt-leb (length s) at h, lt-ltb (length s - at) (row_at s at).size z)

    module _ (l : g.size ≤ length s - at) where
      pub last_is : (r : Option Sign) → r ≡ sign_of at (sign_row (get_or s at 0) 0) → r ≡ sign_at s at
      unfolding sign_at
      last_is r e =
          let z : (row_at s at).size ≤ length s - at = subst (λ (x : SignRow). x.size ≤ length s - at) (t.is ∙ no_count) l in
          rw (lt-leb (length s) at h, le-ltb (length s - at) (row_at s at).size z) (e ∙ ap (sign_of at) no_count)

-- ---- any other place
module _ (s : List ℕ) (at w : ℕ) (ew : w ≡ length s - 2) (h : at < w) where
  pub whole_room : at + (sign_row (get_or s at 0) (get_or s (at + 2) 0)).size ≤ length s
  whole_room = let z = size_short (get_or s at 0) (get_or s (at + 2) 0) in omega arith

  pub whole_is : (r : Option Sign) → r ≡ sign_of at (sign_row (get_or s at 0) (get_or s (at + 2) 0)) → r ≡ sign_at s at
  unfolding sign_at
  whole_is r e =
      let z : (row_at s at).size ≤ length s - at = (let y = size_short (get_or s at 0) (get_or s (at + 2) 0) in omega arith) in
      rw (lt-leb (length s) at (omega arith), le-ltb (length s - at) (row_at s at).size z) e
