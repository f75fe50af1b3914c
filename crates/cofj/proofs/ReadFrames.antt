-- What reading makes sure of in a line: its numbers are bytes, its tags are tags, and its expressions are nested within the limit.
-- Not here: tables (Readable).
use Prim.Native.Nat.{ℕ, zero, suc, ◌≤◌}
use native.Mathlib.Omega.{arith}
use mathlib.Core.Path.{◌≡◌, sym, subst}
use mathlib.Core.List.{List, [], ◌∷◌}
use mathlib.Core.Option.{Option, none, some, none-ne-some}
use lib.Dec.{eqb, leb}
use lib.ListN.{length}
use borrow.Author.Tests.{leb-true}
use Rattle.cofj.specs.Limits.{line_size, field_count, param_count, nesting_limit}
use Rattle.cofj.specs.Partial.{◌>>=◌}
use Rattle.cofj.specs.Syntax.{Operation, sum, difference, Expr, param, literal, Exprs, Ty, ty, Method}
use Rattle.cofj.specs.Frames.{Got, Reader, got, byte, up_to, type, types, two_bytes, exprs_by, field_after, call_after, new_after, combine_after, choose_after, expr_after, expr, TextFrame, class_frame, method_frame, main_frame, whole, class_after, method_after, main_after, input_after, frame, frames}
use Rattle.cofj.specs.Nesting.{Each, Parts, Nested}
use Rattle.cofj.specs.Writing.{types_bytes}
use Rattle.cofj.proofs.Partial.{guard-bind, taken}
use Rattle.cofj.proofs.TextRound.{Bytes, Lines}
use Rattle.cofj.proofs.Steps.{pair, given, same, taken_as, branch, bytes_after}
use Rattle.cofj.proofs.ExprRound.{type_back, types_back}
use Rattle.cofj.proofs.FrameRound.{line_of, frame-length}

-- ---- steps of a reader
up_to_lem : (n k : ℕ) (bs : List ℕ) (g : Got ℕ) → up_to n (k ∷ bs) ≡ some g → (g ≡ pair k bs) × (k ≤ n)
up_to_lem n k bs g e =
    let a = guard-bind (leb k n) (λ _. got k bs) g e in
    (same (pair k bs) g a.1, leb-true k n a.0)

-- ---- expressions
abbrev Good : {A : Type 0} → (A → Type 0) → Got A → Type 0
Good P g = P g.item × Bytes g.rest

module _ (one : Reader Expr) (P : Expr → Type 0) (ih : (bs : List ℕ) (g : Got Expr) → one bs ≡ some g → Bytes bs → Good P g) where
  exprs_good : (n : ℕ) (bs : List ℕ) (g : Got Exprs) → exprs_by one n bs ≡ some g → Bytes bs → Good (Each P) g
  unfolding exprs_by
  exprs_good zero bs g e h = given (Good (Each P)) _ g e (tt, h)
  exprs_good (suc n) bs g e h =
      taken (one bs) g e λ x q e1.
      taken (exprs_by one n x.rest) g e1 λ xs r e2.
      let a = ih bs x q h in
      let b = exprs_good n x.rest xs r a.1 in
      given (Good (Each P)) _ g e2 ((a.0, b.0), b.1)

  field_good_lem : (bs : List ℕ) (g : Got Expr) → field_after one bs ≡ some g → Bytes bs → Good (Parts P) g
  unfolding field_after
  field_good_lem [] g e h = absurd (none-ne-some g e)
  field_good_lem (f ∷ bs) g e h = taken (one bs) g e λ x q e1. given (Good (Parts P)) _ g e1 (ih bs x q h.1)

  call_good : (bs : List ℕ) (g : Got Expr) → call_after one bs ≡ some g → Bytes bs → Good (Parts P) g
  unfolding call_after
  call_good [] g e h = absurd (none-ne-some g e)
  call_good (m ∷ []) g e h = absurd (none-ne-some g e)
  call_good (m ∷ k ∷ bs) g e h =
      let e1 = taken_as (up_to param_count (k ∷ bs)) _ g (pair k bs) e (λ n q. (up_to_lem param_count k bs n q).0) in
      taken (one bs) g e1 λ x q e2.
      taken (exprs_by one k x.rest) g e2 λ xs r e3.
      let a = ih bs x q h.1.1 in
      let b = exprs_good k x.rest xs r a.1 in
      given (Good (Parts P)) _ g e3 ((h.0, a.0, b.0), b.1)

  new_good : (bs : List ℕ) (g : Got Expr) → new_after one bs ≡ some g → Bytes bs → Good (Parts P) g
  unfolding new_after
  new_good [] g e h = absurd (none-ne-some g e)
  new_good (c ∷ []) g e h = absurd (none-ne-some g e)
  new_good (c ∷ k ∷ bs) g e h =
      let e1 = taken_as (up_to field_count (k ∷ bs)) _ g (pair k bs) e (λ n q. (up_to_lem field_count k bs n q).0) in
      taken (exprs_by one k bs) g e1 λ xs r e2.
      given (Good (Parts P)) _ g e2 (exprs_good k bs xs r h.1.1)

  param_good : (bs : List ℕ) (g : Got Expr) → byte bs >>= (λ k. got (param k.item) k.rest) ≡ some g → Bytes bs → Good (Parts P) g
  param_good [] g e h = absurd (none-ne-some g e)
  param_good (k ∷ bs) g e h = given (Good (Parts P)) _ g e (tt, h.1)

  literal_good : (bs : List ℕ) (g : Got Expr) → two_bytes bs >>= (λ n. got (literal n.item) n.rest) ≡ some g → Bytes bs → Good (Parts P) g
  unfolding two_bytes
  literal_good [] g e h = absurd (none-ne-some g e)
  literal_good (a ∷ []) g e h = absurd (none-ne-some g e)
  literal_good (a ∷ b ∷ bs) g e h = given (Good (Parts P)) _ g e (let l = h.0 in let k = h.1.0 in omega arith, h.1.1)

  combine_good : (o : Operation) (bs : List ℕ) (g : Got Expr) → combine_after one o bs ≡ some g → Bytes bs → Good (Parts P) g
  unfolding combine_after
  combine_good o bs g e h =
      taken (one bs) g e λ x q e1.
      taken (one x.rest) g e1 λ y r e2.
      let a = ih bs x q h in
      let b = ih x.rest y r a.1 in
      given (Good (Parts P)) _ g e2 ((a.0, b.0), b.1)

  choose_good : (bs : List ℕ) (g : Got Expr) → choose_after one bs ≡ some g → Bytes bs → Good (Parts P) g
  unfolding choose_after
  choose_good bs g e h =
      taken (one bs) g e λ x q e1.
      taken (one x.rest) g e1 λ y r e2.
      taken (one y.rest) g e2 λ z p e3.
      let a = ih bs x q h in
      let b = ih x.rest y r a.1 in
      let c = ih y.rest z p b.1 in
      given (Good (Parts P)) _ g e3 ((a.0, b.0, c.0), c.1)

  after_good : (b : ℕ) (bs : List ℕ) (g : Got Expr) → expr_after one b bs ≡ some g → Bytes bs → Good (Parts P) g
  unfolding expr_after
  after_good b bs g e h =
      branch (eqb b 0x40) _ _ g e (λ _ z. given (Good (Parts P)) _ g z (tt, h)) λ e1.
      branch (eqb b 0x41) _ _ g e1 (λ _ z. given (Good (Parts P)) _ g z (tt, h)) λ e2.
      branch (eqb b 0x42) _ _ g e2 (λ _ z. param_good bs g z h) λ e3.
      branch (eqb b 0x43) _ _ g e3 (λ _ z. field_good_lem bs g z h) λ e4.
      branch (eqb b 0x44) _ _ g e4 (λ _ z. call_good bs g z h) λ e5.
      branch (eqb b 0x45) _ _ g e5 (λ _ z. new_good bs g z h) λ e6.
      branch (eqb b 0x46) _ _ g e6 (λ _ z. literal_good bs g z h) λ e7.
      branch (eqb b 0x47) _ _ g e7 (λ _ z. combine_good sum bs g z h) λ e8.
      branch (eqb b 0x48) _ _ g e8 (λ _ z. combine_good difference bs g z h) λ e9.
      branch (eqb b 0x49) _ _ g e9 (λ _ z. choose_good bs g z h) λ e10. absurd (none-ne-some g e10)

expr_good : (n : ℕ) (bs : List ℕ) (g : Got Expr) → expr n bs ≡ some g → Bytes bs → Good (Nested n) g
unfolding expr Nested
expr_good zero bs g e h = absurd (none-ne-some g e)
expr_good (suc n) [] g e h = absurd (none-ne-some g e)
expr_good (suc n) (b ∷ bs) g e h = after_good (λ xs. expr n xs) (Nested n) (expr_good n) b bs g e h.1

-- ---- frames within the limits
pub record Body (d : Method) : Type 0 where
  pub second : d.second.tag ≤ 3
  pub few : length d.params ≤ param_count
  pub left : Nested nesting_limit d.left
  pub right : Nested nesting_limit d.right

abbrev pub Within : TextFrame → Type 0
Within (class_frame c) = Unit {0}
Within (method_frame d) = Body d
Within (main_frame i e) = Nested nesting_limit e

whole_item : {A : Type 0} (g : Got A) (a : A) → whole g ≡ some a → g.item ≡ a
whole_item {A} g a e = go g.rest e
  where
    go : (r : List ℕ) → ◌≡◌ {A = Option A} (elim r [ [] ↦ some g.item | b ∷ bs ↦ none ]) (some a) → g.item ≡ a
    go [] z = sym (same g.item a z)
    go (b ∷ bs) z = absurd (none-ne-some a z)

class_within : (bs : List ℕ) (f : TextFrame) → class_after bs ≡ some f → Within f
unfolding class_after
class_within bs f e =
    taken (byte bs) f e λ c _ e1.
    taken (byte c.rest) f e1 λ p _ e2.
    taken (up_to field_count p.rest) f e2 λ n _ e3.
    taken (types n.item n.rest) f e3 λ ts _ e4.
    taken (whole ts) f e4 λ own _ e5. given Within _ f e5 tt

main_within : (i : Option Ty) (bs : List ℕ) (f : TextFrame) → main_after i bs ≡ some f → Bytes bs → Within f
unfolding main_after
main_within i bs f e h =
    taken (expr nesting_limit bs) f e λ x q e1.
    taken (whole x) f e1 λ main w e2.
    given Within _ f e2 (subst (Nested nesting_limit) (whole_item x main w) (expr_good nesting_limit bs x q h).0)

up_to_most : (n : ℕ) (bs : List ℕ) (g : Got ℕ) → up_to n bs ≡ some g → g.item ≤ n
up_to_most n [] g e = absurd (none-ne-some g e)
up_to_most n (k ∷ bs) g e = let a = up_to_lem n k bs g e in subst (λ (x : Got ℕ). x.item ≤ n) (sym a.0) a.1

type_tag : (bs : List ℕ) (g : Got Ty) → type bs ≡ some g → g.item.tag ≤ 3
unfolding type
type_tag bs g e =
    taken (byte bs) g e λ c _ e1.
    taken (up_to 3 c.rest) g e1 λ k q e2.
    given (λ (x : Got Ty). x.item.tag ≤ 3) (pair (ty c.item k.item) k.rest) g e2 (up_to_most 3 c.rest k q)

type-bytes : (bs : List ℕ) (a : Got Ty) → type bs ≡ some a → Bytes bs → Bytes a.rest
type-bytes bs a q h = (subst Bytes (sym (type_back bs a q)) h).1.1

input_within : (bs : List ℕ) (f : TextFrame) → input_after bs ≡ some f → Bytes bs → Within f
unfolding input_after
input_within bs f e h = taken (type bs) f e λ u q e1. main_within (some u.item) u.rest f e1 (type-bytes bs u q h)

up_to-bytes : (n : ℕ) (bs : List ℕ) (g : Got ℕ) → up_to n bs ≡ some g → Bytes bs → Bytes g.rest
up_to-bytes n [] g e h = absurd (none-ne-some g e)
up_to-bytes n (k ∷ bs) g e h = subst (λ (x : Got ℕ). Bytes x.rest) (sym (up_to_lem n k bs g e).0) h.1

method_within : (bs : List ℕ) (f : TextFrame) → method_after bs ≡ some f → Bytes bs → Within f
unfolding method_after
method_within [] f e h = absurd (none-ne-some f e)
method_within (o ∷ []) f e h = absurd (none-ne-some f e)
method_within (o ∷ m ∷ bs) f e h =
    taken (type bs) f e λ a q1 e1.
    taken (type a.rest) f e1 λ b q2 e2.
    taken (up_to param_count b.rest) f e2 λ n q3 e3.
    taken (types n.item n.rest) f e3 λ ts q4 e4.
    taken (expr nesting_limit ts.rest) f e4 λ l q5 e5.
    taken (expr nesting_limit l.rest) f e5 λ r q6 e6.
    taken (whole r) f e6 λ right w e7.
    let h2 = type-bytes a.rest b q2 (type-bytes bs a q1 h.1.1) in
    let h3 = up_to-bytes param_count b.rest n q3 h2 in
    let t4 = types_back n.item n.rest ts q4 in
    let h4 = bytes_after (types_bytes ts.item) ts.rest (subst Bytes (sym t4.0) h3) in
    let h5 = expr_good nesting_limit ts.rest l q5 h4 in
    let h6 = expr_good nesting_limit l.rest r q6 h5.1 in
    given Within _ f e7
    (record {
      second = type_tag a.rest b q2;
      few = subst (λ (k : ℕ). k ≤ param_count) (sym t4.1) (up_to_most param_count b.rest n q3);
      left = h5.0;
      right = subst (Nested nesting_limit) (whole_item r right w) h6.0;
    })

pub frame-within : (l : List ℕ) (f : TextFrame) → frame l ≡ some f → Bytes l → Within f
unfolding frame
frame-within [] f e h = absurd (none-ne-some f e)
frame-within (k ∷ bs) f e h =
    branch (eqb k 1) _ _ f e (λ _ z. class_within bs f z) λ e1.
    branch (eqb k 2) _ _ f e1 (λ _ z. method_within bs f z h.1) λ e2.
    branch (eqb k 3) _ _ f e2 (λ _ z. main_within none bs f z h.1) λ e3.
    branch (eqb k 4) _ _ f e3 (λ _ z. input_within bs f z h.1) λ e4. absurd (none-ne-some f e4)

-- a frame's line is short
abbrev pub Short : TextFrame → Type 0
Short f = Within f × (length (line_of f) ≤ line_size)

abbrev pub AllShort : List TextFrame → Type 0
AllShort [] = Unit {0}
AllShort (f ∷ fs) = Short f × AllShort fs

pub frames-within : (ls : List (List ℕ)) (fs : List TextFrame) → frames ls ≡ some fs → Lines ls → AllShort fs
unfolding frames
frames-within [] fs e h = given AllShort _ fs e tt
frames-within (l ∷ ls) fs e h =
    taken (frame l) fs e λ f q e1.
    taken (frames ls) fs e1 λ gs r e2.
    given AllShort _ fs e2
    ((frame-within l f q h.2, subst (λ (k : ℕ). k ≤ line_size) (sym (frame-length l f q)) h.1), frames-within ls gs r h.3)
