-- Frames both ways: what is read is written by the same line, and what is written is read, if at all, as what was written.
-- Not here: types and expressions (ExprRound), the text (TextRound), tables (RoundTrip).
use Prim.Native.Nat.{ℕ}
use mathlib.Core.Path.{◌≡◌, sym, ap, ◌∙◌, subst}
use mathlib.Core.Bool.{true}
use mathlib.Core.List.{List, [], ◌∷◌, ◌++◌, append-nil}
use mathlib.Core.Option.{Option, none, some, none-ne-some}
use lib.Dec.{eqb}
use lib.ListN.{length}
use borrow.Author.Tests.{eqb-true}
use Rattle.cofj.specs.Limits.{field_count, param_count, nesting_limit}
use Rattle.cofj.specs.Syntax.{Expr, Ty}
use Rattle.cofj.specs.Frames.{Got, up_to, type, types, expr, TextFrame, class_frame, method_frame, main_frame, whole, class_after, method_after, main_after, input_after, frame}
use Rattle.cofj.specs.Writing.{code_of, types_bytes, class_line, method_line, main_line}
use Rattle.cofj.proofs.Partial.{taken}
use Rattle.cofj.proofs.TextRound.{Bytes}
use Rattle.cofj.proofs.Steps.{pair, given, same, taken_as, branch, upto_forth, upto_back, whole_back, Spelt, spelt_cons, spelt_join, spelt_exact, spelt_as}
use Rattle.cofj.proofs.ExprRound.{type_back, types_back, type_forth, types_forth, expr_spelt, expr_forth}

-- ---- frames: the line of a frame
abbrev pub line_of : TextFrame → List ℕ
line_of (class_frame c) = class_line c.number c.body
line_of (method_frame d) = method_line d
line_of (main_frame i e) = main_line i e

-- the bytes after a frame's first byte k
abbrev After : ℕ → List ℕ → TextFrame → Type 0
After k bs f = Spelt (k ∷ bs) (line_of f) []

class_back : (bs : List ℕ) (f : TextFrame) → class_after bs ≡ some f → After 1 bs f
unfolding class_after
class_back [] f e = absurd (none-ne-some f e)
class_back (c ∷ []) f e = absurd (none-ne-some f e)
class_back (c ∷ p ∷ bs) f e =
    taken (up_to field_count bs) f e λ n q e1.
    taken (types n.item n.rest) f e1 λ ts r e2.
    taken (whole ts) f e2 λ own w e3.
    let a = types_back n.item n.rest ts r in
    let b = subst (λ (x : Got (List Ty)). (types_bytes x.item ++ x.rest ≡ n.rest) × (length x.item ≡ n.item)) (whole_back ts own w) a in
    given (After 1 (c ∷ p ∷ bs)) _ f e3
    (spelt_cons 1 (spelt_cons c (spelt_cons p
    (subst (λ (k : ℕ). Spelt bs (k ∷ types_bytes own) []) (sym b.1) (spelt_join (spelt_exact (n.item ∷ []) (upto_back field_count bs n q)) (spelt_exact (types_bytes own) b.0))))))

-- main's expression, whatever stands in front of it
main_back : (i : Option Ty) (bs : List ℕ) (f : TextFrame) → main_after i bs ≡ some f → (main : Expr) × (f ≡ main_frame i main) × Spelt bs (code_of main) []
unfolding main_after
main_back i bs f e =
    taken (expr nesting_limit bs) f e λ x q e1.
    taken (whole x) f e1 λ main w e2.
    (main, same (main_frame i main) f e2, subst (λ (y : Got Expr). Spelt bs (code_of y.item) y.rest) (whole_back x main w) (expr_spelt nesting_limit bs x q))

plain_back : (bs : List ℕ) (f : TextFrame) → main_after none bs ≡ some f → After 3 bs f
plain_back bs f e = let m = main_back none bs f e in subst (After 3 bs) (sym m.1) (spelt_cons 3 m.2)

-- a type in front
type_spelt : (bs : List ℕ) (g : Got Ty) → type bs ≡ some g → Spelt bs (g.item.cls ∷ g.item.tag ∷ []) g.rest
type_spelt bs g e = spelt_exact (g.item.cls ∷ g.item.tag ∷ []) (type_back bs g e)

input_back : (bs : List ℕ) (f : TextFrame) → input_after bs ≡ some f → After 4 bs f
unfolding input_after
input_back bs f e =
    taken (type bs) f e λ u q e1.
    let m = main_back (some u.item) u.rest f e1 in
    subst (After 4 bs) (sym m.1) (spelt_cons 4 (spelt_join (type_spelt bs u q) m.2))

method_back : (bs : List ℕ) (f : TextFrame) → method_after bs ≡ some f → After 2 bs f
unfolding method_after method_line
method_back [] f e = absurd (none-ne-some f e)
method_back (o ∷ []) f e = absurd (none-ne-some f e)
method_back (o ∷ m ∷ bs) f e =
    taken (type bs) f e λ a q1 e1.
    taken (type a.rest) f e1 λ b q2 e2.
    taken (up_to param_count b.rest) f e2 λ n q3 e3.
    taken (types n.item n.rest) f e3 λ ts q4 e4.
    taken (expr nesting_limit ts.rest) f e4 λ l q5 e5.
    taken (expr nesting_limit l.rest) f e5 λ r q6 e6.
    taken (whole r) f e6 λ right w e7.
    let right-spelt = subst (λ (y : Got Expr). Spelt l.rest (code_of y.item) y.rest) (whole_back r right w) (expr_spelt nesting_limit l.rest r q6) in
    let ts-back = types_back n.item n.rest ts q4 in
    let params-spelt = spelt_join (spelt_exact (types_bytes ts.item) ts-back.0) (spelt_join (expr_spelt nesting_limit ts.rest l q5) right-spelt) in
    let counted =
    subst (λ (k : ℕ). Spelt b.rest (k ∷ (types_bytes ts.item ++ (code_of l.item ++ code_of right))) []) (sym ts-back.1)
    (spelt_join (spelt_exact (n.item ∷ []) (upto_back param_count b.rest n q3)) params-spelt) in
    given (After 2 (o ∷ m ∷ bs)) _ f e7 (spelt_cons 2 (spelt_cons o (spelt_cons m (spelt_join (type_spelt bs a q1) (spelt_join (type_spelt a.rest b q2) counted)))))

pub frame_spelt : (l : List ℕ) (f : TextFrame) → frame l ≡ some f → Spelt l (line_of f) []
unfolding frame
frame_spelt [] f e = absurd (none-ne-some f e)
frame_spelt (k ∷ bs) f e =
    branch (eqb k 1) _ _ f e (λ q z. first 1 q (class_back bs f z)) λ e1.
    branch (eqb k 2) _ _ f e1 (λ q z. first 2 q (method_back bs f z)) λ e2.
    branch (eqb k 3) _ _ f e2 (λ q z. first 3 q (plain_back bs f z)) λ e3.
    branch (eqb k 4) _ _ f e3 (λ q z. first 4 q (input_back bs f z)) λ e4. absurd (none-ne-some f e4)
  where
    first : (n : ℕ) → eqb k n ≡ true → After n bs f → After k bs f
    first n q p = subst (λ (x : ℕ). After x bs f) (sym (eqb-true k n q)) p

-- the line of bytes is the frame's
pub frame_back : (l : List ℕ) (f : TextFrame) → frame l ≡ some f → Bytes l → line_of f ≡ l
frame_back l f e h = sym (append-nil (line_of f)) ∙ spelt_as (frame_spelt l f e) h

-- and any line has as many
pub frame-length : (l : List ℕ) (f : TextFrame) → frame l ≡ some f → length (line_of f) ≡ length l
frame-length l f e = let p = frame_spelt l f e in sym p.size ∙ ap length (sym (append-nil p.front) ∙ p.split)

-- a whole line: nothing follows
expr-whole : (e : Expr) (n : ℕ) (g : Got Expr) → expr n (code_of e) ≡ some g → g ≡ pair e []
expr-whole e n g z = expr_forth e n [] g (subst (λ (l : List ℕ). expr n l ≡ some g) (sym (append-nil (code_of e))) z)

types-whole : (us : List Ty) (g : Got (List Ty)) → types (length us) (types_bytes us) ≡ some g → g ≡ pair us []
types-whole us g z = types_forth us [] g (subst (λ (l : List ℕ). types (length us) l ≡ some g) (sym (append-nil (types_bytes us))) z)

pub frame_forth : (f g : TextFrame) → frame (line_of f) ≡ some g → g ≡ f
unfolding frame method_line
frame_forth (class_frame c) g e =
    let us = c.body.own in
    let e1 = taken_as (up_to field_count (length us ∷ types_bytes us)) _ g (pair (length us) (types_bytes us)) e (upto_forth field_count (length us) (types_bytes us)) in
    let e2 = taken_as (types (length us) (types_bytes us)) _ g (pair us []) e1 (types-whole us) in
    same (class_frame c) g e2
frame_forth (method_frame d) g e =
    let body = code_of d.left ++ code_of d.right in
    let bs = types_bytes d.params ++ body in
    let after = d.second.cls ∷ d.second.tag ∷ length d.params ∷ bs in
    let e1 = taken_as (type (d.first.cls ∷ d.first.tag ∷ after)) _ g (pair d.first after) e (type_forth d.first after) in
    let e2 = taken_as (type after) _ g (pair d.second (length d.params ∷ bs)) e1 (type_forth d.second (length d.params ∷ bs)) in
    let e3 = taken_as (up_to param_count (length d.params ∷ bs)) _ g (pair (length d.params) bs) e2 (upto_forth param_count (length d.params) bs) in
    let e4 = taken_as (types (length d.params) bs) _ g (pair d.params body) e3 (types_forth d.params body) in
    let e5 = taken_as (expr nesting_limit body) _ g (pair d.left (code_of d.right)) e4 (expr_forth d.left nesting_limit (code_of d.right)) in
    let e6 = taken_as (expr nesting_limit (code_of d.right)) _ g (pair d.right []) e5 (expr-whole d.right nesting_limit) in
    same (method_frame d) g e6
frame_forth (main_frame none x) g e =
    let e1 = taken_as (expr nesting_limit (code_of x)) _ g (pair x []) e (expr-whole x nesting_limit) in
    same (main_frame none x) g e1
frame_forth (main_frame (some u) x) g e =
    let e1 = taken_as (type (u.cls ∷ u.tag ∷ code_of x)) _ g (pair u (code_of x)) e (type_forth u (code_of x)) in
    let e2 = taken_as (expr nesting_limit (code_of x)) _ g (pair x []) e1 (expr-whole x nesting_limit) in
    same (main_frame (some u) x) g e2
