-- What stands at the place of an expression in a table's bytes, and its parts.
-- Not here: what evaluation makes of it (EvalLaws).
use Rattle.std.proofs.Common.{ℕ, zero, suc, ◌+◌, ◌-◌, ◌≤◌, ◌<◌, arith, sub-one, ◌≡◌, refl, sym, ap, ◌∙◌, true, ◌&&◌, List, ◌++◌, leb, length, length-append, leb-true}
use Rattle.cofj.specs.Syntax.{Operation, Expr, field, call, new, combine, choose, Exprs, also, Table}
use Rattle.cofj.specs.Tables.{expr_known, exprs_known}
use Rattle.cofj.specs.Writing.{code_of, codes_of}
use Rattle.cofj.specs.Nesting.{Parts, Nested}
use Rattle.cofj.proofs.Partial.{and_true}
use Rattle.classes.specs.Layout.{layout, Stands}
use Rattle.classes.proofs.Zones.{stands_front, stands_after}
use Rattle.classes.specs.declared.shape.Shape.{Shape}
use Rattle.classes.specs.Shapes.{shape_at}
use Rattle.classes.proofs.ShapesOn.{shape_on, field_part, call_parts, new_parts, combine_parts, choose_parts, HasShape, shape_back}
use Rattle.evaluator.specs.Evaluation.{Reads, ReadsAll}

-- which expression it is
pub shape_read : (T : List ℕ) (left at : ℕ) (t : Table) (e : Expr) → Reads T left at t e → (s : Shape) → s ≡ shape_at T at → HasShape at e s
shape_read T left at t e r s q = shape_back e at s (sym (q ∙ ap (λ (B : List ℕ). shape_at B at) r.table.bytes ∙ shape_on t e at r.stands))

-- ---- nesting
pub nested_none : (left : ℕ) (e : Expr) → left ≡ 0 → Nested left e → ⊥
unfolding Nested
nested_none zero e q n = n
nested_none (suc l) e q n = absurd (omega arith)

nested_parts : (left : ℕ) (e : Expr) → (left ≡ 0 → ⊥) → Nested left e → Parts (Nested (left - 1)) e
unfolding Nested
nested_parts zero e nz n = absurd (nz refl)
nested_parts (suc l) e nz n = rw sub-one n

-- ---- the parts of an expression that was read
module _ (T : List ℕ) (left at : ℕ) (t : Table) (nz : left ≡ 0 → ⊥) where
  pub field_reads : (k : ℕ) (e : Expr) → Reads T left at t (field k e) → Reads T (left - 1) (at + 2) t e
  unfolding expr_known
  field_reads k e r = record {
    table = r.table;
    nested = nested_parts left (field k e) nz r.nested;
    known = r.known;
    stands = field_part t at k e r.stands;
  }

  module _ (m : ℕ) (e : Expr) (es : Exprs) (r : Reads T left at t (call m e es)) where
    call_stands : Stands (layout t) (at + 3) (code_of e ++ codes_of es)
    call_stands = call_parts t at m e es r.stands

    call_known : (expr_known (length t.classes) e ≡ true) × (exprs_known (length t.classes) es ≡ true)
    unfolding expr_known
    call_known = and_true (expr_known (length t.classes) e) (exprs_known (length t.classes) es) r.known

    pub name_small : m < 256
    name_small = (nested_parts left (call m e es) nz r.nested).0

    pub receiver_reads : Reads T (left - 1) (at + 3) t e
    receiver_reads = record {
      table = r.table;
      nested = (nested_parts left (call m e es) nz r.nested).1;
      known = call_known.0;
      stands = stands_front (layout t) (at + 3) (code_of e) (codes_of es) call_stands;
    }

    pub args_read : ReadsAll T (left - 1) (at + 3 + length (code_of e)) t es
    args_read = record {
      table = r.table;
      nested = (nested_parts left (call m e es) nz r.nested).2;
      known = call_known.1;
      stands = stands_after (layout t) (at + 3) (code_of e) (codes_of es) call_stands;
    }

    pub call_end : at + 3 + length (code_of e) + length (codes_of es) ≡ at + length (code_of (call m e es))
    unfolding code_of
    call_end = omega (arith, length-append (code_of e) (codes_of es))

  module _ (c : ℕ) (es : Exprs) (r : Reads T left at t (new c es)) where
    new_known_lem : (leb c (length t.classes) ≡ true) × (exprs_known (length t.classes) es ≡ true)
    unfolding expr_known
    new_known_lem = and_true (leb c (length t.classes)) (exprs_known (length t.classes) es) r.known

    pub class_known : c ≤ length t.classes
    class_known = leb-true c (length t.classes) new_known_lem.0

    pub values_read : ReadsAll T (left - 1) (at + 3) t es
    values_read = record {
      table = r.table;
      nested = nested_parts left (new c es) nz r.nested;
      known = new_known_lem.1;
      stands = new_parts t at c es r.stands;
    }

  module _ (o : Operation) (a b : Expr) (r : Reads T left at t (combine o a b)) where
    operands_stand : Stands (layout t) (at + 1) (code_of a ++ code_of b)
    operands_stand = combine_parts t at o a b r.stands

    operands_known : (expr_known (length t.classes) a ≡ true) × (expr_known (length t.classes) b ≡ true)
    unfolding expr_known
    operands_known = and_true (expr_known (length t.classes) a) (expr_known (length t.classes) b) r.known

    pub operand_reads : Reads T (left - 1) (at + 1) t a
    operand_reads = record {
      table = r.table;
      nested = (nested_parts left (combine o a b) nz r.nested).0;
      known = operands_known.0;
      stands = stands_front (layout t) (at + 1) (code_of a) (code_of b) operands_stand;
    }

    pub other_reads : Reads T (left - 1) (at + 1 + length (code_of a)) t b
    other_reads = record {
      table = r.table;
      nested = (nested_parts left (combine o a b) nz r.nested).1;
      known = operands_known.1;
      stands = stands_after (layout t) (at + 1) (code_of a) (code_of b) operands_stand;
    }

    pub combine_end : at + 1 + length (code_of a) + length (code_of b) ≡ at + length (code_of (combine o a b))
    unfolding code_of
    combine_end = omega (arith, length-append (code_of a) (code_of b))

  module _ (c a b : Expr) (r : Reads T left at t (choose c a b)) where
    choice_stands : Stands (layout t) (at + 1) (code_of c ++ (code_of a ++ code_of b))
    choice_stands = choose_parts t at c a b r.stands

    branches_stand : Stands (layout t) (at + 1 + length (code_of c)) (code_of a ++ code_of b)
    branches_stand = stands_after (layout t) (at + 1) (code_of c) (code_of a ++ code_of b) choice_stands

    zero_known : (expr_known (length t.classes) c && expr_known (length t.classes) a ≡ true) × (expr_known (length t.classes) b ≡ true)
    unfolding expr_known
    zero_known = and_true (expr_known (length t.classes) c && expr_known (length t.classes) a) (expr_known (length t.classes) b) r.known

    choice_known : (expr_known (length t.classes) c ≡ true) × (expr_known (length t.classes) a ≡ true)
    choice_known = and_true (expr_known (length t.classes) c) (expr_known (length t.classes) a) zero_known.0

    pub number_reads : Reads T (left - 1) (at + 1) t c
    number_reads = record {
      table = r.table;
      nested = (nested_parts left (choose c a b) nz r.nested).0;
      known = choice_known.0;
      stands = stands_front (layout t) (at + 1) (code_of c) (code_of a ++ code_of b) choice_stands;
    }

    pub branch_reads : Reads T (left - 1) (at + 1 + length (code_of c)) t a
    branch_reads = record {
      table = r.table;
      nested = (nested_parts left (choose c a b) nz r.nested).1;
      known = choice_known.1;
      stands = stands_front (layout t) (at + 1 + length (code_of c)) (code_of a) (code_of b) branches_stand;
    }

    pub zero_reads : Reads T (left - 1) (at + 1 + length (code_of c) + length (code_of a)) t b
    zero_reads = record {
      table = r.table;
      nested = (nested_parts left (choose c a b) nz r.nested).2;
      known = zero_known.1;
      stands = stands_after (layout t) (at + 1 + length (code_of c)) (code_of a) (code_of b) branches_stand;
    }

    pub choose_end : at + 1 + length (code_of c) + length (code_of a) + length (code_of b) ≡ at + length (code_of (choose c a b))
    unfolding code_of
    choose_end = omega (arith, length-append (code_of c) (code_of a ++ code_of b), length-append (code_of a) (code_of b))

-- ---- the first of a list, and the others
module _ (T : List ℕ) (left at : ℕ) (t : Table) (e : Expr) (es : Exprs) (r : ReadsAll T left at t (also e es)) where
  also_known : (expr_known (length t.classes) e ≡ true) × (exprs_known (length t.classes) es ≡ true)
  unfolding exprs_known
  also_known = and_true (expr_known (length t.classes) e) (exprs_known (length t.classes) es) r.known

  pub first_reads : Reads T left at t e
  unfolding codes_of
  first_reads = record {
    table = r.table;
    nested = r.nested.0;
    known = also_known.0;
    stands = stands_front (layout t) at (code_of e) (codes_of es) r.stands;
  }

  pub others_read : ReadsAll T left (at + length (code_of e)) t es
  unfolding codes_of
  others_read = record {
    table = r.table;
    nested = r.nested.1;
    known = also_known.1;
    stands = stands_after (layout t) at (code_of e) (codes_of es) r.stands;
  }

  pub also_end : at + length (code_of e) + length (codes_of es) ≡ at + length (codes_of (also e es))
  unfolding codes_of
  also_end = omega (arith, length-append (code_of e) (codes_of es))
