-- Laws of types and expressions, in the form in which the goals of `exprs` cite them: one for each return.
-- Not here: where one expression ends (SignEnds).
use Rattle.std.proofs.Common.{ℕ, zero, suc, ◌+◌, ◌-◌, ◌<◌, ◌≤◌, arith, sub-one, ◌≡◌, refl, sym, ap, ◌∙◌, List, ◌∷◌, length, drop, get_or, Some, None, le-leb, eq-eqb, ne_eqb}
use Rattle.std.proofs.Math.Nat.{sub-zero}
use Rattle.std.proofs.Math.Option.{Option, none, some}
use borrow.Author.Tests.{lt-leb}
use Rattle.cofj.specs.Partial.{◌>>=◌}
use Rattle.cofj.specs.Syntax.{Expr, also, ty}
use Rattle.cofj.specs.Frames.{Got, got, type, types, exprs_by, expr}
use Rattle.cofj.specs.Writing.{types_bytes}
use Rattle.cofj.proofs.ExprRound.{expr_spelt, types_back}
use Rattle.lineform.specs.declared.exprs.Sign.{Sign}
use Rattle.std.specs.declared.option.Option.{Option as RustOption}
use Rattle.lineform.specs.Answers.{end_of, sign_at, end_by}
use Rattle.lineform.proofs.Ends.{more, no_more, tail_at, Leaves, same_end, end_here}
use Rattle.lineform.proofs.SignEnds.{ends, sign_is}

pub expr_leaves : (s : List ℕ) (left at : ℕ) → Leaves s (expr left (drop at s))
expr_leaves s left at = record { tail = λ g e. let p = expr_spelt left (drop at s) g e in tail_at s at p.front g.rest p.split }

pub types_leaves : (s : List ℕ) (n at : ℕ) → Leaves s (types n (drop at s))
types_leaves s n at = record { tail = λ g e. tail_at s at (types_bytes g.item) g.rest (types_back n (drop at s) g e).0 }

-- ---- an expression with its sign: one law for each return
module _ (s : List ℕ) (left next parts : ℕ) where
  pub by_none : parts ≡ 0 → Some next ≡ end_by s left next parts
  unfolding end_by
  by_none z = rw (eq-eqb parts 0 z)

  pub by_parts : (r : RustOption ℕ) → ((parts ≡ 0) → ⊥) → r ≡ end_of s (exprs_by (expr (left - 1)) parts (drop next s)) → r ≡ end_by s left next parts
  unfolding end_by
  by_parts r n e = rw (ne_eqb parts 0 n) e

module _ (s : List ℕ) (left at : ℕ) (nz : 1 ≤ left) (o : RustOption Sign) (eo : o ≡ sign_at s at) where
  by_sign : ends s left o ≡ end_of s (expr left (drop at s))
  by_sign = ap (ends s left) eo ∙ sign_is s left at nz

  pub by_refused : o ≡ None → None ≡ end_of s (expr left (drop at s))
  by_refused z = rw z at by_sign

  pub by_next : (g : Sign) (r : RustOption ℕ) → o ≡ Some g → r ≡ end_by s left g.next g.parts → r ≡ end_of s (expr left (drop at s))
  by_next g r z er = er ∙ (rw z at by_sign)

-- ---- lists of expressions
-- the place after n expressions from a on, as the walk goes
abbrev pub onward : RustOption ℕ → (ℕ → RustOption ℕ) → RustOption ℕ
onward None f = None
onward (Some a) f = f a

unfoldable pub walk : List ℕ → ℕ → ℕ → ℕ → RustOption ℕ
walk s left zero a = Some a
walk s left (suc n) a = onward (end_of s (expr left (drop a s))) (λ b. walk s left n b)

-- the first of them may stand past the end, the others begin within
walk_step : (s : List ℕ) (left n at : ℕ) → ((a : ℕ) → a ≤ length s → walk s left n a ≡ end_of s (exprs_by (expr left) n (drop a s))) → walk s left (suc n) at ≡ end_of s (exprs_by (expr left) (suc n) (drop at s))
unfolding walk exprs_by
walk_step s left n at = go (expr left (drop at s)) (expr_leaves s left at)
  where
    go : (p : Option (Got Expr)) → Leaves s p → ((a : ℕ) → a ≤ length s → walk s left n a ≡ end_of s (exprs_by (expr left) n (drop a s)))
        → onward (end_of s p) (λ b. walk s left n b) ≡ end_of s (p >>= λ e. exprs_by (expr left) n e.rest >>= λ es. got (also e.item es.item) es.rest)
    go none l ih = refl
    go (some g) l ih =
        ih (length s - length g.rest) (omega arith)
        ∙ ap (λ (x : List ℕ). end_of s (exprs_by (expr left) n x)) (sym (l.tail g refl))
        ∙ sym (same_end s (exprs_by (expr left) n g.rest) (also g.item))

walk_is : (s : List ℕ) (left n at : ℕ) → at ≤ length s → walk s left n at ≡ end_of s (exprs_by (expr left) n (drop at s))
unfolding walk exprs_by
walk_is s left zero at h = ap {B = RustOption ℕ} Some (end_here s at h)
walk_is s left (suc n) at h = walk_step s left n at (walk_is s left n)

walk_some : (s : List ℕ) (left n at : ℕ) → walk s left (suc n) at ≡ end_of s (exprs_by (expr left) (suc n) (drop at s))
walk_some s left n at = walk_step s left n at (walk_is s left n)

module _ (s : List ℕ) (left n at : ℕ) (some-parts : 1 ≤ n) where
  pub list_deep : left ≡ 0 → None ≡ end_of s (exprs_by (expr left) n (drop at s))
  unfolding exprs_by expr
  list_deep z = go n some-parts
    where
      go : (n : ℕ) → 1 ≤ n → None ≡ end_of s (exprs_by (expr left) n (drop at s))
      go zero p = absurd (omega arith)
      go (suc n) p = rw z

  pub list_starts : walk s left (n - 0) at ≡ end_of s (exprs_by (expr left) n (drop at s))
  list_starts = rw sub-zero (go n some-parts)
    where
      go : (n : ℕ) → 1 ≤ n → walk s left n at ≡ end_of s (exprs_by (expr left) n (drop at s))
      go zero p = absurd (omega arith)
      go (suc n) p = walk_some s left n at

-- k of n are passed; e is what all of them give
module _ (s : List ℕ) (left n k a : ℕ) (e : RustOption ℕ) (w : walk s left (n - k) a ≡ e) where
  pub list_ends : n ≤ k → Some a ≡ e
  unfolding walk
  list_ends p = let z : n - k ≡ 0 = omega arith in rw z at w

  module _ (p : k < n) (nz : 1 ≤ left) (o : RustOption Sign) (eo : o ≡ sign_at s a) where
    one_more : onward (end_of s (expr left (drop a s))) (λ b. walk s left (n - (k + 1)) b) ≡ e
    unfolding walk
    one_more = let z : n - k ≡ suc (n - (k + 1)) = omega arith in rw z at w

    pub list_stops : o ≡ None → None ≡ e
    list_stops z = rw (← by_refused s left a nz o eo z) at one_more

    module _ (g : Sign) (z : o ≡ Some g) where
      pub list_leaf : g.parts ≡ 0 → walk s left (n - (k + 1)) g.next ≡ e
      list_leaf q = rw (← by_next s left a nz o eo g (Some g.next) z (by_none s left g.next g.parts q)) at one_more

      module _ (r : RustOption ℕ) (er : r ≡ end_by s left g.next g.parts) where
        pub list_bad : r ≡ None → None ≡ e
        list_bad y = rw (← by_next s left a nz o eo g r z er, y) at one_more

        pub list_next : (b : ℕ) → r ≡ Some b → walk s left (n - (k + 1)) b ≡ e
        list_next b y = rw (← by_next s left a nz o eo g r z er, y) at one_more

-- ---- lists of types
types_step : (n : ℕ) (bs : List ℕ) → ((n ≡ 0) → ⊥) → types n bs ≡ type bs >>= λ t. types (n - 1) t.rest >>= λ ts. got (t.item ∷ ts.item) ts.rest
unfolding types
types_step zero bs nz = absurd (nz refl)
types_step (suc n) bs nz = simp sub-one

module _ (s : List ℕ) (n at : ℕ) where
  pub types_zero : at ≤ length s → n ≡ 0 → Some at ≡ end_of s (types n (drop at s))
  unfolding types
  types_zero h z = rw z (ap {B = RustOption ℕ} Some (end_here s at h))

  module _ (nz : (n ≡ 0) → ⊥) where
    pub types_end_lem : length s ≤ at → None ≡ end_of s (types n (drop at s))
    unfolding type
    types_end_lem h = rw (types_step n (drop at s) nz, no_more s at h)

    module _ (h : at < length s) where
      pub types_end2 : length s ≤ at + 1 → None ≡ end_of s (types n (drop at s))
      unfolding type
      types_end2 k = rw (types_step n (drop at s) nz, more s at h, no_more s (at + 1) k)

      module _ (h1 : at + 1 < length s) where
        pub types-over : 3 < get_or s (at + 1) 0 → None ≡ end_of s (types n (drop at s))
        unfolding type
        types-over k = rw (types_step n (drop at s) nz, more s at h, more s (at + 1) h1, lt-leb _ _ k)

        pub types_next : (o : RustOption ℕ) → get_or s (at + 1) 0 ≤ 3 → o ≡ end_of s (types (n - 1) (drop (at + 1 + 1) s)) → o ≡ end_of s (types n (drop at s))
        unfolding type
        types_next o k e =
            rw (types_step n (drop at s) nz, more s at h, more s (at + 1) h1, le-leb _ _ k, e)
            (sym (same_end s (types (n - 1) (drop (at + 1 + 1) s)) (λ ts. ty (get_or s at 0) (get_or s (at + 1) 0) ∷ ts)))
