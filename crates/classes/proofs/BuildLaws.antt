-- Laws of placing all lines, in the form in which the goals of `build` cite them.
use Rattle.std.proofs.Common.{ℕ, suc, ◌+◌, ◌-◌, ◌<◌, ◌≤◌, arith, ◌≡◌, refl, sym, ap, ◌∙◌, Bool, true, false, not, List, leb, ltb, length, get_or, take, drop, set, Some, None, Ok, Err, leb-false, ltb-false}
use Rattle.std.specs.declared.option.Option.{Option}
use Rattle.cofj.specs.declared.Refusal.TheVariants.{BadTable}
use Rattle.classes.specs.Machine.{pick}
use Rattle.classes.specs.Placing.{Placed, placed, class_placed, method_placed, main_placed}
use Rattle.classes.specs.Building.{Walked, walked, line_end, by_line, line_at, onward, lines_placed, last_placed, rest_placed, table_placed}
use Rattle.classes.specs.Made.{Built}
use Rattle.classes.proofs.FromText.{built}
use Rattle.classes.proofs.LineLaws.{not_true, not_false}

-- a line that is whole
record Whole (S : List ℕ) (at e : ℕ) : Type 0 where
  is : e ≡ at + 1 + get_or S at 0
  within : e ≤ length S

whole : (S : List ℕ) (at e : ℕ) → line_end S at ≡ Some e → Whole S at e
whole S at e q = go (leb (length S) at) refl (ltb (length S - (at + 1)) (get_or S at 0)) refl q
  where
    go : (a : Bool) → leb (length S) at ≡ a → (b : Bool) → ltb (length S - (at + 1)) (get_or S at 0) ≡ b → pick a None (pick b None (Some (at + 1 + get_or S at 0))) ≡ Some e → Whole S at e
    go true ea b eb z = let y : ◌≡◌ {A = ℕ} 0 1 = cc in absurd (omega arith)
    go false ea true eb z = let y : ◌≡◌ {A = ℕ} 0 1 = cc in absurd (omega arith)
    go false ea false eb z =
        let y : at + 1 + get_or S at 0 ≡ e = cc in
        let l = leb-false (length S) at ea in
        let m = ltb-false (length S - (at + 1)) (get_or S at 0) eb in
        record { is = sym y; within = omega arith }

module _ (S : List ℕ) (at e : ℕ) (r : Option ℕ) (er : r ≡ line_end S at) (z : r ≡ Some e) where
  line : Whole S at e
  line = whole S at e (sym er ∙ z)

  pub line_ends : e ≤ length S
  line_ends = line.within

  -- the line that is lent
  part : take (e - (at + 1)) (drop (at + 1) S) ≡ line_at S at
  part = let l = line.is in let q : e - (at + 1) ≡ get_or S at 0 = omega arith in rw q

-- ---- lines one after another; X is what all of them give
module _ (put : List ℕ → ℕ → List ℕ → Placed) (S T : List ℕ) (X : Walked) (n at k j : ℕ) (inv : X ≡ lines_placed put S (n - k) at j T) where
  pub lines_done : n ≤ k → walked (Some at) T ≡ X
  unfolding lines_placed
  lines_done h = let e : n - k ≡ 0 = omega arith in sym (inv ∙ rw e)

  module _ (hk : k < n) (r : Option ℕ) (er : r ≡ line_end S at) where
    one_more : X ≡ by_line r (walked None T) (λ e. onward (put (line_at S at) j T) (λ B. lines_placed put S (n - (k + 1)) e (j + 1) B))
    unfolding lines_placed
    one_more = let e : n - k ≡ suc (n - (k + 1)) = omega arith in inv ∙ rw (e, er)

    pub lines_end : r ≡ None → walked None T ≡ X
    lines_end z = sym (one_more ∙ rw z)

    module _ (e : ℕ) (z : r ≡ Some e) (g : Bool) (U : List ℕ) (eg : placed g U ≡ put (take (e - (at + 1)) (drop (at + 1) S)) j T) where
      step : X ≡ onward (placed g U) (λ B. lines_placed put S (n - (k + 1)) e (j + 1) B)
      step =
          let q : put (line_at S at) j T ≡ placed g U = ap (λ (x : List ℕ). put x j T) (sym (part S at e r er z)) ∙ sym eg in
          one_more ∙ rw (z, q)

      pub lines_refused : not g ≡ true → walked None U ≡ X
      lines_refused y = sym (step ∙ rw (not_true g y))

      pub lines_next : not g ≡ false → X ≡ lines_placed put S (n - (k + 1)) e (j + 1) U
      lines_next y = step ∙ rw (not_false g y)

-- ---- the last line
module _ (S B : List ℕ) (at n : ℕ) (r : Option ℕ) (er : r ≡ line_end S at) where
  pub last_end : r ≡ None → placed false B ≡ last_placed S at n B
  unfolding last_placed
  last_end z = rw (← er, z)

  pub last_main : (e : ℕ) (g : Bool) (U : List ℕ) → r ≡ Some e → placed g U ≡ main_placed (take (e - (at + 1)) (drop (at + 1) S)) n B → placed g U ≡ last_placed S at n B
  unfolding last_placed
  last_main e g U z eg =
      let q : main_placed (line_at S at) n B ≡ placed g U = ap (λ (x : List ℕ). main_placed x n B) (sym (part S at e r er z)) ∙ sym eg in
      rw (← er, z, q)

-- ---- the whole table
module _ (S R C D : List ℕ) (n m a : ℕ) (d : Option ℕ) (ed : walked d D ≡ lines_placed (λ l i B'. method_placed l i (get_or R i 0) n B') S m a 0 C) where
  pub rest_method : d ≡ None → placed false D ≡ rest_placed S R n m a C
  unfolding rest_placed
  rest_method e = rw (← ed, e)

  module _ (b : ℕ) (eb : d ≡ Some b) (E : List ℕ) (g : Bool) (eg : placed g E ≡ last_placed S b n D) where
    pub rest_main : not g ≡ true → placed false E ≡ rest_placed S R n m a C
    unfolding rest_placed
    rest_main e = rw (← ed, eb, ← eg, not_true g e)

    pub rest_done : (U : List ℕ) → not g ≡ false → U ≡ set (set E 11 n) 12 m → placed true U ≡ rest_placed S R n m a C
    unfolding rest_placed
    rest_done U e eU = rw (← ed, eb, ← eg, not_false g e, eU)

module _ (S R B C : List ℕ) (n m : ℕ) (c : Option ℕ) (ec : walked c C ≡ lines_placed (λ l k B'. class_placed l k n B') S n 0 1 B) where
  pub table_class : c ≡ None → Built S R n m B (Err BadTable) C
  unfolding table_placed
  table_class e = built S R n m B (Err BadTable) C refl (rw (← ec, e))

  module _ (a : ℕ) (ea : c ≡ Some a) (g : Bool) (D : List ℕ) (eg : placed g D ≡ rest_placed S R n m a C) where
    pub table-rest : not g ≡ true → Built S R n m B (Err BadTable) D
    unfolding table_placed
    table-rest e = built S R n m B (Err BadTable) D refl (rw (← ec, ea, ← eg, not_true g e))

    pub table-good : not g ≡ false → Built S R n m B (Ok tt) D
    unfolding table_placed
    table-good e = built S R n m B (Ok tt) D refl (rw (← ec, ea, ← eg, not_false g e))
