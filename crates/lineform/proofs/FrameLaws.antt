-- Laws of one line's frame, in the form in which the goals of `frames` cite them: one for each return.
use Rattle.std.proofs.Common.{ℕ, ◌+◌, ◌*◌, ◌<◌, ◌≤◌, arith, ◌≡◌, refl, sym, ap, ◌∙◌, Bool, true, false, List, [], ◌∷◌, leb, length, drop, get_or, Some, None, le-leb, ne_eqb}
use Rattle.std.proofs.Math.Option.{Option, none, some}
use borrow.Author.Tests.{lt-leb}
use Rattle.cofj.specs.Partial.{◌>>=◌}
use Rattle.cofj.specs.Syntax.{Expr, Ty, ty}
use Rattle.cofj.specs.Frames.{Got, type, types, expr, main_frame, whole, class_after, method_after, main_after, input_after, frame}
use Rattle.cofj.specs.Writing.{code_of, types_bytes}
use Rattle.cofj.proofs.ExprRound.{expr_spelt, types_back}
use Rattle.std.specs.declared.option.Option.{Option as RustOption}
use Rattle.lineform.specs.declared.frames.Kind.{Kind}
use Rattle.lineform.specs.declared.frames.Kind.TheVariants.{Class, Method as MethodKind, Main}
use Rattle.lineform.specs.Answers.{end_of, framed_of}
use Rattle.lineform.specs.Places.{byte_of}
use Rattle.lineform.proofs.Ends.{more, no_more, read_to, read_none, between}
use Rattle.lineform.proofs.ExprLaws.{expr_leaves, types_leaves}

-- ---- the first byte
module _ (f : RustOption ℕ) where
  pub frame_empty : (s : List ℕ) → f ≡ byte_of s → f ≡ None → None ≡ framed_of (frame s)
  unfolding frame
  frame_empty [] ef n = refl
  frame_empty (b ∷ r) ef n = let z : ◌≡◌ {A = ℕ} 0 1 = cc in absurd (omega arith)

  module _ (k : ℕ) (n : f ≡ Some k) where
    line_is : (s : List ℕ) → f ≡ byte_of s → s ≡ k ∷ drop 1 s
    line_is [] ef = let z : ◌≡◌ {A = ℕ} 0 1 = cc in absurd (omega arith)
    line_is (b ∷ r) ef = let e : b ≡ k = cc in ap (λ (x : ℕ). x ∷ r) e

    module _ (s : List ℕ) (ef : f ≡ byte_of s) where
      module _ (o : RustOption Kind) where
        pub frame_class : k ≡ 1 → o ≡ framed_of (class_after (drop 1 s)) → o ≡ framed_of (frame s)
        unfolding frame
        frame_class b e = e ∙ sym (ap (λ (x : List ℕ). framed_of (frame x)) (line_is s ef) ∙ rw b)

        pub frame_method : k ≡ 2 → o ≡ framed_of (method_after (drop 1 s)) → o ≡ framed_of (frame s)
        unfolding frame
        frame_method b e = e ∙ sym (ap (λ (x : List ℕ). framed_of (frame x)) (line_is s ef) ∙ rw b)

        pub frame_main : k ≡ 3 → o ≡ framed_of (main_after none (drop 1 s)) → o ≡ framed_of (frame s)
        unfolding frame
        frame_main b e = e ∙ sym (ap (λ (x : List ℕ). framed_of (frame x)) (line_is s ef) ∙ rw b)

        pub frame_input : k ≡ 4 → o ≡ framed_of (input_after (drop 1 s)) → o ≡ framed_of (frame s)
        unfolding frame
        frame_input b e = e ∙ sym (ap (λ (x : List ℕ). framed_of (frame x)) (line_is s ef) ∙ rw b)

      pub frame_unknown : ((k ≡ 1) → ⊥) → ((k ≡ 2) → ⊥) → ((k ≡ 3) → ⊥) → ((k ≡ 4) → ⊥) → None ≡ framed_of (frame s)
      unfolding frame
      frame_unknown n1 n2 n3 n4 =
          let e : frame (k ∷ drop 1 s) ≡ none = rw (ne_eqb k 1 n1, ne_eqb k 2 n2, ne_eqb k 3 n3, ne_eqb k 4 n4, frame, ◌>>=◌) in
          sym (ap (λ (x : List ℕ). framed_of (frame x)) (line_is s ef) ∙ rw e)

-- ---- a class
pub class_short : (s : List ℕ) → length s ≤ 3 → None ≡ framed_of (class_after (drop 1 s))
unfolding class_after
class_short [] h = refl
class_short (k ∷ []) h = refl
class_short (k ∷ c ∷ []) h = refl
class_short (k ∷ c ∷ p ∷ []) h = refl
class_short (k ∷ c ∷ p ∷ n ∷ r) h = absurd (omega arith)

-- the bytes after the first
four : (s : List ℕ) → 3 < length s → drop 1 s ≡ get_or s 1 0 ∷ get_or s 2 0 ∷ get_or s 3 0 ∷ drop 4 s
four s h = more s 1 (omega arith) ∙ ap (λ (l : List ℕ). get_or s 1 0 ∷ l) (more s 2 (omega arith) ∙ ap (λ (l : List ℕ). get_or s 2 0 ∷ l) (more s 3 h))

module _ (s : List ℕ) (h : 3 < length s) where
  pub class_over : 4 < get_or s 3 0 → None ≡ framed_of (class_after (drop 1 s))
  unfolding class_after
  class_over k = rw (four s h, lt-leb _ _ k)

  module _ (k : get_or s 3 0 ≤ 4) (m : ℕ) (em : m ≡ get_or s 3 0) (o : RustOption ℕ) (eo : o ≡ end_of s (types m (drop 4 s))) where
    pub class_refused : o ≡ None → None ≡ framed_of (class_after (drop 1 s))
    unfolding class_after
    class_refused n = rw (four s h, le-leb _ _ k, ← em, read_none s (types m (drop 4 s)) o eo n)

    pub class_long : (e : ℕ) → o ≡ Some e → e < length s → None ≡ framed_of (class_after (drop 1 s))
    unfolding class_after
    class_long e n l =
        let r = read_to s (types m (drop 4 s)) o e (types_leaves s m 4) eo n in
        rw (four s h, le-leb _ _ k, ← em, r.is, more s e l)

    pub class_good_lem : (e : ℕ) → o ≡ Some e → length s ≤ e → Some Class ≡ framed_of (class_after (drop 1 s))
    unfolding class_after
    class_good_lem e n l =
        let r = read_to s (types m (drop 4 s)) o e (types_leaves s m 4) eo n in
        rw (four s h, le-leb _ _ k, ← em, r.is, no_more s e l)

-- ---- main
module _ (s : List ℕ) (at : ℕ) (o : RustOption ℕ) (eo : o ≡ end_of s (expr 6 (drop at s))) where
  pub main_refused : o ≡ None → None ≡ framed_of (main_after none (drop at s))
  unfolding main_after
  main_refused n = rw (read_none s (expr 6 (drop at s)) o eo n)

  pub main_long : (e : ℕ) → o ≡ Some e → e < length s → None ≡ framed_of (main_after none (drop at s))
  unfolding main_after
  main_long e n l =
      let r = read_to s (expr 6 (drop at s)) o e (expr_leaves s 6 at) eo n in
      rw (r.is, more s e l)

  pub main_good : (e : ℕ) → o ≡ Some e → length s ≤ e → Some Main ≡ framed_of (main_after none (drop at s))
  unfolding main_after
  main_good e n l =
      let r = read_to s (expr 6 (drop at s)) o e (expr_leaves s 6 at) eo n in
      rw (r.is, no_more s e l)

-- ---- main after the type of its parameter
pub input_short : (s : List ℕ) → length s ≤ 2 → None ≡ framed_of (input_after (drop 1 s))
unfolding input_after
input_short [] h = refl
input_short (k ∷ []) h = refl
input_short (k ∷ c ∷ []) h = refl
input_short (k ∷ c ∷ g ∷ r) h = absurd (omega arith)

-- a frame's kind does not tell the type
same_kind : (u : Ty) (bs : List ℕ) → framed_of (main_after none bs) ≡ framed_of (main_after (some u) bs)
unfolding main_after
same_kind u bs = go (expr 6 bs)
  where
    ends : (e : Expr) (r : List ℕ) → framed_of (whole (record { item = e; rest = r }) >>= λ x. some (main_frame none x)) ≡ framed_of (whole (record { item = e; rest = r }) >>= λ x. some (main_frame (some u) x))
    ends e [] = refl
    ends e (b ∷ r) = refl

    go : (o : Option (Got Expr)) → framed_of (o >>= λ g. whole g >>= λ x. some (main_frame none x)) ≡ framed_of (o >>= λ g. whole g >>= λ x. some (main_frame (some u) x))
    go none = refl
    go (some g) = ends g.item g.rest

module _ (s : List ℕ) (h : 2 < length s) where
  three : drop 1 s ≡ get_or s 1 0 ∷ get_or s 2 0 ∷ drop 3 s
  three = more s 1 (omega arith) ∙ ap (λ (l : List ℕ). get_or s 1 0 ∷ l) (more s 2 h)

  pub input_tag_lem : 3 < get_or s 2 0 → None ≡ framed_of (input_after (drop 1 s))
  unfolding input_after type
  input_tag_lem k = rw (three, lt-leb _ _ k)

  pub input_main : get_or s 2 0 ≤ 3 → (o : RustOption Kind) → o ≡ framed_of (main_after none (drop 3 s)) → o ≡ framed_of (input_after (drop 1 s))
  unfolding input_after type
  input_main k o e = rw (three, le-leb _ _ k) (e ∙ same_kind (ty (get_or s 1 0) (get_or s 2 0)) (drop 3 s))

-- ---- a method
-- a type with anything after it, where what follows is refused
type_then : {B : Type 0} (c t : ℕ) (r : List ℕ) (f : Got Ty → Option B) → f (record { item = ty c t; rest = r }) ≡ none → type (c ∷ t ∷ r) >>= f ≡ none
unfolding type
type_then c t r f e = go (leb t 3) refl
  where
    go : (b : Bool) → leb t 3 ≡ b → type (c ∷ t ∷ r) >>= f ≡ none
    go true q = rw q e
    go false q = rw q

pub method_short : (s : List ℕ) → length s ≤ 7 → None ≡ framed_of (method_after (drop 1 s))
unfolding method_after type
method_short [] h = refl
method_short (k ∷ []) h = refl
method_short (k ∷ o ∷ []) h = refl
method_short (k ∷ o ∷ m ∷ []) h = refl
method_short (k ∷ o ∷ m ∷ c ∷ []) h = refl
method_short (k ∷ o ∷ m ∷ c ∷ t ∷ []) h = ap framed_of (sym (type_then c t [] _ refl))
method_short (k ∷ o ∷ m ∷ c ∷ t ∷ d ∷ []) h = ap framed_of (sym (type_then c t (d ∷ []) _ refl))
method_short (k ∷ o ∷ m ∷ c ∷ t ∷ d ∷ u ∷ []) h = ap framed_of (sym (type_then c t (d ∷ u ∷ []) _ (type_then d u [] _ refl)))
method_short (k ∷ o ∷ m ∷ c ∷ t ∷ d ∷ u ∷ n ∷ r) h = absurd (omega arith)

eight : (s : List ℕ) → 7 < length s → drop 1 s ≡ get_or s 1 0 ∷ get_or s 2 0 ∷ get_or s 3 0 ∷ get_or s 4 0 ∷ get_or s 5 0 ∷ get_or s 6 0 ∷ get_or s 7 0 ∷ drop 8 s
eight s h =
    four s (omega arith)
    ∙ ap (λ (l : List ℕ). get_or s 1 0 ∷ get_or s 2 0 ∷ get_or s 3 0 ∷ l)
    (more s 4 (omega arith) ∙ ap (λ (l : List ℕ). get_or s 4 0 ∷ l) (more s 5 (omega arith)
    ∙ ap (λ (l : List ℕ). get_or s 5 0 ∷ l) (more s 6 (omega arith) ∙ ap (λ (l : List ℕ). get_or s 6 0 ∷ l) (more s 7 h))))

pub types-length : (us : List Ty) → length (types_bytes us) ≡ 2 * length us
types-length [] = refl
types-length (u ∷ us) = let e = types-length us in omega arith

module _ (s : List ℕ) (h : 7 < length s) where
  pub method_first : 3 < get_or s 4 0 → None ≡ framed_of (method_after (drop 1 s))
  unfolding method_after type
  method_first k = rw (eight s h, lt-leb _ _ k)

  module _ (t : get_or s 4 0 ≤ 3) where
    pub method_second : 3 < get_or s 6 0 → None ≡ framed_of (method_after (drop 1 s))
    unfolding method_after type
    method_second k = rw (eight s h, le-leb _ _ t, lt-leb _ _ k)

    module _ (u : get_or s 6 0 ≤ 3) where
      pub method_over : 3 < get_or s 7 0 → None ≡ framed_of (method_after (drop 1 s))
      unfolding method_after type
      method_over k = rw (eight s h, le-leb _ _ t, le-leb _ _ u, lt-leb _ _ k)

      module _ (k : get_or s 7 0 ≤ 3) (m : ℕ) (em : m ≡ get_or s 7 0) (o : RustOption ℕ) (eo : o ≡ end_of s (types m (drop 8 s))) where
        pub method_types : o ≡ None → None ≡ framed_of (method_after (drop 1 s))
        unfolding method_after type
        method_types n = rw (eight s h, le-leb _ _ t, le-leb _ _ u, le-leb _ _ k, ← em, read_none s (types m (drop 8 s)) o eo n)

        module _ (a : ℕ) (ea : o ≡ Some a) (o1 : RustOption ℕ) (eo1 : o1 ≡ end_of s (expr 6 (drop a s))) where
          pub method_left : o1 ≡ None → None ≡ framed_of (method_after (drop 1 s))
          unfolding method_after type
          method_left n =
              let r = read_to s (types m (drop 8 s)) o a (types_leaves s m 8) eo ea in
              rw (eight s h, le-leb _ _ t, le-leb _ _ u, le-leb _ _ k, ← em, r.is, read_none s (expr 6 (drop a s)) o1 eo1 n)

          module _ (b : ℕ) (eb : o1 ≡ Some b) (o2 : RustOption ℕ) (eo2 : o2 ≡ end_of s (expr 6 (drop b s))) where
            pub method_right : o2 ≡ None → None ≡ framed_of (method_after (drop 1 s))
            unfolding method_after type
            method_right n =
                let r = read_to s (types m (drop 8 s)) o a (types_leaves s m 8) eo ea in
                let x = read_to s (expr 6 (drop a s)) o1 b (expr_leaves s 6 a) eo1 eb in
                rw (eight s h, le-leb _ _ t, le-leb _ _ u, le-leb _ _ k, ← em, r.is, x.is, read_none s (expr 6 (drop b s)) o2 eo2 n)

            pub method_long : (e : ℕ) → o2 ≡ Some e → e < length s → None ≡ framed_of (method_after (drop 1 s))
            unfolding method_after type
            method_long e ee l =
                let r = read_to s (types m (drop 8 s)) o a (types_leaves s m 8) eo ea in
                let x = read_to s (expr 6 (drop a s)) o1 b (expr_leaves s 6 a) eo1 eb in
                let y = read_to s (expr 6 (drop b s)) o2 e (expr_leaves s 6 b) eo2 ee in
                rw (eight s h, le-leb _ _ t, le-leb _ _ u, le-leb _ _ k, ← em, r.is, x.is, y.is, more s e l)

            pub method_good_lem : (e : ℕ) → o2 ≡ Some e → length s ≤ e → Some (MethodKind b) ≡ framed_of (method_after (drop 1 s))
            unfolding method_after type
            method_good_lem e ee l =
                let r = read_to s (types m (drop 8 s)) o a (types_leaves s m 8) eo ea in
                let x = read_to s (expr 6 (drop a s)) o1 b (expr_leaves s 6 a) eo1 eb in
                let y = read_to s (expr 6 (drop b s)) o2 e (expr_leaves s 6 b) eo2 ee in
                let pa : a ≡ 8 + length (types_bytes r.item) = between s 8 a (types_bytes r.item) h r.within (types_back m (drop 8 s) _ r.is).0 in
                let left = expr_spelt 6 (drop a s) _ x.is in
                let pb : b ≡ a + length left.front = between s a b left.front r.within x.within left.split in
                let pt = types-length r.item in
                let p : b ≡ 8 + 2 * length r.item + length (code_of x.item) = omega (arith, left.size) in
                rw (eight s h, le-leb _ _ t, le-leb _ _ u, le-leb _ _ k, ← em, r.is, x.is, y.is, no_more s e l) (ap (λ (z : ℕ). Some (MethodKind z)) p)
