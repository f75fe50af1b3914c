-- Every expression has an outcome by the big-step rules alone (specs/RunningRules): the depth is the outer recursion, the expression the inner one.
-- Not here: that it is the interpreter's (RunningRules).
use Prim.Native.Nat.{ℕ, zero, suc, ◌+◌}
use mathlib.Core.Path.{◌≡◌, refl}
use mathlib.Core.Bool.{Bool, true, false}
use mathlib.Core.List.{List}
use mathlib.Core.Option.{Option, none, some}
use lib.Dec.{eqb, ltb}
use lib.ListN.{length, get_elem?}
use borrow.Author.Tests.{eqb-true, eqb-false, ltb-true, ltb-false}
use Rattle.cofj.specs.Limits.{number_count}
use Rattle.cofj.specs.Syntax.{Operation, sum, difference, Expr, this, res, param, field, call, new, literal, combine, choose, Exprs, done, also, count, Method, Table}
use Rattle.cofj.specs.Classes.{fields_of}
use Rattle.cofj.specs.Lookup.{Found, found_in, lookup}
use Rattle.cofj.specs.Values.{Graph, make, select, mark_of, number_in}
use Rattle.cofj.specs.Running.{Outcome, value, stopped, Frame, OpenCall, open_mark, class_of, frame_of, opened}
use Rattle.cofj.specs.RunningRules.{Evaluates, VAR-this, VAR-res, VAR-param, FIELD, INVK, COREC, NEW, W-FIELD-object, W-FIELD-lacks, W-INVK-object, W-INVK-lacks, W-INVK-count, W-INVK2, W-NEW, PROP-field, PROP-receiver, PROP-arguments, PROP-new, W-VAR-this, W-VAR-res, W-VAR-param, OUT-OF-FUEL, TOO-DEEP, TOO-LARGE, NUMBER, SUM, DIFFERENCE, OVERFLOW, W-COMBINE-first, W-COMBINE-second, CHOOSE-first, CHOOSE-second, W-CHOOSE, PROP-first, PROP-second, PROP-choose, EvaluateAll, NONE, EACH, PROP-head, PROP-tail}

module _ (objects : ℕ) (t : Table) where
  abbrev pub Ends : ℕ → Frame → List OpenCall → Expr → ℕ → Type 0
  Ends k fr os e n = (o : Outcome Graph) × Evaluates objects t k fr os e n o

  abbrev pub EndAll : ℕ → Frame → List OpenCall → Exprs → ℕ → Type 0
  EndAll k fr os es n = (o : Outcome (List Graph)) × EvaluateAll objects t k fr os es n o

  -- bodies end, where k more calls may be opened
  abbrev Bodies : ℕ → Type 0
  Bodies zero = Unit {0}
  Bodies (suc k) = (fr : Frame) (os : List OpenCall) (e : Expr) (n : ℕ) → Ends k fr os e n

  module _ (fr : Frame) (os : List OpenCall) (m : ℕ) (e : Expr) (es : Exprs) (n : ℕ) where
    -- a call: its receiver, method and arguments are known
    redex_ends : (k : ℕ) → Bodies k → (v : Graph) (n₁ c o : ℕ) (d : Method) (vs : List Graph) (n₂ : ℕ) → Evaluates objects t k fr os e n (value v n₁)
        → class_of v ≡ some c → lookup t c m ≡ some (found_in o d) → length d.params ≡ count es → EvaluateAll objects t k fr os es n₁ (value vs n₂) → Ends k fr os (call m e es) n
    redex_ends k B v n₁ c o d vs zero p q r l ps = (_, OUT-OF-FUEL p q r l ps)
    redex_ends zero B v n₁ c o d vs (suc n₂) p q r l ps = (_, TOO-DEEP p q r l ps)
    redex_ends (suc k) B v n₁ c o d vs (suc n₂) p q r l ps = by_mark (open_mark os v m vs) refl
      where
        by_left : open_mark os v m vs ≡ none → Ends k (frame_of v none vs) (opened os v m vs) d.left n₂ → Ends (suc k) fr os (call m e es) n
        by_left z (value u n₃, b) = (_, INVK p q r l ps z b)
        by_left z (stopped s n₃, b) = (_, W-INVK2 p q r l ps z b)

        by_mark : (o : Option ℕ) → open_mark os v m vs ≡ o → Ends (suc k) fr os (call m e es) n
        by_mark none z = by_left z (B (frame_of v none vs) (opened os v m vs) d.left n₂)
        by_mark (some x) z = (_, COREC p q r l ps z (B (frame_of v (some (mark_of x)) vs) os d.right n₂).1)

    module _ (k : ℕ) (B : Bodies k) where
      -- its receiver is known
      receiver_ends : (v : Graph) (n₁ : ℕ) → Evaluates objects t k fr os e n (value v n₁) → EndAll k fr os es n₁ → Ends k fr os (call m e es) n
      receiver_ends v n₁ p a = by_class (class_of v) refl
        where
          by_arguments : (c o : ℕ) (d : Method) → class_of v ≡ some c → lookup t c m ≡ some (found_in o d) → length d.params ≡ count es → EndAll k fr os es n₁ → Ends k fr os (call m e es) n
          by_arguments c o d q r l (value vs n₂, ps) = redex_ends k B v n₁ c o d vs n₂ p q r l ps
          by_arguments c o d q r l (stopped s n₂, ps) = (_, PROP-arguments p q r l ps)

          by_count : (c o : ℕ) (d : Method) → class_of v ≡ some c → lookup t c m ≡ some (found_in o d) → (b : Bool) → eqb (length d.params) (count es) ≡ b → Ends k fr os (call m e es) n
          by_count c o d q r true l = by_arguments c o d q r (eqb-true (length d.params) (count es) l) a
          by_count c o d q r false l = (_, W-INVK-count p q r (eqb-false (length d.params) (count es) l))

          by_method : (c : ℕ) → class_of v ≡ some c → (f : Option Found) → lookup t c m ≡ f → Ends k fr os (call m e es) n
          by_method c q none r = (_, W-INVK-lacks p q r)
          by_method c q (some f) r = by_count c f.owner f.body q r (eqb (length f.body.params) (count es)) refl

          by_class : (c : Option ℕ) → class_of v ≡ c → Ends k fr os (call m e es) n
          by_class none q = (_, W-INVK-object p q)
          by_class (some c) q = by_method c q (lookup t c m) refl

      call_ends : Ends k fr os e n → ((n₁ : ℕ) → EndAll k fr os es n₁) → Ends k fr os (call m e es) n
      call_ends (value v n₁, p) a = receiver_ends v n₁ p (a n₁)
      call_ends (stopped s n₁, p) a = (_, PROP-receiver p)

  module _ (k : ℕ) (fr : Frame) (os : List OpenCall) where
    field_ends : (f : ℕ) (e : Expr) (n : ℕ) → Ends k fr os e n → Ends k fr os (field f e) n
    field_ends f e n (stopped s n₁, p) = (_, PROP-field p)
    field_ends f e n (value v n₁, p) = go (select f v) refl (class_of v) refl
      where
        go : (o : Option Graph) → select f v ≡ o → (c : Option ℕ) → class_of v ≡ c → Ends k fr os (field f e) n
        go (some u) q c r = (_, FIELD p q)
        go none q none r = (_, W-FIELD-object p r)
        go none q (some c) r = (_, W-FIELD-lacks p r q)

    new_ends : (c : ℕ) (es : Exprs) (n : ℕ) → EndAll k fr os es n → Ends k fr os (new c es) n
    new_ends c es n a = by_count (eqb (length (fields_of t.classes c)) (count es)) refl
      where
        by_size : (vs : List Graph) (n₁ : ℕ) → length (fields_of t.classes c) ≡ count es → EvaluateAll objects t k fr os es n (value vs n₁)
            → (b : Bool) → ltb objects (length (make c vs).nodes) ≡ b → Ends k fr os (new c es) n
        by_size vs n₁ q ps true z = (_, TOO-LARGE q ps (ltb-true objects (length (make c vs).nodes) z))
        by_size vs n₁ q ps false z = (_, NEW q ps (ltb-false objects (length (make c vs).nodes) z))

        by_values : length (fields_of t.classes c) ≡ count es → EndAll k fr os es n → Ends k fr os (new c es) n
        by_values q (value vs n₁, ps) = by_size vs n₁ q ps (ltb objects (length (make c vs).nodes)) refl
        by_values q (stopped s n₁, ps) = (_, PROP-new q ps)

        by_count : (b : Bool) → eqb (length (fields_of t.classes c)) (count es) ≡ b → Ends k fr os (new c es) n
        by_count true q = by_values (eqb-true (length (fields_of t.classes c)) (count es) q) a
        by_count false q = (_, W-NEW (eqb-false (length (fields_of t.classes c)) (count es) q))

    -- two operands, the second of which begins with what the first leaves
    combine_ends : (o : Operation) (a b : Expr) (n : ℕ) → Ends k fr os a n → ((n₁ : ℕ) → Ends k fr os b n₁) → Ends k fr os (combine o a b) n
    combine_ends o a b n (stopped s n₁, p) f = (_, PROP-first p)
    combine_ends o a b n (value v n₁, p) f = by_first (number_in v) refl
      where
        by_numbers : (q : Operation) (x y : ℕ) (w : Graph) (n₂ : ℕ) → number_in v ≡ some x → Evaluates objects t k fr os b n₁ (value w n₂) → number_in w ≡ some y → Ends k fr os (combine q a b) n
        by_numbers sum x y w n₂ i ps j = by_size (ltb (x + y) number_count) refl
          where
            by_size : (c : Bool) → ltb (x + y) number_count ≡ c → Ends k fr os (combine sum a b) n
            by_size true z = (_, SUM p i ps j (ltb-true (x + y) number_count z))
            by_size false z = (_, OVERFLOW p i ps j (ltb-false (x + y) number_count z))
        by_numbers difference x y w n₂ i ps j = (_, DIFFERENCE p i ps j)

        by_second : (x : ℕ) → number_in v ≡ some x → Ends k fr os b n₁ → Ends k fr os (combine o a b) n
        by_second x i (stopped s n₂, ps) = (_, PROP-second p i ps)
        by_second x i (value w n₂, ps) = go (number_in w) refl
          where
            go : (y : Option ℕ) → number_in w ≡ y → Ends k fr os (combine o a b) n
            go none j = (_, W-COMBINE-second p i ps j)
            go (some y) j = by_numbers o x y w n₂ i ps j

        by_first : (x : Option ℕ) → number_in v ≡ x → Ends k fr os (combine o a b) n
        by_first none i = (_, W-COMBINE-first p i)
        by_first (some x) i = by_second x i (f n₁)

    choose_ends : (c a b : Expr) (n : ℕ) → Ends k fr os c n → ((n₁ : ℕ) → Ends k fr os a n₁) → ((n₁ : ℕ) → Ends k fr os b n₁) → Ends k fr os (choose c a b) n
    choose_ends c a b n (stopped s n₁, p) f g = (_, PROP-choose p)
    choose_ends c a b n (value v n₁, p) f g = go (number_in v) refl
      where
        go : (x : Option ℕ) → number_in v ≡ x → Ends k fr os (choose c a b) n
        go none i = (_, W-CHOOSE p i)
        go (some zero) i = (_, CHOOSE-second p i (g n₁).1)
        go (some (suc x)) i = (_, CHOOSE-first p i (f n₁).1)

    item_ends : (e : Expr) (es : Exprs) (n : ℕ) → Ends k fr os e n → ((n₁ : ℕ) → EndAll k fr os es n₁) → EndAll k fr os (also e es) n
    item_ends e es n (stopped s n₁, p) a = (_, PROP-head p)
    item_ends e es n (value v n₁, p) a = go (a n₁)
      where
        go : EndAll k fr os es n₁ → EndAll k fr os (also e es) n
        go (value vs n₂, ps) = (_, EACH p ps)
        go (stopped s n₂, ps) = (_, PROP-tail p ps)

    mutual
      expr_ends : (e : Expr) (n : ℕ) → Bodies k → Ends k fr os e n
      expr_ends this n B = go fr.this refl
        where
          go : (v : Option Graph) → fr.this ≡ v → Ends k fr os this n
          go none q = (_, W-VAR-this q)
          go (some v) q = (_, VAR-this q)
      expr_ends res n B = go fr.res refl
        where
          go : (v : Option Graph) → fr.res ≡ v → Ends k fr os res n
          go none q = (_, W-VAR-res q)
          go (some v) q = (_, VAR-res q)
      expr_ends (param x) n B = go (get_elem? fr.params x) refl
        where
          go : (v : Option Graph) → get_elem? fr.params x ≡ v → Ends k fr os (param x) n
          go none q = (_, W-VAR-param q)
          go (some v) q = (_, VAR-param q)
      expr_ends (field f e) n B = field_ends f e n (expr_ends e n B)
      expr_ends (call m e es) n B = call_ends fr os m e es n k B (expr_ends e n B) (λ n₁. exprs_end es n₁ B)
      expr_ends (new c es) n B = new_ends c es n (exprs_end es n B)
      expr_ends (literal x) n B = (_, NUMBER)
      expr_ends (combine o a b) n B = combine_ends o a b n (expr_ends a n B) (λ n₁. expr_ends b n₁ B)
      expr_ends (choose c a b) n B = choose_ends c a b n (expr_ends c n B) (λ n₁. expr_ends a n₁ B) (λ n₁. expr_ends b n₁ B)

      exprs_end : (es : Exprs) (n : ℕ) → Bodies k → EndAll k fr os es n
      exprs_end done n B = (_, NONE)
      exprs_end (also e es) n B = item_ends e es n (expr_ends e n B) (λ n₁. exprs_end es n₁ B)

  bodies_end : (k : ℕ) → Bodies k
  bodies_end zero = tt
  bodies_end (suc k) = λ fr os e n. expr_ends k fr os e n (bodies_end k)

  pub eval_total : (k : ℕ) (fr : Frame) (os : List OpenCall) (e : Expr) (n : ℕ) → Ends k fr os e n
  eval_total k fr os e n = expr_ends k fr os e n (bodies_end k)

  pub evals_total : (k : ℕ) (fr : Frame) (os : List OpenCall) (es : Exprs) (n : ℕ) → EndAll k fr os es n
  evals_total k fr os es n = exprs_end k fr os es n (bodies_end k)
