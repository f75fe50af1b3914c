-- The definitions of specs/Machine at each return of the code, and along the chain of parents.
use Rattle.std.proofs.Common.{◌≡◌, refl, sym, ap, ◌∙◌, Bool, true, false, true≢false, List, ℕ, zero, suc, ◌+◌, ◌-◌, ◌*◌, ◌<◌, ◌≤◌, arith, get_or, eqb, leb, ltb, Some, None, SomeIff, is_some, eqb-true, eq-eqb, ne_eqb, lt-ltb, le-ltb, le-leb, leb-false}
use Rattle.std.proofs.Math.Bool.{false≢true}
use borrow.Author.Tests.{eqb-false, lt-leb}
use Rattle.cofj.specs.Limits.{class_count}
use Rattle.classes.specs.Figures.{row_size}
use Rattle.std.specs.declared.option.Option.{Option}
use Rattle.classes.specs.declared.chain.FieldType.{FieldType}
use Rattle.classes.specs.declared.methods.Found.{Found}
use Rattle.classes.specs.Machine.{Stored, pick, found_at, up, total_of, fits_in, fits_of, type_at, own_field, field_in, field_of, owned, own_of, or_else, lookup_in, lookup_of, method_with, row_of, input_type}

-- ---- a class's row
module _ (B : List ℕ) (c : ℕ) where
  pub parent_past : class_count < c → c ≡ up B c
  unfolding up
  parent_past h = rw (lt-ltb class_count c h)

  pub parent_row : c ≤ class_count → get_or B (row_size * c) 0 ≡ up B c
  unfolding up
  parent_row h = rw (le-ltb class_count c h)

  pub total_past : class_count < c → 0 ≡ total_of B c
  unfolding total_of
  total_past h = rw (lt-ltb class_count c h)

  pub total_row : c ≤ class_count → get_or B (row_size * c + 1) 0 ≡ total_of B c
  unfolding total_of
  total_row h = rw (le-ltb class_count c h)

-- ---- class fit
pub fits_zero : (B : List ℕ) (n d : ℕ) → fits_in B n 0 d ≡ eqb 0 d
unfolding fits_in
fits_zero B zero d = refl
fits_zero B (suc n) d = rw (le-leb 0 (up B 0) (omega arith)) (go (eqb 0 d))
  where
    go : (b : Bool) → pick b true false ≡ b
    go true = refl
    go false = refl

-- as many steps as the number of the class are enough
fits_enough : (B : List ℕ) (n m c d : ℕ) → c ≤ n → c ≤ m → fits_in B n c d ≡ fits_in B m c d
unfolding fits_in
fits_enough B zero m c d h k = let e : c ≡ 0 = omega arith in rw (e, fits_zero B m d)
fits_enough B (suc n) zero c d h k = let e : c ≡ 0 = omega arith in rw e (fits_zero B (suc n) d)
fits_enough B (suc n) (suc m) c d h k = go (leb c (up B c)) refl (fits_enough B n m (up B c) d)
  where
    go : (b : Bool) → leb c (up B c) ≡ b → (up B c ≤ n → up B c ≤ m → fits_in B n (up B c) d ≡ fits_in B m (up B c) d)
        → pick (eqb c d) true (pick b false (fits_in B n (up B c) d)) ≡ pick (eqb c d) true (pick b false (fits_in B m (up B c) d))
    go true q ih = refl
    go false q ih = let l = leb-false c (up B c) q in rw (ih (omega arith) (omega arith))

module _ (B : List ℕ) (c d : ℕ) where
  pub fit_same : c ≡ d → true ≡ fits_of B c d
  unfolding fits_in
  fit_same e = go c
    where
      go : (n : ℕ) → true ≡ fits_in B n c d
      go zero = sym (eq-eqb c d e)
      go (suc n) = rw (eq-eqb c d e)

  fits_step : (n : ℕ) → n ≡ c → (c ≡ d → ⊥) → up B c < c → fits_in B n c d ≡ fits_of B (up B c) d
  unfolding fits_in
  fits_step zero e ne l = absurd (omega arith)
  fits_step (suc n) e ne l = rw (ne_eqb c d ne, lt-leb c (up B c) l) (fits_enough B n (up B c) (up B c) d (omega arith) (omega arith))

  fits_stop : (n : ℕ) → (c ≡ d → ⊥) → c ≤ up B c → fits_in B n c d ≡ false
  unfolding fits_in
  fits_stop zero ne l = ne_eqb c d ne
  fits_stop (suc n) ne l = rw (ne_eqb c d ne, le-leb c (up B c) l)

  pub fit_top : (p : ℕ) → p ≡ up B c → (c ≡ d → ⊥) → c ≤ p → false ≡ fits_of B c d
  fit_top p ep ne l = sym (fits_stop c ne (omega arith))

  -- a class byte without a row fits only itself
  pub fit_past : class_count < c → fits_of B c d ≡ eqb c d
  fit_past h = go (eqb c d) refl
    where
      go : (b : Bool) → eqb c d ≡ b → fits_of B c d ≡ b
      go true q = sym (fit_same (eqb-true c d q))
      go false q = sym (fit_top c (parent_past B c h) (eqb-false c d q) (omega arith))

  pub fit_up : (r : Bool) (p : ℕ) → p ≡ up B c → (c ≡ d → ⊥) → p < c → r ≡ fits_of B p d → r ≡ fits_of B c d
  fit_up r p ep ne l e = e ∙ ap (λ (x : ℕ). fits_of B x d) ep ∙ sym (fits_step c refl ne (omega arith))

-- ---- fields
fields_enough : (B : List ℕ) (n m c f : ℕ) → c ≤ n → c ≤ m → field_in B n c f ≡ field_in B m c f
unfolding field_in
fields_enough B zero zero c f h k = refl
fields_enough B zero (suc m) c f h k = rw (le-leb c (up B c) (omega arith))
fields_enough B (suc n) zero c f h k = rw (le-leb c (up B c) (omega arith))
fields_enough B (suc n) (suc m) c f h k = go (leb c (up B c)) refl (fields_enough B n m (up B c) f)
  where
    rest : Option FieldType → Option FieldType
    rest x = pick (ltb f (total_of B (up B c))) x (own_field B c (f - total_of B (up B c)))

    go : (b : Bool) → leb c (up B c) ≡ b → (up B c ≤ n → up B c ≤ m → field_in B n (up B c) f ≡ field_in B m (up B c) f)
        → pick b None (rest (field_in B n (up B c) f)) ≡ pick b None (rest (field_in B m (up B c) f))
    go true q ih = refl
    go false q ih = let l = leb-false c (up B c) q in rw (ih (omega arith) (omega arith))

module _ (B : List ℕ) (c f : ℕ) where
  field_stop : (n : ℕ) → c ≤ up B c → field_in B n c f ≡ None
  unfolding field_in
  field_stop zero l = refl
  field_stop (suc n) l = rw (le-leb c (up B c) l)

  field_below : (n : ℕ) → n ≡ c → up B c < c → f < total_of B (up B c) → field_in B n c f ≡ field_of B (up B c) f
  unfolding field_in
  field_below zero e l h = absurd (omega arith)
  field_below (suc n) e l h =
      rw (lt-leb c (up B c) l, lt-ltb f (total_of B (up B c)) h) (fields_enough B n (up B c) (up B c) f (omega arith) (omega arith))

  field_here : (n : ℕ) → n ≡ c → up B c < c → total_of B (up B c) ≤ f → field_in B n c f ≡ own_field B c (f - total_of B (up B c))
  unfolding field_in
  field_here zero e l h = absurd (omega arith)
  field_here (suc n) e l h = rw (lt-leb c (up B c) l, le-ltb f (total_of B (up B c)) h)

  -- and has no fields
  pub field_past : class_count < c → field_of B c f ≡ None
  field_past h = field_stop c (let e = parent_past B c h in omega arith)

  module _ (p : ℕ) (ep : p ≡ up B c) where
    pub field_none : c ≤ p → Stored B 0 (field_of B c f)
    field_none l = record { same = field_stop c (omega arith); low = omega arith }

    module _ (k : ℕ) (ek : k ≡ total_of B p) (l : p < c) (r : ℕ) where
      total : k ≡ total_of B (up B c)
      total = ek ∙ ap (total_of B) ep

      pub field_up : f < k → Stored B r (field_of B p f) → Stored B r (field_of B c f)
      field_up h e = let t = total in rw (field_below c refl (omega arith) (omega arith), ← ep) e

      pub field_own : k ≤ f → Stored B r (own_field B c (f - k)) → Stored B r (field_of B c f)
      field_own h e = let t = total in rw (field_here c refl (omega arith) (omega arith), ← total) e

module _ (B : List ℕ) (c j : ℕ) where
  pub own_at : c < 256 → j < 256 → j < get_or B (16 * c + 2) 0 → Stored B (16 * c + 3 + 2 * j) (own_field B c j)
  own_at u v h = record { same = rw (lt-leb (get_or B (16 * c + 2) 0) j h, ne_eqb (16 * c + 3 + 2 * j) 0 (λ z. omega arith)); low = omega arith }

module _ (B : List ℕ) (at : ℕ) (w : Option FieldType) (e : Stored B at w) where
  pub stored_none : at ≡ 0 → None ≡ w
  stored_none z = rw (e.same, eq-eqb at 0 z)

  pub stored_at : (at ≡ 0 → ⊥) → Some (type_at B at) ≡ w
  stored_at n = rw (e.same, ne_eqb at 0 n)

-- ---- methods
module _ (B : List ℕ) (c m : ℕ) where
  pub index_past : 32 < c → own_of B c m ≡ owned c None
  index_past h = rw (lt-ltb 32 c h)

  abbrev byte : ℕ
  byte = get_or B (528 + 256 * c + m) 0

  pub index_at : c ≤ 32 → (r : Option ℕ) → SomeIff r (1 ≤ byte) (byte - 1) → own_of B c m ≡ owned c r
  index_at h None f = rw (le-ltb 32 c h, eq-eqb byte 0 (go byte f))
    where
      go : (b : ℕ) → (1 ≤ b → ⊥) → b ≡ 0
      go zero f = refl
      go (suc b) f = absurd (f (omega arith))
  index_at h (Some i) f =
      let q = f.0 in
      rw (le-ltb 32 c h, ne_eqb byte 0 (λ z. omega arith), f.1)

-- where nothing is above, the class itself is all
pub lookup_stop : (B : List ℕ) (n c m : ℕ) → c ≤ up B c → lookup_in B n c m ≡ own_of B c m
unfolding lookup_in
lookup_stop B zero c m l = refl
lookup_stop B (suc n) c m l = rw (le-leb c (up B c) l) (go (own_of B c m))
  where
    go : (o : Option Found) → or_else o None ≡ o
    go (Some f) = refl
    go None = refl

lookup_enough : (B : List ℕ) (n k c m : ℕ) → c ≤ n → c ≤ k → lookup_in B n c m ≡ lookup_in B k c m
unfolding lookup_in
lookup_enough B zero k c m h l = sym (lookup_stop B k c m (omega arith))
lookup_enough B (suc n) zero c m h l = lookup_stop B (suc n) c m (omega arith)
lookup_enough B (suc n) (suc k) c m h l = go (leb c (up B c)) refl (lookup_enough B n k (up B c) m)
  where
    go : (b : Bool) → leb c (up B c) ≡ b → (up B c ≤ n → up B c ≤ k → lookup_in B n (up B c) m ≡ lookup_in B k (up B c) m)
        → or_else (own_of B c m) (pick b None (lookup_in B n (up B c) m)) ≡ or_else (own_of B c m) (pick b None (lookup_in B k (up B c) m))
    go true q ih = refl
    go false q ih = let z = leb-false c (up B c) q in rw (ih (omega arith) (omega arith))

-- the class in which the search stops
module _ (B : List ℕ) (c m : ℕ) (o : Option ℕ) (eo : own_of B c m ≡ owned c o) where
  lookup_is : (n : ℕ) → true ≡ is_some o → lookup_in B n c m ≡ own_of B c m
  unfolding lookup_in
  lookup_is zero e = refl
  lookup_is (suc n) e = rw eo (go o e)
    where
      go : (o : Option ℕ) → true ≡ is_some o → or_else (owned c o) (pick (leb c (up B c)) None (lookup_in B n (up B c) m)) ≡ owned c o
      go None e = absurd (true≢false e)
      go (Some i) e = refl

  lookup_on : (n : ℕ) → n ≡ c → false ≡ is_some o → up B c < c → lookup_in B n c m ≡ lookup_of B (up B c) m
  unfolding lookup_in
  lookup_on zero e q l = absurd (omega arith)
  lookup_on (suc n) e q l = rw eo (go o q)
    where
      go : (o : Option ℕ) → false ≡ is_some o → or_else (owned c o) (pick (leb c (up B c)) None (lookup_in B n (up B c) m)) ≡ lookup_of B (up B c) m
      go (Some i) z = absurd (false≢true z)
      go None z = rw (lt-leb c (up B c) l) (lookup_enough B n (up B c) (up B c) m (omega arith) (omega arith))

  pub nearest_here : true ≡ is_some o → lookup_of B c m ≡ own_of B c m
  nearest_here e = lookup_is c e

  module _ (p : ℕ) (ep : p ≡ up B c) where
    pub nearest_top : c ≤ p → lookup_of B c m ≡ own_of B c m
    nearest_top l = lookup_stop B c c m (omega arith)

    pub nearest_above : (r : ℕ) → false ≡ is_some o → p < c → lookup_of B p m ≡ own_of B r m → lookup_of B c m ≡ own_of B r m
    nearest_above r e l er = lookup_on c refl e (omega arith) ∙ ap (λ (y : ℕ). lookup_of B y m) (sym ep) ∙ er

-- what it has itself is the answer
module _ (B : List ℕ) (c m w : ℕ) (o : Option ℕ) (ew : lookup_of B c m ≡ own_of B w m) (eo : own_of B w m ≡ owned w o) where
  pub lookup_none : o ≡ None → None ≡ lookup_of B c m
  lookup_none z = rw (ew, eo, z)

  pub lookup_at : (i : ℕ) → o ≡ Some i → Some (found_at w i) ≡ lookup_of B c m
  lookup_at i z = rw (ew, eo, z)

-- a class byte without a row has none
pub lookup_past : (B : List ℕ) (c m : ℕ) → class_count < c → lookup_of B c m ≡ None
lookup_past B c m h = lookup_stop B c c m (let e = parent_past B c h in omega arith) ∙ index_past B c m h

-- ---- a method with a number of parameters
module _ (B : List ℕ) (c m n : ℕ) (f : Option Found) (ef : f ≡ lookup_of B c m) where
  pub with_none : f ≡ None → None ≡ method_with B c m n
  unfolding method_with
  with_none e = rw (← ef, e)

  module _ (g : Found) (x : ℕ) (e : f ≡ Some g) (ex : x ≡ get_or B (row_of g.method + 7) 0) where
    pub with_other : (x ≡ n → ⊥) → None ≡ method_with B c m n
    unfolding method_with
    with_other q = rw (← ef, e, ← ex, ne_eqb x n q)

    pub with_is : x ≡ n → Some g ≡ method_with B c m n
    unfolding method_with
    with_is q = rw (← ef, e, ← ex, eq-eqb x n q)

-- ---- the type of main's parameter
module _ (B : List ℕ) where
  pub input_none : get_or B 25360 0 ≡ 0 → None ≡ input_type B
  input_none e = rw e

  pub input_some : (get_or B 25360 0 ≡ 0 → ⊥) → Some (type_at B 25361) ≡ input_type B
  input_some e = rw (ne_eqb (get_or B 25360 0) 0 e)
