-- What stands where in the bytes of a table. Not here: what the functions make of it (OnTables).
use Rattle.std.proofs.Common.{ℕ, zero, suc, ◌+◌, ◌-◌, ◌*◌, ◌/◌, ◌%◌, ◌<◌, ◌≤◌, not-suc-le-zero, arith, ◌≡◌, refl, ap, ◌∙◌, subst, List, [], ◌∷◌, ◌++◌, append-nil, eqb, length, get_or, length-append, get_or-append-add, Some, None, lt-ltb, le-ltb, ne_eqb}
use Rattle.std.proofs.Math.Option.{Option, none, some, none-ne-some}
use Rattle.std.proofs.Math.ListN.{get_elem?, get_or-append}
use Rattle.cofj.specs.Limits.{class_count, method_count, line_size}
use Rattle.cofj.specs.Syntax.{Expr, Ty, Class, Method, Table}
use Rattle.cofj.specs.Classes.{parent_of, class_at, own_or_none, fields_of, fields_to}
use Rattle.cofj.specs.Writing.{code_of, types_bytes, method_line, main_line}
use Rattle.classes.specs.declared.chain.FieldType.{FieldType}
use Rattle.std.specs.declared.option.Option.{Option as RustOption}
use Rattle.classes.specs.Machine.{pick, type_at, row_of, left_of, right_of, main_place, input_type}
use Rattle.classes.specs.Figures.{table_size, row_size, long_size, index_at, methods_at, main_at}
use Rattle.classes.specs.Layout.{class_row, index_from, rest, right_place, long_byte, method_byte, input_size, ahead_of, byte_of, filled, tabulate, layout, bytes_of, found_type, Stands}

-- ---- a list by its places
length-tabulate : (n : ℕ) (f : ℕ → ℕ) → length (tabulate n f) ≡ n
unfolding tabulate
length-tabulate zero f = refl
length-tabulate (suc n) f = ap suc (length-tabulate n (λ k. f (suc k)))

get_d_tabulate : (n : ℕ) (f : ℕ → ℕ) (i : ℕ) → i < n → get_or (tabulate n f) i 0 ≡ f i
unfolding tabulate
get_d_tabulate zero f i h = absurd (not-suc-le-zero h)
get_d_tabulate (suc n) f zero h = refl
get_d_tabulate (suc n) f (suc i) h = get_d_tabulate n (λ k. f (suc k)) i (omega arith)

pub length-filled : (n m : ℕ) (cs : List Class) (ms : List Method) (l : List ℕ) → length (filled n m cs ms l) ≡ table_size
unfolding filled
length-filled n m cs ms l = length-tabulate table_size (byte_of n m cs ms l)

pub get_d_filled : (n m : ℕ) (cs : List Class) (ms : List Method) (l : List ℕ) (i : ℕ) → i < table_size → get_or (filled n m cs ms l) i 0 ≡ byte_of n m cs ms l i
unfolding filled
get_d_filled n m cs ms l i h = get_d_tabulate table_size (byte_of n m cs ms l) i h

-- ---- the zones
module _ (n m : ℕ) (cs : List Class) (ms : List Method) (line : List ℕ) where
  pub filled_class : (c j : ℕ) → c ≤ class_count → j < row_size → get_or (filled n m cs ms line) (row_size * c + j) 0 ≡ get_or (class_row n m cs c) j 0
  unfolding byte_of
  filled_class c j h l =
      let i = 16 * c + j in
      let q : i / 16 ≡ c = omega arith in
      let r : i % 16 ≡ j = omega arith in
      get_d_filled n m cs ms line i (omega arith) ∙ rw (lt-ltb i 528 (omega arith), q, r)

  pub filled_index : (c x : ℕ) → c ≤ class_count → x < long_size → get_or (filled n m cs ms line) (index_at + long_size * c + x) 0 ≡ index_from 0 ms c x
  unfolding byte_of
  filled_index c x h l =
      let i = 528 + 256 * c + x in
      let q : (i - 528) / 256 ≡ c = omega arith in
      let r : (i - 528) % 256 ≡ x = omega arith in
      get_d_filled n m cs ms line i (omega arith) ∙ rw (le-ltb i 528 (omega arith), lt-ltb i 8976 (omega arith), q, r)

  pub filled_method : (k j : ℕ) → k < method_count → j < long_size → get_or (filled n m cs ms line) (methods_at + long_size * k + j) 0 ≡ method_byte (get_elem? ms k) j
  unfolding byte_of
  filled_method k j h l =
      let i = 8976 + 256 * k + j in
      let q : (i - 8976) / 256 ≡ k = omega arith in
      let r : (i - 8976) % 256 ≡ j = omega arith in
      get_d_filled n m cs ms line i (omega arith) ∙ rw (le-ltb i 528 (omega arith), le-ltb i 8976 (omega arith), lt-ltb i 25360 (omega arith), q, r)

  pub filled_main : (j : ℕ) → j < long_size → get_or (filled n m cs ms line) (main_at + j) 0 ≡ long_byte (ahead_of line) line j
  unfolding byte_of
  filled_main j l =
      let i = 25360 + j in
      let q : i - 25360 ≡ j = omega arith in
      get_d_filled n m cs ms line i (omega arith) ∙ rw (le-ltb i 528 (omega arith), le-ltb i 8976 (omega arith), le-ltb i 25360 (omega arith), q)

pub ahead_is : (i : Option Ty) (e : Expr) → ahead_of (main_line i e) ≡ input_size i
ahead_is none e = refl
ahead_is (some u) e = refl

module _ (t : Table) where
  pub length-layout : length (layout t) ≡ table_size
  unfolding layout
  length-layout = length-filled _ _ _ _ _

  pub class_zone : (c j : ℕ) → c ≤ class_count → j < row_size
      → get_or (layout t) (row_size * c + j) 0 ≡ get_or (class_row (length t.classes) (length t.methods) t.classes c) j 0
  unfolding layout
  class_zone c j h l = filled_class _ _ _ _ _ c j h l

  pub index_zone : (c m : ℕ) → c ≤ class_count → m < long_size → get_or (layout t) (index_at + long_size * c + m) 0 ≡ index_from 0 t.methods c m
  unfolding layout
  index_zone c m h l = filled_index _ _ _ _ _ c m h l

  pub method_zone : (k j : ℕ) → k < method_count → j < long_size → get_or (layout t) (methods_at + long_size * k + j) 0 ≡ method_byte (get_elem? t.methods k) j
  unfolding layout
  method_zone k j h l = filled_method _ _ _ _ _ k j h l

  pub main_zone : (j : ℕ) → j < long_size → get_or (layout t) (main_at + j) 0 ≡ long_byte (input_size t.input) (main_line t.input t.main) j
  unfolding layout
  main_zone j l = filled_main _ _ _ _ _ j l ∙ ap (λ (p : ℕ). long_byte p (main_line t.input t.main) j) (ahead_is t.input t.main)

  -- ---- a class's parts
  pub parent_at : (c : ℕ) → c ≤ class_count → get_or (layout t) (row_size * c) 0 ≡ parent_of t.classes c
  parent_at c h = ap (λ (i : ℕ). get_or (layout t) i 0) (let e : 16 * c ≡ 16 * c + 0 = omega arith in e) ∙ class_zone c 0 h (omega arith) ∙ go c
    where
      go : (k : ℕ) → get_or (class_row (length t.classes) (length t.methods) t.classes k) 0 0 ≡ parent_of t.classes k
      go zero = refl
      go (suc k) = refl

  pub total_at : (c : ℕ) → c ≤ class_count → get_or (layout t) (row_size * c + 1) 0 ≡ length (fields_of t.classes c)
  unfolding fields_to
  total_at c h = class_zone c 1 h (omega arith) ∙ go c
    where
      go : (k : ℕ) → get_or (class_row (length t.classes) (length t.methods) t.classes k) 1 0 ≡ length (fields_of t.classes k)
      go zero = refl
      go (suc k) = refl

  pub own_count_at : (c : ℕ) → c ≤ class_count → get_or (layout t) (row_size * c + 2) 0 ≡ length (own_or_none (class_at t.classes c))
  own_count_at c h = class_zone c 2 h (omega arith) ∙ go c
    where
      go : (k : ℕ) → get_or (class_row (length t.classes) (length t.methods) t.classes k) 2 0 ≡ length (own_or_none (class_at t.classes k))
      go zero = refl
      go (suc k) = refl

  pub class_count_at_lem : get_or (layout t) 11 0 ≡ length t.classes
  class_count_at_lem = class_zone 0 11 (omega arith) (omega arith)

  pub method_count_at_lem : get_or (layout t) 12 0 ≡ length t.methods
  method_count_at_lem = class_zone 0 12 (omega arith) (omega arith)

-- ---- types in a row
pub same_type : {a b x y : ℕ} → a ≡ x → b ≡ y → ◌≡◌ {A = FieldType} (record { class = a; tag = b }) (record { class = x; tag = y })
same_type p q = λ i. record { class = p i; tag = q i }

pub types_at : (us : List Ty) (r : List ℕ) (j : ℕ) (u : Ty) → get_elem? us j ≡ some u
    → (get_or (types_bytes us ++ r) (2 * j) 0 ≡ u.cls) × (get_or (types_bytes us ++ r) (2 * j + 1) 0 ≡ u.tag)
types_at [] r j u e = absurd (none-ne-some u e)
types_at (x ∷ us) r zero u e = let q : x ≡ u = cc in (ap (λ (y : Ty). y.cls) q, ap (λ (y : Ty). y.tag) q)
types_at (x ∷ us) r (suc j) u e =
    let q : 2 * suc j ≡ suc (suc (2 * j)) = omega arith in
    let q' : 2 * suc j + 1 ≡ suc (suc (2 * j + 1)) = omega arith in
    let ih = types_at us r j u e in
    (rw q ih.0, rw q' ih.1)

pub length_types : (us : List Ty) → length (types_bytes us) ≡ 2 * length us
length_types [] = refl
length_types (u ∷ us) = let e = length_types us in omega arith

-- own field j's type
pub own_type_at : (t : Table) (c j : ℕ) (u : Ty) → c ≤ class_count → j ≤ 5 → get_elem? (own_or_none (class_at t.classes c)) j ≡ some u
    → type_at (layout t) (row_size * c + 3 + 2 * j) ≡ bytes_of u
own_type_at t zero j u h l e = absurd (none-ne-some u e)
own_type_at t (suc k) j u h l e =
    let us = own_or_none (class_at t.classes (suc k)) in
    let w = types_at us [] j u e in
    same_type (own_byte us (2 * j) refl (omega arith) ∙ w.0)
    (ap (λ (x : ℕ). get_or (layout t) x 0) (let z : 16 * suc k + 3 + 2 * j + 1 ≡ 16 * suc k + 3 + (2 * j + 1) = omega arith in z) ∙ own_byte us (2 * j + 1) refl (omega arith) ∙ w.1)
  where
    own_byte : (us : List Ty) (b : ℕ) → us ≡ own_or_none (class_at t.classes (suc k)) → b < 13 → get_or (layout t) (16 * suc k + 3 + b) 0 ≡ get_or (types_bytes us ++ []) b 0
    own_byte us b q g =
        let z : 3 + b ≡ suc (suc (suc b)) = omega arith in
        ap (λ (x : ℕ). get_or (layout t) x 0) (let y : 16 * suc k + 3 + b ≡ 16 * suc k + (3 + b) = omega arith in y)
        ∙ class_zone t (suc k) (3 + b) h (omega arith)
        ∙ rw (z, append-nil (types_bytes us), q)

-- ---- bytes that stand in B
module _ (B : List ℕ) where
  pub stands_moved : (at at' : ℕ) (xs : List ℕ) → at ≡ at' → Stands B at xs → Stands B at' xs
  stands_moved at at' xs e s = subst (λ (i : ℕ). Stands B i xs) e s

  pub stands_front : (at : ℕ) (xs ys : List ℕ) → Stands B at (xs ++ ys) → Stands B at xs
  stands_front at xs ys s = record {
    byte = λ k h. s.byte k (let e = length-append xs ys in omega arith) ∙ get_or-append xs ys 0 k h;
  }

  pub stands_after : (at : ℕ) (xs ys : List ℕ) → Stands B at (xs ++ ys) → Stands B (at + length xs) ys
  stands_after at xs ys s = record {
    byte = λ k h.
        let e = length-append xs ys in
        ap (λ (i : ℕ). get_or B i 0) (let q : at + length xs + k ≡ at + (length xs + k) = omega arith in q)
        ∙ s.byte (length xs + k) (omega arith)
        ∙ get_or-append-add xs ys k 0;
  }

  pub stands_first : (at x : ℕ) (xs : List ℕ) → Stands B at (x ∷ xs) → get_or B at 0 ≡ x
  stands_first at x xs s = ap (λ (i : ℕ). get_or B i 0) (let q : at ≡ at + 0 = omega arith in q) ∙ s.byte 0 (omega arith)

  pub stands_rest : (at x : ℕ) (xs : List ℕ) → Stands B at (x ∷ xs) → Stands B (at + 1) xs
  stands_rest at x xs s = stands_after at (x ∷ []) xs s

-- ---- the parts of method i
module _ (t : Table) (i : ℕ) (d : Method) (l : i < method_count) (e : get_elem? t.methods i ≡ some d) where
  row_is : row_of i ≡ 8976 + 256 * i
  row_is = let q : i % 64 ≡ i = omega arith in rw q

  next_byte : (j : ℕ) {x : ℕ} → get_or (layout t) (row_of i + (j + 1)) 0 ≡ x → get_or (layout t) (row_of i + j + 1) 0 ≡ x
  next_byte j q = ap (λ (k : ℕ). get_or (layout t) k 0) (let z : row_of i + j + 1 ≡ row_of i + (j + 1) = omega arith in z) ∙ q

  row-byte : (j : ℕ) → j < long_size → get_or (layout t) (row_of i + j) 0 ≡ long_byte (right_place d) (method_line d) j
  row-byte j h = rw row_is (method_zone t i j l h ∙ rw e)

  pub owner_at : get_or (layout t) (row_of i + 1) 0 ≡ d.owner
  unfolding method_line
  owner_at = row-byte 1 (omega arith)

  pub name_at : get_or (layout t) (row_of i + 2) 0 ≡ d.name
  unfolding method_line
  name_at = row-byte 2 (omega arith)

  pub first_at : type_at (layout t) (row_of i + 3) ≡ bytes_of d.first
  unfolding method_line
  first_at = same_type (row-byte 3 (omega arith)) (next_byte 3 (row-byte 4 (omega arith)))

  pub second_at : type_at (layout t) (row_of i + 5) ≡ bytes_of d.second
  unfolding method_line
  second_at = same_type (row-byte 5 (omega arith)) (next_byte 5 (row-byte 6 (omega arith)))

  pub param_count_at : get_or (layout t) (row_of i + 7) 0 ≡ length d.params
  unfolding method_line
  param_count_at = row-byte 7 (omega arith)

  pub right_place_at : get_or (layout t) (row_of i) 0 ≡ right_place d
  right_place_at = ap (λ (k : ℕ). get_or (layout t) k 0) (let q : row_of i ≡ row_of i + 0 = omega arith in q) ∙ row-byte 0 (omega arith)

  -- the line's bytes after its first, where there are at most 255
  module _ (short : length (method_line d) ≤ line_size) where
    pub line_stands : Stands (layout t) (row_of i + 1) (rest (method_line d))
    unfolding method_line
    line_stands = record {
      byte = λ k h.
          ap (λ (x : ℕ). get_or (layout t) x 0) (let q : row_of i + 1 + k ≡ row_of i + suc k = omega arith in q)
          ∙ row-byte (suc k) (omega arith)
          ∙ rw (ne_eqb (suc k) 255 (λ z. omega arith));
    }

    after-types : Stands (layout t) (row_of i + 8 + 2 * length d.params) (code_of d.left ++ code_of d.right)
    unfolding method_line
    after-types =
        let a = stands_after (layout t) (row_of i + 1) (d.owner ∷ d.name ∷ d.first.cls ∷ d.first.tag ∷ d.second.cls ∷ d.second.tag ∷ length d.params ∷ []) _ line_stands in
        let b = stands_after (layout t) (row_of i + 1 + 7) (types_bytes d.params) _ a in
        let q = length_types d.params in
        stands_moved (layout t) _ _ _ (let z : row_of i + 1 + 7 + length (types_bytes d.params) ≡ row_of i + 8 + 2 * length d.params = omega arith in z) b

    pub left_stands : Stands (layout t) (left_of (layout t) i) (code_of d.left)
    left_stands = rw param_count_at (stands_front (layout t) _ (code_of d.left) (code_of d.right) after-types)

    pub right_stands : Stands (layout t) (right_of (layout t) i) (code_of d.right)
    unfolding right_place
    right_stands =
        rw right_place_at
        (stands_moved (layout t) _ _ _ (let z : row_of i + 8 + 2 * length d.params + length (code_of d.left) ≡ row_of i + (8 + 2 * length d.params + length (code_of d.left)) = omega arith in z)
        (stands_after (layout t) _ (code_of d.left) (code_of d.right) after-types))

  param_byte : (j : ℕ) → j < 247 → get_or (layout t) (row_of i + 8 + j) 0 ≡ get_or (types_bytes d.params ++ (code_of d.left ++ code_of d.right)) j 0
  unfolding method_line
  param_byte j h =
      let z : 8 + j ≡ suc (suc (suc (suc (suc (suc (suc (suc j))))))) = omega arith in
      ap (λ (x : ℕ). get_or (layout t) x 0) (let y : row_of i + 8 + j ≡ row_of i + (8 + j) = omega arith in y)
      ∙ row-byte (8 + j) (omega arith)
      ∙ rw (ne_eqb (8 + j) 255 (λ w. omega arith), z)

  -- parameter k's type
  pub param_type_at : (k : ℕ) (u : Ty) → k < 100 → get_elem? d.params k ≡ some u → type_at (layout t) (row_of i + 8 + 2 * k) ≡ bytes_of u
  param_type_at k u h q =
      let w = types_at d.params (code_of d.left ++ code_of d.right) k u q in
      same_type (param_byte (2 * k) (omega arith) ∙ w.0)
      (ap (λ (x : ℕ). get_or (layout t) x 0) (let z : row_of i + 8 + 2 * k + 1 ≡ row_of i + 8 + (2 * k + 1) = omega arith in z) ∙ param_byte (2 * k + 1) (omega arith) ∙ w.1)

-- ---- the parts of main
module _ (t : Table) where
  pub input_size_at : get_or (layout t) main_at 0 ≡ input_size t.input
  input_size_at = main_zone t 0 (omega arith)

  -- the line's bytes after its first, where there are at most 255
  module _ (short : length (main_line t.input t.main) ≤ line_size) where
    pub main_line_stands : Stands (layout t) (main_at + 1) (rest (main_line t.input t.main))
    main_line_stands = go (main_line t.input t.main) refl
      where
        go : (l : List ℕ) → main_line t.input t.main ≡ l → Stands (layout t) (main_at + 1) (rest l)
        go [] q = record { byte = λ k h. absurd (not-suc-le-zero h) }
        go (b ∷ bs) q = record {
          byte = λ k h.
              let z = ap length q in
              ap (λ (x : ℕ). get_or (layout t) x 0) (let w : main_at + 1 + k ≡ main_at + suc k = omega arith in w)
              ∙ main_zone t (suc k) (omega arith)
              ∙ rw (ne_eqb (suc k) 255 (λ w. omega arith), q);
        }

    pub main_stands : Stands (layout t) (main_place (layout t)) (code_of t.main)
    main_stands = rw input_size_at (go t.input main_line_stands)
      where
        go : (i : Option Ty) → Stands (layout t) (main_at + 1) (rest (main_line i t.main)) → Stands (layout t) (main_at + 1 + input_size i) (code_of t.main)
        go none s = s
        go (some u) s = stands_after (layout t) (main_at + 1) (u.cls ∷ u.tag ∷ []) (code_of t.main) s

  pub input_at : input_type (layout t) ≡ found_type t.input
  input_at = rw input_size_at (go t.input (λ j l. main_zone t j l))
    where
      go : (i : Option Ty) → ((j : ℕ) → j < long_size → get_or (layout t) (main_at + j) 0 ≡ long_byte (input_size i) (main_line i t.main) j)
          → pick (eqb (input_size i) 0) None (Some (type_at (layout t) (main_at + 1))) ≡ found_type i
      go none f = refl
      go (some u) f = ap {B = RustOption FieldType} Some (same_type (f 1 (omega arith)) (f 2 (omega arith)))
