-- On the bytes of a well-formed table the functions give the language's class fit, fields and lookup.
use Rattle.std.proofs.Common.{ℕ, zero, suc, ◌+◌, ◌-◌, ◌*◌, ◌<◌, ◌≤◌, not-suc-le-zero, arith, ◌≡◌, refl, sym, ap, ◌∙◌, subst, Bool, true, false, ◌||◌, List, [], ◌∷◌, ◌++◌, eqb, leb, ltb, length, get_or, length-append, Some, None, le-ltb, le-leb, eqb-true, leb-true, leb-false, ltb-true, ltb-false, ne_eqb}
use Rattle.std.proofs.Math.Option.{Option, none, some, none-ne-some}
use Rattle.std.proofs.Math.ListN.{get_elem?}
use borrow.Author.Tests.{lt-leb}
use Rattle.cofj.specs.Limits.{class_count, field_count, number_class}
use Rattle.cofj.specs.Syntax.{Ty, Class, Method, Table}
use Rattle.cofj.specs.Classes.{parent_or0, parent_of, class_at, own_or_none, chain_has, class_fits, fields_to, fields_of}
use Rattle.cofj.specs.Lookup as language
use Rattle.cofj.specs.Lookup.{found_in, method_of, lookup_to, lookup}
use Rattle.cofj.specs.Finding.{place_of}
use Rattle.cofj.specs.WellFormed.{AllMethods, WellFormed, MethodFormed}
use Rattle.cofj.proofs.Chain.{ParentsSmaller, parent_le, past_fits}
use Rattle.cofj.proofs.Climb.{fields_past}
use Rattle.cofj.proofs.Findings.{place_at}
use Rattle.cofj.proofs.Lookup.{own, found_own, Owned, owned, none_at_0, lookup_object, lookup_past as past-lookup}
use Rattle.std.specs.declared.option.Option.{Option as RustOption}
use Rattle.classes.specs.declared.chain.FieldType.{FieldType}
use Rattle.classes.specs.declared.methods.Found.{Found}
use Rattle.classes.specs.Machine.{pick, found_at, up, total_of, type_at, fits_in, fits_of, own_field, field_in, field_of, numbered, own_of, or_else, lookup_in, lookup_of, row_of}
use Rattle.classes.specs.Layout.{layout, found_type, Finds, at, nothing}
use Rattle.classes.proofs.Lists.{at_front, at_after, past, within, index_below, index_is}
use Rattle.classes.proofs.Laws.{parent_row, total_past, total_row, fits_zero, fit_past, field_past, lookup_stop, lookup_past}
use Rattle.classes.proofs.Zones.{parent_at, total_at, own_count_at, own_type_at, index_zone, owner_at}

-- ---- Object, in the language
chain_object : (cs : List Class) (n d : ℕ) → chain_has n cs 0 d ≡ eqb 0 d
unfolding chain_has
chain_object cs zero d = refl
chain_object cs (suc n) d = go (eqb 0 d)
  where
    go : (b : Bool) → ◌≡◌ {A = Bool} (elim b [ true ↦ true | false ↦ false ]) b
    go true = refl
    go false = refl

-- a class of the table, and then its parent
chain_step : (cs : List Class) (n k d : ℕ) (x : Class) → class_at cs (suc k) ≡ some x → chain_has (suc n) cs (suc k) d ≡ pick (eqb (suc k) d) true (chain_has n cs (parent_of cs (suc k)) d)
unfolding chain_has
chain_step cs n k d x e = go (eqb (suc k) d) (class_at cs (suc k)) e
  where
    go : (b : Bool) (o : Option Class) → o ≡ some x
        → ◌≡◌ {A = Bool} (elim b [ true ↦ true | false ↦ elim o [ none ↦ false | some y ↦ chain_has n cs y.parent d ] ]) (pick b true (chain_has n cs (parent_or0 o) d))
    go true o q = refl
    go false none q = absurd (none-ne-some x q)
    go false (some y) q = refl

pub fields_object : (cs : List Class) (n : ℕ) → fields_to n cs 0 ≡ []
unfolding fields_to
fields_object cs zero = refl
fields_object cs (suc n) = ap (λ (l : List Ty). l ++ []) (fields_object cs n)

pub fields_enough : (cs : List Class) → ParentsSmaller cs → (n m c : ℕ) → c ≤ n → c ≤ m → fields_to n cs c ≡ fields_to m cs c
unfolding fields_to
fields_enough cs s zero m c p q = let e : c ≡ 0 = omega arith in rw e (sym (fields_object cs m))
fields_enough cs s (suc n) zero c p q = let e : c ≡ 0 = omega arith in rw e (fields_object cs (suc n))
fields_enough cs s (suc n) (suc m) c p q =
    ap (λ (l : List Ty). l ++ own_or_none (class_at cs c)) (fields_enough cs s n m (parent_of cs c) (parent_le cs s c n p) (parent_le cs s c m q))

-- a class of the table, or the class byte of numbers
abbrev pub Known : Table → ℕ → Type 0
Known t c = (leb c (length t.classes) || eqb c number_class) ≡ true

pub class_known : (t : Table) (c : ℕ) → c ≤ length t.classes → Known t c
class_known t c h = rw (le-leb c (length t.classes) h)

module _ (t : Table) (parents : ParentsSmaller t.classes) where
  -- the parent of class k + 1 in bytes
  up_is : (k : ℕ) → suc k ≤ class_count → up (layout t) (suc k) ≡ parent_of t.classes (suc k)
  up_is k h = sym (parent_row (layout t) (suc k) h) ∙ parent_at t (suc k) h

  -- ---- class fit
  module _ (few : length t.classes ≤ class_count) where
    fit_in : (n c d : ℕ) → c ≤ length t.classes → fits_in (layout t) n c d ≡ chain_has n t.classes c d
    unfolding fits_in chain_has
    fit_in zero c d h = refl
    fit_in (suc n) zero d h = fits_zero (layout t) (suc n) d ∙ sym (chain_object t.classes (suc n) d)
    fit_in (suc n) (suc k) d h =
        let w = within t.classes k (omega arith) in
        let p = parents k in
        rw (up_is k (omega arith), lt-leb (suc k) (parent_of t.classes (suc k)) (omega arith))
        (ap (λ (x : Bool). pick (eqb (suc k) d) true x) (fit_in n (parent_of t.classes (suc k)) d (omega arith)) ∙ sym (chain_step t.classes n k d w.0 w.1))

module _ (t : Table) (wf : WellFormed t) where
  pub fit_on : (c d : ℕ) → Known t c → fits_of (layout t) c d ≡ class_fits t.classes c d
  fit_on c d h = go (leb c (length t.classes)) refl h
    where
      go : (b : Bool) → leb c (length t.classes) ≡ b → b || eqb c number_class ≡ true → fits_of (layout t) c d ≡ class_fits t.classes c d
      go true q z = fit_in t wf.parents wf.classes c c d (leb-true c (length t.classes) q)
      go false q z =
          let e = eqb-true c number_class z in
          fit_past (layout t) c d (omega arith) ∙ sym (past_fits t.classes c d (leb-false c (length t.classes) q))

  -- ---- fields
  total_row_at : (c : ℕ) → c ≤ class_count → total_of (layout t) c ≡ length (fields_of t.classes c)
  total_row_at c h = sym (total_row (layout t) c h) ∙ total_at t c h

  own_few : (c : ℕ) → length (own_or_none (class_at t.classes c)) ≤ field_count
  unfolding fields_to
  own_few zero = omega arith
  own_few (suc k) = go (leb (suc k) (length t.classes)) refl
    where
      past_all : (cs : List Class) (j : ℕ) → length cs ≤ j → own_or_none (get_elem? cs j) ≡ []
      past_all [] j h = refl
      past_all (c ∷ cs) zero h = absurd (not-suc-le-zero h)
      past_all (c ∷ cs) (suc j) h = past_all cs j (omega arith)

      go : (b : Bool) → leb (suc k) (length t.classes) ≡ b → length (own_or_none (class_at t.classes (suc k))) ≤ field_count
      go true q =
          let l = wf.fields (suc k) (leb-true (suc k) (length t.classes) q) in
          let e = length-append (fields_to k t.classes (parent_of t.classes (suc k))) (own_or_none (class_at t.classes (suc k))) in
          omega arith
      go false q = let l = leb-false (suc k) (length t.classes) q in rw (past_all t.classes k (omega arith)) (omega arith)

  own_field_lem : (c j : ℕ) → c ≤ class_count → own_field (layout t) c j ≡ found_type (get_elem? (own_or_none (class_at t.classes c)) j)
  own_field_lem c j h = rw (own_count_at t c h) (go (leb (length us) j) refl)
    where
      us : List Ty
      us = own_or_none (class_at t.classes c)

      go : (b : Bool) → leb (length us) j ≡ b → pick b None (Some (type_at (layout t) (16 * c + 3 + 2 * j))) ≡ found_type (get_elem? us j)
      go true q = rw (past us j (leb-true (length us) j q))
      go false q =
          let l = leb-false (length us) j q in
          let w = within us j l in
          let f = own_few c in
          rw w.1 (ap {B = RustOption FieldType} Some (own_type_at t c j w.0 h (omega arith) w.1))

  field_in_lem : (n c f : ℕ) → c ≤ n → c ≤ class_count → field_in (layout t) n c f ≡ found_type (get_elem? (fields_to n t.classes c) f)
  unfolding field_in fields_to
  field_in_lem zero c f l h = refl
  field_in_lem (suc n) zero f l h = rw (le-leb 0 (up (layout t) 0) (omega arith), fields_object t.classes n)
  field_in_lem (suc n) (suc k) f l h =
      let p = wf.parents k in
      let q = parent_of t.classes (suc k) in
      rw (up_is t wf.parents k h, lt-leb (suc k) q (omega arith), total_row_at q (omega arith), fields_enough t.classes wf.parents q n q (omega arith) (omega arith))
      (go (ltb f (length (fields_to n t.classes q))) refl (field_in_lem n q f (omega arith) (omega arith)))
    where
      above : List Ty
      above = fields_to n t.classes (parent_of t.classes (suc k))

      own : List Ty
      own = own_or_none (class_at t.classes (suc k))

      go : (b : Bool) → ltb f (length above) ≡ b → field_in (layout t) n (parent_of t.classes (suc k)) f ≡ found_type (get_elem? above f)
          → pick b (field_in (layout t) n (parent_of t.classes (suc k)) f) (own_field (layout t) (suc k) (f - length above)) ≡ found_type (get_elem? (above ++ own) f)
      go true e ih = rw (at_front above own f (ltb-true f (length above) e)) ih
      go false e ih = rw (at_after above own f (ltb-false f (length above) e)) (own_field_lem (suc k) (f - length above) h)

  -- a class byte past the rows has no fields
  none_past : (c : ℕ) → class_count < c → fields_of t.classes c ≡ []
  none_past c h = let l = wf.classes in fields_past t.classes wf.parents c (omega arith)

  pub total_on : (c : ℕ) → total_of (layout t) c ≡ length (fields_of t.classes c)
  total_on c = go (leb c class_count) refl
    where
      go : (b : Bool) → leb c class_count ≡ b → total_of (layout t) c ≡ length (fields_of t.classes c)
      go true q = total_row_at c (leb-true c class_count q)
      go false q = let h = leb-false c class_count q in sym (total_past (layout t) c h) ∙ ap length (sym (none_past c h))

  pub field_on : (c f : ℕ) → field_of (layout t) c f ≡ found_type (get_elem? (fields_of t.classes c) f)
  field_on c f = go (leb c class_count) refl
    where
      go : (b : Bool) → leb c class_count ≡ b → field_of (layout t) c f ≡ found_type (get_elem? (fields_of t.classes c) f)
      go true q = field_in_lem c c f (omega arith) (leb-true c class_count q)
      go false q =
          let h = leb-false c class_count q in
          field_past (layout t) c f h ∙ ap (λ (us : List Ty). found_type (get_elem? us f)) (sym (none_past c h))

-- ---- methods
-- the byte search's answer for what the language's search for the name m finds
abbrev pub found_as : Table → ℕ → Option language.Found → RustOption Found
found_as t m none = None
found_as t m (some f) = Some (found_at f.owner (place_of t.methods f.owner m))

-- a method that class c has itself
abbrev own_in : ℕ → Option Method → Option language.Found
own_in c none = none
own_in c (some d) = some (found_in c d)

module _ (t : Table) (parents : ParentsSmaller t.classes) (owned : AllMethods Owned t.methods) (m : ℕ) (small : m < 256) where
  own_as : (c : ℕ) → c ≤ class_count → own_of (layout t) c m ≡ found_as t m (own_in c (method_of t.methods c m))
  own_as c h = rw (le-ltb 32 c h, index_zone t c m h small, index_is 0 t.methods c m) (go (method_of t.methods c m))
    where
      go : (o : Option Method) → numbered c (elim o as (λ _. ℕ) [ none ↦ 0 | some d ↦ suc (0 + place_of t.methods c m) ]) ≡ found_as t m (own_in c o)
      go none = refl
      go (some d) = let p = place_of t.methods c m in let q : suc (0 + p) - 1 ≡ p = omega arith in rw (ne_eqb (suc (0 + p)) 0 (λ z. omega arith), q)

  -- Object has none
  object_as : (n : ℕ) → lookup_in (layout t) n 0 m ≡ found_as t m (lookup_to n t 0 m)
  object_as n =
      lookup_stop (layout t) n 0 m (omega arith)
      ∙ own_as 0 (omega arith)
      ∙ rw (none_at_0 t owned m, lookup_object t owned n m)

  lookup_as : (n c : ℕ) → c ≤ n → c ≤ class_count → lookup_in (layout t) n c m ≡ found_as t m (lookup_to n t c m)
  unfolding lookup_in lookup_to
  lookup_as zero c l h = let e : c ≡ 0 = omega arith in rw e (object_as 0)
  lookup_as (suc n) zero l h = object_as (suc n)
  lookup_as (suc n) (suc k) l h =
      let p = parents k in
      rw (own_as (suc k) h, up_is t parents k h, lt-leb (suc k) (parent_of t.classes (suc k)) (omega arith))
      (go (method_of t.methods (suc k) m) (lookup_as n (parent_of t.classes (suc k)) (omega arith) (omega arith)))
    where
      go : (o : Option Method) → lookup_in (layout t) n (parent_of t.classes (suc k)) m ≡ found_as t m (lookup_to n t (parent_of t.classes (suc k)) m)
          → or_else (found_as t m (own_in (suc k) o)) (lookup_in (layout t) n (parent_of t.classes (suc k)) m)
          ≡ found_as t m (elim o as (λ _. Option language.Found) [ none ↦ lookup_to n t (parent_of t.classes (suc k)) m | some d ↦ some (found_in (suc k) d) ])
      go none ih = ih
      go (some d) ih = refl

-- the same as a relation
finds_as : (t : Table) (c m : ℕ) → Finds t.methods (found_as t m (lookup t c m)) (lookup t c m)
finds_as t c m = go (lookup t c m) refl
  where
    go : (o : Option language.Found) → lookup t c m ≡ o → Finds t.methods (found_as t m o) o
    go none q = nothing
    go (some f) q = at (place_at t.methods f.owner m f.body (found_own t c c m f q))

pub lookup_of_lem : (t : Table) → ParentsSmaller t.classes → AllMethods Owned t.methods → (m : ℕ) → m < 256 → (c : ℕ) → c ≤ class_count
    → Finds t.methods (lookup_of (layout t) c m) (lookup t c m)
lookup_of_lem t parents owned m small c h = rw (lookup_as t parents owned m small c c (omega arith) h) (finds_as t c m)

-- ---- a table that was read
module _ (t : Table) (wf : WellFormed t) (m : ℕ) (small : m < 256) (c : ℕ) where
  pub found_on : lookup_of (layout t) c m ≡ found_as t m (lookup t c m)
  found_on = go (leb c class_count) refl
    where
      go : (b : Bool) → leb c class_count ≡ b → lookup_of (layout t) c m ≡ found_as t m (lookup t c m)
      go true q =
          lookup_as t wf.parents (owned t wf) m small c c (omega arith) (leb-true c class_count q)
      go false q =
          let h = leb-false c class_count q in
          let l = wf.classes in
          rw (lookup_past (layout t) c m h, past-lookup t wf c m (omega arith))

  pub lookup_on : Finds t.methods (lookup_of (layout t) c m) (lookup t c m)
  lookup_on = rw found_on (finds_as t c m)

  -- the class where the search stops is the owner that the method's row names
  pub row_owner : (o i : ℕ) → lookup_of (layout t) c m ≡ Some (found_at o i) → get_or (layout t) (row_of i + 1) 0 ≡ o
  row_owner o i e = subst Named (sym found_on ∙ e) (go (lookup t c m) refl)
    where
      Named : RustOption Found → Type 0
      Named (Some g) = get_or (layout t) (row_of g.method + 1) 0 ≡ g.owner
      Named None = Unit {0}

      go : (o : Option language.Found) → lookup t c m ≡ o → Named (found_as t m o)
      go none q = tt
      go (some f) q =
          let d = found_own t c c m f q in
          let p = place_at t.methods f.owner m f.body d in
          let l = index_below t.methods (place_of t.methods f.owner m) f.body p in
          let k = wf.count in
          owner_at t (place_of t.methods f.owner m) f.body (omega arith) p ∙ (own (MethodFormed t) t.methods wf.methods f.owner m f.body d).1
