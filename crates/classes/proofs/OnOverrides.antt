-- On a table's bytes the test of overriding is the language's.
use Rattle.std.proofs.Common.{ℕ, zero, suc, ◌+◌, ◌*◌, ◌%◌, ◌<◌, ◌≤◌, arith, ◌≡◌, refl, sym, ap, ap₂, ◌∙◌, Bool, true, false, ◌&&◌, List, [], ◌∷◌, ◌++◌, eqb, length, eqb-true}
use Rattle.std.proofs.Math.Option.{Option, some}
use Rattle.std.proofs.Math.ListN.{get_elem?}
use borrow.Author.Tests.{eqb-false}
use Rattle.cofj.specs.Limits.{class_count, method_count, param_count, line_size}
use Rattle.cofj.specs.Syntax.{Ty, Method, Table, eq_ty, eq_tys}
use Rattle.cofj.specs.Classes.{parent_of}
use Rattle.cofj.specs.Lookup as language
use Rattle.cofj.specs.Tables.{same_types, overrides_good}
use Rattle.cofj.specs.Writing.{code_of, types_bytes, method_line}
use Rattle.cofj.specs.WellFormed.{AllMethods}
use Rattle.cofj.proofs.Chain.{ParentsSmaller}
use Rattle.cofj.proofs.Lookup.{owned_of}
use Rattle.std.specs.declared.option.Option.{Option as RustOption}
use Rattle.classes.specs.declared.methods.Found.{Found}
use Rattle.classes.specs.Machine.{row_of}
use Rattle.classes.specs.Layout.{layout, Stands, Finds, at, nothing}
use Rattle.classes.specs.Overriding.{same_from, same_as, same_found, same_above, overrides_in, overrides_of}
use Rattle.classes.proofs.Lists.{index_below, method_at}
use Rattle.classes.proofs.Zones.{parent_at, method_count_at_lem, owner_at, name_at, param_count_at, line_stands, stands_moved, stands_front, stands_first, stands_rest}
use Rattle.classes.proofs.MethodLines.{and_assoc}
use Rattle.classes.proofs.Laws.{parent_row}
use Rattle.classes.proofs.OnTables.{lookup_of_lem}

-- ---- bytes that stand at two places
same_first : (B : List ℕ) (a b x y k : ℕ) (xs ys : List ℕ) → Stands B a (x ∷ xs) → Stands B b (y ∷ ys) → same_from B a b (suc k) ≡ eqb x y && same_from B (a + 1) (b + 1) k
unfolding same_from
same_first B a b x y k xs ys p q = rw (stands_first B a x xs p, stands_first B b y ys q)

-- types, as many at one place as at the other
same_tys : (B : List ℕ) (us vs : List Ty) (a b : ℕ) → Stands B a (types_bytes us) → Stands B b (types_bytes vs) → length us ≡ length vs → same_from B a b (2 * length us) ≡ eq_tys us vs
unfolding same_from
same_tys B [] [] a b p q e = refl
same_tys B [] (v ∷ vs) a b p q e = absurd (omega arith)
same_tys B (u ∷ us) [] a b p q e = absurd (omega arith)
same_tys B (u ∷ us) (v ∷ vs) a b p q e =
    let p1 = stands_rest B a u.cls (u.tag ∷ types_bytes us) p in
    let q1 = stands_rest B b v.cls (v.tag ∷ types_bytes vs) q in
    let p2 = stands_rest B (a + 1) u.tag (types_bytes us) p1 in
    let q2 = stands_rest B (b + 1) v.tag (types_bytes vs) q1 in
    let z : 2 * suc (length us) ≡ suc (suc (2 * length us)) = omega arith in
    ap (λ (k : ℕ). same_from B a b k) z
    ∙ same_first B a b u.cls v.cls (suc (2 * length us)) _ _ p q
    ∙ ap (λ (t : Bool). eqb u.cls v.cls && t) (same_first B (a + 1) (b + 1) u.tag v.tag (2 * length us) _ _ p1 q1 ∙ ap (λ (t : Bool). eqb u.tag v.tag && t) (same_tys B us vs (a + 1 + 1) (b + 1 + 1) p2 q2 (omega arith)))
    ∙ sym (and_assoc (eqb u.cls v.cls) (eqb u.tag v.tag) (eq_tys us vs))

tys_length : (us vs : List Ty) → (length us ≡ length vs → ⊥) → eq_tys us vs ≡ false
tys_length [] [] h = absurd (h refl)
tys_length [] (v ∷ vs) h = refl
tys_length (u ∷ us) [] h = refl
tys_length (u ∷ us) (v ∷ vs) h = ap (λ (t : Bool). eq_ty u v && t) (tys_length us vs (λ e. h (ap suc e))) ∙ and_false (eq_ty u v)
  where
    and_false : (b : Bool) → b && false ≡ false
    and_false true = refl
    and_false false = refl

-- ---- what a method of a table that was read has
pub record Shaped (d : Method) : Type 0 where
  pub owned : 1 ≤ d.owner
  pub owner : d.owner ≤ class_count
  pub name : d.name < 256
  pub params : length d.params ≤ param_count
  pub short : length (method_line d) ≤ line_size

module _ (t : Table) (parents : ParentsSmaller t.classes) (shaped : AllMethods Shaped t.methods) (few : length t.methods ≤ method_count) where
  abbrev B : List ℕ
  B = layout t

  -- the bytes of a method's types
  abbrev types : Method → List ℕ
  types d = types_bytes d.params ++ (code_of d.left ++ code_of d.right)

  types_stand : (i : ℕ) (d : Method) → get_elem? t.methods i ≡ some d
      → Stands B (row_of i + 3) (d.first.cls ∷ d.first.tag ∷ d.second.cls ∷ d.second.tag ∷ length d.params ∷ types d)
  unfolding method_line
  types_stand i d e =
      let l = index_below t.methods i d e in
      let s = line_stands t i d (omega arith) e (method_at Shaped t.methods i d shaped e).short in
      let a = stands_rest B (row_of i + 1) d.owner _ s in
      let b = stands_rest B (row_of i + 1 + 1) d.name _ a in
      stands_moved B _ _ _ (let z : row_of i + 1 + 1 + 1 ≡ row_of i + 3 = omega arith in z) b

  -- the count and the types of the parameters
  same_params : (a b : ℕ) (d d' : Method) → Stands B a (types d) → Stands B b (types d')
      → eqb (length d.params) (length d'.params) && same_from B a b (2 * length d.params) ≡ eq_tys d.params d'.params
  same_params a b d d' p q = go (eqb (length d.params) (length d'.params)) refl
    where
      go : (x : Bool) → eqb (length d.params) (length d'.params) ≡ x → x && same_from B a b (2 * length d.params) ≡ eq_tys d.params d'.params
      go true e =
          same_tys B d.params d'.params a b (stands_front B a (types_bytes d.params) (code_of d.left ++ code_of d.right) p)
          (stands_front B b (types_bytes d'.params) (code_of d'.left ++ code_of d'.right) q) (eqb-true (length d.params) (length d'.params) e)
      go false e = sym (tys_length d.params d'.params (eqb-false (length d.params) (length d'.params) e))

  -- five bytes and the rest
  same_five : (a b k : ℕ) (x1 x2 x3 x4 x5 y1 y2 y3 y4 y5 : ℕ) (xs ys : List ℕ) → Stands B a (x1 ∷ x2 ∷ x3 ∷ x4 ∷ x5 ∷ xs) → Stands B b (y1 ∷ y2 ∷ y3 ∷ y4 ∷ y5 ∷ ys)
      → same_from B a b (suc (suc (suc (suc (suc k))))) ≡ ((eqb x1 y1 && eqb x2 y2) && (eqb x3 y3 && eqb x4 y4)) && (eqb x5 y5 && same_from B (a + 1 + 1 + 1 + 1 + 1) (b + 1 + 1 + 1 + 1 + 1) k)
  same_five a b k x1 x2 x3 x4 x5 y1 y2 y3 y4 y5 xs ys p q =
      let p1 = stands_rest B a x1 (x2 ∷ x3 ∷ x4 ∷ x5 ∷ xs) p in
      let q1 = stands_rest B b y1 (y2 ∷ y3 ∷ y4 ∷ y5 ∷ ys) q in
      let p2 = stands_rest B (a + 1) x2 (x3 ∷ x4 ∷ x5 ∷ xs) p1 in
      let q2 = stands_rest B (b + 1) y2 (y3 ∷ y4 ∷ y5 ∷ ys) q1 in
      let p3 = stands_rest B (a + 1 + 1) x3 (x4 ∷ x5 ∷ xs) p2 in
      let q3 = stands_rest B (b + 1 + 1) y3 (y4 ∷ y5 ∷ ys) q2 in
      let p4 = stands_rest B (a + 1 + 1 + 1) x4 (x5 ∷ xs) p3 in
      let q4 = stands_rest B (b + 1 + 1 + 1) y4 (y5 ∷ ys) q3 in
      rw (
        same_first B a b x1 y1 (suc (suc (suc (suc k)))) _ _ p q,
        same_first B (a + 1) (b + 1) x2 y2 (suc (suc (suc k))) _ _ p1 q1,
        same_first B (a + 1 + 1) (b + 1 + 1) x3 y3 (suc (suc k)) _ _ p2 q2,
        same_first B (a + 1 + 1 + 1) (b + 1 + 1 + 1) x4 y4 (suc k) _ _ p3 q3,
        same_first B (a + 1 + 1 + 1 + 1) (b + 1 + 1 + 1 + 1) x5 y5 k _ _ p4 q4,
      )
      (regroup (eqb x1 y1) (eqb x2 y2) (eqb x3 y3) (eqb x4 y4) (eqb x5 y5 && same_from B (a + 1 + 1 + 1 + 1 + 1) (b + 1 + 1 + 1 + 1 + 1) k))
    where
      regroup : (e1 e2 e3 e4 z : Bool) → e1 && (e2 && (e3 && (e4 && z))) ≡ ((e1 && e2) && (e3 && e4)) && z
      regroup false e2 e3 e4 z = refl
      regroup true false e3 e4 z = refl
      regroup true true e3 e4 z = sym (and_assoc e3 e4 z)

  same_methods : (i j o : ℕ) (d d' : Method) → get_elem? t.methods i ≡ some d → get_elem? t.methods j ≡ some d' → same_as B i j ≡ same_types d (some (language.found_in o d'))
  unfolding same_as
  same_methods i j o d d' e e' =
      let l = index_below t.methods i d e in
      let s = method_at Shaped t.methods i d shaped e in
      let h = s.params in
      let z : 5 + 2 * (length d.params % 4) ≡ suc (suc (suc (suc (suc (2 * length d.params))))) = omega arith in
      let p = types_stand i d e in
      let q = types_stand j d' e' in
      let five = same_five (row_of i + 3) (row_of j + 3) (2 * length d.params) d.first.cls d.first.tag d.second.cls d.second.tag (length d.params)
      d'.first.cls d'.first.tag d'.second.cls d'.second.tag (length d'.params) (types d) (types d') p q in
      rw (param_count_at t i d (omega arith) e, z)
      (five ∙ ap (λ (x : Bool). (eq_ty d.first d'.first && eq_ty d.second d'.second) && x) (same_params (row_of i + 3 + 1 + 1 + 1 + 1 + 1) (row_of j + 3 + 1 + 1 + 1 + 1 + 1) d d' (after (row_of i + 3) d p) (after (row_of j + 3) d' q)))
    where
      after : (a : ℕ) (c : Method) → Stands B a (c.first.cls ∷ c.first.tag ∷ c.second.cls ∷ c.second.tag ∷ length c.params ∷ types c) → Stands B (a + 1 + 1 + 1 + 1 + 1) (types c)
      after a c w =
          stands_rest B (a + 1 + 1 + 1 + 1) _ _ (stands_rest B (a + 1 + 1 + 1) _ _ (stands_rest B (a + 1 + 1) _ _ (stands_rest B (a + 1) _ _ (stands_rest B a _ _ w))))

  same_found_lem : (i : ℕ) (d : Method) → get_elem? t.methods i ≡ some d → (r : RustOption Found) (o : Option language.Found) → Finds t.methods r o → same_found B i r ≡ same_types d o
  same_found_lem i d e r o (at {o = a} {i = j} {d = d'} e') = same_methods i j a d d' e e'
  same_found_lem i d e r o nothing = refl

  above_is : (i : ℕ) (d : Method) → get_elem? t.methods i ≡ some d → same_above B i ≡ same_types d (language.lookup t (parent_of t.classes d.owner) d.name)
  unfolding same_above
  above_is i d e =
      let s = method_at Shaped t.methods i d shaped e in
      let l = index_below t.methods i d e in
      let p = parent_small d.owner s.owner in
      rw (owner_at t i d (omega arith) e, name_at t i d (omega arith) e, sym (parent_row B d.owner s.owner) ∙ parent_at t d.owner s.owner)
      (same_found_lem i d e _ _ (lookup_of_lem t parents (owned_of Shaped t.methods (λ d h. h.owned) shaped) d.name s.name (parent_of t.classes d.owner) p))
    where
      parent_small : (c : ℕ) → c ≤ class_count → parent_of t.classes c ≤ class_count
      parent_small zero h = h
      parent_small (suc k) h = let p = parents k in omega arith

  all_from : (ds : List Method) (i : ℕ) → ((k : ℕ) → get_elem? t.methods (i + k) ≡ get_elem? ds k) → overrides_in B (length ds) i ≡ overrides_good t ds
  unfolding overrides_in overrides_good
  all_from [] i h = refl
  all_from (d ∷ ds) i h =
      ap₂ ◌&&◌ (above_is i d (ap (λ (k : ℕ). get_elem? t.methods k) (let z : i ≡ i + 0 = omega arith in z) ∙ h 0))
      (all_from ds (i + 1) (λ k. ap (λ (x : ℕ). get_elem? t.methods x) (let z : i + 1 + k ≡ i + suc k = omega arith in z) ∙ h (suc k)))

  pub overrides_on : overrides_of B ≡ overrides_good t t.methods
  overrides_on =
      ap (λ (k : ℕ). overrides_in B k 0) (method_count_at_lem t)
      ∙ all_from t.methods 0 (λ k. ap (λ (x : ℕ). get_elem? t.methods x) (let z : 0 + k ≡ k = omega arith in z))
