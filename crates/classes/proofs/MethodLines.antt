-- The method lines of a text into a table: the language's rules of methods, the rows and the index.
use Rattle.std.proofs.Common.{ℕ, suc, ◌+◌, ◌*◌, ◌<◌, ◌≤◌, arith, ◌≡◌, refl, sym, ap, ap₂, ◌∙◌, Bool, true, false, ◌&&◌, ◌||◌, not, true≢false, List, [], ◌∷◌, ◌++◌, append_assoc, append-nil, eqb, leb, length, get_or, drop, length-append, Some, None, eqb-true, eq-eqb, ne_eqb, le-leb, le-ltb}
use Rattle.std.proofs.Math.Bool.{false≢true}
use Rattle.std.proofs.Math.Option.{some}
use Rattle.std.proofs.Math.ListN.{get_elem?}
use Rattle.std.proofs.Math.Seq.{drop-append_seam}
use borrow.Author.Tests.{eqb-false}
use Rattle.cofj.specs.Limits.{class_count, method_count, line_size}
use Rattle.cofj.specs.Syntax.{Operation, sum, difference, Expr, this, res, param, field, call, new, literal, combine, choose, Exprs, done, also, Class, Method}
use Rattle.cofj.specs.Typing.{closed_tag, all_closed}
use Rattle.cofj.specs.Tables.{known, all_known, expr_known, exprs_known, has_name, methods_good}
use Rattle.cofj.specs.Writing.{operation_sign, code_of, codes_of, types_bytes, method_line, method_lines}
use Rattle.cofj.specs.WellFormed.{AllMethods}
use Rattle.cofj.proofs.Partial.{and_true, or_false}
use Rattle.cofj.proofs.Passed.{method_rules, method_ruled}
use Rattle.lineform.specs.Signs.{sign_row}
use Rattle.lineform.specs.Packed.{packed}
use Rattle.classes.specs.Machine.{pick, numbered, own_of}
use Rattle.classes.specs.Layout.{index_from, right_place, filled}
use Rattle.classes.specs.Placing.{scan, method_good, Placed, placed, method_free, method_placed}
use Rattle.classes.specs.Building.{walked, onward, lines_placed}
use Rattle.classes.proofs.Zones.{length_types, filled_index}
use Rattle.classes.proofs.FillingMethods.{is_at, method_filled}
use Rattle.classes.proofs.ClassLines.{swap, types_are, refused, Ends, ends_step, ends_moved, lines_step}

-- ---- tests in a row
pub and_assoc : (a b c : Bool) → (a && b) && c ≡ a && (b && c)
and_assoc true b c = refl
and_assoc false b c = refl

and_comm : (a b : Bool) → a && b ≡ b && a
and_comm true true = refl
and_comm true false = refl
and_comm false true = refl
and_comm false false = refl

and_right : (a b c : Bool) → (a && b) && c ≡ (a && c) && b
and_right a b c = and_assoc a b c ∙ ap (λ (x : Bool). a && x) (and_comm b c) ∙ sym (and_assoc a c b)

pub and_nil : (a : Bool) → a && true ≡ a
and_nil true = refl
and_nil false = refl

-- ---- expressions one after another
-- bytes that pass the scan as k says, and bytes after them that pass it as l says
scan_then : (n : ℕ) (xs ys r : List ℕ) (k l : Bool) → ((q : List ℕ) → scan n 0 (xs ++ q) ≡ k && scan n 0 q) → ((q : List ℕ) → scan n 0 (ys ++ q) ≡ l && scan n 0 q)
    → scan n 0 ((xs ++ ys) ++ r) ≡ (k && l) && scan n 0 r
scan_then n xs ys r k l f g =
    ap (λ (x : List ℕ). scan n 0 x) (append_assoc xs ys r) ∙ f (ys ++ r) ∙ ap (λ (b : Bool). k && b) (g r) ∙ sym (and_assoc k l (scan n 0 r))

scan_operation : (o : Operation) (n : ℕ) (r : List ℕ) → scan n 0 (operation_sign o ∷ r) ≡ scan n 0 r
unfolding scan sign_row
scan_operation sum n r = refl
scan_operation difference n r = refl

mutual
  unfolding scan sign_row code_of expr_known

  pub scan_code : (e : Expr) (n : ℕ) (r : List ℕ) → scan n 0 (code_of e ++ r) ≡ expr_known n e && scan n 0 r
  scan_code this n r = refl
  scan_code res n r = refl
  scan_code (param k) n r = refl
  scan_code (field f e) n r = scan_code e n r
  scan_code (call m e es) n r = scan_then n (code_of e) (codes_of es) r (expr_known n e) (exprs_known n es) (λ q. scan_code e n q) (λ q. scan_codes es n q)
  scan_code (new c es) n r = ap (λ (b : Bool). leb c n && b) (scan_codes es n r) ∙ sym (and_assoc (leb c n) (exprs_known n es) (scan n 0 r))
  scan_code (literal k) n r = refl
  scan_code (combine o a b) n r =
      scan_operation o n (code_of a ++ code_of b ++ r)
      ∙ scan_then n (code_of a) (code_of b) r (expr_known n a) (expr_known n b) (λ q. scan_code a n q) (λ q. scan_code b n q)
  scan_code (choose c a b) n r =
      scan_then n (code_of c) (code_of a ++ code_of b) r (expr_known n c) (expr_known n a && expr_known n b) (λ q. scan_code c n q)
      (λ q. scan_then n (code_of a) (code_of b) q (expr_known n a) (expr_known n b) (λ p. scan_code a n p) (λ p. scan_code b n p))
      ∙ ap (λ (x : Bool). x && scan n 0 r) (sym (and_assoc (expr_known n c) (expr_known n a) (expr_known n b)))

  scan_codes : (es : Exprs) (n : ℕ) (r : List ℕ) → scan n 0 (codes_of es ++ r) ≡ exprs_known n es && scan n 0 r
  scan_codes done n r = refl
  scan_codes (also e es) n r = scan_then n (code_of e) (codes_of es) r (expr_known n e) (exprs_known n es) (λ q. scan_code e n q) (λ q. scan_codes es n q)

pub scan-whole : (e : Expr) (n : ℕ) → scan n 0 (code_of e) ≡ expr_known n e
unfolding scan
scan-whole e n = ap (λ (x : List ℕ). scan n 0 x) (sym (append-nil (code_of e))) ∙ scan_code e n [] ∙ and_nil (expr_known n e)

-- ---- one method's line
module _ (d : Method) where
  abbrev code : List ℕ
  code = code_of d.left ++ code_of d.right

  drop-types : drop (8 + 2 * length d.params) (method_line d) ≡ code
  unfolding method_line
  drop-types =
      let q = length_types d.params in
      let e : 8 + 2 * length d.params ≡ suc (suc (suc (suc (suc (suc (suc (suc (length (types_bytes d.params))))))))) = omega arith in
      rw e (drop-append_seam (types_bytes d.params) code)

  pub rules_are : (n : ℕ) → method_good n (method_line d) ≡ method_rules n d
  unfolding method_good method_line
  rules_are n =
      rw (le-leb 8 (length (method_line d)) (omega arith), drop-types, types_are n d.params code, scan_code d.left n (code_of d.right), scan-whole d.right n)
      (regroup (leb 1 d.owner && leb d.owner n && known n d.first && known n d.second && closed_tag d.first.tag) (all_known n d.params) (all_closed d.params) (expr_known n d.left) (expr_known n d.right))
    where
      regroup : (x a c l r : Bool) → (x && (a && c)) && (l && r) ≡ x && a && c && l && r
      regroup x a c l r = sym (and_assoc (x && (a && c)) l r) ∙ ap (λ (b : Bool). b && l && r) (sym (and_assoc x a c))

-- what a method that was read from a line has
pub record Framed (d : Method) : Type 0 where
  pub short : length (method_line d) ≤ line_size
  pub name : d.name < 256

-- ---- names that are taken
eqb_sym : (a b : ℕ) → eqb a b ≡ eqb b a
eqb_sym a b = go (eqb b a) refl
  where
    go : (x : Bool) → eqb b a ≡ x → eqb a b ≡ x
    go true q = eq-eqb a b (sym (eqb-true b a q))
    go false q = ne_eqb a b (λ e. eqb-false b a q (sym e))

same_sym : (y d : Method) → is_at y d.owner d.name ≡ eqb d.owner y.owner && eqb d.name y.name
same_sym y d = ap₂ ◌&&◌ (eqb_sym y.owner d.owner) (eqb_sym y.name d.name)

free_index : (d : Method) (k : ℕ) (ms : List Method) → has_name d ms ≡ false → index_from k ms d.owner d.name ≡ 0
unfolding has_name index_from
free_index d k [] e = refl
free_index d k (y ∷ ms) e =
    let p = or_false (eqb d.owner y.owner && eqb d.name y.name) (has_name d ms) e in
    rw (same_sym y d, p.0) (free_index d (suc k) ms p.1)

taken_index : (d : Method) (k : ℕ) (ms : List Method) → has_name d ms ≡ true → (j : ℕ) × (index_from k ms d.owner d.name ≡ suc j)
unfolding has_name index_from
taken_index d k [] e = absurd (false≢true e)
taken_index d k (y ∷ ms) e = go (eqb d.owner y.owner && eqb d.name y.name) refl e (taken_index d (suc k) ms)
  where
    go : (b : Bool) → eqb d.owner y.owner && eqb d.name y.name ≡ b → b || has_name d ms ≡ true
        → (has_name d ms ≡ true → (j : ℕ) × (index_from (suc k) ms d.owner d.name ≡ suc j))
        → (j : ℕ) × (pick (is_at y d.owner d.name) (suc k) (index_from (suc k) ms d.owner d.name) ≡ suc j)
    go true q z ih = (k, rw (same_sym y d, q))
    go false q z ih = let r = ih z in (r.0, rw (same_sym y d, q) r.1)

-- ---- one more method
module _ (n : ℕ) (bound : n ≤ class_count) (cs : List Class) (ms : List Method) (few : length ms < method_count) (d : Method) (f : Framed d) (b : ℕ) (eb : b ≡ right_place d) where
  abbrev B : List ℕ
  B = filled 0 0 cs ms []

  own_is : d.owner ≤ n → own_of B d.owner d.name ≡ numbered d.owner (index_from 0 ms d.owner d.name)
  own_is h = rw (le-ltb 32 d.owner (omega arith), filled_index 0 0 cs ms [] d.owner d.name (omega arith) f.name)

  pub method_bad : method_rules n d && not (has_name d ms) ≡ false → method_placed (method_line d) (length ms) b n B ≡ placed false B
  unfolding method_placed method_line
  method_bad e = rw (rules_are d n) (go (method_rules n d) refl (has_name d ms) refl e)
    where
      go : (x : Bool) → method_rules n d ≡ x → (y : Bool) → has_name d ms ≡ y → x && not y ≡ false
          → pick x (method_free (method_line d) (length ms) b B (own_of B d.owner d.name)) (placed false B) ≡ placed false B
      go false p y q z = refl
      go true p false q z = absurd (true≢false z)
      go true p true q z =
          let t = taken_index d 0 ms q in
          rw (own_is (method_ruled n d p).owner, t.1, ne_eqb (suc t.0) 0 (λ w. omega arith))

  pub method_good_lem : method_rules n d && not (has_name d ms) ≡ true → method_placed (method_line d) (length ms) b n B ≡ placed true (filled 0 0 cs (ms ++ (d ∷ [])) [])
  unfolding method_placed method_line
  method_good_lem e =
      let a = and_true (method_rules n d) (not (has_name d ms)) e in
      let h = (method_ruled n d a.0).owner in
      let z = free_index d 0 ms (not_is (has_name d ms) a.1) in
      rw (rules_are d n, a.0, own_is h, z, eb) (ap (λ (x : List ℕ). placed true x) (method_filled cs ms d few (omega arith) f.name f.short z))
    where
      not_is : (b : Bool) → not b ≡ true → b ≡ false
      not_is true w = absurd (false≢true w)
      not_is false w = refl

-- ---- names, between the methods that are there and those that come
-- no method of the first list has its owner and name again in the second
unfoldable pub none_in : List Method → List Method → Bool
none_in [] ds = true
none_in (m ∷ ms) ds = not (has_name m ds) && none_in ms ds

not_or : (a b : Bool) → not (a || b) ≡ not a && not b
not_or true b = refl
not_or false b = refl

none_front : (ms : List Method) (d : Method) (ds : List Method) → none_in ms (d ∷ ds) ≡ not (has_name d ms) && none_in ms ds
unfolding none_in has_name
none_front [] d ds = refl
none_front (y ∷ ms) d ds =
    let p = eqb d.owner y.owner && eqb d.name y.name in
    let e : eqb y.owner d.owner && eqb y.name d.name ≡ eqb d.owner y.owner && eqb d.name y.name = same_sym y d in
    rw (e, none_front ms d ds, not_or p (has_name y ds), not_or p (has_name d ms)) (swap (not p) (not (has_name y ds)) (not (has_name d ms)) (none_in ms ds))

none_after : (ms : List Method) (d : Method) (ds : List Method) → none_in (ms ++ (d ∷ [])) ds ≡ none_in ms ds && not (has_name d ds)
unfolding none_in
none_after [] d ds = and_nil (not (has_name d ds))
none_after (y ∷ ms) d ds = ap (λ (b : Bool). not (has_name y ds) && b) (none_after ms d ds) ∙ sym (and_assoc (not (has_name y ds)) (none_in ms ds) (not (has_name d ds)))

pub none_yet : (ds : List Method) → none_in [] ds ≡ true
unfolding none_in
none_yet ds = refl

-- ---- all methods
abbrev pub name_rules : ℕ → List Method → List Method → Bool
name_rules n ms ds = methods_good n ds && none_in ms ds

rules_step : (n : ℕ) (ms : List Method) (d : Method) (ds : List Method)
    → name_rules n ms (d ∷ ds) ≡ (method_rules n d && not (has_name d ms)) && name_rules n (ms ++ (d ∷ [])) ds
unfolding methods_good
rules_step n ms d ds = rw (none_front ms d ds, none_after ms d ds) (regroup (method_rules n d) (not (has_name d ds)) (methods_good n ds) (not (has_name d ms)) (none_in ms ds))
  where
    regroup : (o h g f k : Bool) → ((o && h) && g) && (f && k) ≡ (o && f) && (g && (k && h))
    regroup o h g f k =
        swap (o && h) g f k
        ∙ ap (λ (b : Bool). b && (g && k)) (and_right o h f)
        ∙ and_assoc (o && f) h (g && k)
        ∙ ap (λ (b : Bool). (o && f) && b) (and_comm h (g && k) ∙ and_assoc g k h)

none_nil : (ms : List Method) → none_in ms [] ≡ true
unfolding none_in has_name
none_nil [] = refl
none_nil (m ∷ ms) = none_nil ms

-- Q says where the right expressions of the methods stand
module _ (n : ℕ) (bound : n ≤ class_count) (cs : List Class) (S Q R : List ℕ) where
  abbrev put : List ℕ → ℕ → List ℕ → Placed
  put l i B = method_placed l i (get_or Q i 0) n B

  -- a line that is refused, and one that is placed
  module _ (l : List ℕ) (c at i : ℕ) (B : List ℕ) where
    method_no : lines_placed put S (suc c) at i B ≡ onward (put l i B) (λ B'. lines_placed put S c (at + 1 + length l) (i + 1) B') → put l i B ≡ placed false B
        → lines_placed put S (suc c) at i B ≡ walked None B
    method_no st e = st ∙ rw e

    method_yes : (C : List ℕ) → lines_placed put S (suc c) at i B ≡ onward (put l i B) (λ B'. lines_placed put S c (at + 1 + length l) (i + 1) B') → put l i B ≡ placed true C
        → lines_placed put S (suc c) at i B ≡ lines_placed put S c (at + 1 + length l) (i + 1) C
    method_yes C st e = st ∙ rw e

  pub methods_walk : (ds : List Method) (P : List ℕ) (at i : ℕ) (ms all : List Method) → S ≡ P ++ (packed (method_lines ds) ++ R) → at ≡ length P → i ≡ length ms
      → all ≡ ms ++ ds → length ms + length ds ≤ method_count → AllMethods Framed ds → ((j : ℕ) (d : Method) → get_elem? ds j ≡ some d → get_or Q (length ms + j) 0 ≡ right_place d)
      → Ends (name_rules n ms ds) (lines_placed put S (length ds) at i (filled 0 0 cs ms [])) (at + length (packed (method_lines ds))) (filled 0 0 cs all [])
  unfolding packed method_lines methods_good lines_placed
  methods_walk [] P at i ms all eS ea ei eall few fr qs = record {
    good = λ _. let q : at ≡ at + 0 = omega arith in ap₂ (λ (x : ℕ) (y : List Method). walked (Some x) (filled 0 0 cs y [])) q (sym (eall ∙ append-nil ms));
    bad = λ e. absurd (true≢false (sym (none_nil ms) ∙ e));
  }
  methods_walk (d ∷ ds) P at i ms all eS ea ei eall few fr qs =
      let l = method_line d in
      let X = packed (method_lines ds) ++ R in
      let e1 : S ≡ P ++ (length l ∷ (l ++ X)) = eS ∙ ap (λ (x : List ℕ). P ++ (length l ∷ x)) (append_assoc l (packed (method_lines ds)) R) in
      let e2 : S ≡ (P ++ (length l ∷ l)) ++ X = e1 ∙ sym (append_assoc P (length l ∷ l) X) in
      let m = length-append ms (d ∷ []) in
      let ep = length-append P (length l ∷ l) in
      let el = length-append l (packed (method_lines ds)) in
      let B = filled 0 0 cs ms [] in
      let st : lines_placed put S (suc (length ds)) at (length ms) B ≡ onward (put l (length ms) B) (λ B'. lines_placed put S (length ds) (at + 1 + length l) (length ms + 1) B') = lines_step S P l X at e1 ea put (length ds) (length ms) B in
      let ih = methods_walk ds (P ++ (length l ∷ l)) (at + 1 + length l) (length ms + 1) (ms ++ (d ∷ [])) all e2 (omega arith) (omega arith) (eall ∙ sym (append_assoc ms (d ∷ []) ds)) (omega arith) fr.1 (λ j x w. ap (λ (k : ℕ). get_or Q k 0) (let z : length (ms ++ (d ∷ [])) + j ≡ length ms + suc j = omega arith in z) ∙ qs (suc j) x w) in
      let q0 : get_or Q (length ms) 0 ≡ right_place d = ap (λ (k : ℕ). get_or Q k 0) (let z : length ms ≡ length ms + 0 = omega arith in z) ∙ qs 0 d refl in
      rw ei
      (ends_step (method_rules n d && not (has_name d ms)) (rules_step n ms d ds)
      (λ q. ap refused (method_no l (length ds) at (length ms) B st (method_bad n bound cs ms (omega arith) d fr.0 (get_or Q (length ms) 0) q0 q)))
      (λ q. ends_moved (method_yes l (length ds) at (length ms) B (filled 0 0 cs (ms ++ (d ∷ [])) []) st (method_good_lem n bound cs ms (omega arith) d fr.0 (get_or Q (length ms) 0) q0 q)) (omega arith) ih))
