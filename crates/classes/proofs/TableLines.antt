-- All lines of a text into a table: the language's `table` of the frames, and the table's bytes.
use Rattle.std.proofs.Common.{ℕ, zero, suc, ◌+◌, ◌-◌, ◌*◌, ◌<◌, ◌≤◌, zero-le, arith, ◌≡◌, refl, sym, ap, ap₂, ◌∙◌, Bool, true, false, ◌&&◌, List, [], ◌∷◌, ◌++◌, append_assoc, eqb, ltb, length, get_or, set, replicate, length-append, length-set, get_or-set_same, get_or-set_other, Some, None, eqb-true, ltb-true, ltb-false, le-leb, le-ltb}
use Rattle.std.proofs.Math.Bool.{false≢true}
use Rattle.std.proofs.Math.Option.{Option, none, some, none-ne-some}
use Rattle.std.proofs.Math.ListN.{get_elem?, length-replicate, get_or-replicate, get_or-eq_default}
use Rattle.std.proofs.Math.Seq.{sets, length-sets}
use borrow.Author.Tests.{eqb-false, lt-leb}
use Rattle.cofj.specs.Limits.{class_count, method_count, line_size}
use Rattle.cofj.specs.Partial.{◌>>=◌, guard}
use Rattle.cofj.specs.Syntax.{Expr, Ty, Class, Method, Table}
use Rattle.cofj.specs.Frames.{ClassFrame}
use Rattle.cofj.specs.Tables.{Raw, methods_good, input_good, expr_known, bodies, table}
use Rattle.cofj.specs.Writing.{code_of, method_lines, main_line}
use Rattle.cofj.specs.WellFormed.{AllMethods}
use Rattle.lineform.specs.Packed.{packed}
use Rattle.lineform.proofs.PackedLaws.{packed-append}
use Rattle.classes.specs.Machine.{pick}
use Rattle.classes.specs.Figures.{table_size}
use Rattle.classes.specs.Layout.{zeros, class_row, index_from, long_byte, right_place, ahead_of, filled, layout}
use Rattle.classes.specs.Placing.{Placed, placed, class_placed, method_placed, input_fits, main_put, main_placed}
use Rattle.classes.specs.Building.{Walked, walked, lines_placed, last_placed, and_then, counted, rest_placed, table_placed}
use Rattle.classes.specs.Made.{Zeros, answer, Makes}
use Rattle.classes.proofs.Lists.{sets_before, sets_after, sets_in}
use Rattle.classes.proofs.Zones.{length-filled, filled_class, filled_index, filled_method, filled_main}
use Rattle.classes.proofs.Filling.{agree, row_past}
use Rattle.classes.proofs.ClassLines.{refused, Ends, ends_moved, class_lines_of, class_rules, classes_walk, size_is, line_is}
use Rattle.classes.proofs.MethodLines.{scan-whole, Framed, name_rules, none_yet, methods_walk}

get_d_zeros : (k j : ℕ) → get_or (zeros k) j 0 ≡ 0
get_d_zeros zero j = refl
get_d_zeros (suc k) zero = refl
get_d_zeros (suc k) (suc j) = get_d_zeros k j

-- ---- a table of zeros is one that is not filled
pub zeros_new : (k : ℕ) → k ≡ table_size → Zeros (replicate k 0)
zeros_new k e = record { size = length-replicate k 0 ∙ e; zero_at = λ i. go i (ltb i k) refl }
  where
    go : (i : ℕ) (b : Bool) → ltb i k ≡ b → ◌≡◌ {A = ℕ} (get_or (replicate k 0) i 0) 0
    go i true q = get_or-replicate k i 0 0 (ltb-true i k q)
    go i false q = let h = ltb-false i k q in let l = length-replicate {A = ℕ} k 0 in get_or-eq_default (replicate k 0) 0 {n = i} (omega arith)

pub zeros-filled : (B : List ℕ) → Zeros B → B ≡ filled 0 0 [] [] []
unfolding index_from
zeros-filled B z = agree B (filled 0 0 [] [] []) z.size (length-filled 0 0 [] [] []) (record {
  classes = λ c j h l. z.zero_at (16 * c + j) ∙ sym (filled_class 0 0 [] [] [] c j h l ∙ row c j);
  index = λ c x h l. z.zero_at (528 + 256 * c + x) ∙ sym (filled_index 0 0 [] [] [] c x h l ∙ none_there c x);
  methods = λ i j h l. z.zero_at (8976 + 256 * i + j) ∙ sym (filled_method 0 0 [] [] [] i j h l);
  main = λ j l. z.zero_at (25360 + j) ∙ sym (filled_main 0 0 [] [] [] j l ∙ last j);
})
  where
    row : (c j : ℕ) → get_or (class_row 0 0 [] c) j 0 ≡ 0
    row zero j = get_d_zeros 13 j
    row (suc q) j = ap (λ (x : List ℕ). get_or x j 0) (row_past 0 0 [] q (omega arith)) ∙ get_d_zeros 3 j

    none_there : (c x : ℕ) → index_from 0 [] c x ≡ 0
    none_there c x = refl

    last : (j : ℕ) → long_byte 0 [] j ≡ 0
    last j = go (eqb j 255) j
      where
        go : (b : Bool) (i : ℕ) → pick b 0 (get_or (zeros 1) i 0) ≡ 0
        go true i = refl
        go false i = get_d_zeros 1 i

-- ---- main
-- its line b and bs
module _ (cs : List Class) (ms : List Method) (b : ℕ) (bs : List ℕ) (short : length (b ∷ bs) ≤ line_size) where
  abbrev ahead : ℕ
  ahead = ahead_of (b ∷ bs)

  abbrev before : List ℕ
  before = filled 0 0 cs ms []

  abbrev after : List ℕ
  after = filled 0 0 cs ms (b ∷ bs)

  abbrev begun : List ℕ
  begun = set before 25360 ahead

  abbrev inner : List ℕ
  inner = sets begun 25361 bs

  abbrev written : List ℕ
  written = set inner 25615 (suc (length bs))

  begun_size : length begun ≡ table_size
  begun_size = length-set before 25360 ahead ∙ length-filled 0 0 cs ms []

  begun_at : (i : ℕ) → i < 25361 → get_or written i 0 ≡ get_or begun i 0
  begun_at i h = get_or-set_other inner 25615 i (suc (length bs)) 0 (λ w. omega arith) ∙ sets_before bs begun 25361 i h

  under : (i : ℕ) → i < 25360 → get_or written i 0 ≡ get_or before i 0
  under i h = begun_at i (omega arith) ∙ get_or-set_other before 25360 i ahead 0 (λ w. omega arith)

  main_byte : (j : ℕ) → j < 256 → get_or written (25360 + j) 0 ≡ long_byte ahead (b ∷ bs) j
  main_byte zero h = begun_at 25360 (omega arith) ∙ (let f = length-filled 0 0 cs ms [] in get_or-set_same before 25360 ahead 0 (omega arith))
  main_byte (suc k) h = go (eqb (suc k) 255) refl (ltb k (length bs)) refl
    where
      go : (x : Bool) → eqb (suc k) 255 ≡ x → (y : Bool) → ltb k (length bs) ≡ y → get_or written (25360 + suc k) 0 ≡ pick x (suc (length bs)) (get_or bs k 0)
      go true p y q =
          let w = eqb-true (suc k) 255 p in
          let i : 25360 + suc k ≡ 25615 = omega arith in
          let f = length-sets begun 25361 bs ∙ begun_size in
          rw i (get_or-set_same inner 25615 (suc (length bs)) 0 (omega arith))
      go false p true q =
          let w = eqb-false (suc k) 255 p in
          let i : 25360 + suc k ≡ 25361 + k = omega arith in
          let f = begun_size in
          rw i (get_or-set_other inner 25615 (25361 + k) (suc (length bs)) 0 (λ z. w (omega arith)) ∙ sets_in bs begun 25361 k (ltb-true k (length bs) q) (omega arith))
      go false p false q =
          let w = eqb-false (suc k) 255 p in
          let g = ltb-false k (length bs) q in
          get_or-set_other inner 25615 (25360 + suc k) (suc (length bs)) 0 (λ z. w (omega arith))
          ∙ sets_after bs begun 25361 (25360 + suc k) (omega arith)
          ∙ get_or-set_other before 25360 (25360 + suc k) ahead 0 (λ z. omega arith)
          ∙ filled_main 0 0 cs ms [] (suc k) h
          ∙ (let z : long_byte 0 [] (suc k) ≡ 0 = rw p in z)
          ∙ sym (get_or-eq_default bs 0 {n = k} g)

  main_filled : main_put (b ∷ bs) before ≡ after
  unfolding main_put
  main_filled =
      agree written after (length-set inner 25615 (suc (length bs)) ∙ length-sets begun 25361 bs ∙ begun_size) (length-filled 0 0 cs ms (b ∷ bs)) (record {
        classes = λ c j h l. under (16 * c + j) (omega arith) ∙ filled_class 0 0 cs ms [] c j h l ∙ sym (filled_class 0 0 cs ms (b ∷ bs) c j h l);
        index = λ c x h l. under (528 + 256 * c + x) (omega arith) ∙ filled_index 0 0 cs ms [] c x h l ∙ sym (filled_index 0 0 cs ms (b ∷ bs) c x h l);
        methods = λ i j h l. under (8976 + 256 * i + j) (omega arith) ∙ filled_method 0 0 cs ms [] i j h l ∙ sym (filled_method 0 0 cs ms (b ∷ bs) i j h l);
        main = λ j l. main_byte j l ∙ sym (filled_main 0 0 cs ms (b ∷ bs) j l);
      })

module _ (cs : List Class) (ms : List Method) (e : Expr) (n : ℕ) where
  pub main_is : (i : Option Ty) → length (main_line i e) ≤ line_size
      → main_placed (main_line i e) n (filled 0 0 cs ms []) ≡ pick (input_good n i && expr_known n e) (placed true (filled 0 0 cs ms (main_line i e))) (placed false (filled 0 0 cs ms []))
  unfolding main_placed input_fits
  main_is none short = rw (scan-whole e n, main_filled cs ms 3 (code_of e) short)
  main_is (some u) short = rw (le-leb 3 (length (main_line (some u) e)) (omega arith), scan-whole e n, main_filled cs ms 4 (u.cls ∷ u.tag ∷ code_of e) short)

-- ---- the counts
counts_off : (n m k j : ℕ) → (j ≡ k → ⊥) → (j ≡ suc k → ⊥) → get_or (zeros k ++ (0 ∷ 0 ∷ [])) j 0 ≡ get_or (zeros k ++ (n ∷ m ∷ [])) j 0
counts_off n m zero zero p q = absurd (p refl)
counts_off n m zero (suc zero) p q = absurd (q refl)
counts_off n m zero (suc (suc j)) p q = refl
counts_off n m (suc k) zero p q = refl
counts_off n m (suc k) (suc j) p q = counts_off n m k j (λ e. p (ap suc e)) (λ e. q (ap suc e))

counts_filled : (n m : ℕ) (cs : List Class) (ms : List Method) (l : List ℕ) → set (set (filled 0 0 cs ms l) 11 n) 12 m ≡ filled n m cs ms l
counts_filled n m cs ms l =
    agree (set (set F 11 n) 12 m) (filled n m cs ms l) (length-set (set F 11 n) 12 m ∙ length-set F 11 n ∙ length-filled 0 0 cs ms l) (length-filled n m cs ms l) (record {
      classes = λ c j h g. row c j h g (eqb (16 * c + j) 11) refl (eqb (16 * c + j) 12) refl;
      index = λ c x h g. other (528 + 256 * c + x) (λ e. omega arith) (λ e. omega arith) ∙ filled_index 0 0 cs ms l c x h g ∙ sym (filled_index n m cs ms l c x h g);
      methods = λ i j h g. other (8976 + 256 * i + j) (λ e. omega arith) (λ e. omega arith) ∙ filled_method 0 0 cs ms l i j h g ∙ sym (filled_method n m cs ms l i j h g);
      main = λ j g. other (25360 + j) (λ e. omega arith) (λ e. omega arith) ∙ filled_main 0 0 cs ms l j g ∙ sym (filled_main n m cs ms l j g);
    })
  where
    F : List ℕ
    F = filled 0 0 cs ms l

    other : (i : ℕ) → (i ≡ 11 → ⊥) → (i ≡ 12 → ⊥) → get_or (set (set F 11 n) 12 m) i 0 ≡ get_or F i 0
    other i p q = get_or-set_other (set F 11 n) 12 i m 0 q ∙ get_or-set_other F 11 i n 0 p

    same_row : (c j : ℕ) → (16 * c + j ≡ 11 → ⊥) → (16 * c + j ≡ 12 → ⊥) → get_or (class_row 0 0 cs c) j 0 ≡ get_or (class_row n m cs c) j 0
    same_row zero j p q = counts_off n m 11 j (λ e. p (omega arith)) (λ e. q (omega arith))
    same_row (suc k) j p q = refl

    row : (c j : ℕ) → c ≤ class_count → j < 16 → (x : Bool) → eqb (16 * c + j) 11 ≡ x → (y : Bool) → eqb (16 * c + j) 12 ≡ y
        → get_or (set (set F 11 n) 12 m) (16 * c + j) 0 ≡ get_or (filled n m cs ms l) (16 * c + j) 0
    row c j h g true p y q =
        let e = eqb-true (16 * c + j) 11 p in
        let ec : c ≡ 0 = omega arith in
        let ej : j ≡ 11 = omega arith in
        let f = length-filled 0 0 cs ms l in
        let a : get_or (set (set F 11 n) 12 m) (16 * c + j) 0 ≡ n = rw e (get_or-set_other (set F 11 n) 12 11 m 0 (λ z. omega arith) ∙ get_or-set_same F 11 n 0 (omega arith)) in
        let b : get_or (class_row n m cs c) j 0 ≡ n = rw (ec, ej) in
        a ∙ sym (filled_class n m cs ms l c j h g ∙ b)
    row c j h g false p true q =
        let e = eqb-true (16 * c + j) 12 q in
        let ec : c ≡ 0 = omega arith in
        let ej : j ≡ 12 = omega arith in
        let f = length-set F 11 n ∙ length-filled 0 0 cs ms l in
        let a : get_or (set (set F 11 n) 12 m) (16 * c + j) 0 ≡ m = rw e (get_or-set_same (set F 11 n) 12 m 0 (omega arith)) in
        let b : get_or (class_row n m cs c) j 0 ≡ m = rw (ec, ej) in
        a ∙ sym (filled_class n m cs ms l c j h g ∙ b)
    row c j h g false p false q =
        let a = eqb-false (16 * c + j) 11 p in
        let b = eqb-false (16 * c + j) 12 q in
        other (16 * c + j) a b ∙ filled_class 0 0 cs ms l c j h g ∙ same_row c j a b ∙ sym (filled_class n m cs ms l c j h g)

-- ---- the last line
last_is : (S P : List ℕ) (l : List ℕ) (at n : ℕ) (B : List ℕ) → S ≡ P ++ (length l ∷ (l ++ [])) → at ≡ length P → last_placed S at n B ≡ main_placed l n B
unfolding last_placed
last_is S P l at n B e h =
    let a = length-append P (length l ∷ (l ++ [])) in
    let b = length-append l [] in
    let z : length S ≡ length P + suc (length l) = rw e (omega arith) in
    rw (line_is S P l [] at e h, size_is S P l [] at e h, lt-leb (length S) at (omega arith), le-ltb (length S - (at + 1)) (length l) (omega arith))

-- ---- all lines
-- the lines of frames in order
abbrev pub raw_lines : Raw → List (List ℕ)
raw_lines r = class_lines_of r.classes ++ (method_lines r.methods ++ (main_line r.input r.main ∷ []))

pub length-bodies : (cs : List ClassFrame) → length (bodies cs) ≡ length cs
length-bodies [] = refl
length-bodies (c ∷ cs) = ap suc (length-bodies cs)

and_last : (a b c : Bool) → a && b && c ≡ a && (b && c)
and_last true b c = refl
and_last false b c = refl

stops : (w : Walked) (f : ℕ → List ℕ → Placed) → refused w ≡ true → answer (and_then w f) ≡ false
stops (walked None B) f e = refl
stops (walked (Some a) B) f e = absurd (false≢true e)

-- frames that are few and short enough, as every text's are
pub record Short (r : Raw) : Type 0 where
  pub classes : length r.classes ≤ class_count
  pub methods : length r.methods ≤ method_count
  pub framed : AllMethods Framed r.methods
  pub main : length (main_line r.input r.main) ≤ line_size

module _ (r : Raw) (s : Short r) (S Q : List ℕ) (e : S ≡ packed (raw_lines r)) (qs : (i : ℕ) (d : Method) → get_elem? r.methods i ≡ some d → get_or Q i 0 ≡ right_place d) where
  abbrev n : ℕ
  n = length r.classes

  abbrev m : ℕ
  m = length r.methods

  abbrev cs : List Class
  cs = bodies r.classes

  abbrev line : List ℕ
  line = main_line r.input r.main

  abbrev P1 : List ℕ
  P1 = packed (class_lines_of r.classes)

  abbrev P2 : List ℕ
  P2 = packed (method_lines r.methods)

  abbrev last : List ℕ
  last = length line ∷ (line ++ [])

  parts : S ≡ P1 ++ (P2 ++ last)
  unfolding packed
  parts = e ∙ packed-append (class_lines_of r.classes) (method_lines r.methods ++ (line ∷ [])) ∙ ap (λ (x : List ℕ). P1 ++ x) (packed-append (method_lines r.methods) (line ∷ []))

  class_part : Ends (class_rules n 1 cs r.classes) (lines_placed (λ l k B. class_placed l k n B) S n 0 1 (filled 0 0 [] [] [])) (length P1) (filled 0 0 cs [] [])
  class_part =
      ends_moved refl (let z : 0 + length P1 ≡ length P1 = omega arith in z)
      (classes_walk n S (P2 ++ last) r.classes [] 0 1 [] cs parts refl refl refl (λ k. zero-le) (let z = s.classes in omega arith))

  method_part : Ends (name_rules n [] r.methods) (lines_placed (λ l i B. method_placed l i (get_or Q i 0) n B) S m (length P1) 0 (filled 0 0 cs [] [])) (length P1 + length P2) (filled 0 0 cs r.methods [])
  method_part =
      methods_walk n s.classes cs S Q last r.methods P1 (length P1) 0 [] r.methods parts refl refl refl (let z = s.methods in omega arith) s.framed
      (λ j d w. ap (λ (k : ℕ). get_or Q k 0) (let z : 0 + j ≡ j = omega arith in z) ∙ qs j d w)

  made_table : Table
  made_table = record { classes = cs; methods = r.methods; input = r.input; main = r.main }

  -- the rules of the language, one after another
  ok_classes : Bool
  ok_classes = class_rules n 1 cs r.classes

  ok_methods : Bool
  ok_methods = methods_good n r.methods

  ok_main : Bool
  ok_main = input_good n r.input && expr_known n r.main

  table_is : table r ≡ guard (ok_classes && ok_methods && ok_main) >>= λ _. some made_table
  unfolding table ok_classes ok_methods ok_main made_table
  table_is = rw (length-bodies r.classes, and_last (ok_classes && ok_methods) (input_good n r.input) (expr_known n r.main))

  layout_is : layout made_table ≡ filled n m cs r.methods line
  unfolding layout made_table
  layout_is = ap (λ (k : ℕ). filled k m cs r.methods line) (length-bodies r.classes)

  abbrev start : List ℕ
  start = filled 0 0 [] [] []

  makes_none : (p : Placed) → table r ≡ none → answer p ≡ false → Makes (table r) p
  makes_none p q a = record { refused = λ _. a; made = λ t w. absurd (none-ne-some t (sym q ∙ w)) }

  makes_some : (p : Placed) → table r ≡ some made_table → p ≡ placed true (layout made_table) → Makes (table r) p
  makes_some p q a = record {
    refused = λ w. absurd (none-ne-some made_table (sym w ∙ q));
    made = λ t w. let z : made_table ≡ t = cc in a ∙ ap (λ (x : Table). placed true (layout x)) z;
  }

  past_classes : ok_classes ≡ true → table_placed S Q n m start ≡ rest_placed S Q n m (length P1) (filled 0 0 cs [] [])
  unfolding table_placed ok_classes
  past_classes q = rw (class_part.good q)

  past_methods : ok_methods ≡ true → rest_placed S Q n m (length P1) (filled 0 0 cs [] []) ≡ counted n m (last_placed S (length P1 + length P2) n (filled 0 0 cs r.methods []))
  unfolding rest_placed ok_methods
  past_methods q = rw (method_part.good (ap₂ ◌&&◌ q (none_yet r.methods)))

  at_main : last_placed S (length P1 + length P2) n (filled 0 0 cs r.methods []) ≡ pick ok_main (placed true (filled 0 0 cs r.methods line)) (placed false (filled 0 0 cs r.methods []))
  unfolding ok_main
  at_main =
      let a = length-append P1 P2 in
      last_is S (P1 ++ P2) line (length P1 + length P2) n (filled 0 0 cs r.methods []) (parts ∙ sym (append_assoc P1 P2 last)) (sym a)
      ∙ main_is cs r.methods r.main n r.input s.main

  no_classes : ok_classes ≡ false → answer (table_placed S Q n m start) ≡ false
  unfolding table_placed ok_classes
  no_classes q = stops (lines_placed (λ l k B. class_placed l k n B) S n 0 1 start) (λ a B. rest_placed S Q n m a B) (class_part.bad q)

  no_methods : ok_methods ≡ false → answer (rest_placed S Q n m (length P1) (filled 0 0 cs [] [])) ≡ false
  unfolding rest_placed ok_methods
  no_methods q =
      stops (lines_placed (λ l i B. method_placed l i (get_or Q i 0) n B) S m (length P1) 0 (filled 0 0 cs [] [])) (λ b B. counted n m (last_placed S b n B)) (method_part.bad (ap₂ ◌&&◌ q (none_yet r.methods)))

  decide : (c : Bool) → ok_classes ≡ c → (k : Bool) → ok_methods ≡ k → (x : Bool) → ok_main ≡ x → Makes (table r) (table_placed S Q n m start)
  decide false p k q x w = makes_none _ (table_is ∙ rw p) (no_classes p)
  decide true p false q x w = makes_none _ (table_is ∙ rw (p, q)) (ap answer (past_classes p) ∙ no_methods q)
  decide true p true q false w =
      let z : table_placed S Q n m start ≡ placed false (filled 0 0 cs r.methods []) = past_classes p ∙ past_methods q ∙ rw (at_main, w) in
      makes_none _ (table_is ∙ rw (p, q, w)) (ap answer z)
  decide true p true q true w =
      let z : table_placed S Q n m start ≡ placed true (set (set (filled 0 0 cs r.methods line) 11 n) 12 m) = past_classes p ∙ past_methods q ∙ rw (at_main, w) in
      makes_some _ (table_is ∙ rw (p, q, w)) (z ∙ ap (λ (x : List ℕ). placed true x) (counts_filled n m cs r.methods line ∙ sym layout_is))

  pub table-lines : (B : List ℕ) → Zeros B → Makes (table r) (table_placed S Q n m B)
  table-lines B z = rw (zeros-filled B z) (decide ok_classes refl ok_methods refl ok_main refl)
