-- The lines that the writer takes from the bytes of a table that is read are the table's lines. Not here: what it answers (Written).
use Rattle.std.proofs.Common.{ℕ, zero, suc, ◌+◌, ◌*◌, ◌-◌, ◌%◌, ◌≤◌, ◌<◌, arith, ◌≡◌, refl, sym, ap, ap₂, ◌∙◌, subst, List, [], ◌∷◌, ◌++◌, append_assoc, length, get_or, take, drop, length-append, length-take, length-drop, take-suc, ext_get_or, get_or-take, get_or-drop, min}
use Rattle.std.proofs.Math.Option.{Option, none, some, none-ne-some}
use Rattle.std.proofs.Math.ListN.{get_elem?}
use Rattle.std.proofs.Math.Seq.{take-length}
use Rattle.std.proofs.Math.Nat.{min-eq_left}
use Rattle.cofj.specs.Syntax.{Expr, Ty, Class, Method, Table}
use Rattle.cofj.specs.Classes.{parent_of, own_or_none, parent_or0, fields_to}
use Rattle.cofj.specs.WellFormed.{MethodFormed, WellFormed}
use Rattle.cofj.specs.Writing.{types_bytes, class_line, class_lines, method_line, method_lines, main_line, table_lines}
use Rattle.classes.specs.Layout.{layout, rest, class_row, method_byte, input_size, Stands}
use Rattle.classes.specs.Machine.{row_of}
use Rattle.classes.proofs.Lists.{within as inside, method_at}
use Rattle.classes.proofs.Zones.{class_zone, method_zone, main_zone, parent_at, class_count_at_lem, method_count_at_lem, length-layout, length_types, line_stands, input_size_at, main_line_stands, stands_moved}
use Rattle.tables.specs.Writings.{class_in, long_in, classes_in, methods_in, main_first, main_in, lines_in}

-- own fields are among all fields of their class
own_few : (t : Table) → WellFormed t → (k : ℕ) (c : Class) → get_elem? t.classes k ≡ some c → k < length t.classes → length c.own ≤ 4
unfolding fields_to
own_few t w k c q h =
    let f = w.fields (suc k) (omega arith) in
    let n = length-append (fields_to k t.classes (parent_of t.classes (suc k))) (own_or_none (get_elem? t.classes k)) in
    let o : length (own_or_none (get_elem? t.classes k)) ≤ 4 = omega arith in
    subst (λ (x : Option Class). length (own_or_none x) ≤ 4) q o

-- ---- one class
eight : (xs : List ℕ) → length xs ≤ 8
    → take (length xs) (get_or xs 0 0 ∷ get_or xs 1 0 ∷ get_or xs 2 0 ∷ get_or xs 3 0 ∷ get_or xs 4 0 ∷ get_or xs 5 0 ∷ get_or xs 6 0 ∷ get_or xs 7 0 ∷ []) ≡ xs
eight [] h = refl
eight (a ∷ []) h = refl
eight (a ∷ b ∷ []) h = refl
eight (a ∷ b ∷ c ∷ []) h = refl
eight (a ∷ b ∷ c ∷ d ∷ []) h = refl
eight (a ∷ b ∷ c ∷ d ∷ e ∷ []) h = refl
eight (a ∷ b ∷ c ∷ d ∷ e ∷ f ∷ []) h = refl
eight (a ∷ b ∷ c ∷ d ∷ e ∷ f ∷ g ∷ []) h = refl
eight (a ∷ b ∷ c ∷ d ∷ e ∷ f ∷ g ∷ i ∷ []) h = refl
eight (a ∷ b ∷ c ∷ d ∷ e ∷ f ∷ g ∷ i ∷ j ∷ xs) h = absurd (omega arith)

class_shape : (B : List ℕ) (k p n : ℕ) (xs : List ℕ) → length xs ≡ 2 * n → n ≤ 4 → get_or B (16 * k) 0 ≡ p → get_or B (16 * k + 2) 0 ≡ n
    → ((j : ℕ) → j < 8 → get_or B (16 * k + (3 + j)) 0 ≡ get_or xs j 0) → class_in B k ≡ 1 ∷ k ∷ p ∷ n ∷ xs
unfolding class_in
class_shape B k p n xs l h ep en b =
    let q : 3 + 2 * n ≡ suc (suc (suc (length xs))) = omega arith in
    let b0 : get_or B (16 * k + 3) 0 ≡ get_or xs 0 0 = b 0 (omega arith) in
    let b1 : get_or B (16 * k + 4) 0 ≡ get_or xs 1 0 = b 1 (omega arith) in
    let b2 : get_or B (16 * k + 5) 0 ≡ get_or xs 2 0 = b 2 (omega arith) in
    let b3 : get_or B (16 * k + 6) 0 ≡ get_or xs 3 0 = b 3 (omega arith) in
    let b4 : get_or B (16 * k + 7) 0 ≡ get_or xs 4 0 = b 4 (omega arith) in
    let b5 : get_or B (16 * k + 8) 0 ≡ get_or xs 5 0 = b 5 (omega arith) in
    let b6 : get_or B (16 * k + 9) 0 ≡ get_or xs 6 0 = b 6 (omega arith) in
    let b7 : get_or B (16 * k + 10) 0 ≡ get_or xs 7 0 = b 7 (omega arith) in
    rw (ep, en, b0, b1, b2, b3, b4, b5, b6, b7, min-eq_left {n = n} {m = 4} h, q) (ap (λ (x : List ℕ). 1 ∷ k ∷ p ∷ n ∷ x) (eight xs (omega arith)))

class_in_lem : (t : Table) (k : ℕ) (c : Class) → k < 32 → get_elem? t.classes k ≡ some c → length c.own ≤ 4 → class_in (layout t) (suc k) ≡ class_line (suc k) c
class_in_lem t k c h e o =
    class_shape (layout t) (suc k) c.parent (length c.own) (types_bytes c.own) (length_types c.own) o
    (parent_at t (suc k) h ∙ ap parent_or0 e)
    (class_zone t (suc k) 2 h (omega arith) ∙ ap (λ (x : Option Class). length (own_or_none x)) e)
    (λ j l.
    let z : 3 + j ≡ suc (suc (suc j)) = omega arith in
    class_zone t (suc k) (3 + j) h (omega arith)
    ∙ ap (λ (i : ℕ). get_or (class_row (length t.classes) (length t.methods) t.classes (suc k)) i 0) z
    ∙ ap (λ (x : Option Class). get_or (types_bytes (own_or_none x)) j 0) e)

-- ---- one long row
stands_take : (B : List ℕ) (a : ℕ) (xs : List ℕ) → Stands B a xs → a + length xs ≤ length B → take (length xs) (drop a B) ≡ xs
stands_take B a xs s h =
    let n : length (take (length xs) (drop a B)) ≡ length xs = simp (length-take, length-drop) (omega arith) in
    ext_get_or 0 (take (length xs) (drop a B)) xs n (λ i l. get_or-take (length xs) (drop a B) i 0 (omega arith) ∙ get_or-drop a B i 0 ∙ s.byte i (omega arith))

long_in_lem : (B : List ℕ) (b : ℕ) (xs : List ℕ) → get_or B (b + 255) 0 ≡ suc (length xs) → suc (length xs) ≤ 255 → Stands B (b + 1) xs → b + 256 ≤ length B → long_in B b ≡ xs
long_in_lem B b xs e h s l =
    let q : get_or B (b + 255) 0 - 1 ≡ length xs = omega arith in
    ap (λ (n : ℕ). take (min n 254) (drop (b + 1) B)) q
    ∙ ap (λ (n : ℕ). take n (drop (b + 1) B)) (min-eq_left {n = length xs} {m = 254} (omega arith))
    ∙ stands_take B (b + 1) xs s (omega arith)

method_in_lem : (t : Table) (i : ℕ) (d : Method) → i < 64 → get_elem? t.methods i ≡ some d → length (method_line d) ≤ 255 → (2 ∷ long_in (layout t) (8976 + 256 * i)) ≡ method_line d
unfolding method_line
method_in_lem t i d h e l =
    let z : i % 64 ≡ i = omega arith in
    let m : row_of i + 1 ≡ 8976 + 256 * i + 1 = rw z in
    let s = stands_moved (layout t) _ _ _ m (line_stands t i d h e l) in
    let n = method_zone t i 255 h (omega arith) ∙ ap (λ (x : Option Method). method_byte x 255) e in
    ap (λ (x : List ℕ). 2 ∷ x) (long_in_lem (layout t) (8976 + 256 * i) (rest (method_line d)) n l s (omega (arith, length-layout t)))

-- main's line by its first byte and the rest
main_first_lem : (i : Option Ty) (e : Expr) → main_first (input_size i) ∷ rest (main_line i e) ≡ main_line i e
main_first_lem none e = refl
main_first_lem (some u) e = refl

main_in_lem : (t : Table) → length (main_line t.input t.main) ≤ 255 → main_in (layout t) ≡ main_line t.input t.main
main_in_lem t l =
    let f = main_first_lem t.input t.main in
    let n = ap length f in
    ap₂ {C = List ℕ} ◌∷◌ (ap (λ (x : ℕ). main_first x) (input_size_at t))
    (long_in_lem (layout t) 25360 (rest (main_line t.input t.main)) (main_zone t 255 (omega arith) ∙ sym n) (omega arith) (main_line_stands t l) (omega (arith, length-layout t)))
    ∙ f

-- ---- all lines
classes_take : (B : List ℕ) (ls : List (List ℕ)) → ((i : ℕ) → i < length ls → class_in B (suc i) ≡ get_or ls i []) → (j : ℕ) → j ≤ length ls → classes_in B j ≡ take j ls
unfolding classes_in
classes_take B ls f zero h = refl
classes_take B ls f (suc j) h = rw (take-suc ls j [] h) (ap₂ {C = List (List ℕ)} (λ a b. a ++ (b ∷ [])) (classes_take B ls f j (omega arith)) (f j h))

methods_take : (B : List ℕ) (ls : List (List ℕ)) → ((i : ℕ) → i < length ls → (2 ∷ long_in B (8976 + 256 * i)) ≡ get_or ls i []) → (j : ℕ) → j ≤ length ls → methods_in B j ≡ take j ls
unfolding methods_in
methods_take B ls f zero h = refl
methods_take B ls f (suc j) h = rw (take-suc ls j [] h) (ap₂ {C = List (List ℕ)} (λ a b. a ++ (b ∷ [])) (methods_take B ls f j (omega arith)) (f j h))

class_count_lem : (k : ℕ) (cs : List Class) → length (class_lines k cs) ≡ length cs
class_count_lem k [] = refl
class_count_lem k (c ∷ cs) = ap suc (class_count_lem (suc k) cs)

class_nth : (k : ℕ) (cs : List Class) (i : ℕ) (c : Class) → get_elem? cs i ≡ some c → get_or (class_lines k cs) i [] ≡ class_line (k + i) c
class_nth k [] i c e = absurd (none-ne-some c e)
class_nth k (d ∷ cs) zero c e =
    let q : d ≡ c = cc in
    let z : k ≡ k + 0 = omega arith in
    ap₂ {C = List ℕ} class_line z q
class_nth k (d ∷ cs) (suc i) c e =
    let z : suc k + i ≡ k + suc i = omega arith in
    class_nth (suc k) cs i c e ∙ ap (λ (x : ℕ). class_line x c) z

method_count_lem : (ms : List Method) → length (method_lines ms) ≡ length ms
unfolding method_lines
method_count_lem [] = refl
method_count_lem (d ∷ ms) = ap suc (method_count_lem ms)

method_nth : (ms : List Method) (i : ℕ) (d : Method) → get_elem? ms i ≡ some d → get_or (method_lines ms) i [] ≡ method_line d
unfolding method_lines
method_nth [] i d e = absurd (none-ne-some d e)
method_nth (m ∷ ms) zero d e = let q : m ≡ d = cc in ap method_line q
method_nth (m ∷ ms) (suc i) d e = method_nth ms i d e

-- the lines in the bytes of a table that is read
pub lines_in_lem : (t : Table) → WellFormed t → lines_in (layout t) ≡ table_lines t
unfolding lines_in table_lines
lines_in_lem t w =
    let cs = class_lines 1 t.classes in
    let ms = method_lines t.methods in
    let nc : min (get_or (layout t) 11 0) 32 ≡ length cs = ap (λ (x : ℕ). min x 32) (class_count_at_lem t) ∙ min-eq_left {n = length t.classes} {m = 32} w.classes ∙ sym (class_count_lem 1 t.classes) in
    let nm : min (get_or (layout t) 12 0) 64 ≡ length ms = ap (λ (x : ℕ). min x 64) (method_count_at_lem t) ∙ min-eq_left {n = length t.methods} {m = 64} w.count ∙ sym (method_count_lem t.methods) in
    let c : classes_in (layout t) (length cs) ≡ cs = classes_take (layout t) cs (λ i h. one_class i (omega (arith, class_count_lem 1 t.classes))) (length cs) (omega arith) ∙ take-length cs in
    let m : methods_in (layout t) (length ms) ≡ ms =
    methods_take (layout t) ms (λ i h. one_method i (omega (arith, method_count_lem t.methods))) (length ms) (omega arith) ∙ take-length ms
    in
    ap₂ {C = List (List ℕ)} (λ x y. x ++ (y ∷ []))
    (ap₂ {C = List (List ℕ)} ◌++◌ (ap (classes_in (layout t)) nc ∙ c) (ap (methods_in (layout t)) nm ∙ m))
    (main_in_lem t w.main_short)
    ∙ append_assoc cs ms (main_line t.input t.main ∷ [])
  where
    one_class : (i : ℕ) → i < length t.classes → class_in (layout t) (suc i) ≡ get_or (class_lines 1 t.classes) i []
    one_class i h =
        let u = inside t.classes i h in
        let z : 1 + i ≡ suc i = omega arith in
        class_in_lem t i u.0 (omega (arith, w.classes)) u.1 (own_few t w i u.0 u.1 h)
        ∙ sym (class_nth 1 t.classes i u.0 u.1 ∙ ap (λ (x : ℕ). class_line x u.0) z)

    one_method : (i : ℕ) → i < length t.methods → (2 ∷ long_in (layout t) (8976 + 256 * i)) ≡ get_or (method_lines t.methods) i []
    one_method i h =
        let u = inside t.methods i h in
        let d = method_at (MethodFormed t) t.methods i u.0 w.methods u.1 in
        method_in_lem t i u.0 (omega (arith, w.count)) u.1 d.short ∙ sym (method_nth t.methods i u.0 u.1)
