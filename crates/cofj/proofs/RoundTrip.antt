-- Reading and writing are inverse: a text that passes 1 to 5 is the text of its table, and a table's text, if it passes, reads into the table.
-- So the writer refuses (8) exactly the tables that no text reads into. Not here: lines (TextRound), frames (FrameRound), what a text that
-- passes went through (Passed).
use Prim.Native.Nat.{ℕ, suc, ◌≤◌}
use native.Mathlib.Omega.{arith}
use mathlib.Core.Path.{◌≡◌, refl, sym, ap, ap₂, ◌∙◌, subst}
use mathlib.Core.Bool.{true, ◌&&◌}
use mathlib.Core.List.{List, [], ◌∷◌, ◌++◌, map}
use mathlib.Core.Option.{Option, none, some, none-ne-some}
use lib.Dec.{eqb, ltb}
use lib.ListN.{length}
use borrow.Author.Tests.{eqb-true}
use Rattle.cofj.specs.Limits.{text_size}
use Rattle.cofj.specs.Partial.{◌>>=◌}
use Rattle.cofj.specs.Syntax.{Expr, Ty, Class, Method, Table}
use Rattle.cofj.specs.Text.{hex_text}
use Rattle.cofj.specs.Frames.{ClassFrame, TextFrame, class_frame, method_frame, main_frame, frame, frames}
use Rattle.cofj.specs.Tables.{Raw, raw, in_front, ordered, numbered, bodies, table}
use Rattle.cofj.specs.Reading.{Answer, refusal, read, read_text}
use Rattle.cofj.specs.Writing.{main_line, class_line, class_lines, method_lines, method_line, table_lines, text_of, Text, no_text, text, write_table}
use Rattle.cofj.proofs.TextRound.{Lines, hex_lines, lines_hex, lines-bytes}
use Rattle.cofj.proofs.Steps.{given, same, taken_as}
use Rattle.cofj.proofs.FrameRound.{line_of, frame_back, frame_forth}
use Rattle.cofj.proofs.Partial.{and_true, taken}
use Rattle.cofj.proofs.Passed.{table_ruled, passed}

-- ---- lines and frames
frames_back : (ls : List (List ℕ)) (fs : List TextFrame) → frames ls ≡ some fs → Lines ls → map line_of fs ≡ ls
unfolding frames
frames_back [] fs e h = given (λ (x : List TextFrame). map line_of x ≡ []) _ fs e refl
frames_back (l ∷ ls) fs e h =
    taken (frame l) fs e λ f q e1.
    taken (frames ls) fs e1 λ gs r e2.
    given (λ (x : List TextFrame). map line_of x ≡ l ∷ ls) _ fs e2 (ap₂ {C = List (List ℕ)} ◌∷◌ (frame_back l f q h.2) (frames_back ls gs r h.3))

frames_forth : (fs gs : List TextFrame) → frames (map line_of fs) ≡ some gs → gs ≡ fs
unfolding frames
frames_forth [] gs e = cc
frames_forth (f ∷ fs) gs e =
    let e1 = taken_as (frame (line_of f)) _ gs f e (frame_forth f) in
    let e2 = taken_as (frames (map line_of fs)) _ gs fs e1 (frames_forth fs) in
    let y : some (f ∷ fs) ≡ some gs = e2 in cc

-- ---- frames and their order
frames_of : Raw → List TextFrame
frames_of r = map class_frame r.classes ++ (map method_frame r.methods ++ (main_frame r.input r.main ∷ []))

front_back : (f : TextFrame) (r q : Raw) → in_front f r ≡ some q → frames_of q ≡ f ∷ frames_of r
unfolding frames_of
front_back (class_frame c) r q e = given (λ (x : Raw). frames_of x ≡ class_frame c ∷ frames_of r) _ q e refl
front_back (method_frame m) r q e = go r.classes refl e
  where
    go : (cs : List ClassFrame) → r.classes ≡ cs
        → ◌≡◌ {A = Option Raw} (elim cs [ [] ↦ some (raw [] (m ∷ r.methods) r.input r.main) | c ∷ ds ↦ none ]) (some q)
        → frames_of q ≡ method_frame m ∷ frames_of r
    go [] p z =
        given (λ (x : Raw). frames_of x ≡ method_frame m ∷ frames_of r) _ q z
        (ap (λ (cs : List ClassFrame). method_frame m ∷ frames_of (raw cs r.methods r.input r.main)) (sym p))
    go (c ∷ ds) p z = absurd (none-ne-some q z)
front_back (main_frame i x) r q e = absurd (none-ne-some q e)

ordered_back : (fs : List TextFrame) (r : Raw) → ordered fs ≡ some r → frames_of r ≡ fs
unfolding ordered frames_of
ordered_back [] r e = absurd (none-ne-some r e)
ordered_back (class_frame c ∷ fs) r e =
    taken (ordered fs) r e λ q p e1. front_back (class_frame c) q r e1 ∙ ap (λ (l : List TextFrame). class_frame c ∷ l) (ordered_back fs q p)
ordered_back (method_frame m ∷ fs) r e =
    taken (ordered fs) r e λ q p e1. front_back (method_frame m) q r e1 ∙ ap (λ (l : List TextFrame). method_frame m ∷ l) (ordered_back fs q p)
ordered_back (main_frame i x ∷ []) r e = given (λ (q : Raw). frames_of q ≡ main_frame i x ∷ []) _ r e refl
ordered_back (main_frame i x ∷ (f ∷ fs)) r e = absurd (none-ne-some r e)

methods_forth : (ms : List Method) (i : Option Ty) (e : Expr) → ordered (map method_frame ms ++ (main_frame i e ∷ [])) ≡ some (raw [] ms i e)
unfolding ordered
methods_forth [] i e = refl
methods_forth (m ∷ ms) i e = ap (λ (o : Option Raw). o >>= λ r. in_front (method_frame m) r) (methods_forth ms i e)

ordered_forth : (cs : List ClassFrame) (ms : List Method) (i : Option Ty) (e : Expr) → ordered (frames_of (raw cs ms i e)) ≡ some (raw cs ms i e)
unfolding ordered frames_of
ordered_forth [] ms i e = methods_forth ms i e
ordered_forth (c ∷ cs) ms i e = ap (λ (o : Option Raw). o >>= λ r. in_front (class_frame c) r) (ordered_forth cs ms i e)

-- ---- frames in order and tables
number_from : ℕ → List Class → List ClassFrame
number_from k [] = []
number_from k (c ∷ cs) = record { number = k; body = c } ∷ number_from (suc k) cs

raw_of : Table → Raw
raw_of t = raw (number_from 1 t.classes) t.methods t.input t.main

numbered_back : (k : ℕ) (cs : List ClassFrame) → numbered k cs ≡ true → number_from k (bodies cs) ≡ cs
unfolding numbered number_from
numbered_back k [] e = refl
numbered_back k (c ∷ cs) e =
    let a = and_true (eqb c.number k && ltb c.body.parent k) (numbered (suc k) cs) e in
    let n = eqb-true c.number k (and_true (eqb c.number k) (ltb c.body.parent k) a.0).0 in
    λ i. record { number = sym n i; body = c.body } ∷ numbered_back (suc k) cs a.1 i

bodies_number : (k : ℕ) (cs : List Class) → bodies (number_from k cs) ≡ cs
unfolding number_from
bodies_number k [] = refl
bodies_number k (c ∷ cs) = ap (λ (l : List Class). c ∷ l) (bodies_number (suc k) cs)

table_back : (r : Raw) (t : Table) → table r ≡ some t → raw_of t ≡ r
unfolding raw_of
table_back r t e =
    let a = table_ruled r t e in
    ap raw_of (sym a.1) ∙ ap (λ (cs : List ClassFrame). raw cs r.methods r.input r.main) (numbered_back 1 r.classes a.0.numbers)

table_forth : (t u : Table) → table (raw_of t) ≡ some u → u ≡ t
unfolding raw_of
table_forth t u e =
    sym (table_ruled (raw_of t) u e).1 ∙ ap {B = Table} (λ (cs : List Class). record { classes = cs; methods = t.methods; input = t.input; main = t.main }) (bodies_number 1 t.classes)

-- the lines of a table are the lines of its frames
method_lines_lem : (ms : List Method) (i : Option Ty) (e : Expr) → method_lines ms ++ (main_line i e ∷ []) ≡ map line_of (map method_frame ms ++ (main_frame i e ∷ []))
unfolding method_lines
method_lines_lem [] i e = refl
method_lines_lem (m ∷ ms) i e = ap (λ (ls : List (List ℕ)). method_line m ∷ ls) (method_lines_lem ms i e)

class_lines_lem : (k : ℕ) (cs : List Class) (ls : List (List ℕ)) (fs : List TextFrame) → ls ≡ map line_of fs → class_lines k cs ++ ls ≡ map line_of (map class_frame (number_from k cs) ++ fs)
unfolding number_from
class_lines_lem k [] ls fs e = e
class_lines_lem k (c ∷ cs) ls fs e = ap (λ (l : List (List ℕ)). class_line k c ∷ l) (class_lines_lem (suc k) cs ls fs e)

table-lines : (t : Table) → table_lines t ≡ map line_of (frames_of (raw_of t))
unfolding table_lines frames_of raw_of
table-lines t = class_lines_lem 1 t.classes _ _ (method_lines_lem t.methods t.input t.main)

-- ---- both ways
-- text, table, text
pub write_read : (s : List ℕ) (t : Table) → read_text s ≡ read t → text_of t ≡ s
unfolding text_of
write_read s t e =
    let p = passed s t e in
    let r : frames_of (raw_of t) ≡ p.fs = ap frames_of (table_back p.r t p.to_table) ∙ ordered_back p.fs p.r p.to_raw in
    ap hex_text (table-lines t ∙ ap (map line_of) r ∙ frames_back p.ls p.fs p.to_frames (lines-bytes s p.ls p.to_lines))
    ∙ hex_lines s p.ls p.each_line

-- table, text, table
pub read_write : (t u : Table) → read_text (text_of t) ≡ read u → u ≡ t
unfolding text_of raw_of
read_write t u e =
    let p = passed (text_of t) u e in
    let l = lines_hex (table_lines t) p.ls p.each_line ∙ table-lines t in
    let f = frames_forth (frames_of (raw_of t)) p.fs (subst (λ (ls : List (List ℕ)). frames ls ≡ some p.fs) l p.to_frames) in
    let o : some (raw_of t) ≡ some p.r = sym (ordered_forth (raw_of t).classes t.methods t.input t.main) ∙ ap ordered (sym f) ∙ p.to_raw in
    table_forth t u (subst (λ (r : Raw). table r ≡ some u) (same (raw_of t) p.r o) p.to_table)

-- ---- the writer
-- what the writer gives, by what the reader says of the table's text
writes : (t : Table) (a : Answer) → read_text (text_of t) ≡ a → write_table t ≡ (elim a as (λ _. Text) [ refusal k ↦ no_text | read u ↦ text (text_of t) ])
unfolding write_table
writes t a e = ap (λ (x : Answer). elim x as (λ _. Text) [ refusal k ↦ no_text | read u ↦ text (text_of t) ]) e

text_or_not : (s : List ℕ) → no_text ≡ text s → ⊥
text_or_not s e = let z : ◌≡◌ {A = ℕ} 0 1 = cc in omega arith

pub written_reads : (t : Table) (s : List ℕ) → write_table t ≡ text s → read_text s ≡ read t
written_reads t s e = go (read_text (text_of t)) refl
  where
    go : (a : Answer) → read_text (text_of t) ≡ a → read_text s ≡ read t
    go (refusal k) q = absurd (text_or_not s (sym (writes t (refusal k) q) ∙ e))
    go (read u) q =
        let y : text (text_of t) ≡ text s = sym (writes t (read u) q) ∙ e in
        let w : text_of t ≡ s = cc in
        ap read_text (sym w) ∙ q ∙ ap read (read_write t u q)

pub read_writes : (s : List ℕ) (t : Table) → read_text s ≡ read t → write_table t ≡ text s
read_writes s t e = let w = write_read s t e in writes t (read t) (ap read_text w ∙ e) ∙ ap text w

-- refusal 8 is for the tables that no text reads into
pub refused_exactly_lem : (t : Table)
    → (write_table t ≡ no_text → (s : List ℕ) → read_text s ≡ read t → ⊥) × (((s : List ℕ) → read_text s ≡ read t → ⊥) → write_table t ≡ no_text)
refused_exactly_lem t = (λ n s e. text_or_not s (sym n ∙ read_writes s t e), λ h. go h (read_text (text_of t)) refl)
  where
    go : ((s : List ℕ) → read_text s ≡ read t → ⊥) → (a : Answer) → read_text (text_of t) ≡ a → write_table t ≡ no_text
    go h (refusal k) q = writes t (refusal k) q
    go h (read u) q = absurd (h (text_of t) (q ∙ ap read (read_write t u q)))

-- no text written is too long
pub written-length : (t : Table) (s : List ℕ) → write_table t ≡ text s → length s ≤ text_size
written-length t s e = (passed s t (written_reads t s e)).size
