-- Laws of a text and the parts that it lists, as `read_parts` cites them. Not here: packed lines (ReadLines).
use Rattle.std.proofs.Common.{ℕ, ◌*◌, ◌<◌, ◌≤◌, arith, Ok, Err, ◌≡◌, refl, sym, ap, ◌∙◌, Bool, List, [], ◌∷◌, length, take}
use Rattle.std.specs.declared.result.Result.{Result}
use Rattle.std.proofs.Math.Option.{Option, none, some}
use Rattle.cofj.specs.Limits.{part_count, text_size}
use Rattle.cofj.specs.Partial.{◌>>=◌, guard}
use Rattle.cofj.specs.Text.{within, lines_from, lines, hex_text}
use Rattle.cofj.specs.Syntax.{Class, Table}
use Rattle.cofj.specs.Values.{Node}
use Rattle.cofj.specs.Formed.{Formed}
use Rattle.cofj.specs.ReportForm.{Plain}
use Rattle.cofj.specs.Batch.{parts_of}
use Rattle.cofj.proofs.Partial.{guard-bind}
use Rattle.cofj.proofs.TextRound.{within_true, true_within, hex_lines}
use Rattle.cofj.proofs.Reports.{plain, objects_length}
use Rattle.cofj.proofs.GoodValues.{all_weaken}
use Rattle.cofj.proofs.Batch.{parts_back}
use Rattle.lineform.specs.Packed.{unpack}
use Rattle.lineform.specs.Answers.{Decodes}
use Rattle.lineform.proofs.Established.{decoded_lines, decoded_none}
use Rattle.classes.specs.Layout.{Tabled}
use Rattle.cofj.specs.declared.Refusal.{Refusal}
use Rattle.cofj.specs.declared.Refusal.TheVariants.{BadParts}
use Rattle.batch.specs.Reading.{line_count, parts_in, LinesRead, TextRead}

parts_of_lem : (cs : List Class) (s : List ℕ) → parts_of cs s ≡ lines_from s none [] >>= λ ls. parts_in cs ls
unfolding parts_of parts_in
parts_of_lem cs s = refl

-- ---- a text that lists parts is short: at most sixteen bytes a line, two characters for each, and the line's end
text_short : (T : List ℕ) (t : Table) → Tabled T t → (s : List ℕ) (ns : List Node) → parts_of t.classes s ≡ some ns → length s ≤ 33 * part_count
text_short T t b s ns e =
    let p = parts_back t s ns e in
    let a = objects_length ns 0 (all_weaken (Formed t 0) Plain (plain t b.formed) ns p.parts) in
    let c = ap length p.text in
    let d = p.few in
    omega arith

-- ---- `read_parts`
none_read : (T S P : List ℕ) → ((t : Table) → Tabled T t → parts_of t.classes S ≡ none) → TextRead T S P (Err BadParts)
none_read T S P h = record { of = λ t b. rw (h t b) refl }

pub long_text : (T S P : List ℕ) → 33 * part_count < length S → TextRead T S P (Err BadParts)
long_text T S P h = none_read T S P (λ t b. go t b (parts_of t.classes S) refl)
  where
    go : (t : Table) → Tabled T t → (o : Option (List Node)) → parts_of t.classes S ≡ o → o ≡ none
    go t b none e = refl
    go t b (some ns) e = let s = text_short T t b S ns e in absurd (omega arith)

-- the lines of a text that is not too long
module _ (S : List ℕ) (short : length S ≤ 33 * part_count) where
  some_lines : 1 ≤ length S → lines S ≡ lines_from S none []
  unfolding lines
  some_lines one = ap (λ (x : Bool). guard x >>= λ _. lines_from S none []) (true_within 1 text_size (length S) one (omega arith))

no_lines : (S : List ℕ) → length S ≤ 33 * part_count → lines S ≡ none → (cs : List Class) → parts_of cs S ≡ none
unfolding lines_from parts_in
no_lines [] short e cs = parts_of_lem cs []
no_lines (x ∷ xs) short e cs = parts_of_lem cs (x ∷ xs) ∙ ap (λ (p : Option (List (List ℕ))). p >>= λ ls. parts_in cs ls) (sym (some_lines (x ∷ xs) short (omega arith)) ∙ e)

module _ (T S P : List ℕ) (out₀ out : List ℕ) (r : Result ℕ Refusal) (h : Decodes S out₀ out r) (short : length S ≤ 33 * part_count) where
  pub bad_text : (k : Refusal) → r ≡ Err k → TextRead T S P (Err BadParts)
  bad_text k e = none_read T S P (λ t b. no_lines S short (decoded_none S out₀ out r h k e).1 t.classes)

  module _ (w : ℕ) (e : r ≡ Ok w) where
    lines_are : lines S ≡ some (unpack (take w out))
    lines_are = decoded_lines S out₀ out r w h e

    some_text : 1 ≤ length S
    unfolding lines
    some_text = (within_true 1 text_size (length S) (guard-bind (within 1 text_size (length S)) (λ _. lines_from S none []) _ lines_are).0).0

    given : lines_from S none [] ≡ some (unpack (take w out))
    given = sym (some_lines S short some_text) ∙ lines_are

    -- no line has no character
    some_line : 1 ≤ line_count (take w out)
    some_line = go (unpack (take w out)) (hex_lines S (unpack (take w out)) given)
      where
        go : (ls : List (List ℕ)) → hex_text ls ≡ S → 1 ≤ length ls
        go [] q = let z = ap length q in let one = some_text in absurd (omega arith)
        go (l ∷ ls) q = omega arith

    pub text_read : (p : Result ℕ Refusal) → LinesRead T (take w out) P p → TextRead T S P p
    text_read p l = record {
      of = λ t b. rw (parts_of_lem t.classes S, given) (l.of t b some_line);
    }
