-- What the writer's answer says: the bytes of a table that is read give cofj's `write_call`, and refusal 8 is exactly for bytes that no text reads into.
use Rattle.std.proofs.Common.{ℕ, arith, ◌≡◌, refl, sym, ap, ◌∙◌, subst, Bool, true, false, List, eqb, ltb, length, eqb-true, Ok, Err}
use Rattle.std.proofs.Math.Option.{Option, none, some}
use Rattle.std.specs.declared.result.Result.{Result}
use Rattle.cofj.specs.declared.Refusal.{Refusal}
use Rattle.cofj.specs.Refusals.{refusal_number, answer_number}
use Rattle.tables.proofs.ReadLaws.{some_number}
use Rattle.cofj.specs.Syntax.{Table}
use Rattle.std.specs.Str.{bytes_eq}
use Rattle.std.proofs.lemmas.Slice.Eq.{bytes_eq-Decides}
use Rattle.cofj.specs.Text.{hex_text, lines}
use Rattle.cofj.specs.Partial.{◌>>=◌}
use Rattle.cofj.specs.Frames.{frames}
use Rattle.cofj.specs.Tables.{ordered, few, table, overridden}
use Rattle.cofj.specs.Reading.{Answer, refusal, read, ◌else◌next◌, read_text}
use Rattle.cofj.specs.Writing.{text_of, Text, no_text, text}
use Rattle.cofj.specs.Calls.{Wrote, wrote, over, write_call}
use Rattle.cofj.proofs.Readable.{read_formed}
use Rattle.cofj.proofs.RoundTrip.{write_read, read_writes}
use Rattle.classes.specs.Layout.{layout}
use Rattle.classes.specs.Machine.{pick}
use Rattle.tables.specs.declared.read.Reading.{Reading}
use Rattle.tables.specs.Readings.{the_table, no_table, answered, reading_of, Into}
use Rattle.tables.specs.Writings.{lines_in, gives, readable, text_in, writing_of, holding}
use Rattle.tables.proofs.LinesIn.{lines_in_lem}

zero_one : ◌≡◌ {A = ℕ} 0 1 → ⊥
zero_one e = omega arith

gives-holding : (B : List ℕ) → gives (holding B) B ≡ true
unfolding gives
gives-holding B = (bytes_eq-Decides B B).1 refl

gives_is : (r : Reading) (B : List ℕ) → gives r B ≡ true → r ≡ holding B
unfolding gives
gives_is r B e = go (eqb r.refusal 0) refl e
  where
    go : (x : Bool) → eqb r.refusal 0 ≡ x → pick x (bytes_eq B r.table.bytes) false ≡ true → r ≡ holding B
    go true q z =
        let k = eqb-true r.refusal 0 q in
        let l = sym ((bytes_eq-Decides B r.table.bytes).0 z) in
        λ i. record { refusal = k i; table = record { bytes = l i } }
    go false q z = absurd (zero_one (let y : ◌≡◌ {A = ℕ} 0 1 = cc in y))

-- ---- a text that reads into bytes reads into a table with these bytes
pub record TableOf (s B : List ℕ) : Type 0 where
  pub whole : Table
  pub reads : read_text s ≡ read whole
  pub bytes : B ≡ layout whole

-- the number of a refusal is not 0
not_zero : {A : Type 0} (o : Option A) (n : ℕ) (f : A → Answer) → (n ≡ 0 → ⊥) → ((a : A) → f a ≡ refusal 0 → ⊥) → o else n next f ≡ refusal 0 → ⊥
not_zero none n f h g e = let y : refusal n ≡ refusal 0 = e in h (let z : n ≡ 0 = cc in z)
not_zero (some a) n f h g e = g a e

read_or_refused : (t : Table) → read t ≡ refusal 0 → ⊥
read_or_refused t e = zero_one (let z : ◌≡◌ {A = ℕ} 0 1 = cc in z)

pub no_zero : (s : List ℕ) → read_text s ≡ refusal 0 → ⊥
unfolding read_text
no_zero s e =
    not_zero (lines s) 1 _ (λ z. omega arith)
    (λ ls. not_zero (frames ls) 2 _ (λ z. omega arith)
    (λ fs. not_zero (ordered fs >>= few) 3 _ (λ z. omega arith)
    (λ r. not_zero (table r) 4 _ (λ z. omega arith)
    (λ t. not_zero (overridden t) 5 _ (λ z. omega arith) (λ u. read_or_refused u)))))
    e

by_answer : (s B : List ℕ) (a : Answer) → read_text s ≡ a → reading_of s ≡ holding B → TableOf s B
unfolding reading_of
by_answer s B (refusal k) q e =
    let z : no_table k ≡ holding B = sym (ap answered q) ∙ e in
    let y : k ≡ 0 = ap (λ (r : Reading). r.refusal) z in
    absurd (no_zero s (q ∙ ap refusal y))
by_answer s B (read t) q e =
    let z : the_table t ≡ holding B = sym (ap answered q) ∙ e in
    record { whole = t; reads = q; bytes = sym (ap (λ (r : Reading). r.table.bytes) z) }

pub reads_table : (s B : List ℕ) → reading_of s ≡ holding B → TableOf s B
reads_table s B e = by_answer s B (read_text s) refl e

-- ---- what an answer says of the text, by its number
module _ (s : List ℕ) (x : Result (Unit {0}) Refusal) (B : List ℕ) (h : Into (reading_of s) x B) where
  by_number : (a : Answer) → read_text s ≡ a → answer_number x ≡ (answered a).refusal
  unfolding reading_of
  by_number a q = h.number ∙ ap (λ (y : Answer). (answered y).refusal) q

  holding_is : x ≡ Ok tt → holding B ≡ reading_of s
  holding_is z = λ i. record { refusal = (sym (ap answer_number z) ∙ h.number) i; table = record { bytes = h.table z i } }

  pub answer_refusal : (k : Refusal) → x ≡ Err k → read_text s ≡ refusal (refusal_number k)
  answer_refusal k e = go (read_text s) refl
    where
      go : (a : Answer) → read_text s ≡ a → a ≡ refusal (refusal_number k)
      go (refusal m) q = ap refusal (sym (by_number (refusal m) q) ∙ ap answer_number e)
      go (read t) q = let y : refusal_number k ≡ 0 = sym (ap answer_number e) ∙ by_number (read t) q in absurd (omega (arith, some_number k))

  pub answer-table : x ≡ Ok tt → TableOf s B
  answer-table z = reads_table s B (sym (holding_is z))

  -- and the answer by value
  pub reading_refused : (r : Reading) (k : Refusal) → x ≡ Err k → r ≡ no_table (refusal_number k) → r ≡ reading_of s
  unfolding reading_of
  reading_refused r k e q = q ∙ sym (ap answered (answer_refusal k e))

  pub reading_table : x ≡ Ok tt → holding B ≡ reading_of s
  reading_table z = holding_is z

-- ---- the text of bytes
by_test : (B : List ℕ) (b : Bool) → readable B ≡ b → text_in B ≡ pick b (text (hex_text (lines_in B))) no_text
unfolding text_in
by_test B b e = ap (λ (x : Bool). pick x (text (hex_text (lines_in B))) no_text) e

-- of a table that is read, the text that was read
pub text_of_read : (s : List ℕ) (t : Table) → read_text s ≡ read t → text_in (layout t) ≡ text s
unfolding readable reading_of text_of
text_of_read s t e =
    let w : hex_text (lines_in (layout t)) ≡ s = ap hex_text (lines_in_lem t (read_formed s t e)) ∙ write_read s t e in
    let r : reading_of (hex_text (lines_in (layout t))) ≡ holding (layout t) = ap reading_of w ∙ ap answered e in
    by_test (layout t) true (ap (λ (x : Reading). gives x (layout t)) r ∙ gives-holding (layout t)) ∙ ap text w

-- the writer's answer and buffer are the language's
pub writes_as : (s : List ℕ) (t : Table) (d : List ℕ) → read_text s ≡ read t → writing_of (layout t) d ≡ write_call t d
unfolding writing_of write_call
writes_as s t d e = ap (λ (x : Text). wrote x d) (text_of_read s t e ∙ sym (read_writes s t e))

-- bytes that a text reads into have this text, and no other bytes have one
pub into_text : (s B : List ℕ) → reading_of s ≡ holding B → text_in B ≡ text s
into_text s B e = let k = reads_table s B e in ap text_in k.bytes ∙ text_of_read s k.whole k.reads

pub text_into : (s B : List ℕ) → text_in B ≡ text s → reading_of s ≡ holding B
unfolding readable
text_into s B e = go (readable B) refl
  where
    go : (b : Bool) → readable B ≡ b → reading_of s ≡ holding B
    go true q =
        let y : text (hex_text (lines_in B)) ≡ text s = sym (by_test B true q) ∙ e in
        let w : hex_text (lines_in B) ≡ s = cc in
        ap reading_of (sym w) ∙ gives_is (reading_of (hex_text (lines_in B))) B q
    go false q =
        let y : no_text ≡ text s = sym (by_test B false q) ∙ e in
        absurd (zero_one (let z : ◌≡◌ {A = ℕ} 0 1 = cc in z))

-- ---- refusal 8
not_eight : (s d : List ℕ) → (wrote (text s) d).answer.refusal ≡ 8 → ⊥
not_eight s d e = go (ltb (length d) 49567) e
  where
    go : (b : Bool) → (elim b as (λ _. Wrote) [
      | true ↦ record { answer = record { refusal = 9; length = 0 }; buffer = d }
      | false ↦ record { answer = record { refusal = 0; length = length s }; buffer = over s d }
    ]).answer.refusal ≡ 8 → ⊥
    go true z = omega arith
    go false z = omega arith

-- exactly for bytes that no text reads into
pub eight_exactly : (B d : List ℕ)
    → ((writing_of B d).answer.refusal ≡ 8 → (s : List ℕ) → reading_of s ≡ holding B → ⊥) × (((s : List ℕ) → reading_of s ≡ holding B → ⊥) → (writing_of B d).answer.refusal ≡ 8)
unfolding writing_of
eight_exactly B d = (
  λ n s e. not_eight s d (subst (λ (x : Text). (wrote x d).answer.refusal ≡ 8) (into_text s B e) n),
  λ h. go h (text_in B) refl,
)
  where
    go : ((s : List ℕ) → reading_of s ≡ holding B → ⊥) → (x : Text) → text_in B ≡ x → (wrote (text_in B) d).answer.refusal ≡ 8
    go h no_text q = ap (λ (x : Text). (wrote x d).answer.refusal) q
    go h (text s) q = absurd (h s (text_into s B q))
