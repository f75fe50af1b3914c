-- Reading, checking, closing and writing: what each call answers, number by number. Collected in specs/Promises.
-- Not here: runs (RunCalls).
use Prim.Native.Nat.{ℕ, ◌≤◌}
use native.Mathlib.Omega.{arith}
use mathlib.Core.Path.{◌≡◌, refl, sym, ap, ◌∙◌}
use mathlib.Core.Bool.{Bool, true, false, cond}
use mathlib.Core.List.{List}
use mathlib.Core.Option.{Option, none, some}
use lib.Dec.{ltb}
use lib.ListN.{length, drop, length-append, length-drop}
use borrow.Author.Tests.{ltb-false, lt-ltb, le-ltb}
use Rattle.cofj.specs.declared.Session.{Session}
use Rattle.cofj.specs.declared.Verdict.{Verdict}
use Rattle.cofj.specs.Limits.{text_size}
use Rattle.cofj.specs.Partial.{◌>>=◌}
use Rattle.cofj.specs.Text.{lines}
use Rattle.cofj.specs.Syntax.{Ty, ty, Table}
use Rattle.cofj.specs.Frames.{TextFrame, frames}
use Rattle.cofj.specs.Tables.{Raw, ordered, few, table, overridden}
use Rattle.cofj.specs.Reading.{Answer, refusal, read, ◌else◌next◌, read_text}
use Rattle.cofj.specs.Writing.{Text, no_text, text, write_table}
use Rattle.cofj.specs.Typing.{Checked, refused, accepted, check}
use Rattle.cofj.specs.TypingRules.{Judged, REFUSAL-6, REFUSAL-7, ACCEPTED}
use Rattle.cofj.specs.Calls.{closed_session, close_session, check_text, verdict_of, check_call, over, not_written, written, wrote, Wrote, write_call}
use Rattle.cofj.specs.Promises.{Program, Reads, REFUSAL-1, REFUSAL-2, REFUSAL-3, REFUSAL-4, REFUSAL-5, READ, Checks, Closes, Writes}
use Rattle.cofj.proofs.Readable.{read_formed}
use Rattle.cofj.proofs.CheckRules.{check_sound, check_complete, judged_sound, refused_6, refused_7}
use Rattle.cofj.proofs.RoundTrip.{written-length}

-- ---- reading
module _ (s : List ℕ) where
  -- what reading answers
  pub reads : Reads s (read_text s)
  unfolding read_text
  reads = by_lines (lines s) refl
    where
      by_over : (ls : List (List ℕ)) (fs : List TextFrame) (r : Raw) (t : Table) → lines s ≡ some ls → frames ls ≡ some fs → (ordered fs >>= few) ≡ some r → table r ≡ some t
          → (o : Option Table) → overridden t ≡ o → Reads s (o else 5 next λ u. read u)
      by_over ls fs r t a b c d none e = REFUSAL-5 a b c d e
      by_over ls fs r t a b c d (some u) e = READ a b c d e

      by_table : (ls : List (List ℕ)) (fs : List TextFrame) (r : Raw) → lines s ≡ some ls → frames ls ≡ some fs → (ordered fs >>= few) ≡ some r
          → (o : Option Table) → table r ≡ o → Reads s (o else 4 next λ t. overridden t else 5 next λ u. read u)
      by_table ls fs r a b c none e = REFUSAL-4 a b c e
      by_table ls fs r a b c (some t) e = by_over ls fs r t a b c e (overridden t) refl

      by_order : (ls : List (List ℕ)) (fs : List TextFrame) → lines s ≡ some ls → frames ls ≡ some fs
          → (o : Option Raw) → (ordered fs >>= few) ≡ o → Reads s (o else 3 next λ r. table r else 4 next λ t. overridden t else 5 next λ u. read u)
      by_order ls fs a b none e = REFUSAL-3 a b e
      by_order ls fs a b (some r) e = by_table ls fs r a b e (table r) refl

      by_frames : (ls : List (List ℕ)) → lines s ≡ some ls → (o : Option (List TextFrame)) → frames ls ≡ o
          → Reads s (o else 2 next λ fs. (ordered fs >>= few) else 3 next λ r. table r else 4 next λ t. overridden t else 5 next λ u. read u)
      by_frames ls a none e = REFUSAL-2 a e
      by_frames ls a (some fs) e = by_order ls fs a e (ordered fs >>= few) refl

      by_lines : (o : Option (List (List ℕ))) → lines s ≡ o
          → Reads s (o else 1 next λ ls. frames ls else 2 next λ fs. (ordered fs >>= few) else 3 next λ r. table r else 4 next λ t. overridden t else 5 next λ u. read u)
      by_lines none e = REFUSAL-1 e
      by_lines (some ls) e = by_frames ls e (frames ls) refl

  -- and nothing else
  pub reads_is : {r : Answer} → Reads s r → read_text s ≡ r
  unfolding read_text
  reads_is (REFUSAL-1 a) = rw a
  reads_is (REFUSAL-2 a b) = rw (a, b)
  reads_is (REFUSAL-3 a b c) = rw (a, b, c)
  reads_is (REFUSAL-4 a b c d) = rw (a, b, c, d)
  reads_is (REFUSAL-5 a b c d e) = rw (a, b, c, d, e)
  reads_is (READ a b c d e) = rw (a, b, c, d, e)

  -- its numbers are 1 to 5
  pub read_number : (k : ℕ) → read_text s ≡ refusal k → (1 ≤ k) × (k ≤ 5)
  read_number k q = go (read_text s) reads q
    where
      go : (r : Answer) → Reads s r → r ≡ refusal k → (1 ≤ k) × (k ≤ 5)
      go r (REFUSAL-1 a) e = let z : 1 ≡ k = cc in (omega arith, omega arith)
      go r (REFUSAL-2 a b) e = let z : 2 ≡ k = cc in (omega arith, omega arith)
      go r (REFUSAL-3 a b c) e = let z : 3 ≡ k = cc in (omega arith, omega arith)
      go r (REFUSAL-4 a b c d) e = let z : 4 ≡ k = cc in (omega arith, omega arith)
      go r (REFUSAL-5 a b c d f) e = let z : 5 ≡ k = cc in (omega arith, omega arith)
      go r (READ a b c d f) e = let z : ◌≡◌ {A = ℕ} 0 1 = cc in absurd (omega arith)

-- ---- the check
pub check_unread : (s : List ℕ) (k : ℕ) → read_text s ≡ refusal k → check_text s ≡ refused k
unfolding check_text
check_unread s k e = rw (e, check_text)

pub check_read : (s : List ℕ) (t : Table) → read_text s ≡ read t → check_text s ≡ check t
unfolding check_text
check_read s t e = rw (e, check_text)

-- a verdict says what was answered
verdict_refused : (c : Checked) (k : ℕ) → 1 ≤ k → verdict_of c ≡ verdict_of (refused k) → c ≡ refused k
verdict_refused (refused n) k l e = ap refused (ap (λ (v : Verdict). v.refusal) e)
verdict_refused (accepted u) k l e = let z : 0 ≡ k = ap (λ (v : Verdict). v.refusal) e in absurd (omega arith)

verdict_accepted : (c : Checked) (u : Ty) → (c ≡ refused 0 → ⊥) → verdict_of c ≡ verdict_of (accepted u) → c ≡ accepted u
verdict_accepted (refused n) u h e = absurd (h (ap refused (ap (λ (v : Verdict). v.refusal) e)))
verdict_accepted (accepted w) u h e =
    let p = ap (λ (v : Verdict). v.class) e in
    let q = ap (λ (v : Verdict). v.tag) e in
    λ i. accepted (ty (p i) (q i))

-- the check's numbers are 6 and 7
pub check_number : (s : List ℕ) (t : Table) → read_text s ≡ read t → (k : ℕ) → check t ≡ refused k → (6 ≤ k) × (k ≤ 7)
check_number s t e k q = go (check t) (judged_sound t (read_formed s t e).parents) q
  where
    go : (x : Checked) → Judged t x → x ≡ refused k → (6 ≤ k) × (k ≤ 7)
    go x (REFUSAL-6 m h) z = let y : 6 ≡ k = cc in (omega arith, omega arith)
    go x (REFUSAL-7 m h) z = let y : 7 ≡ k = cc in (omega arith, omega arith)
    go x (ACCEPTED h) z = let y : ◌≡◌ {A = ℕ} 0 1 = cc in absurd (omega arith)

-- the numbers of both
pub text_number : (s : List ℕ) (k : ℕ) → check_text s ≡ refused k → (1 ≤ k) × (k ≤ 7)
text_number s k e = go (read_text s) refl
  where
    go : (r : Answer) → read_text s ≡ r → (1 ≤ k) × (k ≤ 7)
    go (refusal n) q = let l = read_number s n q in let y : refused n ≡ refused k = sym (check_unread s n q) ∙ e in let z : n ≡ k = cc in (omega (arith, l.0), omega (arith, l.1))
    go (read t) q = let l = check_number s t q k (sym (check_read s t q) ∙ e) in (omega (arith, l.0), omega (arith, l.1))

pub checks : (s : List ℕ) → Checks s (check_call s)
checks s =
    record {
      unread = λ k e. ap verdict_of (check_unread s k e);
      six = λ t e. (
        λ v. (refused_6 t (read_formed s t e).parents).0 (sym (check_read s t e) ∙ verdict_refused (check_text s) 6 (omega arith) v),
        λ h. ap verdict_of (check_read s t e ∙ (refused_6 t (read_formed s t e).parents).1 h),
      );
      seven = λ t e. (
        λ v. (refused_7 t (read_formed s t e).parents).0 (sym (check_read s t e) ∙ verdict_refused (check_text s) 7 (omega arith) v),
        λ h. ap verdict_of (check_read s t e ∙ (refused_7 t (read_formed s t e).parents).1 h),
      );
      types = λ t u e. (
        λ v. check_sound t (read_formed s t e).parents u (sym (check_read s t e) ∙ verdict_accepted (check_text s) u not_zero v),
        λ h. ap verdict_of (check_read s t e ∙ check_complete t (read_formed s t e).parents u h),
      );
      zero = (λ v. program (check_text s) refl v (read_text s) refl, λ p. ap (λ (c : Checked). (verdict_of c).refusal) (check_read s p.table p.reads ∙ p.accepts));
      most = small (check_text s) refl;
    }
  where
    not_zero : check_text s ≡ refused 0 → ⊥
    not_zero e = let l = (text_number s 0 e).0 in omega arith

    program : (c : Checked) → check_text s ≡ c → (verdict_of c).refusal ≡ 0 → (r : Answer) → read_text s ≡ r → Program s
    program (refused k) e v r q = absurd (not_zero (e ∙ ap refused v))
    program (accepted u) e v (refusal k) q = let y : refused k ≡ accepted u = sym (check_unread s k q) ∙ e in let z : ◌≡◌ {A = ℕ} 0 1 = cc in absurd (omega arith)
    program (accepted u) e v (read t) q = record { table = t; type = u; reads = q; accepts = sym (check_read s t q) ∙ e }

    small : (c : Checked) → check_text s ≡ c → (verdict_of c).refusal ≤ 7
    small (refused k) e = (text_number s k e).1
    small (accepted u) e = omega arith

-- ---- closing
pub closes : (σ : Session) → Closes σ (close_session σ)
unfolding close_session
closes σ = record { first = by_active; again = by_active }
  where
    by_active : {b : Bool} → σ.active ≡ b → close_session σ ≡ cond b (record { refusal = 0; session = closed_session σ }) (record { refusal = 11; session = σ })
    by_active e = ap (λ (x : Bool). cond x (record { refusal = 0; session = closed_session σ }) (record { refusal = 11; session = σ })) e

-- ---- the writer
pub over-length : (s buffer : List ℕ) → length s ≤ length buffer → length (over s buffer) ≡ length buffer
unfolding over
over-length s buffer l = length-append s (drop (length s) buffer) ∙ (let d = length-drop (length s) buffer in omega arith)

-- the answer for a text that is given, or for none
pub wrote_writes : (o : Text) (buffer : List ℕ) → ((s : List ℕ) → o ≡ text s → length s ≤ text_size) → Writes o buffer (wrote o buffer)
wrote_writes o buffer small =
    record {
      eight = λ e. ap (λ (x : Text). wrote x buffer) e;
      nine = λ s e l. ap (λ (x : Text). wrote x buffer) e ∙ by_room s true (lt-ltb (length buffer) text_size l);
      writes = λ s e l. ap (λ (x : Text). wrote x buffer) e ∙ by_room s false (le-ltb (length buffer) text_size l);
      kept = by_text o refl;
    }
  where
    by_room : (s : List ℕ) (b : Bool) → ltb (length buffer) text_size ≡ b → wrote (text s) buffer ≡ elim b as (λ _. Wrote) [ true ↦ not_written 9 buffer | false ↦ written s buffer ]
    by_room s b e = ap (λ (x : Bool). elim x as (λ _. Wrote) [ true ↦ not_written 9 buffer | false ↦ written s buffer ]) e

    by_length : (s : List ℕ) → length s ≤ text_size → (b : Bool) → ltb (length buffer) text_size ≡ b
        → length (elim b as (λ _. Wrote) [ true ↦ not_written 9 buffer | false ↦ written s buffer ]).buffer ≡ length buffer
    by_length s l true e = refl
    by_length s l false e = over-length s buffer (omega (arith, l, ltb-false (length buffer) text_size e))

    by_text : (x : Text) → o ≡ x → length (wrote x buffer).buffer ≡ length buffer
    by_text no_text e = refl
    by_text (text s) e = by_length s (small s e) (ltb (length buffer) text_size) refl

pub writes : (t : Table) (buffer : List ℕ) → Writes (write_table t) buffer (write_call t buffer)
unfolding write_call
writes t buffer = wrote_writes (write_table t) buffer (written-length t)
