-- The promises of cofj's specs/Promises and of this crate's, proved of what its functions return.
-- Their contracts say what they return by the language's definitions (of a run: `Returned`); what that is worth is proved of these in cofj.
use Rattle.std.proofs.Common.{ℕ, ◌+◌, ◌≤◌, arith, ◌≡◌, refl, sym, ap, ◌∙◌, subst, List, [], ◌∷◌, get_or, None}
use mathlib.Core.List.Memᴰ
use mathlib.Core.List.{Memᴰ}
use mathlib.Core.Logic.{◌⊎◌, inl, inr}
use Rattle.std.proofs.Math.Option.{Option, none, some}
use Rattle.std.specs.declared.result.Result.{Result}
use Rattle.cofj.specs.declared.Refusal.{Refusal}
use Rattle.cofj.specs.declared.Refusal.TheVariants.{BadFrame}
use Rattle.cofj.specs.Refusals.{refusal_number, answer_number}
use Rattle.cofj.specs.Partial.{◌>>=◌}
use Rattle.cofj.specs.Text.{lines}
use Rattle.cofj.specs.declared.Session.{Session}
use Rattle.cofj.specs.declared.Closing.{Closing}
use Rattle.cofj.specs.declared.Verdict.{Verdict}
use Rattle.cofj.specs.declared.Finding.{Finding}
use Rattle.cofj.specs.Syntax.{Table}
use Rattle.cofj.specs.Frames.{TextFrame, frame, frames}
use Rattle.cofj.specs.Tables as tables
use Rattle.cofj.specs.Tables.{Raw, few}
use Rattle.cofj.specs.Reading.{Answer, refusal, read, read_text}
use Rattle.cofj.specs.Calls.{close_session, check_call, Call, Ran, run_call, Wrote}
use Rattle.cofj.specs.Show.{Presented, show_call}
use Rattle.cofj.specs.Promises.{Program, Reads, REFUSAL-1, REFUSAL-2, REFUSAL-3, Checks, Closes, Shows, FindsMethod, Refusals, Answers, Lengths, Follows, Demand3, Recuts, Recut}
use Rattle.cofj.proofs.RoundTrip.{read_writes, written-length}
use Rattle.cofj.proofs.ReadCalls.{reads, reads_is, read_number, checks, closes, wrote_writes}
use Rattle.cofj.proofs.RunCalls.{refusals, answers, lengths}
use Rattle.cofj.proofs.Readable.{read_formed}
use Rattle.cofj.proofs.Linerun.{shows}
use Rattle.cofj.proofs.Findings.{finds}
use Rattle.cofj.proofs.Promises.{follows, demand3, recuts}
use Rattle.lineform.specs.declared.lines.Counts.{Counts}
use Rattle.lineform.specs.Answers.{decoded_of, framed_of, counts_of, order_of}
use Rattle.classes.specs.Machine.{lookup_of, row_of}
use Rattle.classes.specs.Layout.{layout}
use Rattle.tables.specs.declared.read.Reading.{Reading}
use Rattle.tables.specs.Readings.{answered, reading_of}
use Rattle.tables.specs.Writings.{text_in, writing_of}
use Rattle.engine.specs.Finding.{finding_in}
use Rattle.engine.specs.Promises.{Returned, ReadsInto, WritesFrom, FindsIn}
use Rattle.tables.proofs.Written.{reads_table, into_text, text_into, eight_exactly}
use Rattle.engine.proofs.FindLaws.{finding_on, row_on}

-- ---- demand 1
module _ (a : Call) (x : Ran) (r : Returned a x) where
  pub refusals_of : Refusals a x
  refusals_of = subst (Refusals a) (sym r.is) (refusals a)

  pub answers_of : Answers a x
  answers_of = subst (Answers a) (sym r.is) (answers a)

  pub lengths_of : Lengths a x
  lengths_of = subst (Lengths a) (sym r.is) (lengths a)

  -- demand 2
  pub follows_of : Follows a x
  follows_of = subst (Follows a) (sym r.is) (follows a)

pub closes_of : (σ : Session) (x : Closing) → x ≡ close_session σ → Closes σ x
closes_of σ x e = subst (Closes σ) (sym e) (closes σ)

pub shows_of : (s report work : List ℕ) (x : Presented) → x ≡ show_call s report work → Shows s report work x
shows_of s report work x e = subst (Shows s report work) (sym e) (shows s report work)

pub checks_of : (s : List ℕ) (v : Verdict) → v ≡ check_call s → Checks s v
checks_of s v e = subst (Checks s) (sym e) (checks s)

-- ---- reading
-- a line without a frame: there are no frames
no_frames : (ls : List (List ℕ)) (l : List ℕ) → Memᴰ l ls → frame l ≡ none → frames ls ≡ none
unfolding frames
no_frames [] l m e = absurd (Memᴰ.not-nil m)
no_frames (k ∷ ls) l m e = go (Memᴰ.cases_cons m) (λ n. no_frames ls l n e)
  where
    tail : (o : Option TextFrame) → frames ls ≡ none → (o >>= λ f. frames ls >>= λ fs. some (f ∷ fs)) ≡ none
    tail none q = refl
    tail (some f) q = rw q

    go : (l ≡ k) ⊎ Memᴰ l ls → (Memᴰ l ls → frames ls ≡ none) → frames (k ∷ ls) ≡ none
    go (inl q) ih = let z : frame k ≡ none = ap frame (sym q) ∙ e in rw z
    go (inr n) ih = tail (frame k) (ih n)

order_is : (fs : List TextFrame) (x : Option Raw) → (tables.ordered fs >>= few) ≡ x → order_of (some fs) ≡ counts_of x
unfolding order_of
order_is fs x e = ap counts_of e

reads_into : (s : List ℕ) → ReadsInto s (reading_of s)
unfolding reading_of
reads_into s =
    record {
      refuses = λ k h. ap answered (reads_is s h);
      table = λ t h. ap answered (reads_is s h);
      zero = (λ e. by_zero (read_text s) refl e, λ h. ap (λ (r : Answer). (answered r).refusal) (reads_is s h.1));
      most = small (read_text s) refl;
      decoded = λ o q n. by_lines (lines s) refl o q n;
      framed = λ ls a l m q. by_frame ls a l m (frame l) refl q;
      ordered = λ ls fs a b o q n. by_order ls fs a b (tables.ordered fs >>= few) refl o q n;
    }
  where
    by_zero : (r : Answer) → read_text s ≡ r → (answered r).refusal ≡ 0 → (t : Table) × Reads s (read t)
    by_zero (refusal k) q e = absurd (omega (arith, (read_number s k q).0))
    by_zero (read t) q e = (t, subst (Reads s) q (reads s))

    small : (r : Answer) → read_text s ≡ r → (answered r).refusal ≤ 5
    small (refusal k) q = (read_number s k q).1
    small (read t) q = omega arith

    -- the number of a refusal
    number : {k : ℕ} → Reads s (refusal k) → (answered (read_text s)).refusal ≡ k
    number h = ap (λ (r : Answer). (answered r).refusal) (reads_is s h)

    by_lines : (x : Option (List (List ℕ))) → lines s ≡ x → (o : Result ℕ Refusal) → o ≡ decoded_of x → (answer_number o ≡ 0 → ⊥) → (answered (read_text s)).refusal ≡ answer_number o
    by_lines none a o q n = number (REFUSAL-1 a) ∙ ap answer_number (sym q)
    by_lines (some ls) a o q n = absurd (n (ap answer_number q))

    by_frame : (ls : List (List ℕ)) → lines s ≡ some ls → (l : List ℕ) → Memᴰ l ls → (x : Option TextFrame) → frame l ≡ x → framed_of (frame l) ≡ None
        → (answered (read_text s)).refusal ≡ refusal_number BadFrame
    by_frame ls a l m none e q = number (REFUSAL-2 a (no_frames ls l m e))
    by_frame ls a l m (some f) e q = let z : framed_of (some f) ≡ None = sym (ap framed_of e) ∙ q in cc

    by_order : (ls : List (List ℕ)) (fs : List TextFrame) → lines s ≡ some ls → frames ls ≡ some fs → (x : Option Raw) → (tables.ordered fs >>= few) ≡ x
        → (o : Result Counts Refusal) → o ≡ order_of (some fs) → (answer_number o ≡ 0 → ⊥) → (answered (read_text s)).refusal ≡ answer_number o
    by_order ls fs a b none e o q n = number (REFUSAL-3 a b e) ∙ sym (ap answer_number (q ∙ order_is fs none e))
    by_order ls fs a b (some r) e o q n = absurd (n (ap answer_number (q ∙ order_is fs (some r) e)))

pub reads_of : (s : List ℕ) (x : Reading) → x ≡ reading_of s → ReadsInto s x
reads_of s x e = subst (ReadsInto s) (sym e) (reads_into s)

-- ---- the writer
pub writes_of : (B buffer : List ℕ) (x : Wrote) → x ≡ writing_of B buffer → WritesFrom B buffer x
unfolding writing_of
writes_of B buffer x e = subst (WritesFrom B buffer) (sym e) (record {
  writes = wrote_writes (text_in B) buffer λ s q. let h = reads_table s B (text_into s B q) in written-length h.whole s (read_writes s h.whole h.reads);
  texts = λ s. (text_into s B, into_text s B);
  eight = eight_exactly B buffer;
})

-- ---- where a method is found
pub finds_of : (B : List ℕ) (c m : ℕ) (x : Finding) → x ≡ finding_in (lookup_of B c m) → FindsIn B c m x
finds_of B c m x e = record {
  any = e;
  table = λ s t h q l. subst (FindsMethod t c m) (sym (e ∙ ap (λ (A : List ℕ). finding_in (lookup_of A c m)) q ∙ finding_on t (read_formed s t (reads_is s h)) c m l)) (finds s t (reads_is s h) c m);
  row = λ s t h q l z.
      let p : x ≡ finding_in (lookup_of (layout t) c m) = e ∙ ap (λ (A : List ℕ). finding_in (lookup_of A c m)) q in
      let w = row_on t (read_formed s t (reads_is s h)) c m l (sym (ap (λ (y : Finding). y.found) p) ∙ z) in
      ap (λ (A : List ℕ). get_or A (row_of x.method + 1) 0) q ∙ ap (λ (y : Finding). get_or (layout t) (row_of y.method + 1) 0) p ∙ w ∙ sym (ap (λ (y : Finding). y.owner) p);
}

-- ---- demand 3, of any two runs that were not refused, of accepted programs
pub demand3_of : (a b : Call) (p : Program a.text) (q : Program b.text) (x y : Ran) → Returned a x → Returned b y → x.answer.refusal ≡ 0 → y.answer.refusal ≡ 0
    → Demand3 a b p q x y
demand3_of a b p q x y r s e f =
    let d = demand3 a b p q (sym (ap (λ (z : Ran). z.answer.refusal) r.is) ∙ e) (sym (ap (λ (z : Ran). z.answer.refusal) s.is) ∙ f) in
    subst (λ (z : Ran). Demand3 a b p q z y) (sym r.is) (subst (Demand3 a b p q (run_call a)) (sym s.is) d)

-- ---- one tree, however the second text cuts it, of any two runs that were not refused
pub recuts_of : (a b : Call) (x y : Ran) → Returned a x → Returned b y → Recuts a b → x.answer.refusal ≡ 0 → y.answer.refusal ≡ 0 → Recut x y
recuts_of a b x y r s h e f =
    let d = recuts a b h (sym (ap (λ (z : Ran). z.answer.refusal) r.is) ∙ e) (sym (ap (λ (z : Ran). z.answer.refusal) s.is) ∙ f) in
    subst (λ (z : Ran). Recut z y) (sym r.is) (subst (Recut (run_call a)) (sym s.is) d)
