-- What `linerun` writes depends on the first characters of its input alone, `linerun_size` of them: a longer first text is refused with 1, a
-- longer second one with 14. Where the input is cut first, then what is written; last that the call `line_show` gives it, in any buffers that are long enough.
use Prim.Native.Nat.{ℕ, zero, suc, ◌+◌, ◌-◌, ◌≤◌, ◌<◌, min}
use native.Mathlib.Omega.{arith}
use mathlib.Core.Path.{◌≡◌, refl, sym, ap, ap₂, ◌∙◌}
use mathlib.Core.Bool.{Bool, true, false, ◌&&◌, cond}
use mathlib.Core.List.{List, [], ◌∷◌, ◌++◌}
use mathlib.Core.Option.{Option, none, some}
use lib.Dec.{eqb, leb, ltb}
use lib.ListN.{length, take, drop, length-take}
use lib.Seq.{take_all, take-nil, take-append_seam, length-take-le}
use borrow.Author.Tests.{ltb-true, ltb-false, lt-leb}
use Rattle.cofj.specs.Limits.{text_size, input_size, report_size, work_size, linerun_fuel, linerun_size}
use Rattle.cofj.specs.Partial.{◌>>=◌, guard}
use Rattle.cofj.specs.Text.{hex_text, lines, lines_from}
use Rattle.cofj.specs.Syntax.{Ty, Table}
use Rattle.cofj.specs.Values.{Node}
use Rattle.cofj.specs.Reading.{Answer, refusal, read, read_text}
use Rattle.cofj.specs.Typing.{Checked, refused, accepted, check}
use Rattle.cofj.specs.WellFormed.{WellFormed}
use Rattle.cofj.specs.Formed.{Formed}
use Rattle.cofj.specs.Running.{run}
use Rattle.cofj.specs.Report.{report_of}
use Rattle.cofj.specs.ReportForm.{Plain}
use Rattle.cofj.specs.Batch.{ListsParts}
use Rattle.cofj.specs.Calls.{checked, Admitted, declined, admitted, feed, after_check, admit, check_text, state_refusal, over, run_admitted, zeros}
use Rattle.cofj.specs.Show.{begins04, line_length, first_length, first_text, second_text, judged_by, judge, verdict_line, report_admitted, shown_for, linerun, verdict_size, shown_call, Presented, not_shown, presented, verdict_text, show_unless, written_after, show_texts, show_call}
use Rattle.cofj.specs.Promises.{REFUSAL-1, Lent, Shows}
use Rattle.cofj.proofs.GoodValues.{all_weaken}
use Rattle.cofj.proofs.Readable.{read_formed}
use Rattle.cofj.proofs.Reports.{plain, objects_length}
use Rattle.cofj.proofs.Inputs.{feed_some, feed_unlisted}
use Rattle.cofj.proofs.ReadCalls.{reads_is}
use Rattle.cofj.proofs.RunCalls.{admit_unread, admit_read, state_report, state_work, state_none, by_text}

-- ---- where the input is cut
line_take : (k : ℕ) (s : List ℕ) → line_length (take k s) ≡ min k (line_length s)
unfolding line_length
line_take zero s = omega arith
line_take (suc k) [] = omega arith
line_take (suc k) (c ∷ s) = go (eqb c 10) (line_take k s)
  where
    go : (b : Bool) → line_length (take k s) ≡ min k (line_length s)
        → suc (cond b 0 (line_length (take k s))) ≡ min (suc k) (suc (cond b 0 (line_length s)))
    go true ih = omega arith
    go false ih = omega arith

line_some : (c : ℕ) (s : List ℕ) → 1 ≤ line_length (c ∷ s)
unfolding line_length
line_some c s = omega arith

first_some : (b : Bool) (c : ℕ) (s : List ℕ) → 1 ≤ first_length b (c ∷ s)
unfolding first_length
first_some b c s = go (b && begins04 (c ∷ s))
  where
    go : (x : Bool) → 1 ≤ (elim x as (λ _. ℕ) [ true ↦ line_length (c ∷ s) | false ↦ suc (first_length (eqb c 10) s) ])
    go true = line_some c s
    go false = omega arith

first_one : (b : Bool) (c : ℕ) → first_length b (c ∷ []) ≡ 1
unfolding first_length
first_one true c = refl
first_one false c = refl

-- the first text of what is cut off is the first text, cut off
first_take : (k : ℕ) (b : Bool) (s : List ℕ) → first_length b (take k s) ≡ min k (first_length b s)
unfolding first_length
first_take zero b s = omega arith
first_take (suc k) b [] = omega arith
first_take (suc zero) b (c ∷ s) = omega (arith, first_one b c, first_some b c s)
first_take (suc (suc k)) b (c ∷ []) = omega (arith, first_one b c)
first_take (suc (suc k)) b (c ∷ d ∷ s) = go (b && begins04 (c ∷ d ∷ s)) (line_take (suc (suc k)) (c ∷ d ∷ s)) (first_take (suc k) (eqb c 10) (d ∷ s))
  where
    go : (x : Bool) → line_length (c ∷ d ∷ take k s) ≡ min (suc (suc k)) (line_length (c ∷ d ∷ s)) → first_length (eqb c 10) (d ∷ take k s) ≡ min (suc k) (first_length (eqb c 10) (d ∷ s))
        → (elim x as (λ _. ℕ) [ true ↦ line_length (c ∷ d ∷ take k s) | false ↦ suc (first_length (eqb c 10) (d ∷ take k s)) ])
        ≡ min (suc (suc k)) (elim x as (λ _. ℕ) [ true ↦ line_length (c ∷ d ∷ s) | false ↦ suc (first_length (eqb c 10) (d ∷ s)) ])
    go true l f = l
    go false l f = omega arith

first_most : (s : List ℕ) → first_length true s ≤ length s
first_most s = let e = ap (first_length true) (take_all (length s) s (omega arith)) in let m = first_take (length s) true s in omega arith

-- a list cut off, taken apart
take-take : (n k : ℕ) (s : List ℕ) → n ≤ k → take n (take k s) ≡ take n s
take-take zero k s h = refl
take-take (suc n) zero s h = absurd (omega arith)
take-take (suc n) (suc k) [] h = refl
take-take (suc n) (suc k) (c ∷ s) h = ap (λ (l : List ℕ). c ∷ l) (take-take n k s (omega arith))

drop-take : (n m : ℕ) (s : List ℕ) → drop n (take (n + m) s) ≡ take m (drop n s)
drop-take zero m s = ap (λ (k : ℕ). take k s) (let z : 0 + m ≡ m = omega arith in z)
drop-take (suc n) m [] = ap (λ (k : ℕ). drop {A = ℕ} (suc n) (take k [])) (let z : suc n + m ≡ suc (n + m) = omega arith in z) ∙ sym (take-nil {A = ℕ} m)
drop-take (suc n) m (c ∷ s) = ap (λ (k : ℕ). drop (suc n) (take k (c ∷ s))) (let z : suc n + m ≡ suc (n + m) = omega arith in z) ∙ drop-take n m s

-- ---- a first text that is too long
no_lines : (s : List ℕ) → text_size < length s → lines s ≡ none
unfolding lines
no_lines s h = go (leb 1 (length s))
  where
    out : (b : Bool) → b && leb (length s) text_size ≡ false
    out true = lt-leb (length s) text_size h
    out false = refl

    go : (b : Bool) → (guard (b && leb (length s) text_size) >>= λ _. lines_from s none []) ≡ none
    go b = ap (λ (x : Bool). guard x >>= λ _. lines_from s none []) (out b)

pub long_read : (s : List ℕ) → text_size < length s → read_text s ≡ refusal 1
long_read s h = reads_is s (REFUSAL-1 (no_lines s h))

-- what is written, by what a checked run is admitted with
shown_by : (s i : List ℕ) (x : Admitted) → admit checked s i ≡ x → shown_for s i ≡ hex_text (verdict_line (judged_by (check_text s) x) ∷ []) ++ report_admitted x linerun_fuel
unfolding shown_for judge
shown_by s i x e = ap (λ (y : Admitted). hex_text (verdict_line (judged_by (check_text s) y) ∷ []) ++ report_admitted y linerun_fuel) e

long_first : (s i : List ℕ) → text_size < length s → shown_for s i ≡ hex_text ((8 ∷ 1 ∷ []) ∷ []) ++ []
long_first s i h = shown_by s i (declined 1) (admit_unread checked s i 1 (long_read s h))

-- ---- a second text that is too long
module _ (t : Table) (wf : WellFormed t) (s : List ℕ) (h : input_size < length s) where
  long_unlisted : (ns : List Node) → ListsParts t s ns → ⊥
  long_unlisted ns l =
      let a = objects_length ns 0 (all_weaken (Formed t 0) Plain (plain t wf) ns l.parts) in
      let b = ap length l.text in
      let c = l.few in
      omega arith

  long_feed : feed t s ≡ declined 14
  long_feed = go t.input refl
    where
      go : (o : Option Ty) → t.input ≡ o → feed t s ≡ declined 14
      go none e = feed_some t wf s e (omega arith)
      go (some u) e = feed_unlisted t wf s u e long_unlisted

-- two that are too long are refused alike
long_admit : (s i j : List ℕ) → input_size < length i → input_size < length j → admit checked s i ≡ admit checked s j
long_admit s i j p q = go (read_text s) refl
  where
    by_check : (t : Table) → WellFormed t → (c : Checked) → after_check t i c ≡ after_check t j c
    by_check t wf (refused k) = refl
    by_check t wf (accepted u) = long_feed t wf i p ∙ sym (long_feed t wf j q)

    go : (r : Answer) → read_text s ≡ r → admit checked s i ≡ admit checked s j
    go (refusal k) e = admit_unread checked s i k e ∙ sym (admit_unread checked s j k e)
    go (read t) e = admit_read checked s i t e ∙ by_check t (read_formed s t e) (check t) ∙ sym (admit_read checked s j t e)

long_second : (s i : List ℕ) (m : ℕ) → input_size < m → shown_for s (take m i) ≡ shown_for s i
long_second s i m h = go (ltb m (length i)) refl
  where
    go : (b : Bool) → ltb m (length i) ≡ b → shown_for s (take m i) ≡ shown_for s i
    go true q =
        let l = ltb-true m (length i) q in
        let k = length-take-le m i (omega arith) in
        shown_by s (take m i) (admit checked s i) (long_admit s (take m i) i (omega arith) (omega arith)) ∙ sym (shown_by s i (admit checked s i) refl)
    go false q = ap (shown_for s) (take_all m i (ltb-false m (length i) q))

-- ---- the program
module _ (s : List ℕ) (k : ℕ) (big : text_size + input_size < k) where
  first_long : text_size < first_length true s → linerun (take k s) ≡ linerun s
  unfolding linerun
  first_long h =
      let n = first_length true s in
      let e = first_take k true s in
      let a = length-take (first_length true (take k s)) (take k s) in
      let b = length-take k s in
      let c = length-take n s in
      let d = first_most s in
      long_first (first_text (take k s)) (second_text (take k s)) (omega arith) ∙ sym (long_first (first_text s) (second_text s) (omega arith))

  first_short : first_length true s ≤ text_size → linerun (take k s) ≡ linerun s
  unfolding linerun
  first_short h =
      let n = first_length true s in
      let e : first_length true (take k s) ≡ n = omega (arith, first_take k true s) in
      let f : first_text (take k s) ≡ first_text s = ap (λ (j : ℕ). take j (take k s)) e ∙ take-take n k s (omega arith) in
      let g : second_text (take k s) ≡ take (k - n) (second_text s) =
      ap (λ (j : ℕ). drop j (take k s)) e ∙ ap (λ (j : ℕ). drop n (take j s)) (let z : k ≡ n + (k - n) = omega arith in z) ∙ drop-take n (k - n) s in
      ap₂ {C = List ℕ} shown_for f g ∙ long_second (first_text s) (second_text s) (k - n) (omega arith)

  cut_off : linerun (take k s) ≡ linerun s
  cut_off = go (ltb text_size (first_length true s)) refl
    where
      go : (b : Bool) → ltb text_size (first_length true s) ≡ b → linerun (take k s) ≡ linerun s
      go true q = first_long (ltb-true text_size (first_length true s) q)
      go false q = first_short (ltb-false text_size (first_length true s) q)

pub any-length : (s : List ℕ) → linerun (take linerun_size s) ≡ linerun s
any-length s = cut_off s linerun_size (omega arith)

-- ---- the call
module _ (s i report work : List ℕ) where
  by_state : (o : Option ℕ) → state_refusal (shown_call s i report work) ≡ o → show_texts s i report work ≡ show_unless o (shown_call s i report work)
  unfolding show_texts
  by_state o e = ap (λ (x : Option ℕ). show_unless x (shown_call s i report work)) e

  -- 12 and 13
  pub show_report : length report < report_size → show_texts s i report work ≡ not_shown 12 report work
  show_report l = by_state (some 12) (state_report (shown_call s i report work) refl l)

  pub show_work : report_size ≤ length report → length work < work_size → show_texts s i report work ≡ not_shown 13 report work
  show_work l m = by_state (some 13) (state_work (shown_call s i report work) refl l m)

  -- else what the checked run gives, behind the verdict line
  module _ (l : report_size ≤ length report) (m : work_size ≤ length work) where
    lent : Lent (shown_call s i report work)
    lent = record { active = refl; report = l; work = m }

    pub show_lent : show_texts s i report work ≡ presented (verdict_text s i) (run_admitted (admit checked s i) (shown_call s i report work))
    show_lent = by_state none (state_none (shown_call s i report work) lent) ∙ ap (presented (verdict_text s i)) (by_text (shown_call s i report work) _ lent refl)

    -- the report's characters, by what the run is admitted with
    report_shown : (x : Admitted) → take (run_admitted x (shown_call s i report work)).answer.length (run_admitted x (shown_call s i report work)).report ≡ report_admitted x linerun_fuel
    unfolding over
    report_shown (declined k) = refl
    report_shown (admitted t v) = take-append_seam (report_of (run t v linerun_fuel)) (drop (length (report_of (run t v linerun_fuel))) report)

    texts_written : written_after (show_texts s i report work) ≡ shown_for s i
    unfolding shown_for
    texts_written =
        ap written_after show_lent
        ∙ ap₂ {C = List ℕ} ◌++◌ (take-append_seam (verdict_text s i) (zeros (verdict_size - length (verdict_text s i)))) (report_shown (admit checked s i))

-- what is promised of the call
pub shows : (s report work : List ℕ) → Shows s report work (show_call s report work)
unfolding linerun show_call
shows s report work =
    record {
      short_report = show_report (first_text s) (second_text s) report work;
      short_work = show_work (first_text s) (second_text s) report work;
      writes = texts_written (first_text s) (second_text s) report work;
      buffers = λ l m. let e = by_state (first_text s) (second_text s) report work none (state_none (shown_call (first_text s) (second_text s) report work) (record { active = refl; report = l; work = m })) in
          (ap (λ (x : Presented). x.report) e, ap (λ (x : Presented). x.work) e);
    }
