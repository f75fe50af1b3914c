-- Laws of what `linerun` shows.
use Rattle.std.proofs.Common.{ℕ, zero, suc, ◌+◌, ◌-◌, ◌*◌, ◌≤◌, ◌<◌, arith, ◌≡◌, refl, sym, ap, ap₂, ◌∙◌, Bool, true, false, List, [], ◌∷◌, ◌++◌, append-nil, eqb, length, take, drop, replicate, length-drop, eq-eqb, ne_eqb, Ok, Err}
use Rattle.std.proofs.Math.Option.{Option}
use Rattle.std.proofs.Math.Seq.{sets-eq, take-length}
use borrow.Rule.Slice.PartMut.{mid_of}
use Rattle.std.specs.declared.result.Result.{Result}
use Rattle.cofj.specs.declared.Refusal.{Refusal}
use Rattle.cofj.specs.Refusals.{refusal_number}
use Rattle.cofj.specs.declared.Session.{Session}
use Rattle.cofj.specs.declared.Shown.{Shown}
use Rattle.cofj.specs.declared.Verdict.{Verdict}
use Rattle.cofj.specs.Text.{hex_line, hex_text}
use Rattle.cofj.specs.Limits.{linerun_fuel}
use Rattle.cofj.specs.Syntax.{Ty, Table}
use Rattle.cofj.specs.Values.{Graph}
use Rattle.cofj.specs.Reading as reading
use Rattle.cofj.specs.Reading.{refusal, read, read_text}
use Rattle.cofj.specs.Typing.{Checked, refused, accepted, check}
use Rattle.cofj.specs.Calls.{checked, open_session, over, zeros, check_text, check_call, verdict_of, Call, Ran, Admitted, declined, admitted, feed, after_check, admit, run_admitted, run_call}
use Rattle.cofj.specs.Show.{first_length, judged_by, judge, verdict_line, verdict_text, verdict_size, filled_up, shown_call, Presented, presented, show_unless, show_texts, show_call}
use Rattle.cofj.proofs.Readable.{read_formed}
use Rattle.cofj.proofs.Inputs.{Fate, refuses, feeds, fate, feeds_feed}
use Rattle.cofj.proofs.ReadCalls.{read_number, check_read, check_number}
use Rattle.cofj.proofs.RunCalls.{by_text, admit_unread, admit_read}
use Rattle.cofj.proofs.Linerun.{show_lent}
use Rattle.classes.specs.declared.chain.FieldType.{FieldType}
use Rattle.tables.proofs.ReadLaws.{some_number}
use Rattle.checker.specs.Answers.{verdict_of as said}
use Rattle.evaluator.specs.declared.report.Reported.{Reported}
use Rattle.lineform.specs.Writes.{wrote, put_line}
use Rattle.lineform.proofs.WriteLaws.{line_end, line_stores}
use Rattle.engine.specs.Steps.{ran, answer_by, state_of}
use Rattle.engine.proofs.StateLaws.{call, numbered, state_numbered, lent_report, lent_work}
use Rattle.engine.proofs.CutLaws.{cut_low}
use Rattle.engine.specs.Showing.{showing, no_line, verdict_bytes, PutVerdict, line_of}

-- no refusal's number is 0
number_some : (k : Refusal) → refusal_number k ≡ 0 → ⊥
number_some k e = omega (arith, some_number k)

-- ---- the verdict line
stored : (l d o : List ℕ) (r : ℕ) → wrote r o ≡ put_line d 0 l → length (hex_line l) ≤ length d → o ≡ over (hex_line l) d
unfolding over
stored l d o r e h = line_stores d o 0 r l e ∙ sets-eq (hex_line l) d 0 (omega arith)
    ∙ ap (λ (k : ℕ). hex_line l ++ drop k d) (let z : 0 + length (hex_line l) ≡ length (hex_line l) = omega arith in z)

bytes_refused : (v : Verdict) → (v.refusal ≡ 0 → ⊥) → verdict_bytes v ≡ 8 ∷ v.refusal ∷ []
bytes_refused v n = ap (λ (b : Bool). elim b as (λ _. List ℕ) [ true ↦ 8 ∷ v.refusal ∷ v.class ∷ v.tag ∷ [] | false ↦ 8 ∷ v.refusal ∷ [] ]) (ne_eqb v.refusal 0 n)

bytes_accepted : (v : Verdict) → v.refusal ≡ 0 → verdict_bytes v ≡ 8 ∷ v.refusal ∷ v.class ∷ v.tag ∷ []
bytes_accepted v z = ap (λ (b : Bool). elim b as (λ _. List ℕ) [ true ↦ 8 ∷ v.refusal ∷ v.class ∷ v.tag ∷ [] | false ↦ 8 ∷ v.refusal ∷ [] ]) (eq-eqb v.refusal 0 z)

verdict_put : (v : Verdict) (l d o : List ℕ) (r : ℕ) → verdict_bytes v ≡ l → verdict_size ≤ length d → length (hex_line l) ≤ verdict_size → 0 + 2 * length l + 1 ≡ length (hex_line l) → wrote r o ≡ put_line d 0 l
    → PutVerdict v d o r
verdict_put v l d o r b h m k e = record {
  fits = omega (arith, line_end d o 0 r l e);
  count = line_end d o 0 r l e ∙ k ∙ ap (λ (x : List ℕ). length (hex_line x)) (sym b);
  text = stored l d o r e (omega arith) ∙ ap (λ (x : List ℕ). over (hex_line x) d) (sym b);
}

module _ (d o : List ℕ) (r : ℕ) (h : verdict_size ≤ length d) where
  pub verdict_refused : (v : Result FieldType Refusal) (k : Refusal) (n : ℕ) → v ≡ Err k → n ≡ refusal_number k → wrote r o ≡ put_line d 0 (8 ∷ n ∷ []) → PutVerdict (said v) d o r
  verdict_refused v k n e q w =
      verdict_put (said v) (8 ∷ n ∷ []) d o r
      (ap (λ (x : Result FieldType Refusal). verdict_bytes (said x)) e ∙ bytes_refused (said (Err k)) (number_some k) ∙ ap (λ (x : ℕ). 8 ∷ x ∷ []) (sym q)) h (omega arith) refl w

  pub verdict_accepted : (v : Result FieldType Refusal) (u : FieldType) → v ≡ Ok u → wrote r o ≡ put_line d 0 (8 ∷ 0 ∷ u.class ∷ u.tag ∷ []) → PutVerdict (said v) d o r
  verdict_accepted v u e w = verdict_put (said v) (8 ∷ 0 ∷ u.class ∷ u.tag ∷ []) d o r (ap (λ (x : Result FieldType Refusal). verdict_bytes (said x)) e) h (omega arith) refl w

-- ---- the line by value
drop_same : (k n x : ℕ) → drop k (replicate n x) ≡ replicate (n - k) x
drop_same zero n x = ap (λ (m : ℕ). replicate m x) (let z : n ≡ n - 0 = omega arith in z)
drop_same (suc k) zero x = ap (λ (m : ℕ). replicate m x) (let z : 0 ≡ 0 - suc k = omega arith in z)
drop_same (suc k) (suc n) x = drop_same k n x ∙ ap (λ (m : ℕ). replicate m x) (let z : n - k ≡ suc n - suc k = omega arith in z)

pub line_value : (v : Verdict) (B : List ℕ) (n at : ℕ) → PutVerdict v (replicate verdict_size 0) B at → record { refusal = 0; verdict_length = at; verdict = B; length = n } ≡ line_of v n
unfolding over zeros
line_value v B n at p =
    let l = hex_line (verdict_bytes v) in
    let b : B ≡ filled_up verdict_size l = p.text ∙ ap (λ (x : List ℕ). l ++ x) (drop_same (length l) verdict_size 0) in
    λ i. record { refusal = 0; verdict_length = p.count i; verdict = b i; length = n }

pub line_byte : (v : Verdict) (d B : List ℕ) (at : ℕ) → PutVerdict v d B at → at < 256
line_byte v d B at p = omega (arith, p.fits)

pub no_line_lem : (k : Refusal) (n : ℕ) → n ≡ refusal_number k → record { refusal = n; verdict_length = 0; verdict = replicate verdict_size 0; length = 0 } ≡ no_line (refusal_number k)
unfolding zeros
no_line_lem k n e = λ i. record { refusal = e i; verdict_length = 0; verdict = replicate verdict_size 0; length = 0 }

-- ---- what it says of them: the verdict on a text whose checked run answered this number
abbrev verdict_by : ℕ → List ℕ → Verdict
verdict_by k s = elim (eqb k 0) [ true ↦ check_call s | false ↦ verdict_of (refused k) ]

judged_refused : (s : List ℕ) (k : ℕ) → (k ≡ 0 → ⊥) → record { refusal = k; class = 0; tag = 0 } ≡ verdict_by k s
judged_refused s k n = sym (ap (λ (b : Bool). elim b as (λ _. Verdict) [ true ↦ check_call s | false ↦ verdict_of (refused k) ]) (ne_eqb k 0 n))

judged_checked : (s : List ℕ) (k : ℕ) (v : Verdict) → k ≡ 0 → v ≡ check_call s → v ≡ verdict_by k s
judged_checked s k v z q = q ∙ sym (ap (λ (b : Bool). elim b as (λ _. Verdict) [ true ↦ check_call s | false ↦ verdict_of (refused k) ]) (eq-eqb k 0 z))

-- what both texts are admitted as: refused with a number that is not 0, or a program of this type with its input
data Way (s i : List ℕ) : Type 0 where
  away : (k : ℕ) → 1 ≤ k → admit checked s i ≡ declined k → Way s i
  taken : (t : Table) (v : Option Graph) (u : Ty) → admit checked s i ≡ admitted t v → check_text s ≡ accepted u → Way s i

way : (s i : List ℕ) → Way s i
way s i = by_read (read_text s) refl
  where
    by_input : (t : Table) (u : Ty) (q : read_text s ≡ read t) → check t ≡ accepted u → admit checked s i ≡ feed t i → Fate t (read_formed s t q) i → Way s i
    by_input t u q c e (refuses k l m f) = away k (omega arith) (e ∙ f)
    by_input t u q c e (feeds v f) = taken t v u (e ∙ feeds_feed t (read_formed s t q) i v f) (check_read s t q ∙ c)

    by_check : (t : Table) → read_text s ≡ read t → (c : Checked) → check t ≡ c → Way s i
    by_check t q (refused k) c = away k (omega (arith, (check_number s t q k c).0)) (admit_read checked s i t q ∙ ap (after_check t i) c)
    by_check t q (accepted u) c = by_input t u q c (admit_read checked s i t q ∙ ap (after_check t i) c) (fate t (read_formed s t q) i)

    by_read : (r : reading.Answer) → read_text s ≡ r → Way s i
    by_read (refusal k) q = away k (read_number s k q).0 (admit_unread checked s i k q)
    by_read (read t) q = by_check t q (check t) refl

-- the number that their run answers, 0 where both texts are admitted
abbrev number_in : Admitted → ℕ
number_in (declined k) = k
number_in (admitted t v) = 0

answered : (x : Admitted) (c : Call) → (run_admitted x c).answer.refusal ≡ number_in x
answered (declined k) c = refl
answered (admitted t v) c = refl

-- the line of the verdict that this number decides is that of both texts
line_said : (s i : List ℕ) (k : ℕ) (v : Verdict) → k ≡ number_in (admit checked s i) → v ≡ verdict_by k s → hex_line (verdict_bytes v) ≡ verdict_text s i
unfolding judge
line_said s i k v n e = go (way s i)
  where
    written : (l : List ℕ) (x : Admitted) → verdict_bytes v ≡ l → admit checked s i ≡ x → l ≡ verdict_line (judged_by (check_text s) x) → hex_line (verdict_bytes v) ≡ verdict_text s i
    written l x b q w =
        ap hex_line (b ∙ w) ∙ sym (append-nil (hex_line (verdict_line (judged_by (check_text s) x))))
        ∙ ap (λ (y : Admitted). hex_text (verdict_line (judged_by (check_text s) y) ∷ [])) (sym q)

    go : Way s i → hex_line (verdict_bytes v) ≡ verdict_text s i
    go (away j l q) =
        let z : k ≡ j = n ∙ ap number_in q in
        let r : verdict_of (refused k) ≡ v = judged_refused s k (λ y. omega arith) ∙ sym e in
        written (8 ∷ j ∷ []) (declined j) (ap verdict_bytes (sym r) ∙ bytes_refused (verdict_of (refused k)) (λ y. omega arith) ∙ ap (λ (y : ℕ). 8 ∷ y ∷ []) z) q refl
    go (taken t g u q c) =
        let r : verdict_of (accepted u) ≡ v = ap verdict_of (sym c) ∙ judged_checked s k (check_call s) (n ∙ ap number_in q) refl ∙ sym e in
        written (8 ∷ 0 ∷ u.cls ∷ u.tag ∷ []) (admitted t g) (ap verdict_bytes (sym r)) q (ap verdict_line (sym c))

-- ---- both texts
module _ (s i R W : List ℕ) (g : Result (Unit {0}) Refusal) (e : g ≡ state_of true (length R) (length W)) where
  -- a buffer is too short
  pub shown_refused : (r : Shown) (k : Refusal) → g ≡ Err k → r ≡ no_line (refusal_number k) → showing r R W ≡ show_texts s i R W
  unfolding show_texts
  shown_refused r k q p =
      ap (λ (x : Shown). showing x R W) p
      ∙ ap (λ (o : Option ℕ). show_unless o (shown_call s i R W)) (sym (state_numbered (shown_call s i R W) ∙ ap numbered (sym e ∙ q)))

  -- else the checked run, behind its verdict line
  module _ (z : g ≡ Ok tt) (R' W' : List ℕ) (σ : Session) (x : Result Reported Refusal) (p : σ ≡ open_session linerun_fuel)
      (q : ran (answer_by σ x) R' W' ≡ run_call (call checked s i σ R W)) where
    shown_run : (v : Verdict) (r : Shown) → v ≡ verdict_by (answer_by σ x).refusal s → r ≡ line_of v (answer_by σ x).length → showing r R' W' ≡ show_texts s i R W
    shown_run v r w m =
        let a = answer_by σ x in
        let l = lent_report g true (length R) (length W) e z in
        let h = lent_work g true (length R) (length W) e z in
        let c = shown_call s i R W in
        let y : ran a R' W' ≡ run_admitted (admit checked s i) c =
        q ∙ ap (λ (y : Session). run_call (call checked s i y R W)) p ∙ by_text c (admit checked s i) (record { active = refl; report = l; work = h }) refl in
        let n : a.refusal ≡ number_in (admit checked s i) = ap (λ (y : Ran). y.answer.refusal) y ∙ answered (admit checked s i) c in
        ap (λ (y : Shown). showing y R' W') m
        ∙ ap (λ (y : List ℕ). presented y (ran a R' W')) (line_said s i a.refusal v n w)
        ∙ ap (presented (verdict_text s i)) y
        ∙ sym (show_lent s i R W l h)

    -- it has run, and its text is checked
    pub shown_ran : (u : Reported) (v : Result FieldType Refusal) (r : Shown) → x ≡ Ok u → said v ≡ check_call s → r ≡ line_of (said v) u.length → showing r R' W' ≡ show_texts s i R W
    shown_ran u v r o w m =
        shown_run (said v) r (judged_checked s (answer_by σ x).refusal (said v) (ap (λ (y : Result Reported Refusal). (answer_by σ y).refusal) o) w)
        (m ∙ ap (λ (y : Result Reported Refusal). line_of (said v) (answer_by σ y).length) (sym o))

    -- or is refused
    pub shown_unrun : (k : Refusal) (r : Shown) → x ≡ Err k → r ≡ line_of (said (Err k)) 0 → showing r R' W' ≡ show_texts s i R W
    shown_unrun k r o m =
        shown_run (said (Err k)) r
        (judged_refused s (refusal_number k) (number_some k) ∙ ap (λ (y : Result Reported Refusal). verdict_by (answer_by σ y).refusal s) (sym o))
        (m ∙ ap (λ (y : Result Reported Refusal). line_of (said (Err k)) (answer_by σ y).length) (sym o))

-- ---- the input of `linerun`, cut
behind : (Z : List ℕ) (n : ℕ) → n ≤ length Z → mid_of n (length Z - n) Z ≡ drop n Z
behind Z n h = ap (λ (k : ℕ). take k (drop n Z)) (let z : length Z - n ≡ length (drop n Z) = omega (arith, length-drop n Z) in z) ∙ take-length (drop n Z)

pub shown_cut : (s : List ℕ) (n : ℕ) (R W R' W' : List ℕ) (r : Shown) → n ≡ first_length true s → showing r R' W' ≡ show_texts (take n s) (mid_of n (length s - n) s) R W
    → showing r R' W' ≡ show_call s R W
unfolding show_call
shown_cut s n R W R' W' r e h =
    h ∙ ap₂ {C = Presented} (λ (x y : List ℕ). show_texts x y R W) (ap (λ (k : ℕ). take k s) e) (behind s n (cut_low s n e) ∙ ap (λ (k : ℕ). drop k s) e)
