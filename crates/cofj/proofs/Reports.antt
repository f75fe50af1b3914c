-- Reports and values: a value's report reads back into it, every text that is a value's report is the report of that one value, and
-- the values of runs have reports that fit the lent buffer. Outcomes with equal reports are equal.
use Prim.Native.Nat.{ℕ, suc, ◌+◌, ◌*◌, ◌≤◌, ◌<◌, zero-le}
use native.Mathlib.Nat.{not-suc-le-zero}
use native.Mathlib.Omega.{arith}
use mathlib.Core.Path.{◌≡◌, refl, sym, ap, ◌∙◌, subst}
use mathlib.Core.Bool.{Bool, true, false, ◌&&◌, ◌||◌, not}
use mathlib.Core.List.{List, [], ◌∷◌, ◌++◌}
use mathlib.Core.Option.{Option, none, some}
use lib.Dec.{eqb}
use lib.ListN.{length, get_or, length-append}
use borrow.Author.Tests.{eqb-true, eq-eqb}
use Rattle.cofj.specs.Limits.{Limits, field_count, part_count}
use Rattle.cofj.specs.Partial.{◌>>=◌}
use Rattle.cofj.specs.Syntax.{Table}
use Rattle.cofj.specs.Classes.{fields_of, fields_to}
use Rattle.cofj.specs.WellFormed.{WellFormed}
use Rattle.cofj.specs.Text.{hex_line, hex_text, lines_from}
use Rattle.cofj.specs.Values.{Ref, obj, leaf, Leaf, mark, undet, num, Node, node, Graph}
use Rattle.cofj.specs.Unfolding.{InRange, Whole, follow}
use Rattle.cofj.specs.Formed.{AllIn, LeafBelow, RefBelow, Formed, Good, IfAny, Out}
use Rattle.cofj.specs.Running.{Outcome, value, stopped, Stop, stuck, no_fuel, too_deep, too_large, overflow, run_within}
use Rattle.cofj.specs.Report.{ref_bytes, field_bytes, object_line, object_lines, leaf_line, value_lines, stop_byte, outcome_lines, report_of, value_report, SameEnd}
use Rattle.cofj.specs.ReportForm.{agrees, all_agree, one_count, lines_value, reported, Plain, Reportable}
use Rattle.cofj.proofs.Unique.{same_canon}
use Rattle.cofj.proofs.GoodValues.{all_weaken}
use Rattle.cofj.proofs.Runs.{good_run}
use Rattle.cofj.proofs.TextRound.{Bytes, Lines, hex_lines, lines_hex, lines-written, read_bytes}
use Rattle.cofj.proofs.ReportFields.{RefsIn}
use Rattle.cofj.proofs.ReportLines.{nodes_in_lem, lines_round, lines_back}
use Rattle.cofj.proofs.Partial.{true_and, opt_bind}

-- ---- the values of runs can be reported
module _ (t : Table) (wf : WellFormed t) where
  pub plain : (d : Node) → Formed t 0 d → Plain d
  plain d f =
      let a = f.known in
      let b = wf.classes in
      let c = wf.fields d.cls f.known in
      record { known = omega arith; few = subst (λ (k : ℕ). k ≤ field_count) (sym f.count) c; closed = f.leaves }

  same_counts : (d e : Node) → Formed t 0 d → Formed t 0 e → agrees d e ≡ true
  same_counts d e f g = go (eqb d.cls e.cls) refl
    where
      go : (b : Bool) → eqb d.cls e.cls ≡ b → not b || eqb (length d.refs) (length e.refs) ≡ true
      go true q =
          eq-eqb (length d.refs) (length e.refs)
          (f.count ∙ ap (λ (c : ℕ). length (fields_of t.classes c)) (eqb-true d.cls e.cls q) ∙ sym g.count)
      go false q = refl

  all_agree_lem : (d : Node) → Formed t 0 d → (ns : List Node) → AllIn (Formed t 0) ns → all_agree d ns ≡ true
  unfolding all_agree
  all_agree_lem d f [] h = refl
  all_agree_lem d f (e ∷ ns) h = true_and (agrees d e) (all_agree d ns) (same_counts d e f h.0) (all_agree_lem d f ns h.1)

  -- class 0 has no fields
  object_formed : Formed t 0 (node 0 [])
  unfolding fields_to
  object_formed = record { known = zero-le; count = refl; leaves = tt }

  one_count_lem : (ns : List Node) → AllIn (Formed t 0) ns → one_count ns ≡ true
  unfolding one_count
  one_count_lem [] h = refl
  one_count_lem (d ∷ ns) h =
      true_and (agrees d (node 0 []) && all_agree d ns) (one_count ns)
      (true_and (agrees d (node 0 [])) (all_agree d ns) (same_counts d (node 0 []) h.0 object_formed) (all_agree_lem d h.0 ns h.1)) (one_count_lem ns h.1)

  pub good_reportable : (objects : ℕ) (v : Graph) → Good t objects 0 v → Reportable objects v
  good_reportable objects v h =
      record {
        whole = h.whole;
        own = h.own;
        small = h.small;
        root = h.root;
        nodes = all_weaken (Formed t 0) Plain plain v.nodes h.nodes;
        counts = one_count_lem v.nodes h.nodes;
      }

-- ---- a report's lines are lines of bytes
bytes-append : (xs ys : List ℕ) → Bytes xs → Bytes ys → Bytes (xs ++ ys)
bytes-append [] ys h k = k
bytes-append (x ∷ xs) ys h k = (h.0, bytes-append xs ys h.1 k)

-- one byte for each field, or three
fields_length : (rs : List Ref) → length (field_bytes rs) ≤ 3 * length rs
fields_length [] = omega arith
fields_length (r ∷ rs) = let a = length-append (ref_bytes r) (field_bytes rs) in let b = fields_length rs in let c = one r in omega arith
  where
    one : (r : Ref) → length (ref_bytes r) ≤ 3
    one (obj i) = omega arith
    one (leaf (mark k)) = omega arith
    one (leaf undet) = omega arith
    one (leaf (num n)) = omega arith

leaf_lines : (l : Leaf) → LeafBelow 0 l → Lines (leaf_line l ∷ [])
leaf_lines (mark k) h = absurd (not-suc-le-zero h)
leaf_lines undet h = (omega arith, omega arith, (omega arith, tt), tt)
leaf_lines (num n) h = (omega arith, omega arith, (omega arith, (omega arith, (omega arith, tt))), tt)

module _ (n : ℕ) (small : n ≤ part_count) where
  ref_bytes_lem : (r : Ref) → InRange n r → RefBelow 0 r → Bytes (ref_bytes r)
  ref_bytes_lem (obj i) h m = (omega arith, tt)
  ref_bytes_lem (leaf (mark k)) h m = absurd (not-suc-le-zero m)
  ref_bytes_lem (leaf undet) h m = (omega arith, tt)
  ref_bytes_lem (leaf (num k)) h m = (omega arith, (omega arith, (omega arith, tt)))

  field_bytes_lem : (rs : List Ref) → RefsIn n rs → AllIn (RefBelow 0) rs → Bytes (field_bytes rs)
  field_bytes_lem [] h m = tt
  field_bytes_lem (r ∷ rs) h m = bytes-append (ref_bytes r) (field_bytes rs) (ref_bytes_lem r h.0 m.0) (field_bytes_lem rs h.1 m.1)

  pub object_lines_lem : (ns : List Node) (k : ℕ) → k + length ns ≤ n → AllIn Plain ns → AllIn (λ d. RefsIn n d.refs) ns → Lines (object_lines k ns)
  object_lines_lem [] k l p h = tt
  object_lines_lem (d ∷ ds) k l p h =
      let a = p.0.known in
      let b = p.0.few in
      let m = fields_length d.refs in (
        omega arith,
        omega arith,
        (omega arith, (omega arith, (omega arith, (omega arith, field_bytes_lem d.refs h.0 p.0.closed)))),
        object_lines_lem ds (suc k) (omega arith) p.1 h.1,
      )

module _ (objects : ℕ) (small : objects ≤ part_count) where
  pub value_lines_lem : (v : Graph) → Reportable objects v → Lines (value_lines v)
  value_lines_lem v h = go v.root h.root
    where
      go : (r : Ref) → RefBelow 0 r → Lines (elim r as (λ _. List (List ℕ)) [ obj i ↦ object_lines 0 v.nodes | leaf l ↦ leaf_line l ∷ [] ])
      go (obj i) m =
          let s = h.small in
          object_lines_lem (length v.nodes) (omega arith) v.nodes 0 (omega arith) h.nodes (nodes_in_lem (length v.nodes) v.nodes h.whole.inner)
      go (leaf l) m = leaf_lines l m

  -- the report of a value is a value's report: that value's
  pub report_round : (v : Graph) → Reportable objects v → reported objects (value_report v) ≡ some v
  unfolding reported
  report_round v h = ap (λ (o : Option (List (List ℕ))). o >>= λ ls. lines_value objects ls) (lines-written (value_lines v) (value_lines_lem v h)) ∙ lines_round objects small v h

  pub report_injective : (v w : Graph) → Reportable objects v → Reportable objects w → value_report v ≡ value_report w → v ≡ w
  report_injective v w h k e =
      let a : some v ≡ some w = sym (report_round v h) ∙ ap (reported objects) e ∙ report_round w k in
      cc

-- a text that is a value's report is the report of that value
pub report_back : (objects : ℕ) (s : List ℕ) (v : Graph) → reported objects s ≡ some v → Reportable objects v × (value_report v ≡ s)
unfolding reported
report_back objects s v e =
    let a = opt_bind (lines_from s none []) (λ ls. lines_value objects ls) v e in
    let b = lines_back objects a.0 v (read_bytes s a.0 a.1) a.2 in
    (b.0, ap hex_text b.1 ∙ hex_lines s a.0 a.1)

-- ---- outcomes: equal reports exactly for the same end
first_byte : List (List ℕ) → ℕ
first_byte [] = 0
first_byte ([] ∷ ls) = 0
first_byte ((b ∷ bs) ∷ ls) = b

second_byte : List (List ℕ) → ℕ
second_byte [] = 0
second_byte ([] ∷ ls) = 0
second_byte ((a ∷ []) ∷ ls) = 0
second_byte ((a ∷ b ∷ bs) ∷ ls) = b

-- a value's lines begin with 05, 06 or 09
value_first : (v : Graph) → Whole v → first_byte (value_lines v) ≡ 7 → ⊥
unfolding first_byte
value_first v w = go v.root w.top
  where
    listed : (ns : List Node) → 1 ≤ length ns → first_byte (object_lines 0 ns) ≡ 7 → ⊥
    listed [] l e = absurd (not-suc-le-zero l)
    listed (d ∷ ds) l e = omega arith

    told : (l : Leaf) → first_byte (leaf_line l ∷ []) ≡ 7 → ⊥
    told (mark k) e = omega arith
    told undet e = omega arith
    told (num n) e = omega arith

    go : (r : Ref) → InRange (length v.nodes) r → first_byte (elim r as (λ _. List (List ℕ)) [ obj i ↦ object_lines 0 v.nodes | leaf l ↦ leaf_line l ∷ [] ]) ≡ 7 → ⊥
    go (obj i) h = listed v.nodes (omega arith)
    go (leaf l) h = told l

-- the stop that a byte tells
stop_told : ℕ → Stop
stop_told b = get_or (stuck ∷ stuck ∷ no_fuel ∷ too_deep ∷ too_large ∷ overflow ∷ []) b stuck

stop_round : (k : Stop) → stop_told (stop_byte k) ≡ k
unfolding stop_told
stop_round stuck = refl
stop_round no_fuel = refl
stop_round too_deep = refl
stop_round too_large = refl
stop_round overflow = refl

stop_injective : (k l : Stop) → stop_byte k ≡ stop_byte l → k ≡ l
stop_injective k l e = sym (stop_round k) ∙ ap stop_told e ∙ stop_round l

stop_small : (l : Stop) → stop_byte l < 256
stop_small stuck = omega arith
stop_small no_fuel = omega arith
stop_small too_deep = omega arith
stop_small too_large = omega arith
stop_small overflow = omega arith

module _ (objects : ℕ) (small : objects ≤ part_count) where
  outcome_lines_lem : (o : Outcome Graph) → Out (Reportable objects) o → Lines (outcome_lines o)
  outcome_lines_lem (value v n) h = value_lines_lem objects small v h
  outcome_lines_lem (stopped l n) h = (omega arith, omega arith, (omega arith, (stop_small l, tt)), tt)

  same_lines : (o p : Outcome Graph) → Out (Reportable objects) o → report_of o ≡ report_of p → outcome_lines o ≡ outcome_lines p
  same_lines o p h e =
      lines_hex (outcome_lines p) (outcome_lines o) (ap (λ (s : List ℕ). lines_from s none []) (sym e) ∙ lines-written (outcome_lines o) (outcome_lines_lem o h))

  pub reports_same : (o p : Outcome Graph) → Out (Reportable objects) o → Out (Reportable objects) p → report_of o ≡ report_of p → SameEnd o p
  unfolding first_byte second_byte
  reports_same (value v n) (value w m) h k e = let q = report_injective objects small v w h k e in λ path. ap (λ (g : Graph). follow g.nodes g.root path) q
  reports_same (value v n) (stopped l m) h k e = absurd (value_first v h.whole (ap first_byte (same_lines (value v n) (stopped l m) h e)))
  reports_same (stopped l n) (value w m) h k e = absurd (value_first w k.whole (sym (ap first_byte (same_lines (stopped l n) (value w m) h e))))
  reports_same (stopped l n) (stopped r m) h k e = stop_injective l r (ap second_byte (same_lines (stopped l n) (stopped r m) h e))

  pub same_reports : (o p : Outcome Graph) → Out (Reportable objects) o → Out (Reportable objects) p → SameEnd o p → report_of o ≡ report_of p
  same_reports (value v n) (value w m) h k e = ap value_report (sym h.own ∙ same_canon v w h.whole k.whole e ∙ k.own)
  same_reports (value v n) (stopped l m) h k e = absurd e
  same_reports (stopped l n) (value w m) h k e = absurd e
  same_reports (stopped l n) (stopped r m) h k e = ap (λ (s : Stop). hex_text ((7 ∷ stop_byte s ∷ []) ∷ [])) e

-- ---- a report fits the lent buffer: 33 characters for each object
pub length_line : (l : List ℕ) → length (hex_line l) ≡ suc (2 * length l)
length_line [] = refl
length_line (b ∷ bs) = ap (λ (k : ℕ). suc (suc k)) (length_line bs) ∙ omega arith

pub objects_length : (ns : List Node) (k : ℕ) → AllIn Plain ns → length (hex_text (object_lines k ns)) ≤ 33 * length ns
objects_length [] k p = omega arith
objects_length (d ∷ ds) k p =
    let a = length-append (hex_line (object_line k d)) (hex_text (object_lines (suc k) ds)) in
    let b = length_line (object_line k d) in
    let c = fields_length d.refs in
    let f = p.0.few in
    let r = objects_length ds (suc k) p.1 in
    omega arith

module _ (objects : ℕ) (one : 1 ≤ objects) where
  value_length : (v : Graph) → Reportable objects v → length (value_report v) ≤ 33 * objects
  value_length v h = go v.root
    where
      told : (l : Leaf) → length (hex_text (leaf_line l ∷ [])) ≤ 33 * objects
      told (mark k) = omega arith
      told undet = omega arith
      told (num n) = omega arith

      go : (r : Ref) → length (hex_text (elim r as (λ _. List (List ℕ)) [ obj i ↦ object_lines 0 v.nodes | leaf l ↦ leaf_line l ∷ [] ])) ≤ 33 * objects
      go (obj i) = let s = h.small in let r = objects_length v.nodes 0 h.nodes in omega arith
      go (leaf l) = told l

  pub report_length : (o : Outcome Graph) → Out (Reportable objects) o → length (report_of o) ≤ 33 * objects
  report_length (value v n) h = value_length v h
  report_length (stopped l n) h = omega arith

-- what a run ends in can be reported
pub run_reportable : (l : Limits) (t : Table) (i : Option Graph) (n : ℕ) → WellFormed t → IfAny (Good t l.objects 0) i → Out (Reportable l.objects) (run_within l t i n)
run_reportable l t i n wf g = go (run_within l t i n) (good_run l t i n wf g)
  where
    go : (o : Outcome Graph) → Out (Good t l.objects 0) o → Out (Reportable l.objects) o
    go (value v m) h = good_reportable t wf l.objects v h
    go (stopped s m) h = tt
