-- Laws of packed lines and the parts that they list, as `count_lines` and `read_lines` cite them. Not here: one line (ReadLine), what lines list (PartLines).
use Rattle.std.proofs.Common.{ℕ, suc, ◌+◌, ◌*◌, ◌-◌, ◌<◌, ◌≤◌, not-suc-le-zero, arith, Ok, Err, ◌≡◌, refl, sym, ap, ◌∙◌, subst, Bool, true, false, not, List, [], ◌∷◌, ◌++◌, append_assoc, append-nil, length, get_or, take, drop, length-append}
use native.Mathlib.Decide.{ℕ_discrete, dec_lt}
use Rattle.std.specs.declared.result.Result.{Result}
use Rattle.std.proofs.Math.Bool.{false≢true}
use Rattle.std.proofs.Math.Option.{Option, none, some, none-ne-some}
use Rattle.std.proofs.Math.ListN.{get_elem?, get_or-append, get_or-eq_default}
use Rattle.std.proofs.Math.Seq.{get_or-append_seam}
use borrow.Author.Tests.{not-true, not-false}
use Rattle.cofj.specs.Limits.{part_count}
use Rattle.cofj.specs.Partial.{◌>>=◌, guard}
use Rattle.cofj.specs.Text.{within}
use Rattle.cofj.specs.Syntax.{Class, Table}
use Rattle.cofj.specs.Values.{Ref, leaf, undet, Node, node, node_at, refs_at}
use Rattle.cofj.specs.Unfolding.{InRange}
use Rattle.cofj.specs.Formed.{AllIn, RefBelow}
use Rattle.cofj.proofs.Basics.{at_lt}
use Rattle.cofj.proofs.TextRound.{within_true, true_within}
use Rattle.lineform.specs.Packed.{unpack, Packed}
use Rattle.lineform.proofs.LineLaws.{Rest, LineAt, line_at, line_within, line_part, line_next, rest_all, unpack_all, at_end_lem}
use Rattle.canon.proofs.Nodes.{some_at}
use Rattle.classes.specs.Layout.{Tabled}
use Rattle.cofj.specs.declared.Refusal.{Refusal}
use Rattle.cofj.specs.declared.Refusal.TheVariants.{BadParts}
use Rattle.batch.specs.Figures.{part_size}
use Rattle.batch.specs.Layout.{Lies}
use Rattle.batch.specs.Reading.{part_of, PartLies, PartRead, LineAnswered, LineRead, line_count, parts_in, Answered, LinesRead}
use Rattle.batch.proofs.PutFields.{field_kept}
use Rattle.batch.proofs.PartLines.{parts_from, parts_in_lem, none_listed}

-- ---- counting
-- n lines are passed at i
pub record Counted (d : List ℕ) (i n : ℕ) : Type 0 where
  pub here : Rest d i
  pub all : n + length here.lines ≡ line_count d

pub count_none : (d : List ℕ) → Packed d → Counted d 0 0
count_none d p = record { here = rest_all d p; all = (let e = ap length (unpack_all d p) in omega arith) }

module _ (d : List ℕ) (i n m : ℕ) (c : Counted d i n) (h : i < length d) (em : m ≡ get_or d i 0) where
  pub count-within : i + 1 + m ≤ length d
  count-within = line_within d i m h em c.here

  pub count_more : Counted d (i + 1 + m) (n + 1)
  count_more =
      let at = line_at d i c.here.lines c.here.sized c.here.is h in
      let e = ap length at.split in
      let a = c.all in
      record { here = line_next d i m h em _ at; all = omega arith }

pub count_done : (d : List ℕ) (i n : ℕ) → Counted d i n → length d ≤ i → n ≡ line_count d
count_done d i n c h =
    let e = ap length (at_end_lem d i c.here.lines c.here.is h) in
    let a = c.all in
    omega arith

-- ---- what the loop of `read_lines` keeps
-- the parts before are those of the lines that are passed
pub record Passed (cs : List Class) (n k : ℕ) (left all : List (List ℕ)) (P : List ℕ) : Type 0 where
  pub before : List Node
  pub count : length before ≡ k
  pub same : parts_from cs n 0 all ≡ parts_from cs n k left >>= λ os. some (before ++ os)
  pub lie : (i : ℕ) → i < k → PartLies n P i (node_at before i)

-- at i, k of n lines are passed
pub record Listing (T d : List ℕ) (n i k : ℕ) (P : List ℕ) : Type 0 where
  pub here : Rest d i
  pub all : k + length here.lines ≡ n
  pub of : (t : Table) → Tabled T t → Passed t.classes n k here.lines (unpack d) P

alone : (p : Option (List Node)) → p ≡ p >>= λ os. some ([] ++ os)
alone none = refl
alone (some os) = refl

pub list_none : (T d : List ℕ) (n : ℕ) (P : List ℕ) → Packed d → n ≡ line_count d → Listing T d n 0 0 P
list_none T d n P p e =
    let u = unpack_all d p in
    record {
      here = rest_all d p;
      all = (let z = ap length u in omega arith);
      of = λ t b. record { before = []; count = refl; same = ap (parts_from t.classes n 0) u ∙ alone (parts_from t.classes n 0 p.lines); lie = λ i h. absurd (not-suc-le-zero h) };
    }

-- a part stays where the bytes below a later one stay
lies_still : (n : ℕ) (P P' : List ℕ) (k i : ℕ) (o : Node) → ((j : ℕ) → j < part_size * k → get_or P' j 0 ≡ get_or P j 0) → i < k → PartLies n P i o → PartLies n P' i o
lies_still n P P' k i o s h l = record {
  class = s (part_size * i) (omega arith) ∙ l.class;
  count = s (part_size * i + 1) (omega arith) ∙ l.count;
  low = l.low;
  field = λ f r e.
      let z = at_lt o.refs f r e in
      let y = l.low in
      let w = l.field f r e in
      record { inner = w.inner; below = w.below; lies = field_kept P P' (part_size * i) f _ _ (λ j a b. s j (omega arith)) (omega arith) w.lies };
  spare = λ f a b. field_kept P P' (part_size * i) f _ _ (λ j c d. s j (omega arith)) b (l.spare f a b);
  blank = λ j a b. s (part_size * i + j) (omega arith) ∙ l.blank j a b;
}

line_true : (p : Option Node) (k n : ℕ) (P₀ P : List ℕ) (r : Bool) → LineAnswered p k n P₀ P r → not r ≡ false → (o : Node) × (p ≡ some o) × PartRead n P₀ k o P
line_true none k n P₀ P r a t = absurd (false≢true (sym a ∙ not-false r t))
line_true (some o) k n P₀ P r a t = (o, refl, a.1)

line_false : (p : Option Node) (k n : ℕ) (P₀ P : List ℕ) (r : Bool) → LineAnswered p k n P₀ P r → not r ≡ true → p ≡ none
line_false none k n P₀ P r a t = refl
line_false (some o) k n P₀ P r a t = absurd (false≢true (sym (not-true r t) ∙ a.0))

moved : (ms : List Node) (o : Node) (p : Option (List Node)) → p >>= (λ os. some (o ∷ os)) >>= (λ os. some (ms ++ os)) ≡ p >>= λ os. some ((ms ++ (o ∷ [])) ++ os)
moved ms o none = refl
moved ms o (some os) = ap {B = Option (List Node)} some (sym (append_assoc ms (o ∷ []) os))

-- the parts before, and the one that is read
lie_more : (n k : ℕ) (P P' : List ℕ) (ms : List Node) (o : Node) → length ms ≡ k → ((j : ℕ) → j < k → PartLies n P j (node_at ms j)) → PartRead n P k o P'
    → (j : ℕ) → j < k + 1 → PartLies n P' j (node_at (ms ++ (o ∷ [])) j)
lie_more n k P P' ms o c old new j s = go (ℕ_discrete j k)
  where
    go : Dec (j ≡ k) → PartLies n P' j (node_at (ms ++ (o ∷ [])) j)
    go (yes y) =
        let last : node_at (ms ++ (o ∷ [])) j ≡ o = rw (y, ← c) (get_or-append_seam ms o [] (node 0 [])) in
        rw last (subst (λ (x : ℕ). PartLies n P' x o) (sym y) new.lies)
    go (no y) =
        let u : j < k = omega (arith, y) in
        let first : node_at (ms ++ (o ∷ [])) j ≡ node_at ms j = get_or-append ms (o ∷ []) (node 0 []) j (omega arith) in
        rw first (lies_still n P P' k j (node_at ms j) new.below u (old j u))

module _ (T d : List ℕ) (n i k : ℕ) (P : List ℕ) (g : Listing T d n i k P) (h : i < length d) where
  at : LineAt d i g.here.lines
  at = line_at d i g.here.lines g.here.sized g.here.is h

  pub list_room : k < n
  list_room = let e = ap length at.split in let a = g.all in omega arith

  module _ (m : ℕ) (em : m ≡ get_or d i 0) where
    pub list_within : i + 1 + m ≤ length d
    list_within = line_within d i m h em g.here

    module _ (P' : List ℕ) (r : Bool) (lr : LineRead T (take (i + 1 + m - (i + 1)) (drop (i + 1) d)) k n P P' r) where
      answered : (t : Table) → Tabled T t → LineAnswered (part_of t.classes n k at.line) k n P P' r
      answered t b = subst (λ (l : List ℕ). LineAnswered (part_of t.classes n k l) k n P P' r) (line_part d i m h em _ at) (lr.of t b)

      more_passed : not r ≡ false → (t : Table) → Tabled T t → Passed t.classes n (k + 1) at.after (unpack d) P'
      unfolding parts_from
      more_passed z t b =
          let cs = t.classes in
          let w = g.of t b in
          let a = line_true (part_of cs n k at.line) k n P P' r (answered t b) z in
          let o = a.0 in
          let q : parts_from cs n k g.here.lines ≡ parts_from cs n (k + 1) at.after >>= λ os. some (o ∷ os) =
          ap (parts_from cs n k) at.split
          ∙ ap (λ (p : Option Node). p >>= λ o. parts_from cs n (suc k) at.after >>= λ os. some (o ∷ os)) a.1
          ∙ ap (λ (j : ℕ). parts_from cs n j at.after >>= λ os. some (o ∷ os)) (let y : suc k ≡ k + 1 = omega arith in y) in
          let c = w.count in
          record {
            before = w.before ++ (o ∷ []);
            count = length-append w.before (o ∷ []) ∙ omega arith;
            same = w.same ∙ ap (λ (p : Option (List Node)). p >>= λ os. some (w.before ++ os)) q ∙ moved w.before o (parts_from cs n (k + 1) at.after);
            lie = lie_more n k P P' w.before o c w.lie a.2;
          }

      pub list_more : not r ≡ false → Listing T d n (i + 1 + m) (k + 1) P'
      list_more z =
          let e = ap length at.split in
          let a = g.all in
          record { here = line_next d i m h em _ at; all = omega arith; of = more_passed z }

      bad_nothing : n ≡ line_count d → not r ≡ true → (t : Table) → Tabled T t → parts_from t.classes (line_count d) 0 (unpack d) ≡ none
      unfolding parts_from
      bad_nothing en z t b =
          let cs = t.classes in
          let w = g.of t b in
          ap (λ (j : ℕ). parts_from cs j 0 (unpack d)) (sym en)
          ∙ w.same
          ∙ ap (λ (ls : List (List ℕ)). parts_from cs n k ls >>= λ os. some (w.before ++ os)) at.split
          ∙ ap (λ (p : Option Node). p >>= (λ o. parts_from cs n (suc k) at.after >>= λ os. some (o ∷ os)) >>= λ os. some (w.before ++ os))
          (line_false (part_of cs n k at.line) k n P P' r (answered t b) z)

      pub list_bad : n ≡ line_count d → not r ≡ true → LinesRead T d P' (Err BadParts)
      list_bad en z = record { of = λ t b one. none_listed t.classes (unpack d) P' (bad_nothing en z t b) }

-- ---- where the loop ends
all_in : {A : Type 0} (Q : A → Type 0) (d : A) (xs : List A) → ((i : ℕ) → i < length xs → Q (get_or xs i d)) → AllIn Q xs
all_in Q d [] h = tt
all_in Q d (x ∷ xs) h = (h 0 (omega arith), all_in Q d xs (λ i l. h (suc i) (omega arith)))

parts_lie : (P : List ℕ) (ns : List Node) → 1 ≤ length ns → length ns ≤ part_count → ((i : ℕ) → i < length ns → PartLies (length ns) P i (node_at ns i)) → Lies P ns
parts_lie P ns one few h = record {
  some_part = one;
  few = few;
  whole = record { top = omega arith; inner = λ i. inner i (dec_lt i (length ns)) };
  closed = all_in (λ o. AllIn (RefBelow 0) o.refs) (node 0 []) ns (λ i l. all_in (RefBelow 0) (leaf undet) (refs_at ns i) (λ f m. ((h i l).field f _ (some_at (refs_at ns i) f m)).below));
  class = λ i l. (h i l).class;
  count = λ i l. (h i l).count;
  low = λ i l. (h i l).low;
  field = λ i f r l e. ((h i l).field f r e).lies;
  spare = λ i f l. (h i l).spare f;
  blank = λ i j l. (h i l).blank j;
}
  where
    inner : (i : ℕ) → Dec (i < length ns) → (f : ℕ) (r : Ref) → get_elem? (refs_at ns i) f ≡ some r → InRange (length ns) r
    inner i (yes l) f r e = ((h i l).field f r e).inner
    inner i (no l) f r e =
        let past : refs_at ns i ≡ [] = ap (λ (o : Node). o.refs) (get_or-eq_default ns (node 0 []) (omega (arith, l))) in
        absurd (none-ne-some r (sym (ap (λ (rs : List Ref). get_elem? rs f) past) ∙ e))

module _ (T d : List ℕ) (n : ℕ) (P : List ℕ) (en : n ≡ line_count d) where
  pub list_many : part_count < n → LinesRead T d P (Err BadParts)
  list_many h = record { of = λ t b one. rw (parts_in_lem t.classes (unpack d)) (go t.classes (within 1 part_count (line_count d)) refl) }
    where
      go : (cs : List Class) (x : Bool) → within 1 part_count (line_count d) ≡ x → Answered (guard x >>= λ _. parts_from cs (line_count d) 0 (unpack d)) P (Err BadParts)
      go cs true e = let z = (within_true 1 part_count (line_count d) e).1 in absurd (omega arith)
      go cs false e = refl

  module _ (i k : ℕ) (g : Listing T d n i k P) (h : length d ≤ i) (few : n ≤ part_count) where
    no_line : g.here.lines ≡ []
    no_line = at_end_lem d i g.here.lines g.here.is h

    all_listed : (t : Table) (b : Tabled T t) → 1 ≤ line_count d → parts_in t.classes (unpack d) ≡ some (g.of t b).before
    unfolding parts_from
    all_listed t b one =
        let cs = t.classes in
        let w = g.of t b in
        parts_in_lem cs (unpack d)
        ∙ ap (λ (x : Bool). guard x >>= λ _. parts_from cs (line_count d) 0 (unpack d)) (true_within 1 part_count (line_count d) one (omega arith))
        ∙ ap (λ (j : ℕ). parts_from cs j 0 (unpack d)) (sym en)
        ∙ w.same
        ∙ ap (λ (ls : List (List ℕ)). parts_from cs n k ls >>= λ os. some (w.before ++ os)) no_line
        ∙ ap {B = Option (List Node)} some (append-nil w.before)

    pub list_done : LinesRead T d P (Ok n)
    list_done = record { of = done }
      where
        done : (t : Table) → Tabled T t → 1 ≤ line_count d → Answered (parts_in t.classes (unpack d)) P (Ok n)
        done t b one =
            let w = g.of t b in
            let e = ap length no_line in
            let a = g.all in
            let c = w.count in
            let z : n ≡ length w.before = omega arith in
            rw (all_listed t b one)
            (ap {B = Result ℕ Refusal} Ok z, parts_lie P w.before (omega arith) (omega arith) (λ j s. subst (λ (x : ℕ). PartLies x P j (node_at w.before j)) z (w.lie j (omega arith))))
