-- Laws of a line and the part that it lists, as `read_line` cites them. Not here: its fields (ReadFields), lines one after another (ReadLines).
use Rattle.std.proofs.Common.{Fits, w8, ℕ, ◌+◌, ◌*◌, ◌<◌, ◌≤◌, not-suc-le-zero, arith, Some, None, ◌≡◌, refl, sym, ap, ◌∙◌, subst, Bool, true, false, ◌&&◌, List, [], ◌∷◌, append-nil, eqb, leb, length, get_or, set, drop, length-set, length-drop, get_or-set_same, get_or-set_other, eqb-true, leb-true, eq-eqb, le-leb}
use Rattle.std.specs.declared.option.Option.{Option as RustOption}
use Rattle.std.proofs.Math.Option.{Option, none, some, none-ne-some}
use Rattle.std.proofs.Math.Seq.{drop-length}
use Rattle.cofj.specs.Limits.{class_count, field_count}
use Rattle.cofj.specs.Partial.{◌>>=◌, guard}
use Rattle.cofj.specs.Syntax.{Class, Table}
use Rattle.cofj.specs.Classes.{fields_of}
use Rattle.cofj.specs.Frames.{Got, got, whole}
use Rattle.cofj.specs.Values.{Ref, Node, node}
use Rattle.cofj.specs.ReportForm.{refs_of, object_of}
use Rattle.cofj.specs.Batch.{part_good}
use Rattle.cofj.proofs.Basics.{at_lt}
use Rattle.cofj.proofs.Steps.{pair, same, whole_back}
use Rattle.cofj.proofs.Partial.{and_true, true_and, opt_bind, guard-bind}
use Rattle.classes.specs.Figures.{class_count_at}
use Rattle.classes.specs.Machine.{total_of}
use Rattle.classes.specs.Layout.{Tabled}
use Rattle.classes.proofs.OnTables.{total_on}
use Rattle.classes.proofs.Zones.{class_count_at_lem}
use Rattle.canon.specs.Figures.{head_size}
use Rattle.batch.specs.Figures.{part_size, field_room, wide_size}
use Rattle.batch.specs.Layout.{Spared}
use Rattle.batch.specs.Reading.{front_size, FieldsTaken, FieldsRead, part_of, PartRead, LineRead}
use Rattle.batch.proofs.ReadFields.{refs_count}

-- ---- what a line that lists a part says
pub record Says (cs : List Class) (n k : ℕ) (l : List ℕ) (o : Node) : Type 0 where
  pub long : front_size ≤ length l
  pub sign : get_or l 0 0 ≡ 5
  pub number : get_or l 1 0 ≡ k
  pub class : get_or l 2 0 ≡ o.cls
  pub known : get_or l 2 0 ≤ length cs
  pub total : get_or l 3 0 ≡ length (fields_of cs (get_or l 2 0))
  pub small : get_or l 3 0 ≤ field_count
  pub refs : refs_of n (get_or l 3 0) (drop front_size l) ≡ got o.refs []

module _ (cs : List Class) (n k : ℕ) where
  -- the tests of a line
  test : ℕ → ℕ → ℕ → ℕ → Bool
  test a b c m = eqb a 5 && eqb b k && leb c class_count && leb m field_count

  pub line_says : (l : List ℕ) (o : Node) → part_of cs n k l ≡ some o → Says cs n k l o
  unfolding test
  line_says [] o e = absurd (none-ne-some o e)
  line_says (a ∷ []) o e = absurd (none-ne-some o e)
  line_says (a ∷ b ∷ []) o e = absurd (none-ne-some o e)
  line_says (a ∷ b ∷ c ∷ []) o e = absurd (none-ne-some o e)
  line_says (a ∷ b ∷ c ∷ m ∷ bs) o e =
      let p = opt_bind (object_of n k (a ∷ b ∷ c ∷ m ∷ bs)) _ o e in
      let q = guard-bind (part_good cs p.0) _ o p.2 in
      let y : some p.0 ≡ some o = q.1 in
      let w : p.0 ≡ o = cc in
      subst (Says cs n k (a ∷ b ∷ c ∷ m ∷ bs)) w (says p.0 p.1 q.0)
    where
      says : (o : Node) → object_of n k (a ∷ b ∷ c ∷ m ∷ bs) ≡ some o → part_good cs o ≡ true → Says cs n k (a ∷ b ∷ c ∷ m ∷ bs) o
      says o e g =
          let t = guard-bind (test a b c m) _ o e in
          let t3 = and_true (eqb a 5 && eqb b k && leb c class_count) (leb m field_count) t.0 in
          let t2 = and_true (eqb a 5 && eqb b k) (leb c class_count) t3.0 in
          let t1 = and_true (eqb a 5) (eqb b k) t2.0 in
          let x = opt_bind (refs_of n m bs) _ o t.1 in
          let z = opt_bind (whole x.0) _ o x.2 in
          let all : refs_of n m bs ≡ got z.0 [] = x.1 ∙ ap {B = Option (Got (List Ref))} some (whole_back x.0 z.0 z.1) in
          let y : some (node c z.0) ≡ some o = z.2 in
          let w : node c z.0 ≡ o = cc in
          let wc : c ≡ o.cls = ap (λ (d : Node). d.cls) w in
          let wr : z.0 ≡ o.refs = ap (λ (d : Node). d.refs) w in
          let h : length z.0 ≡ m = refs_count n m bs (pair z.0 []) all in
          let g2 = and_true (leb o.cls (length cs)) (eqb (length o.refs) (length (fields_of cs o.cls))) g in
          record {
            long = omega arith;
            sign = eqb-true a 5 t1.0;
            number = eqb-true b k t1.1;
            class = wc;
            known = subst (λ (d : ℕ). d ≤ length cs) (sym wc) (leb-true _ _ g2.0);
            total = sym h ∙ ap length wr ∙ eqb-true _ _ g2.1 ∙ ap (λ (d : ℕ). length (fields_of cs d)) (sym wc);
            small = leb-true m field_count t3.1;
            refs = all ∙ ap (λ (rs : List Ref). got rs []) wr;
          }

  -- a line that says otherwise lists none
  pub line_none : (l : List ℕ) → ((o : Node) → Says cs n k l o → ⊥) → part_of cs n k l ≡ none
  line_none l h = go (part_of cs n k l) refl
    where
      go : (p : Option Node) → part_of cs n k l ≡ p → p ≡ none
      go none e = refl
      go (some o) e = absurd (h o (line_says l o e))

  pub line_some : length cs ≤ class_count → (l : List ℕ) (o : Node) → Says cs n k l o → part_of cs n k l ≡ some o
  unfolding test
  line_some few [] o s = absurd (not-suc-le-zero s.long)
  line_some few (a ∷ []) o s = absurd (omega (arith, s.long))
  line_some few (a ∷ b ∷ []) o s = absurd (omega (arith, s.long))
  line_some few (a ∷ b ∷ c ∷ []) o s = absurd (omega (arith, s.long))
  line_some few (a ∷ b ∷ c ∷ m ∷ bs) o s =
      let known = s.known in
      let cl = s.class in
      let h : length o.refs ≡ m = refs_count n m bs (pair o.refs []) s.refs in
      let rest : Option (Got (List Ref)) → Option Node = λ x. x >>= (λ g. whole g >>= λ rs. some (node c rs)) >>= λ d. guard (part_good cs d) >>= λ _. some d in
      ap (λ (x : Bool). guard x >>= (λ _. refs_of n m bs >>= λ g. whole g >>= λ rs. some (node c rs)) >>= λ d. guard (part_good cs d) >>= λ _. some d)
      (true_and (eqb a 5 && eqb b k && leb c class_count) (leb m field_count)
      (true_and (eqb a 5 && eqb b k) (leb c class_count) (true_and (eqb a 5) (eqb b k) (eq-eqb a 5 s.sign) (eq-eqb b k s.number)) (le-leb c class_count (omega arith)))
      (le-leb m field_count s.small))
      ∙ ap rest s.refs
      ∙ ap (λ (x : Bool). guard x >>= λ _. some (node c o.refs))
      (true_and (leb c (length cs)) (eqb (length o.refs) (length (fields_of cs c))) (le-leb c (length cs) known) (eq-eqb _ _ (h ∙ s.total)))
      ∙ ap (λ (d : ℕ). some (node d o.refs)) cl

-- ---- the table's bytes
module _ {T : List ℕ} (t : Table) (b : Tabled T t) where
  class_count_lem : get_or T class_count_at 0 ≡ length t.classes
  class_count_lem = rw b.bytes (class_count_at_lem t)

  class_total : (c : ℕ) → total_of T c ≡ length (fields_of t.classes c)
  class_total c = ap (λ (B : List ℕ). total_of B c) b.bytes ∙ total_on t b.formed c

-- ---- `read_line`
module _ (T l : List ℕ) (k n : ℕ) (P₀ P : List ℕ) where
  -- a line that cannot say what a part's line says is refused
  refused : ((t : Table) → Tabled T t → (o : Node) → Says t.classes n k l o → ⊥) → LineRead T l k n P₀ P false
  refused h = record { of = λ t b. rw (line_none t.classes n k l (h t b)) refl }

  pub bad_length : length l < front_size → LineRead T l k n P₀ P false
  bad_length h = refused λ t b o s. let e = s.long in omega arith

  pub bad_sign : (get_or l 0 0 ≡ 5 → ⊥) → LineRead T l k n P₀ P false
  bad_sign h = refused λ t b o s. h s.sign

  pub bad_number : (get_or l 1 0 ≡ k → ⊥) → LineRead T l k n P₀ P false
  bad_number h = refused λ t b o s. h s.number

  pub bad_class : get_or T class_count_at 0 < get_or l 2 0 → LineRead T l k n P₀ P false
  bad_class h = refused λ t b o s. let e = class_count_lem t b in let z = s.known in omega arith

  pub bad_total : (x : ℕ) → x ≡ total_of T (get_or l 2 0) → (get_or l 3 0 ≡ x → ⊥) → LineRead T l k n P₀ P false
  bad_total x ex h = refused λ t b o s. h (s.total ∙ sym (class_total t b (get_or l 2 0)) ∙ sym ex)

  pub bad_many : field_room < get_or l 3 0 → LineRead T l k n P₀ P false
  bad_many h = refused λ t b o s. let z = s.small in omega arith

-- what is written before the fields
abbrev headed : List ℕ → ℕ → ℕ → ℕ → List ℕ
headed P k c m = set (set P (part_size * k) c) (part_size * k + 1) m

module _ (l : List ℕ) (n m : ℕ) (P₀ : List ℕ) (at : ℕ) (P : List ℕ) (q : ℕ) (ft : FieldsTaken l n P₀ at P m q) where
  -- the fields of the line, and the bytes after them
  taken_is : refs_of n m (drop front_size l) ≡ got ft.refs (drop q l)
  unfolding refs_of
  taken_is =
      ap (λ (j : ℕ). refs_of n j (drop front_size l)) (let z : m ≡ m + 0 = omega arith in z) ∙ ft.is 0 ∙ ap (λ (rs : List Ref). got rs (drop q l)) (append-nil ft.refs)

  -- there are none if the line ends there
  taken_all : q ≡ length l → refs_of n m (drop front_size l) ≡ got ft.refs []
  taken_all e = taken_is ∙ ap (got ft.refs) (ap (λ (j : ℕ). drop j l) e ∙ drop-length l)

  taken_end : (rs : List Ref) → refs_of n m (drop front_size l) ≡ got rs [] → q ≡ length l
  taken_end rs e =
      let a = ap (λ (g : Got (List Ref)). length g.rest) (same (pair ft.refs (drop q l)) (pair rs []) (sym taken_is ∙ e)) in
      let b = length-drop q l in
      let w = ft.within in
      omega arith

-- a line that says what a part's line says, up to its fields
module _ (T l : List ℕ) (k n : ℕ) (P₀ : List ℕ) (x : ℕ) (fk : Fits w8 k) (room : wide_size ≤ length P₀) (long : front_size ≤ length l) (sign : get_or l 0 0 ≡ 5)
    (number : get_or l 1 0 ≡ k) (known : get_or l 2 0 ≤ get_or T class_count_at 0) (ex : x ≡ total_of T (get_or l 2 0)) (total : get_or l 3 0 ≡ x) (few : get_or l 3 0 ≤ field_room)
    (P₁ : List ℕ) (w : RustOption ℕ) (fr : FieldsRead l (get_or l 3 0) n (headed P₀ k (get_or l 2 0) (get_or l 3 0)) (part_size * k) P₁ w) where
  pub no_fields : w ≡ None → LineRead T l k n P₀ P₁ false
  no_fields z = refused T l k n P₀ P₁ (λ t b o s. none-ne-some (pair o.refs []) (sym (fr.bad z) ∙ s.refs))

  pub bad_fields : (q : ℕ) → w ≡ Some q → (q ≡ length l → ⊥) → LineRead T l k n P₀ P₁ false
  bad_fields q z h = refused T l k n P₀ P₁ (λ t b o s. h (taken_end l n (get_or l 3 0) _ _ P₁ q (fr.good q z) o.refs s.refs))

  module _ (q : ℕ) (z : w ≡ Some q) (e : q ≡ length l) (P : List ℕ) (sp : Spared P₁ (part_size * k) (get_or l 3 0) P) where
    ft : FieldsTaken l n (headed P₀ k (get_or l 2 0) (get_or l 3 0)) (part_size * k) P₁ (get_or l 3 0) q
    ft = fr.good q z

    part : Node
    part = node (get_or l 2 0) ft.refs

    -- what lies below the fields
    front : (j : ℕ) → j < part_size * k + head_size → get_or P j 0 ≡ get_or (headed P₀ k (get_or l 2 0) (get_or l 3 0)) j 0
    front j h = sp.to.below j h ∙ ft.below j h

    lies : PartRead n P₀ k part P
    unfolding part
    lies = record {
      lies = record {
        class =
            front (part_size * k) (omega arith) ∙ get_or-set_other (set P₀ (part_size * k) (get_or l 2 0)) (part_size * k + 1) (part_size * k) (get_or l 3 0) 0 (λ z. omega arith)
            ∙ get_or-set_same P₀ (part_size * k) (get_or l 2 0) 0 (omega arith);
        count =
            front (part_size * k + 1) (omega arith)
            ∙ get_or-set_same (set P₀ (part_size * k) (get_or l 2 0)) (part_size * k + 1) (get_or l 3 0) 0 (let z = length-set P₀ (part_size * k) (get_or l 2 0) in omega arith) ∙ sym ft.count;
        low = let c = ft.count in omega arith;
        field = λ f r z.
            let o = ft.entered f r z in
            let c = ft.count in
            let i = at_lt ft.refs f r z in
            record { inner = o.inner; below = o.below; lies = sp.to.fields f _ _ (omega arith) o.lies };
        spare = λ f a h. let c = ft.count in sp.to.spare f (omega arith) h;
        blank = sp.blank;
      };
      below = λ j h.
          front j (omega arith) ∙ get_or-set_other (set P₀ (part_size * k) (get_or l 2 0)) (part_size * k + 1) j (get_or l 3 0) 0 (λ z. omega arith)
          ∙ get_or-set_other P₀ (part_size * k) j (get_or l 2 0) 0 (λ z. omega arith);
    }

    pub part_read : LineRead T l k n P₀ P true
    unfolding part
    part_read = record {
      of = λ t b.
          let known_is : get_or l 2 0 ≤ length t.classes = (let z = class_count_lem t b in omega arith) in
          let says : Says t.classes n k l part = record {
            long = long;
            sign = sign;
            number = number;
            class = refl;
            known = known_is;
            total = total ∙ ex ∙ class_total t b (get_or l 2 0);
            small = few;
            refs = taken_all l n (get_or l 3 0) _ _ P₁ q ft e;
          } in
          rw (line_some t.classes n k b.formed.classes l part says) (refl, lies);
    }
