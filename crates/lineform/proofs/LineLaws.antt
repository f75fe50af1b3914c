-- Laws of a walk over packed lines, in the form in which the goals of `frames_good` and `order` cite them.
-- Not here: the counts of `order` (OrderLaws).
use Rattle.std.proofs.Common.{ℕ, ◌+◌, ◌-◌, ◌<◌, ◌≤◌, arith, ◌≡◌, refl, sym, ap, ◌∙◌, subst, List, [], ◌∷◌, ◌++◌, append_assoc, append-nil, length, get_or, take, drop, length-append, length-drop, drop-drop, Some, None, Ok, Err, ok_or}
use Rattle.std.proofs.Math.Option.{Option, none, some}
use Rattle.std.proofs.Math.Seq.{take-append_seam, drop-append_seam}
use Rattle.cofj.specs.Limits.{line_size, method_count}
use Rattle.cofj.specs.Partial.{◌>>=◌}
use Rattle.cofj.specs.Frames.{TextFrame, frame, frames}
use Rattle.lineform.specs.declared.frames.Kind.{Kind}
use Rattle.std.specs.declared.option.Option.{Option as RustOption}
use Rattle.cofj.specs.declared.Refusal.{Refusal}
use Rattle.cofj.specs.declared.Refusal.TheVariants.{BadFrame}
use Rattle.lineform.specs.Packed.{packed, unpack, Sized, also, Packed}
use Rattle.lineform.specs.Answers.{kind_of, framed_of, noted, note_right, SmallKind, framing_of, Framing}
use Rattle.lineform.proofs.Ends.{more, no_more}
use Rattle.lineform.proofs.PackedLaws.{unpack-packed}
use Rattle.lineform.proofs.NoteLaws.{Notes, notes_none, notes_more, notes_rights, kind_small}

-- ---- a place of d where a line begins
pub record Rest (d : List ℕ) (i : ℕ) : Type 0 where
  pub lines : List (List ℕ)
  pub is : drop i d ≡ packed lines
  pub sized : Sized lines

-- the line there
pub record LineAt (d : List ℕ) (i : ℕ) (ls : List (List ℕ)) : Type 0 where
  pub line : List ℕ
  pub after : List (List ℕ)
  pub split : ls ≡ line ∷ after
  pub count : get_or d i 0 ≡ length line
  pub bytes : drop (i + 1) d ≡ line ++ packed after
  pub some_byte : 1 ≤ length line
  pub short : length line ≤ line_size
  pub sized : Sized after

pub line_at : (d : List ℕ) (i : ℕ) (ls : List (List ℕ)) → Sized ls → drop i d ≡ packed ls → i < length d → LineAt d i ls
unfolding packed
line_at d i [] s e h =
    let m = more d i h in
    let z : ◌≡◌ {A = ℕ} 0 1 = cc in
    absurd (omega arith)
line_at d i (l ∷ ls) (also one top s) e h =
    let m = more d i h in
    let q : get_or d i 0 ∷ drop (i + 1) d ≡ length l ∷ (l ++ packed ls) = sym m ∙ e in
    record { line = l; after = ls; split = refl; count = (let w : get_or d i 0 ≡ length l = cc in w); bytes = (let w : drop (i + 1) d ≡ l ++ packed ls = cc in w); some_byte = one; short = top; sized = s }

module _ (d : List ℕ) (i m : ℕ) (h : i < length d) (em : m ≡ get_or d i 0) where
  pub line_within : Rest d i → i + 1 + m ≤ length d
  line_within r =
      let a = line_at d i r.lines r.sized r.is h in
      let e = simp (length-append, length-drop) at (ap length a.bytes) in
      let c = a.count in
      omega arith

  pub line_byte : Rest d i → i + 1 < length d
  line_byte r =
      let a = line_at d i r.lines r.sized r.is h in
      let e = simp (length-append, length-drop) at (ap length a.bytes) in
      let s = a.some_byte in
      omega arith

  module _ (ls : List (List ℕ)) (a : LineAt d i ls) where
    pub line_part : take (i + 1 + m - (i + 1)) (drop (i + 1) d) ≡ a.line
    line_part =
        let e : i + 1 + m - (i + 1) ≡ length a.line = omega (arith, a.count) in
        rw (e, a.bytes) (take-append_seam a.line (packed a.after))

    abbrev pub line_next : Rest d (i + 1 + m)
    line_next =
        let e : m ≡ length a.line = em ∙ a.count in
        record {
          lines = a.after;
          is = sym (drop-drop m (i + 1) d) ∙ rw (e, a.bytes) (drop-append_seam a.line (packed a.after));
          sized = a.sized;
        }

-- ---- what the walk of `frames_good` keeps: `before` are the frames of the lines that are passed, and R has the places of m of their methods
pub record Left (d : List ℕ) (i : ℕ) (R : List ℕ) (m : ℕ) : Type 0 where
  pub here : Rest d i
  pub same : framing_of (frames (unpack d)) ≡ framing_of (frames here.lines)
  pub before : List TextFrame
  pub whole : (gs : List TextFrame) → frames here.lines ≡ some gs → frames (unpack d) ≡ some (before ++ gs)
  pub notes : Notes R m before

abbrev pub rest_all : (d : List ℕ) → Packed d → Rest d 0
rest_all d p = record { lines = p.lines; is = p.is; sized = p.sized }

pub unpack_all : (d : List ℕ) (p : Packed d) → unpack d ≡ p.lines
unpack_all d p = ap unpack p.is ∙ unpack-packed p.lines

pub left_all : (d R : List ℕ) → Packed d → length R ≡ method_count → Left d 0 R 0
left_all d R p l = record {
  here = rest_all d p;
  same = ap (λ (x : List (List ℕ)). framing_of (frames x)) (unpack_all d p);
  before = [];
  whole = λ gs e. ap frames (unpack_all d p) ∙ e;
  notes = notes_none R l;
}

-- a frame that is asked for by `?`
pub a_frame : (o : RustOption Kind) (e : Refusal) (k : Kind) → Ok k ≡ ok_or o e → o ≡ Some k
a_frame (Some x) e k q = let z : k ≡ x = cc in ap {B = RustOption Kind} Some (sym z)
a_frame None e k q = let z : ◌≡◌ {A = ℕ} 0 1 = cc in absurd (omega arith)

pub no_frame : (o : RustOption Kind) (e x : Refusal) → Err x ≡ ok_or o e → (o ≡ None) × (x ≡ e)
no_frame (Some k) e x q = let z : ◌≡◌ {A = ℕ} 0 1 = cc in absurd (omega arith)
no_frame None e x q = (refl, let z : x ≡ e = cc in z)

good_is : (p : Option TextFrame) (o : RustOption Kind) (k : Kind) → o ≡ framed_of p → o ≡ Some k → (f : TextFrame) × (p ≡ some f) × (k ≡ kind_of f)
good_is none o k e n = let z : ◌≡◌ {A = ℕ} 0 1 = cc in absurd (omega arith)
good_is (some f) o k e n = (f, refl, let z : Some k ≡ Some (kind_of f) = sym n ∙ e in cc)

is_bad : (p : Option TextFrame) (o : RustOption Kind) → o ≡ framed_of p → o ≡ None → p ≡ none
is_bad none o e n = refl
is_bad (some f) o e n = let z : ◌≡◌ {A = ℕ} 0 1 = cc in absurd (omega arith)

both : (f : TextFrame) (q : Option (List TextFrame)) → framing_of (some f >>= λ g. q >>= λ fs. some (g ∷ fs)) ≡ framing_of q
both f none = refl
both f (some fs) = refl

one_bad : (p : Option TextFrame) (q : Option (List TextFrame)) → p ≡ none → framing_of (p >>= λ f. q >>= λ fs. some (f ∷ fs)) ≡ Err BadFrame
one_bad none q e = refl
one_bad (some f) q e = let z : ◌≡◌ {A = ℕ} 0 1 = cc in absurd (omega arith)

module _ (d : List ℕ) (i m : ℕ) (R : List ℕ) (c : ℕ) (r : Left d i R c) (h : i < length d) (em : m ≡ get_or d i 0) (o : RustOption Kind) (eo : o ≡ framed_of (frame (take (i + 1 + m - (i + 1)) (drop (i + 1) d)))) where
  -- the line there
  at : LineAt d i r.here.lines
  at = line_at d i r.here.lines r.here.sized r.here.is h

  at_frame : o ≡ framed_of (frame at.line)
  at_frame = eo ∙ ap (λ (l : List ℕ). framed_of (frame l)) (line_part d i m h em _ at)

  pub bad_line : (R' : List ℕ) → o ≡ None → Framing d (Err BadFrame) R'
  unfolding frames
  bad_line R' n =
      let b = is_bad (frame at.line) o at_frame n in
      record {
        answer = sym (r.same ∙ ap (λ (x : List (List ℕ)). framing_of (frames x)) at.split ∙ one_bad (frame at.line) (frames at.after) b);
        rights = λ fs z. absurd (let y : ◌≡◌ {A = ℕ} 0 1 = cc in omega arith);
      }

  module _ (k : Kind) (n : o ≡ Some k) where
    is : (f : TextFrame) × (frame at.line ≡ some f) × (k ≡ kind_of f)
    is = good_is (frame at.line) o k at_frame n

    pub small_kind : SmallKind k
    small_kind = subst SmallKind (sym is.2) (kind_small is.0 at.line is.1 at.short)

    pub good_line : (R' : List ℕ) (c' : ℕ) → noted c' R' ≡ note_right k c R → Left d (i + 1 + m) R' c'
    unfolding frames
    good_line R' c' e =
        let f = is.0 in
        let q = is.1 in
        record {
          here = line_next d i m h em _ at;
          same = r.same ∙ ap (λ (x : List (List ℕ)). framing_of (frames x)) at.split ∙ ap (λ (p : Option TextFrame). framing_of (p >>= λ g. frames at.after >>= λ fs. some (g ∷ fs))) q ∙ both f (frames at.after);
          before = r.before ++ (f ∷ []);
          whole = λ gs w.
              let v : frames r.here.lines ≡ some (f ∷ gs) = ap frames at.split ∙ ap (λ (p : Option TextFrame). p >>= λ g. frames at.after >>= λ fs. some (g ∷ fs)) q ∙ ap (λ (p : Option (List TextFrame)). p >>= λ fs. some (f ∷ fs)) w in
              r.whole (f ∷ gs) v ∙ ap {B = Option (List TextFrame)} some (sym (append_assoc r.before (f ∷ []) gs));
          notes = notes_more R c r.before f R' c' r.notes (e ∙ ap (λ (x : Kind). note_right x c R) is.2);
        }

-- no line is left at the end
pub at_end_lem : (d : List ℕ) (i : ℕ) (ls : List (List ℕ)) → drop i d ≡ packed ls → length d ≤ i → ls ≡ []
unfolding packed
at_end_lem d i [] e h = refl
at_end_lem d i (l ∷ ls) e h =
    let n = no_more d i h in
    let z : ◌≡◌ {A = ℕ} 0 1 = cc in
    absurd (omega arith)

pub all_good : (d : List ℕ) (i : ℕ) (R : List ℕ) (m : ℕ) → Left d i R m → length d ≤ i → Framing d (Ok tt) R
unfolding frames
all_good d i R m r h =
    let e = at_end_lem d i r.here.lines r.here.is h in
    record {
      answer = sym (r.same ∙ ap (λ (x : List (List ℕ)). framing_of (frames x)) e);
      rights = λ fs z w. notes_rights R m r.before fs r.notes
          (let v : some (r.before ++ []) ≡ some fs = sym (r.whole [] (ap frames e)) ∙ w in let y : r.before ++ [] ≡ fs = cc in sym (append-nil r.before) ∙ y);
    }
