-- Laws of the order of frames, in the form in which the goals of `order` cite them: what its walk keeps, and one for each return.
use Rattle.std.proofs.Common.{ℕ, zero, suc, ◌+◌, ◌<◌, ◌≤◌, arith, add-one, ◌≡◌, refl, sym, ap, ap₂, ◌∙◌, Bool, true, false, ◌&&◌, List, [], ◌∷◌, ◌++◌, eqb, leb, length, get_or, drop, Ok, Err, eqb-true, le-leb}
use Rattle.std.proofs.Math.Option.{Option, none, some, none-ne-some}
use Rattle.cofj.specs.Limits.{field_count, param_count, nesting_limit}
use Rattle.cofj.specs.Partial.{◌>>=◌, guard}
use Rattle.cofj.specs.Syntax.{Expr, Ty, Method}
use Rattle.cofj.specs.Frames.{byte, up_to, type, types, expr, ClassFrame, TextFrame, class_frame, method_frame, main_frame, whole, class_after, method_after, main_after, input_after, frame, frames}
use Rattle.cofj.specs.Tables.{Raw, raw, in_front, ordered, few}
use Rattle.cofj.proofs.Partial.{opt_bind, taken}
use Rattle.cofj.proofs.Steps.{given, branch}
use Rattle.std.specs.declared.result.Result.{Result}
use Rattle.cofj.specs.declared.Refusal.{Refusal}
use Rattle.cofj.specs.declared.Refusal.TheVariants.{BadOrder}
use Rattle.lineform.specs.declared.lines.Counts.{Counts}
use Rattle.lineform.specs.Packed.{packed, unpack, FramedLines}
use Rattle.lineform.specs.Answers.{counted as counts_are, counts_of, order_of}
use Rattle.lineform.proofs.Ends.{more}
use Rattle.lineform.proofs.LineLaws.{Rest, LineAt, line_at, line_next, line_byte, rest_all, unpack_all, at_end_lem}

-- ---- the answer where c classes and m methods stand in front of what is read
abbrev answer : ℕ → ℕ → Result Counts Refusal
answer c m = elim (leb c 32 && leb m 64) [ true ↦ Ok (counts_are c m) | false ↦ Err BadOrder ]

abbrev pub front_of : ℕ → ℕ → List ClassFrame → ℕ → Result Counts Refusal
front_of c zero cs k = answer (c + length cs) k
front_of c (suc m) [] k = answer c (suc m + k)
front_of c (suc m) (x ∷ cs) k = Err BadOrder

abbrev pub front : ℕ → ℕ → Option Raw → Result Counts Refusal
front c m none = Err BadOrder
front c m (some r) = front_of c m r.classes (length r.methods)

front_none : (o : Option Raw) → counts_of (o >>= few) ≡ front 0 0 o
front_none none = refl
front_none (some r) = go (leb (length r.classes) 32 && leb (length r.methods) 64) ∙ ap (λ (n : ℕ). answer n (length r.methods)) (let w : length r.classes ≡ 0 + length r.classes = omega arith in w)
  where
    go : (b : Bool) → counts_of (guard b >>= λ _. some r) ≡ elim b [ true ↦ Ok (counts_are (length r.classes) (length r.methods)) | false ↦ Err BadOrder ]
    go true = refl
    go false = refl

front_class : (c : ℕ) (x : ClassFrame) (o : Option Raw) → front c 0 (o >>= λ r. in_front (class_frame x) r) ≡ front (c + 1) 0 o
front_class c x none = refl
front_class c x (some r) = ap (λ (n : ℕ). answer n (length r.methods)) (let w : c + suc (length r.classes) ≡ c + 1 + length r.classes = omega arith in w)

late_class : (c m : ℕ) (x : ClassFrame) (o : Option Raw) → 0 < m → front c m (o >>= λ r. in_front (class_frame x) r) ≡ Err BadOrder
late_class c m x none h = refl
late_class c zero x (some r) h = absurd (omega arith)
late_class c (suc m) x (some r) h = refl

front_method : (c m : ℕ) (x : Method) (o : Option Raw) → front c m (o >>= λ r. in_front (method_frame x) r) ≡ front c (m + 1) o
front_method c m x none = refl
front_method c m x (some r) = rw add-one (go m r.classes r.methods r.input r.main)
  where
    go : (m : ℕ) (cs : List ClassFrame) (ms : List Method) (i : Option Ty) (e : Expr) → front c m (in_front (method_frame x) (raw cs ms i e)) ≡ front_of c (suc m) cs (length ms)
    go zero [] ms i e = ap₂ answer (let w : c + 0 ≡ c = omega arith in w) (let w : suc (length ms) ≡ 1 + length ms = omega arith in w)
    go (suc m) [] ms i e = ap (answer c) (let w : suc m + suc (length ms) ≡ suc (suc m) + length ms = omega arith in w)
    go zero (y ∷ cs) ms i e = refl
    go (suc m) (y ∷ cs) ms i e = refl

front_main : (c m : ℕ) (i : Option Ty) (e : Expr) → front c m (some (raw [] [] i e)) ≡ answer c m
front_main c zero i e = ap (λ (n : ℕ). answer n 0) (let w : c + 0 ≡ c = omega arith in w)
front_main c (suc m) i e = ap (answer c) (let w : suc m + 0 ≡ suc m = omega arith in w)

-- ---- a line's first byte and its frame
abbrev mark : TextFrame → ℕ
mark (class_frame c) = 1
mark (method_frame d) = 2
mark (main_frame none e) = 3
mark (main_frame (some u) e) = 4

abbrev Marked : ℕ → TextFrame → Type 0
Marked k f = k ≡ mark f

class_mark : (bs : List ℕ) (f : TextFrame) → class_after bs ≡ some f → Marked 1 f
unfolding class_after
class_mark bs f e =
    taken (byte bs) f e λ c _ e1.
    taken (byte c.rest) f e1 λ p _ e2.
    taken (up_to field_count p.rest) f e2 λ n _ e3.
    taken (types n.item n.rest) f e3 λ ts _ e4.
    taken (whole ts) f e4 λ own _ e5. given (Marked 1) _ f e5 refl

method_mark : (bs : List ℕ) (f : TextFrame) → method_after bs ≡ some f → Marked 2 f
unfolding method_after
method_mark bs f e =
    taken (byte bs) f e λ o _ e1.
    taken (byte o.rest) f e1 λ m _ e2.
    taken (type m.rest) f e2 λ a _ e3.
    taken (type a.rest) f e3 λ b _ e4.
    taken (up_to param_count b.rest) f e4 λ n _ e5.
    taken (types n.item n.rest) f e5 λ ts _ e6.
    taken (expr nesting_limit ts.rest) f e6 λ l _ e7.
    taken (expr nesting_limit l.rest) f e7 λ r _ e8.
    taken (whole r) f e8 λ right _ e9. given (Marked 2) _ f e9 refl

main_mark : (i : Option Ty) (bs : List ℕ) (f : TextFrame) (k : ℕ) → ((e : Expr) → Marked k (main_frame i e)) → main_after i bs ≡ some f → Marked k f
unfolding main_after
main_mark i bs f k m e = taken (expr nesting_limit bs) f e λ x _ e1. taken (whole x) f e1 λ main _ e2. given (Marked k) _ f e2 (m main)

input_mark : (bs : List ℕ) (f : TextFrame) → input_after bs ≡ some f → Marked 4 f
unfolding input_after
input_mark bs f e = taken (type bs) f e λ u _ e1. main_mark (some u.item) u.rest f 4 (λ x. refl) e1

frame_mark : (l : List ℕ) (f : TextFrame) → frame l ≡ some f → Marked (get_or l 0 0) f
unfolding frame
frame_mark [] f e = absurd (none-ne-some f e)
frame_mark (k ∷ bs) f e =
    branch (eqb k 1) _ _ f e (λ q z. eqb-true k 1 q ∙ class_mark bs f z) λ e1.
    branch (eqb k 2) _ _ f e1 (λ q z. eqb-true k 2 q ∙ method_mark bs f z) λ e2.
    branch (eqb k 3) _ _ f e2 (λ q z. eqb-true k 3 q ∙ main_mark none bs f 3 (λ x. refl) z) λ e3.
    branch (eqb k 4) _ _ f e3 (λ q z. eqb-true k 4 q ∙ input_mark bs f z) λ e4. absurd (none-ne-some f e4)

first : (l p r : List ℕ) (x : ℕ) → 1 ≤ length l → x ∷ r ≡ l ++ p → x ≡ get_or l 0 0
first [] p r x h e = absurd (omega arith)
first (y ∷ l) p r x h e = cc

-- ---- what the walk keeps
pub record Counting (d : List ℕ) (i c m : ℕ) : Type 0 where
  pub here : Rest d i
  pub found : List TextFrame
  pub read : frames here.lines ≡ some found
  pub gives : order_of (frames (unpack d)) ≡ front c m (ordered found)

pub counting_none : (d : List ℕ) → FramedLines d → Counting d 0 0 0
unfolding order_of
counting_none d p = record {
  here = rest_all d p.whole;
  found = p.found;
  read = ap frames (sym (unpack_all d p.whole)) ∙ p.read;
  gives = ap order_of p.read ∙ front_none (ordered p.found);
}

-- the frame at a place, and what follows
record FrameAt (d : List ℕ) (i : ℕ) (ls : List (List ℕ)) (found : List TextFrame) : Type 0 where
  at : LineAt d i ls
  head : TextFrame
  tail : List TextFrame
  split : found ≡ head ∷ tail
  marked : get_or d (i + 1) 0 ≡ mark head
  read : frames at.after ≡ some tail

frame_at : (d : List ℕ) (i : ℕ) (r : Rest d i) (found : List TextFrame) → frames r.lines ≡ some found → i < length d → i + 1 < length d → FrameAt d i r.lines found
unfolding frames
frame_at d i r found e h h1 =
    let a = line_at d i r.lines r.sized r.is h in
    let e0 : frames (a.line ∷ a.after) ≡ some found = ap frames (sym a.split) ∙ e in
    let x = opt_bind (frame a.line) (λ f. frames a.after >>= λ fs. some (f ∷ fs)) found e0 in
    let y = opt_bind (frames a.after) (λ fs. some (x.0 ∷ fs)) found x.2 in
    let z : get_or d (i + 1) 0 ≡ get_or a.line 0 0 = first a.line (packed a.after) (drop (i + 1 + 1) d) (get_or d (i + 1) 0) a.some_byte (sym (more d (i + 1) h1) ∙ a.bytes) in
    record {
      at = a;
      head = x.0;
      tail = y.0;
      split = (let w : found ≡ x.0 ∷ y.0 = cc y.2 in w);
      marked = z ∙ frame_mark a.line x.0 x.1;
      read = y.1;
    }

module _ (d : List ℕ) (i c m n : ℕ) (r : Counting d i c m) (h : i < length d) (en : n ≡ get_or d i 0) where
  at_line : FrameAt d i r.here.lines r.found
  at_line = frame_at d i r.here r.found r.read h (line_byte d i n h en r.here)

  gives_at : (f : TextFrame) → at_line.head ≡ f → order_of (frames (unpack d)) ≡ front c m (ordered (f ∷ at_line.tail))
  gives_at f e = r.gives ∙ ap (λ (x : List TextFrame). front c m (ordered x)) (at_line.split ∙ ap (λ (g : TextFrame). g ∷ at_line.tail) e)

  counted : (c' m' : ℕ) → order_of (frames (unpack d)) ≡ front c' m' (ordered at_line.tail) → Counting d (i + 1 + n) c' m'
  counted c' m' e = record { here = line_next d i n h en r.here.lines at_line.at; found = at_line.tail; read = at_line.read; gives = e }

  -- which frame it is, by the first byte
  module _ (k : get_or d (i + 1) 0 ≡ 1) where
    pub class_late : 0 < m → Err BadOrder ≡ order_of (frames (unpack d))
    unfolding ordered
    class_late l = go at_line.head refl at_line.marked
      where
        go : (f : TextFrame) → at_line.head ≡ f → get_or d (i + 1) 0 ≡ mark f → Err BadOrder ≡ order_of (frames (unpack d))
        go (class_frame x) e q = sym (gives_at (class_frame x) e ∙ late_class c m x (ordered at_line.tail) l)
        go (method_frame x) e q = absurd (omega arith)
        go (main_frame none x) e q = absurd (omega arith)
        go (main_frame (some u) x) e q = absurd (omega arith)

    pub class_next : m ≤ 0 → Counting d (i + 1 + n) (c + 1) m
    unfolding ordered
    class_next l = go at_line.head refl at_line.marked
      where
        ez : m ≡ 0
        ez = omega arith

        go : (f : TextFrame) → at_line.head ≡ f → get_or d (i + 1) 0 ≡ mark f → Counting d (i + 1 + n) (c + 1) m
        go (class_frame x) e q =
            counted (c + 1) m
            (gives_at (class_frame x) e ∙ ap (λ (k : ℕ). front c k (ordered (class_frame x ∷ at_line.tail))) ez ∙ front_class c x (ordered at_line.tail)
            ∙ ap (λ (k : ℕ). front (c + 1) k (ordered at_line.tail)) (sym ez))
        go (method_frame x) e q = absurd (omega arith)
        go (main_frame none x) e q = absurd (omega arith)
        go (main_frame (some u) x) e q = absurd (omega arith)

  pub method_next : get_or d (i + 1) 0 ≡ 2 → Counting d (i + 1 + n) c (m + 1)
  unfolding ordered
  method_next k = go at_line.head refl at_line.marked
    where
      go : (f : TextFrame) → at_line.head ≡ f → get_or d (i + 1) 0 ≡ mark f → Counting d (i + 1 + n) c (m + 1)
      go (class_frame x) e q = absurd (omega arith)
      go (method_frame x) e q = counted c (m + 1) (gives_at (method_frame x) e ∙ front_method c m x (ordered at_line.tail))
      go (main_frame none x) e q = absurd (omega arith)
      go (main_frame (some u) x) e q = absurd (omega arith)

  module _ (n1 : (get_or d (i + 1) 0 ≡ 1) → ⊥) (n2 : (get_or d (i + 1) 0 ≡ 2) → ⊥) where
    main_at_lem : (u : Option Ty) × (x : Expr) × (at_line.head ≡ main_frame u x)
    main_at_lem = go at_line.head refl at_line.marked
      where
        go : (f : TextFrame) → at_line.head ≡ f → get_or d (i + 1) 0 ≡ mark f → (u : Option Ty) × (x : Expr) × (at_line.head ≡ main_frame u x)
        go (class_frame x) e q = absurd (n1 q)
        go (method_frame x) e q = absurd (n2 q)
        go (main_frame u x) e q = (u, x, e)

    pub main_early : i + 1 + n < length d → Err BadOrder ≡ order_of (frames (unpack d))
    unfolding ordered frames packed
    main_early l = sym (gives_at (main_frame main_at_lem.0 main_at_lem.1) main_at_lem.2 ∙ go at_line.at.after at_line.tail at_line.read (line_next d i n h en r.here.lines at_line.at).is)
      where
        go : (ls : List (List ℕ)) (fs : List TextFrame) → frames ls ≡ some fs → drop (i + 1 + n) d ≡ packed ls → front c m (ordered (main_frame main_at_lem.0 main_at_lem.1 ∷ fs)) ≡ Err BadOrder
        go ls (f ∷ fs) e q = refl
        go [] [] e q = let w = more d (i + 1 + n) l in let z : ◌≡◌ {A = ℕ} 0 1 = cc in absurd (omega arith)
        go (y ∷ ls) [] e q =
            let a = opt_bind (frame y) (λ f. frames ls >>= λ gs. some (f ∷ gs)) [] e in
            let b = opt_bind (frames ls) (λ gs. some (a.0 ∷ gs)) [] a.2 in
            let z : ◌≡◌ {A = ℕ} 0 1 = cc b.2 in
            absurd (omega arith)

    module _ (l : length d ≤ i + 1 + n) where
      last : order_of (frames (unpack d)) ≡ answer c m
      unfolding ordered frames
      last = gives_at (main_frame main_at_lem.0 main_at_lem.1) main_at_lem.2 ∙ go at_line.tail (ap frames (sym (at_end_lem d (i + 1 + n) at_line.at.after (line_next d i n h en r.here.lines at_line.at).is l)) ∙ at_line.read)
        where
          go : (fs : List TextFrame) → frames [] ≡ some fs → front c m (ordered (main_frame main_at_lem.0 main_at_lem.1 ∷ fs)) ≡ answer c m
          go [] e = front_main c m main_at_lem.0 main_at_lem.1
          go (f ∷ fs) e = let z : ◌≡◌ {A = ℕ} 0 1 = cc in absurd (omega arith)

      module _ (kc : c ≤ 32) where
        pub counts : m ≤ 64 → Ok (counts_are c m) ≡ order_of (frames (unpack d))
        counts k = sym (last ∙ rw (le-leb c 32 kc, le-leb m 64 k, answer))

pub no_main : (d : List ℕ) (i c m : ℕ) → Counting d i c m → length d ≤ i → Err BadOrder ≡ order_of (frames (unpack d))
unfolding ordered frames
no_main d i c m r h = sym (r.gives ∙ go r.found (ap frames (sym (at_end_lem d i r.here.lines r.here.is h)) ∙ r.read))
  where
    go : (fs : List TextFrame) → frames [] ≡ some fs → front c m (ordered fs) ≡ Err BadOrder
    go [] e = refl
    go (f ∷ fs) e = let z : ◌≡◌ {A = ℕ} 0 1 = cc in absurd (omega arith)
