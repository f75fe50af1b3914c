-- From packed lines that are frames in order (refusals 1 to 3 passed) to what the table's builder needs of them.
use Rattle.std.proofs.Common.{ℕ, zero, suc, ◌+◌, ◌<◌, ◌≤◌, arith, ◌≡◌, refl, sym, ap, ap₂, ◌∙◌, subst, Bool, true, false, List, [], ◌∷◌, ◌++◌, map, leb, ltb, length, get_or, get_or-append-add, is_ok, leb-true, ltb-true, ltb-false}
use Rattle.std.proofs.Math.Option.{Option, none, some, none-ne-some}
use Rattle.std.proofs.Math.ListN.{get_elem?, get_or-append, get_or-eq_default}
use Rattle.std.specs.declared.result.Result.{Result}
use Rattle.cofj.specs.declared.Refusal.{Refusal}
use Rattle.cofj.specs.declared.Refusal.TheVariants.{BadTable, BadOverride}
use Rattle.cofj.specs.Limits.{class_count, method_count, param_count, line_size}
use Rattle.cofj.specs.Syntax.{Method, Table}
use Rattle.cofj.specs.Frames.{Got, got, up_to, type, ClassFrame, TextFrame, class_frame, method_frame, main_frame, frame, frames}
use Rattle.cofj.specs.Tables.{Raw, raw, in_front, ordered, few, bodies, methods_good, table, overrides_good}
use Rattle.cofj.specs.Writing.{code_of, types_bytes, method_line, method_lines}
use Rattle.cofj.specs.WellFormed.{AllMethods}
use Rattle.cofj.proofs.Readable.{parents_in}
use Rattle.cofj.proofs.Passed.{methods_ruled, table_of, table_ruled, few_inv}
use Rattle.cofj.proofs.Partial.{guard-bind, taken}
use Rattle.cofj.proofs.TextRound.{Bytes}
use Rattle.cofj.proofs.Steps.{pair, taken_as, given}
use Rattle.cofj.proofs.ExprRound.{type_forth}
use Rattle.cofj.proofs.FrameRound.{line_of, frame_back}
use Rattle.lineform.specs.Packed.{packed, unpack, Sized, also as and-line}
use Rattle.lineform.proofs.PackedLaws.{unpack-packed}
use Rattle.lineform.specs.Answers.{right_at, rights_of, Rights}
use Rattle.classes.specs.Layout.{right_place, layout}
use Rattle.classes.specs.Building.{table_placed}
use Rattle.classes.specs.Overriding.{overrides_of}
use Rattle.classes.specs.Placing.{placed}
use Rattle.classes.specs.Made.{Lined, Makes, passed, Built, Overrides}
use Rattle.classes.proofs.Lists.{index_below}
use Rattle.classes.proofs.MethodLines.{Framed}
use Rattle.classes.proofs.TableLines.{raw_lines, Short, length-bodies, table-lines}
use Rattle.classes.proofs.OnOverrides.{Shaped, overrides_on}

-- ---- a method's line that is read: its parameters are few
upto_few : (n k : ℕ) (bs : List ℕ) (g : Got ℕ) → up_to n (k ∷ bs) ≡ some g → k ≤ n
upto_few n k bs g e = leb-true k n (guard-bind (leb k n) (λ _. got k bs) g e).0

few_params : (d : Method) (g : TextFrame) → frame (method_line d) ≡ some g → length d.params ≤ param_count
unfolding frame method_line
few_params d g e =
    let bs = types_bytes d.params ++ (code_of d.left ++ code_of d.right) in
    let after = d.second.cls ∷ d.second.tag ∷ length d.params ∷ bs in
    let e1 = taken_as (type (d.first.cls ∷ d.first.tag ∷ after)) _ g (pair d.first after) e (type_forth d.first after) in
    let e2 = taken_as (type after) _ g (pair d.second (length d.params ∷ bs)) e1 (type_forth d.second (length d.params ∷ bs)) in
    taken (up_to param_count (length d.params ∷ bs)) g e2 λ k q _. upto_few param_count (length d.params) bs k q

-- ---- lines and frames
abbrev pub AllFrames : (TextFrame → Type 0) → List TextFrame → Type 0
AllFrames P [] = Unit {0}
AllFrames P (f ∷ fs) = P f × AllFrames P fs

-- a frame that is read from its own line, of at most 255 bytes
pub record IsRead (f : TextFrame) : Type 0 where
  pub back : frame (line_of f) ≡ some f
  pub short : length (line_of f) ≤ line_size
  pub small : (k : ℕ) → get_or (line_of f) k 0 < 256

all_bytes : (l : List ℕ) → ((k : ℕ) → get_or l k 0 < 256) → Bytes l
all_bytes [] h = tt
all_bytes (b ∷ bs) h = (h 0, all_bytes bs (λ k. h (suc k)))

frames_read : (ls : List (List ℕ)) (fs : List TextFrame) → frames ls ≡ some fs → Sized ls → ((i : ℕ) → get_or (packed ls) i 0 < 256) → (map line_of fs ≡ ls) × AllFrames IsRead fs
unfolding frames packed
frames_read [] fs e z b = given (λ (x : List TextFrame). (map line_of x ≡ []) × AllFrames IsRead x) _ fs e (refl, tt)
frames_read (l ∷ ls) fs e (and-line one short z) b =
    taken (frame l) fs e λ f q e1.
    taken (frames ls) fs e1 λ gs r e2.
    let p = frame_back l f q (all_bytes l (in_line b)) in
    let ih = frames_read ls gs r z (λ i. subst (λ (x : ℕ). x < 256) (get_or-append-add l (packed ls) i 0) (b (suc (length l + i)))) in
    given (λ (x : List TextFrame). (map line_of x ≡ l ∷ ls) × AllFrames IsRead x) _ fs e2 (
      ap₂ {C = List (List ℕ)} ◌∷◌ p ih.0,
      (
        record {
          back = ap frame p ∙ q;
          short = subst (λ (x : List ℕ). length x ≤ line_size) (sym p) short;
          small = subst (λ (x : List ℕ). (k : ℕ) → get_or x k 0 < 256) (sym p) (in_line b);
        },
        ih.1,
      ),
    )
  where
    in_line : ((i : ℕ) → get_or (length l ∷ (l ++ packed ls)) i 0 < 256) → (k : ℕ) → get_or l k 0 < 256
    in_line h k = go (ltb k (length l)) refl
      where
        go : (x : Bool) → ltb k (length l) ≡ x → get_or l k 0 < 256
        go true q = subst (λ (x : ℕ). x < 256) (get_or-append l (packed ls) 0 k (ltb-true k (length l) q)) (h (suc k))
        go false q = subst (λ (x : ℕ). x < 256) (sym (get_or-eq_default l 0 {n = k} (ltb-false k (length l) q))) (omega arith)

-- ---- frames in order
abbrev pub ReadMethod : Method → Type 0
ReadMethod d = IsRead (method_frame d)

pub record InOrder (fs : List TextFrame) (r : Raw) : Type 0 where
  pub lines : raw_lines r ≡ map line_of fs
  pub methods : AllMethods ReadMethod r.methods
  pub main : IsRead (main_frame r.input r.main)
  pub rights : rights_of fs ≡ map right_at r.methods

front_order : (f : TextFrame) (fs : List TextFrame) (r q : Raw) → in_front f r ≡ some q → IsRead f → InOrder fs r → InOrder (f ∷ fs) q
unfolding method_lines
front_order (class_frame c) fs r q e h o =
    given (InOrder (class_frame c ∷ fs)) _ q e (record { lines = ap (λ (x : List (List ℕ)). line_of (class_frame c) ∷ x) o.lines; methods = o.methods; main = o.main; rights = o.rights })
front_order (method_frame m) fs r q e h o = go r.classes refl e
  where
    go : (cs : List ClassFrame) → r.classes ≡ cs → ◌≡◌ {A = Option Raw} (elim cs [ [] ↦ some (raw [] (m ∷ r.methods) r.input r.main) | c ∷ ds ↦ none ]) (some q) → InOrder (method_frame m ∷ fs) q
    go [] p z =
        given (InOrder (method_frame m ∷ fs)) _ q z (record {
          lines = ap (λ (x : List (List ℕ)). method_line m ∷ x) (ap (λ (cs : List ClassFrame). raw_lines (raw cs r.methods r.input r.main)) (sym p) ∙ o.lines);
          methods = (h, o.methods);
          main = o.main;
          rights = ap (λ (x : List ℕ). right_at m ∷ x) o.rights;
        })
    go (c ∷ ds) p z = absurd (none-ne-some q z)
front_order (main_frame i x) fs r q e h o = absurd (none-ne-some q e)

in_order : (fs : List TextFrame) (r : Raw) → ordered fs ≡ some r → AllFrames IsRead fs → InOrder fs r
unfolding ordered method_lines
in_order [] r e a = absurd (none-ne-some r e)
in_order (class_frame c ∷ fs) r e a = taken (ordered fs) r e λ q p e1. front_order (class_frame c) fs q r e1 a.0 (in_order fs q p a.1)
in_order (method_frame m ∷ fs) r e a = taken (ordered fs) r e λ q p e1. front_order (method_frame m) fs q r e1 a.0 (in_order fs q p a.1)
in_order (main_frame i x ∷ []) r e a = given (InOrder (main_frame i x ∷ [])) _ r e (record { lines = refl; methods = tt; main = a.0; rights = refl })
in_order (main_frame i x ∷ (f ∷ fs)) r e a = absurd (none-ne-some r e)

framed : (ds : List Method) → AllMethods ReadMethod ds → AllMethods Framed ds
unfolding method_line
framed [] a = tt
framed (d ∷ ds) a = (
  record {
    short = a.0.short;
    name = a.0.small 2;
  },
  framed ds a.1,
)

-- what stands behind a text's packed lines, once refusals 1 to 3 are passed
pub record Behind (S R : List ℕ) (r : Raw) : Type 0 where
  pub lines : S ≡ packed (raw_lines r)
  pub short : Short r
  pub methods : AllMethods ReadMethod r.methods
  pub rights : (i : ℕ) (d : Method) → get_elem? r.methods i ≡ some d → get_or R i 0 ≡ right_place d

nth_right : (ms : List Method) (i : ℕ) (d : Method) → get_elem? ms i ≡ some d → (i < length (map right_at ms)) × (get_or (map right_at ms) i 0 ≡ right_place d)
unfolding right_place
nth_right [] i d e = absurd (none-ne-some d e)
nth_right (m ∷ ms) zero d e = let q : m ≡ d = cc in (omega arith, ap right_at q)
nth_right (m ∷ ms) (suc i) d e = let h = nth_right ms i d e in (let l = h.0 in omega arith, h.1)

rights_behind : (R : List ℕ) (fs : List TextFrame) (r : Raw) → Rights R fs → rights_of fs ≡ map right_at r.methods → length r.methods ≤ method_count
    → (i : ℕ) (d : Method) → get_elem? r.methods i ≡ some d → get_or R i 0 ≡ right_place d
rights_behind R fs r t o few i d q =
    let h = nth_right r.methods i d q in
    let k = index_below r.methods i d q in
    t.at i (subst (λ (xs : List ℕ). i < length xs) (sym o) h.0) (omega arith) ∙ ap (λ (xs : List ℕ). get_or xs i 0) o ∙ h.1

pub behind : (S R : List ℕ) (r : Raw) → Lined S R r → Behind S R r
behind S R r h =
    let p = h.whole in
    let fs = h.found in
    let u : unpack S ≡ p.lines = ap unpack p.is ∙ unpack-packed p.lines in
    let a = frames_read p.lines fs (sym (ap frames u) ∙ h.read) p.sized (subst (λ (x : List ℕ). (i : ℕ) → get_or x i 0 < 256) p.is h.bytes) in
    let x = few_inv (ordered fs) r h.order in
    let i = in_order fs r x.0 a.1 in
    record {
      lines = p.is ∙ ap packed (sym (i.lines ∙ a.0));
      short = record {
        classes = x.1;
        methods = x.2;
        framed = framed r.methods i.methods;
        main = i.main.short;
      };
      methods = i.methods;
      rights = rights_behind R fs r h.rights i.rights x.2;
    }

-- ---- the table of such lines: its bytes, and overriding
pub built : (S R : List ℕ) (n m : ℕ) (B : List ℕ) (g : Result (Unit {0}) Refusal) (B' : List ℕ) → g ≡ passed BadTable (is_ok g) → placed (is_ok g) B' ≡ table_placed S R n m B
    → Built S R n m B g B'
built S R n m B g B' k e = record {
  refusal = k;
  is = e;
  makes = λ r h en em z. let b = behind S R r h in subst (Makes (table r)) (sym (e ∙ rw (en, em))) (table-lines r b.short S R b.lines b.rights B z);
}

shaped : (n : ℕ) → n ≤ class_count → (ds : List Method) → methods_good n ds ≡ true → AllMethods ReadMethod ds → AllMethods Shaped ds
unfolding method_line
shaped n h [] e a = tt
shaped n h (m ∷ ms) e a =
    let r = methods_ruled n m ms e in (
      record {
        owned = r.0.owned;
        owner = let l = r.0.owner in omega arith;
        name = a.0.small 2;
        params = few_params m (method_frame m) a.0.back;
        short = a.0.short;
      },
      shaped n h ms r.1 a.1,
    )

overrides_read : (S R : List ℕ) (r : Raw) (t : Table) → Behind S R r → table r ≡ some t → overrides_of (layout t) ≡ overrides_good t t.methods
overrides_read S R r t h e =
    let n = length (bodies r.classes) in
    let a = table_ruled r t e in
    let z = length-bodies r.classes in
    let c = h.short.classes in
    subst (λ (x : Table). overrides_of (layout x) ≡ overrides_good x x.methods) a.1
    (overrides_on (table_of r) (λ k. let l = parents_in 0 r.classes a.0.numbers k in omega arith)
    (shaped n (omega arith) r.methods a.0.methods h.methods) h.short.methods)

pub overrides_tested : (B : List ℕ) (b : Bool) (g : Result (Unit {0}) Refusal) → g ≡ passed BadOverride b → b ≡ overrides_of B → Overrides B g
overrides_tested B b g k e = record {
  is = k ∙ ap (passed BadOverride) e;
  says = λ S R r t h q w. k ∙ ap (passed BadOverride) (e ∙ ap overrides_of w ∙ overrides_read S R r t (behind S R r h) q);
}
