-- A table that is read is well formed: what refusals 1 to 5 make sure of. Not here: what they make sure of in one line (ReadFrames).
use Prim.Native.Nat.{ℕ, zero, suc, ◌+◌, ◌≤◌, ◌<◌, zero-le}
use native.Mathlib.Nat.{not-suc-le-zero}
use native.Mathlib.Omega.{arith}
use mathlib.Core.Path.{◌≡◌, refl, sym, ap, subst}
use mathlib.Core.Bool.{Bool, true, false, ◌&&◌, ◌||◌}
use mathlib.Core.List.{List, [], ◌∷◌}
use mathlib.Core.Option.{Option, none, some, none-ne-some}
use lib.Dec.{eqb, leb, ltb}
use lib.ListN.{length, get_elem?}
use borrow.Author.Tests.{eqb-true, leb-true, ltb-true}
use Rattle.cofj.specs.Limits.{class_count, method_count, field_count, line_size, nesting_limit}
use Rattle.cofj.specs.Syntax.{Ty, Class, Method, Table}
use Rattle.cofj.specs.Classes.{parent_of, parent_or0, class_at, own_or_none, fields_of, fields_to}
use Rattle.cofj.specs.Lookup.{lookup}
use Rattle.cofj.specs.Typing.{closed_tag, all_closed}
use Rattle.cofj.specs.Frames.{ClassFrame, TextFrame, class_frame, method_frame, main_frame}
use Rattle.cofj.specs.Tables.{Raw, raw, in_front, ordered, numbered, all_known, classes_good, methods_good, input_good, bodies, same_types, overrides_good}
use Rattle.cofj.specs.Reading.{read, read_text}
use Rattle.cofj.specs.Nesting.{Nested}
use Rattle.cofj.specs.Writing.{method_line, main_line}
use Rattle.cofj.specs.WellFormed.{Tags, AllMethods, MethodFormed, WellFormed}
use Rattle.cofj.proofs.Partial.{and_true, taken}
use Rattle.cofj.proofs.Steps.{given}
use Rattle.cofj.proofs.TextRound.{lines-bytes}
use Rattle.cofj.proofs.ReadFrames.{Body, Short, AllShort, frames-within}
use Rattle.cofj.proofs.Passed.{methods_ruled, table_of, Ruled, table_ruled, passed}

-- ---- tags
closed_le : (g : ℕ) → closed_tag g ≡ true → g ≤ 3
closed_le g = go (eqb g 0) refl
  where
    go : (b : Bool) → eqb g 0 ≡ b → b || eqb g 3 ≡ true → g ≤ 3
    go true q e = let z = eqb-true g 0 q in omega arith
    go false q e = let z = eqb-true g 3 e in omega arith

closed_tags : (us : List Ty) → all_closed us ≡ true → Tags us
closed_tags [] e = tt
closed_tags (u ∷ us) e =
    let p = and_true (closed_tag u.tag) (all_closed us) e in
    (closed_le u.tag p.0, closed_tags us p.1)

-- ---- classes
pub parents_in : (k : ℕ) (cs : List ClassFrame) → numbered (suc k) cs ≡ true → (i : ℕ) → parent_or0 (get_elem? (bodies cs) i) ≤ k + i
unfolding numbered
parents_in k [] e i = zero-le
parents_in k (c ∷ cs) e i = go i (parents_in (suc k) cs p.1)
  where
    p : (eqb c.number (suc k) && ltb c.body.parent (suc k) ≡ true) × (numbered (suc (suc k)) cs ≡ true)
    p = and_true (eqb c.number (suc k) && ltb c.body.parent (suc k)) (numbered (suc (suc k)) cs) e

    go : (j : ℕ) → ((m : ℕ) → parent_or0 (get_elem? (bodies cs) m) ≤ suc k + m) → parent_or0 (get_elem? (c.body ∷ bodies cs) j) ≤ k + j
    go zero ih = let q = ltb-true c.body.parent (suc k) (and_true (eqb c.number (suc k)) (ltb c.body.parent (suc k)) p.0).1 in omega arith
    go (suc m) ih = omega (arith, ih m)

-- own fields: closed tags and known classes
abbrev Own : ℕ → List Ty → Type 0
Own n us = Tags us × (all_known n us ≡ true)

own_in : (n : ℕ) (cs ds : List Class) (k : ℕ) → classes_good n cs ds k ≡ true → (i : ℕ) → Own n (own_or_none (get_elem? ds i))
unfolding classes_good all_known
own_in n cs [] k e i = (tt, refl)
own_in n cs (d ∷ ds) k e i = go i (own_in n cs ds (suc k) p.1)
  where
    p : (all_known n d.own && all_closed d.own && leb (length (fields_of cs k)) field_count ≡ true) × (classes_good n cs ds (suc k) ≡ true)
    p = and_true (all_known n d.own && all_closed d.own && leb (length (fields_of cs k)) field_count) (classes_good n cs ds (suc k)) e

    go : (j : ℕ) → ((m : ℕ) → Own n (own_or_none (get_elem? ds m))) → Own n (own_or_none (get_elem? (d ∷ ds) j))
    go zero ih =
        let q = and_true (all_known n d.own && all_closed d.own) (leb (length (fields_of cs k)) field_count) p.0 in
        let b = and_true (all_known n d.own) (all_closed d.own) q.0 in
        (closed_tags d.own b.1, b.0)
    go (suc m) ih = ih m

own_at : (n : ℕ) (cs : List Class) → ((i : ℕ) → Own n (own_or_none (get_elem? cs i))) → (c : ℕ) → Own n (own_or_none (class_at cs c))
unfolding all_known
own_at n cs h zero = (tt, refl)
own_at n cs h (suc i) = h i

-- no class from number k on has too many fields
fields_in : (n : ℕ) (cs ds : List Class) (k : ℕ) → classes_good n cs ds k ≡ true → (i : ℕ) → i < length ds → length (fields_of cs (k + i)) ≤ field_count
unfolding classes_good
fields_in n cs [] k e i l = absurd (not-suc-le-zero l)
fields_in n cs (d ∷ ds) k e i l = go i l (fields_in n cs ds (suc k) p.1)
  where
    p : (all_known n d.own && all_closed d.own && leb (length (fields_of cs k)) field_count ≡ true) × (classes_good n cs ds (suc k) ≡ true)
    p = and_true (all_known n d.own && all_closed d.own && leb (length (fields_of cs k)) field_count) (classes_good n cs ds (suc k)) e

    go : (j : ℕ) → j < suc (length ds) → ((m : ℕ) → m < length ds → length (fields_of cs (suc k + m)) ≤ field_count) → length (fields_of cs (k + j)) ≤ field_count
    go zero q ih =
        subst (λ (c : ℕ). length (fields_of cs c) ≤ field_count) (let z : k ≡ k + 0 = omega arith in z)
        (leb-true (length (fields_of cs k)) field_count (and_true (all_known n d.own && all_closed d.own) (leb (length (fields_of cs k)) field_count) p.0).1)
    go (suc m) q ih = subst (λ (c : ℕ). length (fields_of cs c) ≤ field_count) (let z : suc k + m ≡ k + suc m = omega arith in z) (ih m (omega arith))

fields_known : (cs : List Class) → ((i : ℕ) → i < length cs → length (fields_of cs (1 + i)) ≤ field_count) → (c : ℕ) → c ≤ length cs → length (fields_of cs c) ≤ field_count
unfolding fields_to
fields_known cs h zero l = zero-le
fields_known cs h (suc i) l = subst (λ (c : ℕ). length (fields_of cs c) ≤ field_count) (let z : 1 + i ≡ suc i = omega arith in z) (h i (omega arith))

length-bodies : (cs : List ClassFrame) → length (bodies cs) ≡ length cs
length-bodies [] = refl
length-bodies (c ∷ cs) = ap suc (length-bodies cs)

-- ---- frames in order
abbrev Lined : Method → Type 0
Lined d = Body d × (length (method_line d) ≤ line_size)

abbrev Bodies : Raw → Type 0
Bodies r = AllMethods Lined r.methods × Nested nesting_limit r.main × (length (main_line r.input r.main) ≤ line_size)

front-bodies : (f : TextFrame) (r q : Raw) → in_front f r ≡ some q → Short f → Bodies r → Bodies q
front-bodies (class_frame c) r q e h k = given Bodies (raw (c ∷ r.classes) r.methods r.input r.main) q e k
front-bodies (method_frame m) r q e h k = go r.classes e
  where
    go : (cs : List ClassFrame) → ◌≡◌ {A = Option Raw} (elim cs [ [] ↦ some (raw [] (m ∷ r.methods) r.input r.main) | c ∷ ds ↦ none ]) (some q) → Bodies q
    go [] z = given Bodies (raw [] (m ∷ r.methods) r.input r.main) q z ((h, k.0), k.1, k.2)
    go (c ∷ ds) z = absurd (none-ne-some q z)
front-bodies (main_frame i x) r q e h k = absurd (none-ne-some q e)

ordered-bodies : (fs : List TextFrame) (r : Raw) → ordered fs ≡ some r → AllShort fs → Bodies r
unfolding ordered
ordered-bodies [] r e h = absurd (none-ne-some r e)
ordered-bodies (class_frame c ∷ fs) r e h = taken (ordered fs) r e λ q p e1. front-bodies (class_frame c) q r e1 h.0 (ordered-bodies fs q p h.1)
ordered-bodies (method_frame m ∷ fs) r e h = taken (ordered fs) r e λ q p e1. front-bodies (method_frame m) q r e1 h.0 (ordered-bodies fs q p h.1)
ordered-bodies (main_frame i x ∷ []) r e h = given Bodies (raw [] [] i x) r e (tt, h.0.0, h.0.1)
ordered-bodies (main_frame i x ∷ (f ∷ fs)) r e h = absurd (none-ne-some r e)

-- ---- methods
formed : (t : Table) (ms : List Method) → methods_good (length t.classes) ms ≡ true → overrides_good t ms ≡ true → AllMethods Lined ms → AllMethods (MethodFormed t) ms
unfolding overrides_good
formed t [] e o h = tt
formed t (m ∷ ms) e o h =
    let a = methods_ruled (length t.classes) m ms e in
    let r = a.0 in
    let l = h.0.0 in
    let b = and_true (same_types m (lookup t (parent_of t.classes m.owner) m.name)) (overrides_good t ms) o in (
      record {
        owned = r.owned;
        first = closed_le m.first.tag r.closed;
        second = l.second;
        params = closed_tags m.params r.closed_params;
        same = b.0;
        owner_known = r.owner;
        first_known = r.first;
        second_known = r.second;
        params_known = r.params;
        left_known = r.left;
        right_known = r.right;
        few = l.few;
        short = h.0.1;
        left_nested = l.left;
        right_nested = l.right;
      },
      formed t ms a.1 b.1 h.1,
    )

-- ---- main's parameter
input_in_lem : (n : ℕ) (i : Option Ty) → input_good n i ≡ true → (u : Ty) → i ≡ some u → (u.cls ≤ n) × (u.tag ≡ 0)
input_in_lem n none e u q = absurd (none-ne-some u q)
input_in_lem n (some w) e u q =
    let a = and_true (leb w.cls n) (eqb w.tag 0) e in
    given (λ (x : Ty). (x.cls ≤ n) × (x.tag ≡ 0)) w u q (leb-true w.cls n a.0, eqb-true w.tag 0 a.1)

-- ---- the reader
table_formed : (r : Raw) → Ruled r → length r.classes ≤ class_count → length r.methods ≤ method_count → overrides_good (table_of r) r.methods ≡ true → Bodies r → WellFormed (table_of r)
table_formed r g few_classes few_methods o h =
    let cs = bodies r.classes in
    let n = length cs in
    let own = own_at n cs (own_in n cs cs 1 g.classes) in
    record {
      parents = λ k. let l = parents_in 0 r.classes g.numbers k in omega arith;
      own = λ c. (own c).0;
      own_known = λ c. (own c).1;
      methods = formed (table_of r) r.methods g.methods o h.0;
      input_known = λ u e. (input_in_lem n r.input g.input u e).0;
      input_tag = λ u e. (input_in_lem n r.input g.input u e).1;
      main_known = g.main;
      main_nested = h.1;
      main_short = h.2;
      classes = subst (λ (k : ℕ). k ≤ class_count) (sym (length-bodies r.classes)) few_classes;
      count = few_methods;
      fields = fields_known cs (fields_in n cs cs 1 g.classes);
    }

pub read_formed : (s : List ℕ) (t : Table) → read_text s ≡ read t → WellFormed t
read_formed s t e =
    let p = passed s t e in
    let g = table_ruled p.r t p.to_table in
    let o = subst (λ (x : Table). overrides_good x x.methods ≡ true) (sym g.1) p.overrides in
    let h = ordered-bodies p.fs p.r p.to_raw (frames-within p.ls p.fs p.to_frames (lines-bytes s p.ls p.to_lines)) in
    subst WellFormed g.1 (table_formed p.r g.0 p.few_classes p.few_methods o h)
