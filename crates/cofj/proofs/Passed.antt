-- What a text that is read went through: its lines, their frames, the frames in order, the table; and what the rules of a table say, one by one.
-- All that take reading apart use this. Not here: what follows of it (Readable, RoundTrip).
use Prim.Native.Nat.{ℕ, ◌≤◌}
use native.Mathlib.Omega.{arith}
use mathlib.Core.Path.{◌≡◌, refl, ap, ◌∙◌, subst}
use mathlib.Core.Bool.{Bool, true, false, ◌&&◌, not, false≢true}
use mathlib.Core.List.{List, [], ◌∷◌}
use mathlib.Core.Option.{Option, none, some}
use lib.Dec.{leb}
use lib.ListN.{length}
use borrow.Author.Tests.{leb-true}
use Rattle.cofj.specs.Limits.{text_size, class_count, method_count}
use Rattle.cofj.specs.Partial.{◌>>=◌}
use Rattle.cofj.specs.Syntax.{Method, Table}
use Rattle.cofj.specs.Typing.{closed_tag, all_closed}
use Rattle.cofj.specs.Text.{within, lines, lines_from}
use Rattle.cofj.specs.Frames.{TextFrame, frames}
use Rattle.cofj.specs.Tables.{Raw, ordered, few, numbered, known, all_known, expr_known, classes_good, has_name, methods_good, input_good, bodies, table, overrides_good, overridden}
use Rattle.cofj.specs.Reading.{Answer, refusal, read, ◌else◌next◌, read_text}
use Rattle.cofj.proofs.Partial.{and_true, opt_bind, guard-bind}
use Rattle.cofj.proofs.TextRound.{within_true}

-- ---- a method by the rules (refusal 4), its name apart
abbrev pub method_rules : ℕ → Method → Bool
method_rules n d =
    (leb 1 d.owner && leb d.owner n) && known n d.first && known n d.second && closed_tag d.first.tag && all_known n d.params && all_closed d.params
    && expr_known n d.left && expr_known n d.right

pub record MethodRuled (n : ℕ) (d : Method) : Type 0 where
  pub owned : 1 ≤ d.owner
  pub owner : d.owner ≤ n
  pub first : known n d.first ≡ true
  pub second : known n d.second ≡ true
  pub closed : closed_tag d.first.tag ≡ true
  pub params : all_known n d.params ≡ true
  pub closed_params : all_closed d.params ≡ true
  pub left : expr_known n d.left ≡ true
  pub right : expr_known n d.right ≡ true

pub method_ruled : (n : ℕ) (d : Method) → method_rules n d ≡ true → MethodRuled n d
method_ruled n d e =
    let a7 = and_true _ (expr_known n d.right) e in
    let a6 = and_true _ (expr_known n d.left) a7.0 in
    let a5 = and_true _ (all_closed d.params) a6.0 in
    let a4 = and_true _ (all_known n d.params) a5.0 in
    let a3 = and_true _ (closed_tag d.first.tag) a4.0 in
    let a2 = and_true _ (known n d.second) a3.0 in
    let a1 = and_true _ (known n d.first) a2.0 in
    let a0 = and_true (leb 1 d.owner) (leb d.owner n) a1.0 in
    record {
      owned = leb-true 1 d.owner a0.0;
      owner = leb-true d.owner n a0.1;
      first = a1.1;
      second = a2.1;
      closed = a3.1;
      params = a4.1;
      closed_params = a5.1;
      left = a6.1;
      right = a7.1;
    }

-- the first of some methods, and the others
pub methods_ruled : (n : ℕ) (d : Method) (ds : List Method) → methods_good n (d ∷ ds) ≡ true → MethodRuled n d × (methods_good n ds ≡ true)
unfolding methods_good
methods_ruled n d ds e =
    let a = and_true _ (methods_good n ds) e in
    (method_ruled n d (and_true (method_rules n d) (not (has_name d ds)) a.0).0, a.1)

-- none of the others has its owner and name
pub names_apart : (n : ℕ) (d : Method) (ds : List Method) → methods_good n (d ∷ ds) ≡ true → has_name d ds ≡ false
unfolding methods_good
names_apart n d ds e = go (has_name d ds) (and_true (method_rules n d) (not (has_name d ds)) (and_true _ (methods_good n ds) e).0).1
  where
    go : (b : Bool) → not b ≡ true → b ≡ false
    go true z = absurd (false≢true z)
    go false z = refl

-- ---- frames in order that give a table
abbrev pub table_of : Raw → Table
table_of r = record { classes = bodies r.classes; methods = r.methods; input = r.input; main = r.main }

pub record Ruled (r : Raw) : Type 0 where
  pub numbers : numbered 1 r.classes ≡ true
  pub classes : classes_good (length (bodies r.classes)) (bodies r.classes) (bodies r.classes) 1 ≡ true
  pub methods : methods_good (length (bodies r.classes)) r.methods ≡ true
  pub input : input_good (length (bodies r.classes)) r.input ≡ true
  pub main : expr_known (length (bodies r.classes)) r.main ≡ true

pub table_ruled : (r : Raw) (t : Table) → table r ≡ some t → Ruled r × (table_of r ≡ t)
unfolding table
table_ruled r t e =
    let cs = bodies r.classes in
    let n = length cs in
    let a = guard-bind _ (λ _. some (table_of r)) t e in
    let a3 = and_true _ (expr_known n r.main) a.0 in
    let a2 = and_true _ (input_good n r.input) a3.0 in
    let a1 = and_true _ (methods_good n r.methods) a2.0 in
    let a0 = and_true (numbered 1 r.classes) (classes_good n cs cs 1) a1.0 in
    let w : table_of r ≡ t = cc a.1 in
    (record { numbers = a0.0; classes = a0.1; methods = a1.1; input = a2.1; main = a3.1 }, w)

-- ---- the text
pub record Passed (s : List ℕ) (t : Table) : Type 0 where
  pub ls : List (List ℕ)
  pub fs : List TextFrame
  pub r : Raw
  pub size : length s ≤ text_size
  pub to_lines : lines s ≡ some ls
  pub each_line : lines_from s none [] ≡ some ls
  pub to_frames : frames ls ≡ some fs
  pub to_raw : ordered fs ≡ some r
  pub few_classes : length r.classes ≤ class_count
  pub few_methods : length r.methods ≤ method_count
  pub to_table : table r ≡ some t
  pub overrides : overrides_good t t.methods ≡ true

else_inv : {A : Type 0} (o : Option A) (n : ℕ) (f : A → Answer) (t : Table) → o else n next f ≡ read t → (a : A) × (o ≡ some a) × (f a ≡ read t)
else_inv none n f t e = let y : refusal n ≡ read t = e in absurd (let k : ◌≡◌ {A = ℕ} 0 1 = cc in omega arith)
else_inv (some a) n f t e = (a, refl, e)

-- few enough classes and methods (refusal 3)
pub few_inv : (o : Option Raw) (r : Raw) → o >>= few ≡ some r → (o ≡ some r) × (length r.classes ≤ class_count) × (length r.methods ≤ method_count)
few_inv o r e =
    let x = opt_bind o few r e in
    let y = guard-bind (leb (length x.0.classes) class_count && leb (length x.0.methods) method_count) (λ _. some x.0) r x.2 in
    let p : x.0 ≡ r = cc y.1 in
    let b = and_true (leb (length x.0.classes) class_count) (leb (length x.0.methods) method_count) y.0 in (
      x.1 ∙ ap {B = Option Raw} some p,
      subst (λ (q : Raw). length q.classes ≤ class_count) p (leb-true (length x.0.classes) class_count b.0),
      subst (λ (q : Raw). length q.methods ≤ method_count) p (leb-true (length x.0.methods) method_count b.1),
    )

overridden_inv : (t u : Table) → overridden t ≡ some u → (t ≡ u) × (overrides_good u u.methods ≡ true)
overridden_inv t u e =
    let g = guard-bind (overrides_good t t.methods) (λ _. some t) u e in
    let q : t ≡ u = cc g.1 in
    (q, subst (λ (x : Table). overrides_good x x.methods ≡ true) q g.0)

pub passed : (s : List ℕ) (t : Table) → read_text s ≡ read t → Passed s t
unfolding read_text lines
passed s t e =
    let a = else_inv (lines s) 1 _ t e in
    let b = else_inv (frames a.0) 2 _ t a.2 in
    let c = else_inv (ordered b.0 >>= few) 3 _ t b.2 in
    let d = else_inv (table c.0) 4 _ t c.2 in
    let f = else_inv (overridden d.0) 5 _ t d.2 in
    let u : f.0 ≡ t = cc f.2 in
    let g = overridden_inv d.0 f.0 f.1 in
    let x = few_inv (ordered b.0) c.0 c.1 in
    let z = guard-bind (within 1 text_size (length s)) (λ _. lines_from s none []) a.0 a.1 in
    record {
      ls = a.0;
      fs = b.0;
      r = c.0;
      size = (within_true 1 text_size (length s) z.0).1;
      to_lines = a.1;
      each_line = z.1;
      to_frames = b.1;
      to_raw = x.0;
      few_classes = x.1;
      few_methods = x.2;
      to_table = d.1 ∙ ap {B = Option Table} some (g.0 ∙ u);
      overrides = subst (λ (y : Table). overrides_good y y.methods ≡ true) u g.1;
    }
