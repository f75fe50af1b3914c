-- From frames to a class table: their order (refusal 3), the rules of a class table (4), overriding (5).
use Rattle.std.specs.Prelude.{ℕ, suc, Bool, true, false, ◌&&◌, ◌||◌, not, List, [], ◌∷◌, eqb, leb, ltb, length}
use Rattle.std.proofs.Math.Option.{Option, none, some}
use Rattle.cofj.specs.Limits.{class_count, method_count, field_count, number_class}
use Rattle.cofj.specs.Partial.{◌>>=◌, guard}
use Rattle.cofj.specs.Syntax.{Expr, this, res, param, field, call, new, literal, combine, choose, Exprs, done, also, Ty, Class, Method, Table, eq_ty, eq_tys}
use Rattle.cofj.specs.Classes.{fields_of, fields_to, parent_of}
use Rattle.cofj.specs.Lookup.{Found, lookup, lookup_to, method_of}
use Rattle.cofj.specs.Typing.{closed_tag, all_closed}
use Rattle.cofj.specs.Frames.{ClassFrame, TextFrame, class_frame, method_frame, main_frame}

-- ---- the order of the frames: refusal 3
pub record Raw : Type 0 where
  pub classes : List ClassFrame
  pub methods : List Method
  pub input : Option Ty
  pub main : Expr

abbrev pub raw : List ClassFrame → List Method → Option Ty → Expr → Raw
raw cs ms i e = record { classes = cs; methods = ms; input = i; main = e }

-- a frame in front of what follows it
abbrev pub in_front : TextFrame → Raw → Option Raw
in_front (class_frame c) r = some (raw (c ∷ r.classes) r.methods r.input r.main)
in_front (method_frame m) r = elim r.classes [ [] ↦ some (raw [] (m ∷ r.methods) r.input r.main) | c ∷ cs ↦ none ]
in_front (main_frame i e) r = none

unfoldable pub ordered : List TextFrame → Option Raw
ordered [] = none
ordered (class_frame c ∷ fs) = ordered fs >>= λ r. in_front (class_frame c) r
ordered (method_frame m ∷ fs) = ordered fs >>= λ r. in_front (method_frame m) r
ordered (main_frame i e ∷ []) = some (raw [] [] i e)
ordered (main_frame i e ∷ (f ∷ fs)) = none

abbrev pub few : Raw → Option Raw
few r = guard (leb (length r.classes) class_count && leb (length r.methods) method_count) >>= λ _. some r

-- ---- class numbers, known classes, tags, names: refusal 4
-- the classes are numbered from k, each parent below its class
unfoldable pub numbered : ℕ → List ClassFrame → Bool
numbered k [] = true
numbered k (c ∷ cs) = eqb c.number k && ltb c.body.parent k && numbered (suc k) cs

-- a field, a parameter or a result has one of n classes, or is a number
abbrev pub known : ℕ → Ty → Bool
known n u = leb u.cls n || eqb u.cls number_class

unfoldable pub all_known : ℕ → List Ty → Bool
all_known n [] = true
all_known n (u ∷ us) = known n u && all_known n us

unfoldable mutual
  pub expr_known : ℕ → Expr → Bool
  expr_known n this = true
  expr_known n res = true
  expr_known n (param k) = true
  expr_known n (field f e) = expr_known n e
  expr_known n (call m e es) = expr_known n e && exprs_known n es
  expr_known n (new c es) = leb c n && exprs_known n es
  expr_known n (literal k) = true
  expr_known n (combine o a b) = expr_known n a && expr_known n b
  expr_known n (choose c a b) = expr_known n c && expr_known n a && expr_known n b

  pub exprs_known : ℕ → Exprs → Bool
  exprs_known n done = true
  exprs_known n (also e es) = expr_known n e && exprs_known n es

unfoldable pub classes_good : ℕ → List Class → List Class → ℕ → Bool
unfolding all_known fields_to
classes_good n cs [] k = true
classes_good n cs (d ∷ ds) k =
    all_known n d.own && all_closed d.own && leb (length (fields_of cs k)) field_count && classes_good n cs ds (suc k)

unfoldable pub has_name : Method → List Method → Bool
has_name m [] = false
has_name m (d ∷ ds) = eqb m.owner d.owner && eqb m.name d.name || has_name m ds

unfoldable pub methods_good : ℕ → List Method → Bool
unfolding all_known expr_known has_name
methods_good n [] = true
methods_good n (m ∷ ms) =
    within1 n m.owner && known n m.first && known n m.second && closed_tag m.first.tag && all_known n m.params && all_closed m.params
    && expr_known n m.left && expr_known n m.right && not (has_name m ms) && methods_good n ms
  where
    within1 : ℕ → ℕ → Bool
    within1 k o = leb 1 o && leb o k

-- the type of main's parameter, if it has one: a class of the table, no number, and tag 0 alone
abbrev pub input_good : ℕ → Option Ty → Bool
input_good n none = true
input_good n (some u) = leb u.cls n && eqb u.tag 0

abbrev pub bodies : List ClassFrame → List Class
bodies [] = []
bodies (c ∷ cs) = c.body ∷ bodies cs

unfoldable pub table : Raw → Option Table
unfolding numbered classes_good methods_good expr_known
table r =
    let cs = bodies r.classes in
    let n = length cs in
    guard (numbered 1 r.classes && classes_good n cs cs 1 && methods_good n r.methods && input_good n r.input && expr_known n r.main) >>= λ _.
    some (record { classes = cs; methods = r.methods; input = r.input; main = r.main })

-- ---- a method has the types of the one of its name above it: refusal 5
abbrev pub same_types : Method → Option Found → Bool
same_types m none = true
same_types m (some f) = eq_ty m.first f.body.first && eq_ty m.second f.body.second && eq_tys m.params f.body.params

unfoldable pub overrides_good : Table → List Method → Bool
unfolding lookup_to method_of
overrides_good t [] = true
overrides_good t (m ∷ ms) = same_types m (lookup t (parent_of t.classes m.owner) m.name) && overrides_good t ms

abbrev pub overridden : Table → Option Table
overridden t = guard (overrides_good t t.methods) >>= λ _. some t
