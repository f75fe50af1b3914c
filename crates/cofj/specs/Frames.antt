-- From a line's bytes to its frame: refusal 2 is a line that has none (unknown first byte, a tag, count or nesting over its limit,
-- too short or too long). Not here: the order of frames and the rules of a class table (Tables).
use Rattle.std.specs.Prelude.{ℕ, zero, suc, ◌+◌, ◌*◌, List, [], ◌∷◌, eqb, leb}
use Rattle.std.proofs.Math.Bool.{cond}
use Rattle.std.proofs.Math.Option.{Option, none, some}
use Rattle.cofj.specs.Limits.{field_count, param_count, nesting_limit}
use Rattle.cofj.specs.Partial.{◌>>=◌, guard}
use Rattle.cofj.specs.Syntax.{Operation, sum, difference, Expr, this, res, param, field, call, new, literal, combine, choose, Exprs, done, also, Ty, ty, Class, Method}

-- what a reader of bytes gives: the item and the bytes after it
pub record Got (A : Type 0) : Type 0 where
  pub item : A
  pub rest : List ℕ

abbrev pub Reader : Type 0 → Type 0
Reader A = List ℕ → Option (Got A)

abbrev pub got : {A : Type 0} → A → List ℕ → Option (Got A)
got a bs = some (record { item = a; rest = bs })

abbrev pub byte : Reader ℕ
byte [] = none
byte (b ∷ bs) = got b bs

-- a count of at most n
abbrev pub up_to : ℕ → Reader ℕ
up_to n bs = byte bs >>= λ g. guard (leb g.item n) >>= λ _. some g

-- a type: its class and its tag, which is at most 3
unfoldable pub type : Reader Ty
type bs = byte bs >>= λ c. up_to 3 c.rest >>= λ g. got (ty c.item g.item) g.rest

unfoldable pub types : ℕ → Reader (List Ty)
unfolding type
types zero bs = got [] bs
types (suc n) bs = type bs >>= λ t. types n t.rest >>= λ ts. got (t.item ∷ ts.item) ts.rest

-- a number of two bytes, high first
unfoldable pub two_bytes : Reader ℕ
two_bytes bs = byte bs >>= λ high. byte high.rest >>= λ low. got (256 * high.item + low.item) low.rest

unfoldable pub exprs_by : Reader Expr → ℕ → Reader Exprs
exprs_by one zero bs = got done bs
exprs_by one (suc n) bs = one bs >>= λ e. exprs_by one n e.rest >>= λ es. got (also e.item es.item) es.rest

-- an expression whose first byte is b, nested at most one deeper than what `one` reads
module _ (one : Reader Expr) where
  unfoldable pub field_after : Reader Expr
  field_after bs = byte bs >>= λ f. one f.rest >>= λ e. got (field f.item e.item) e.rest

  unfoldable pub call_after : Reader Expr
  unfolding exprs_by
  call_after bs =
      byte bs >>= λ m. up_to param_count m.rest >>= λ n. one n.rest >>= λ e. exprs_by one n.item e.rest >>= λ es.
      got (call m.item e.item es.item) es.rest

  unfoldable pub new_after : Reader Expr
  unfolding exprs_by
  new_after bs = byte bs >>= λ c. up_to field_count c.rest >>= λ n. exprs_by one n.item n.rest >>= λ es. got (new c.item es.item) es.rest

  unfoldable pub combine_after : Operation → Reader Expr
  combine_after o bs = one bs >>= λ a. one a.rest >>= λ b. got (combine o a.item b.item) b.rest

  unfoldable pub choose_after : Reader Expr
  choose_after bs = one bs >>= λ c. one c.rest >>= λ a. one a.rest >>= λ b. got (choose c.item a.item b.item) b.rest

  unfoldable pub expr_after : ℕ → Reader Expr
  unfolding field_after call_after new_after two_bytes combine_after choose_after
  expr_after b bs =
      cond (eqb b 0x40) (got this bs)
      (cond (eqb b 0x41) (got res bs)
      (cond (eqb b 0x42) (byte bs >>= λ k. got (param k.item) k.rest)
      (cond (eqb b 0x43) (field_after bs)
      (cond (eqb b 0x44) (call_after bs)
      (cond (eqb b 0x45) (new_after bs)
      (cond (eqb b 0x46) (two_bytes bs >>= λ n. got (literal n.item) n.rest)
      (cond (eqb b 0x47) (combine_after sum bs)
      (cond (eqb b 0x48) (combine_after difference bs)
      (cond (eqb b 0x49) (choose_after bs)
      none)))))))))

-- an expression nested at most n deep
unfoldable pub expr : ℕ → Reader Expr
unfolding expr_after
expr zero bs = none
expr (suc n) bs = byte bs >>= λ b. expr_after (λ xs. expr n xs) b.item b.rest

-- ---- frames: refusal 2
pub record ClassFrame : Type 0 where
  pub number : ℕ
  pub body : Class

pub data TextFrame : Type 0 where
  class_frame : ClassFrame → TextFrame
  method_frame : Method → TextFrame
  -- main, with the type of its parameter if it has one
  main_frame : Option Ty → Expr → TextFrame

abbrev pub whole : {A : Type 0} → Got A → Option A
whole g = elim g.rest [ [] ↦ some g.item | b ∷ bs ↦ none ]

unfoldable pub class_after : List ℕ → Option TextFrame
unfolding types
class_after bs =
    byte bs >>= λ c. byte c.rest >>= λ p. up_to field_count p.rest >>= λ n. types n.item n.rest >>= λ ts. whole ts >>= λ own.
    some (class_frame (record { number = c.item; body = record { parent = p.item; own = own } }))

unfoldable pub method_after : List ℕ → Option TextFrame
unfolding types expr
method_after bs =
    byte bs >>= λ o. byte o.rest >>= λ m. type m.rest >>= λ f. type f.rest >>= λ s.
    up_to param_count s.rest >>= λ n. types n.item n.rest >>= λ ts. expr nesting_limit ts.rest >>= λ l. expr nesting_limit l.rest >>= λ r. whole r >>= λ right.
    some (method_frame (record {
      owner = o.item;
      name = m.item;
      first = f.item;
      second = s.item;
      params = ts.item;
      left = l.item;
      right = right;
    }))

-- `03`, or `04` after its type
unfoldable pub main_after : Option Ty → List ℕ → Option TextFrame
unfolding expr
main_after i bs = expr nesting_limit bs >>= λ e. whole e >>= λ main. some (main_frame i main)

-- `04`: the type of parameter 0, then as any main
unfoldable pub input_after : List ℕ → Option TextFrame
unfolding type main_after
input_after bs = type bs >>= λ u. main_after (some u.item) u.rest

unfoldable pub frame : List ℕ → Option TextFrame
unfolding class_after method_after main_after input_after
frame bs =
    byte bs >>= λ k.
    cond (eqb k.item 1) (class_after k.rest)
    (cond (eqb k.item 2) (method_after k.rest)
    (cond (eqb k.item 3) (main_after none k.rest)
    (cond (eqb k.item 4) (input_after k.rest)
    none)))

unfoldable pub frames : List (List ℕ) → Option (List TextFrame)
unfolding frame
frames [] = some []
frames (l ∷ ls) = frame l >>= λ f. frames ls >>= λ fs. some (f ∷ fs)
