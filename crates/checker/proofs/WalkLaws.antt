-- specs/Machine in the loops of the code that types the arguments of a call and the values of a new object. Not here: by the first byte (StepLaws).
use Rattle.std.proofs.Common.{◌≡◌, refl, sym, ap, ◌∙◌, Bool, true, false, List, ℕ, zero, suc, ◌+◌, ◌-◌, ◌<◌, arith, Some, None}
use Rattle.std.specs.declared.option.Option.{Option}
use Rattle.cofj.specs.Typing.{closed_tag}
use Rattle.classes.specs.Machine.{pick}
use Rattle.checker.specs.Items.{Items, Parameters, Fields}
use Rattle.checker.specs.declared.scope.Typed.{Typed}
use Rattle.checker.specs.Listed.{Listed}
use Rattle.checker.specs.Listed as list
use Rattle.checker.specs.Types.{item_fits, arg_fits}
use Rattle.checker.specs.Machine.{Walk, listed, list_by, args_then, new_then}

-- a list, of which f makes X: the expressions from k on still give it
list_here : (B : List ℕ) (one : Walk) (items : Items) (k n : ℕ) (closed : Bool) (a : ℕ) (f : Listed → Option Typed) (X : Option Typed)
    → f (list_by B one items k (n - k) closed a) ≡ X → k < n → f (list_by B one items k (suc (n - (k + 1))) closed a) ≡ X
list_here B one items k n closed a f X w h = ap (λ (m : ℕ). f (list_by B one items k m closed a)) (let e : suc (n - (k + 1)) ≡ n - k = omega arith in e) ∙ w

-- after one open tag of an argument there is no type
args_open : (B : List ℕ) (one : Walk) (in_main : Bool) (i k n a : ℕ) → args_then B in_main i (list_by B one (Parameters i) k n false a) ≡ None
unfolding list_by
args_open B one in_main i k zero a = refl
args_open B one in_main i k (suc n) a = go (one a) (args_open B one in_main i (k + 1) n)
  where
    rest : (x y : Bool) (next : ℕ) → args_then B in_main i (list_by B one (Parameters i) (k + 1) n false next) ≡ None
        → args_then B in_main i (pick x (list_by B one (Parameters i) (k + 1) n (pick y false false) next) list.No) ≡ None
    rest true true next ih = ih
    rest true false next ih = ih
    rest false y next ih = refl

    go : (o : Option Typed) → ((next : ℕ) → args_then B in_main i (list_by B one (Parameters i) (k + 1) n false next) ≡ None)
        → args_then B in_main i
        (listed o (λ u next. pick (item_fits B (Parameters i) k u) (list_by B one (Parameters i) (k + 1) n (pick (closed_tag u.tag) false false) next) list.No))
        ≡ None
    go None ih = refl
    go (Some o) ih = rest (item_fits B (Parameters i) k o.ty) (closed_tag o.ty.tag) o.next (ih o.next)

-- ---- the arguments from k on, of which the next one has a type, and fits its parameter (f)
module _ (B : List ℕ) (one : Walk) (in_main : Bool) (i k n a : ℕ) (X : Option Typed) (w : args_then B in_main i (list_by B one (Parameters i) k (n - k) true a) ≡ X)
    (h : k < n) (o : Typed) (e : one a ≡ Some o) (f : Bool) (ef : f ≡ arg_fits B i k o.ty) where
  args_here : args_then B in_main i (list_by B one (Parameters i) k (suc (n - (k + 1))) true a) ≡ X
  args_here = list_here B one (Parameters i) k n true a (args_then B in_main i) X w h

  -- what one argument gives, whose tag is closed or not (x) and whose type fits or not (y)
  abbrev one_more : Bool → Bool → Option Typed
  one_more x y = args_then B in_main i (pick y (list_by B one (Parameters i) (k + 1) (n - (k + 1)) (pick x true false) o.next) list.No)

  pub args_unfit : f ≡ false → None ≡ X
  unfolding list_by arg_fits
  args_unfit q = rw (← args_here, e) (go (closed_tag o.ty.tag) (item_fits B (Parameters i) k o.ty) (sym ef ∙ q))
    where
      go : (x y : Bool) → pick x y false ≡ false → None ≡ one_more x y
      go x false e = refl
      go false true e = sym (args_open B one in_main i (k + 1) (n - (k + 1)) o.next)
      go true true e = cc

  pub args_next : f ≡ true → args_then B in_main i (list_by B one (Parameters i) (k + 1) (n - (k + 1)) true o.next) ≡ X
  unfolding list_by arg_fits
  args_next q = rw (← args_here, e) (go (closed_tag o.ty.tag) (item_fits B (Parameters i) k o.ty) (sym ef ∙ q))
    where
      go : (x y : Bool) → pick x y false ≡ true → one_more true true ≡ one_more x y
      go true true e = refl
      go true false e = cc
      go false y e = cc

-- ---- the values from k on, of which the next one has a type, and fits its field (f)
module _ (B : List ℕ) (one : Walk) (c k n : ℕ) (closed : Bool) (a : ℕ) (X : Option Typed) (w : new_then c (list_by B one (Fields c) k (n - k) closed a) ≡ X)
    (h : k < n) (o : Typed) (e : one a ≡ Some o) (f : Bool) (ef : f ≡ item_fits B (Fields c) k o.ty) where
  pub values_next : (b : Bool) → f ≡ true → b ≡ pick (closed_tag o.ty.tag) closed false → new_then c (list_by B one (Fields c) (k + 1) (n - (k + 1)) b o.next) ≡ X
  unfolding list_by
  values_next b q eb = rw (← list_here B one (Fields c) k n closed a (new_then c) X w h, e, ← ef, q, ← eb)
