-- The abstract syntax: expressions, types, classes, methods, and a program's table. Not here: its bytes (Frames, Writing).
use Rattle.std.specs.Prelude.{ℕ, suc, Bool, true, false, ◌&&◌, List, [], ◌∷◌, eqb}
use Rattle.std.proofs.Math.Option.{Option}

-- What is done with two numbers.
pub data Operation : Type 0 where
  sum difference : Operation

-- An expression, and a list of expressions (antt has no nested data: the list is a copy of `List`).
mutual
  pub data Expr : Type 0 where
    this res : Expr
    param : ℕ → Expr
    field : ℕ → Expr → Expr
    call : ℕ → Expr → Exprs → Expr
    new : ℕ → Exprs → Expr
    literal : ℕ → Expr
    combine : Operation → Expr → Expr → Expr
    -- a number, the branch for any but 0, the branch for 0
    choose : Expr → Expr → Expr → Expr

  pub data Exprs : Type 0 where
    done : Exprs
    also : Expr → Exprs → Exprs

abbrev pub count : Exprs → ℕ
count done = 0
count (also e es) = suc (count es)

-- Document 01's type: a class number and a tag, 0 for C+, 1 for C+?, 2 for C-?, 3 for C-.
pub record Ty : Type 0 where
  pub cls : ℕ
  pub tag : ℕ

abbrev pub ty : ℕ → ℕ → Ty
ty c g = record { cls = c; tag = g }

-- A class: its parent and its own fields' types. Class number k is item k - 1 of the table's list.
pub record Class : Type 0 where
  pub parent : ℕ
  pub own : List Ty

pub record Method : Type 0 where
  pub owner : ℕ
  pub name : ℕ
  pub first : Ty
  pub second : Ty
  pub params : List Ty
  pub left : Expr
  pub right : Expr

pub record Table : Type 0 where
  pub classes : List Class
  pub methods : List Method
  -- the type of main's parameter 0; none for an `03` main
  pub input : Option Ty
  pub main : Expr

-- Boolean equality of types and of lists of types.
abbrev pub eq_ty : Ty → Ty → Bool
eq_ty a b = eqb a.cls b.cls && eqb a.tag b.tag

abbrev pub eq_tys : List Ty → List Ty → Bool
eq_tys [] [] = true
eq_tys [] (b ∷ bs) = false
eq_tys (a ∷ as') [] = false
eq_tys (a ∷ as') (b ∷ bs) = eq_ty a b && eq_tys as' bs
