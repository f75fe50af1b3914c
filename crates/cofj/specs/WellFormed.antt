-- What reading makes sure of in a table (refusals 1 to 5), as far as runs, types, reports and the table's bytes need it.
-- Proved of every table that is read in proofs/Readable.
use Rattle.std.specs.Prelude.{ℕ, suc, ◌≤◌, ◌≡◌, true, List, [], ◌∷◌, length}
use Rattle.std.proofs.Math.Option.{some}
use Rattle.cofj.specs.Limits.{class_count, method_count, field_count, param_count, line_size, nesting_limit}
use Rattle.cofj.specs.Syntax.{Ty, Method, Table}
use Rattle.cofj.specs.Classes.{fields_of, class_at, own_or_none, parent_of}
use Rattle.cofj.specs.Lookup.{lookup}
use Rattle.cofj.specs.Tables.{same_types, known, all_known, expr_known}
use Rattle.cofj.specs.Nesting.{Nested}
use Rattle.cofj.specs.Writing.{method_line, main_line}

abbrev pub Tags : List Ty → Type 0
Tags [] = Unit {0}
Tags (u ∷ us) = (u.tag ≤ 3) × Tags us

abbrev pub AllMethods : (Method → Type 0) → List Method → Type 0
AllMethods P [] = Unit {0}
AllMethods P (d ∷ ds) = P d × AllMethods P ds

pub record MethodFormed (t : Table) (d : Method) : Type 0 where
  -- tags, and the types of the method that it overrides
  pub owned : 1 ≤ d.owner
  pub first : d.first.tag ≤ 3
  pub second : d.second.tag ≤ 3
  pub params : Tags d.params
  pub same : same_types d (lookup t (parent_of t.classes d.owner) d.name) ≡ true
  -- every class is one of the table, or numbers' where a type stands
  pub owner_known : d.owner ≤ length t.classes
  pub first_known : known (length t.classes) d.first ≡ true
  pub second_known : known (length t.classes) d.second ≡ true
  pub params_known : all_known (length t.classes) d.params ≡ true
  pub left_known : expr_known (length t.classes) d.left ≡ true
  pub right_known : expr_known (length t.classes) d.right ≡ true
  -- the limits of a line
  pub few : length d.params ≤ param_count
  pub short : length (method_line d) ≤ line_size
  pub left_nested : Nested nesting_limit d.left
  pub right_nested : Nested nesting_limit d.right

pub record WellFormed (t : Table) : Type 0 where
  pub parents : (k : ℕ) → parent_of t.classes (suc k) ≤ k
  pub own : (c : ℕ) → Tags (own_or_none (class_at t.classes c))
  pub own_known : (c : ℕ) → all_known (length t.classes) (own_or_none (class_at t.classes c)) ≡ true
  pub methods : AllMethods (MethodFormed t) t.methods
  pub input_known : (u : Ty) → t.input ≡ some u → u.cls ≤ length t.classes
  pub input_tag : (u : Ty) → t.input ≡ some u → u.tag ≡ 0
  pub main_known : expr_known (length t.classes) t.main ≡ true
  pub main_nested : Nested nesting_limit t.main
  pub main_short : length (main_line t.input t.main) ≤ line_size
  pub classes : length t.classes ≤ class_count
  pub count : length t.methods ≤ method_count
  pub fields : (c : ℕ) → c ≤ length t.classes → length (fields_of t.classes c) ≤ field_count
