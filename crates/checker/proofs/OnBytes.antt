-- On the bytes of a table that was read: type fit and parameters.
-- Not here: the walk of an expression (Lists, Expressions).
use Rattle.std.proofs.Common.{ℕ, ◌+◌, ◌*◌, ◌<◌, ◌≤◌, arith, ◌≡◌, refl, ap, Bool, true, false, ◌&&◌, leb, ltb, length, ltb-true, leb-true, leb-false, Some, None}
use Rattle.std.proofs.Math.Option.{some}
use Rattle.std.proofs.Math.ListN.{get_elem?}
use Rattle.cofj.specs.Limits.{method_count, param_count}
use Rattle.cofj.specs.Syntax.{Ty, Method, Table}
use Rattle.cofj.specs.Classes.{fits, class_fits}
use Rattle.cofj.specs.Tables.{known}
use Rattle.cofj.specs.WellFormed.{WellFormed}
use Rattle.classes.specs.Machine.{pick, type_at, param_of, row_of}
use Rattle.classes.specs.Layout.{layout, bytes_of, found_type}
use Rattle.classes.proofs.Lists.{past, within as inside}
use Rattle.classes.proofs.Zones.{param_count_at, param_type_at}
use Rattle.classes.proofs.OnTables.{fit_on}
use Rattle.checker.specs.Types.{fits_type}

-- ---- type fit
module _ (t : Table) (wf : WellFormed t) where
  pub fits_on : (u v : Ty) → known (length t.classes) u ≡ true → fits_type (layout t) (bytes_of u) (bytes_of v) ≡ fits t.classes u v
  fits_on u v h = rw (fit_on t wf u.cls v.cls h) (both (leb u.tag v.tag) (class_fits t.classes u.cls v.cls))
    where
      both : (b c : Bool) → pick b c false ≡ c && b
      both true true = refl
      both true false = refl
      both false true = refl
      both false false = refl

-- ---- parameters
pub param_on : (t : Table) (i : ℕ) (d : Method) → i < method_count → get_elem? t.methods i ≡ some d → length d.params ≤ param_count
    → (k : ℕ) → param_of (layout t) i k ≡ found_type (get_elem? d.params k)
param_on t i d l e few k = rw (param_count_at t i d l e) (go (ltb 2 k) refl (leb (length d.params) k) refl)
  where
    go : (x : Bool) → ltb 2 k ≡ x → (y : Bool) → leb (length d.params) k ≡ y
        → pick x None (pick y None (Some (type_at (layout t) (row_of i + 8 + 2 * k)))) ≡ found_type (get_elem? d.params k)
    go true p y q = let h = ltb-true 2 k p in rw (past d.params k (omega arith))
    go false p true q = rw (past d.params k (leb-true (length d.params) k q))
    go false p false q =
        let h = leb-false (length d.params) k q in
        let w = inside d.params k h in
        rw w.1 (ap Some (param_type_at t i d l e k w.0 (omega arith) w.1))
