-- Where the method of a name is found from a class: in the class itself, or in the nearest class above it that declares the name.
-- `lookup` searches, from parent to parent; `Nearest` and `Nowhere` say what its two answers stand for (proofs/Lookup proves it).
-- Not here: class fit and fields (Classes), who asks: types (Typing), runs (Running), overriding (Tables), hosts (Finding).
use Rattle.std.specs.Prelude.{ℕ, zero, suc, ◌≡◌, true, false, ◌&&◌, List, [], ◌∷◌, eqb}
use Rattle.std.proofs.Math.Option.{Option, none, some}
use Rattle.cofj.specs.Syntax.{Method, Table}
use Rattle.cofj.specs.Classes.{parent_of, class_fits}

-- a method that was found: the class in which the search stopped, which owns the body, and the body
pub record Found : Type 0 where
  pub owner : ℕ
  pub body : Method

abbrev pub found_in : ℕ → Method → Found
found_in o d = record { owner = o; body = d }

-- the method m of class c itself
unfoldable pub method_of : List Method → ℕ → ℕ → Option Method
method_of [] c m = none
method_of (d ∷ ds) c m = elim (eqb d.owner c && eqb d.name m) [ true ↦ some d | false ↦ method_of ds c m ]

-- the method m of class c or of the nearest class above it. The first argument bounds the chain; the class number itself is enough
unfoldable pub lookup_to : ℕ → Table → ℕ → ℕ → Option Found
lookup_to zero t c m = none
lookup_to (suc n) t c m = elim (method_of t.methods c m) [ none ↦ lookup_to n t (parent_of t.classes c) m | some d ↦ some (found_in c d) ]

abbrev pub lookup : Table → ℕ → ℕ → Option Found
lookup t c m = lookup_to c t c m

-- ---- what the answers stand for
-- class c itself has the method m, with this body
abbrev pub Declares : Table → ℕ → ℕ → Method → Type 0
Declares t c m d = method_of t.methods c m ≡ some d

-- Found: the owner is c or stands above it and declares m; it is the one that the body's frame names; no class from c up to it, itself excluded, declares m.
pub record Nearest (t : Table) (c m : ℕ) (f : Found) : Type 0 where
  pub declares : Declares t f.owner m f.body
  pub above : class_fits t.classes c f.owner ≡ true
  pub named : f.body.owner ≡ f.owner
  pub between : (b : ℕ) (d : Method) → class_fits t.classes c b ≡ true → class_fits t.classes b f.owner ≡ true → (b ≡ f.owner → ⊥) → Declares t b m d → ⊥

-- Nothing: no class from c up declares m.
abbrev pub Nowhere : Table → ℕ → ℕ → Type 0
Nowhere t c m = (b : ℕ) (d : Method) → class_fits t.classes c b ≡ true → Declares t b m d → ⊥

abbrev pub StandsFor : Table → ℕ → ℕ → Option Found → Type 0
StandsFor t c m none = Nowhere t c m
StandsFor t c m (some f) = Nearest t c m f
