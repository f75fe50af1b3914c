-- Classes of objects, a row each: of object x its class and its place; the object at place x; of class x where it begins, its middle and its end; two notes.
-- A class has the places from its begin to its end; its objects below the middle are in front.
use Rattle.std.specs.Prelude.{ℕ, ◌≤◌, ◌<◌, ◌≡◌, List, length}
use Rattle.canon.specs.declared.rows.Row.{Row}
use Rattle.canon.specs.declared.rows.Link.{Link}
use Rattle.canon.specs.Figures.{code_count}
use Rattle.canon.specs.Rows.{row_at, link_at, field_at}

-- object x put at place p
pub record Stood (T : List Row) (x p : ℕ) (T' : List Row) : Type 0 where
  pub same : length T' ≡ length T
  pub here : (row_at T' p).object_at ≡ x
  pub at : (row_at T' x).place ≡ p
  pub place : (y : ℕ) → ((y ≡ x) → ⊥) → (row_at T' y).place ≡ (row_at T y).place
  pub object : (y : ℕ) → ((y ≡ p) → ⊥) → (row_at T' y).object_at ≡ (row_at T y).object_at
  pub cls : (y : ℕ) → (row_at T' y).class ≡ (row_at T y).class
  pub first : (y : ℕ) → (row_at T' y).begin ≡ (row_at T y).begin
  pub mid : (y : ℕ) → (row_at T' y).middle ≡ (row_at T y).middle
  pub end : (y : ℕ) → (row_at T' y).end ≡ (row_at T y).end
  pub note : (y : ℕ) → (row_at T' y).note ≡ (row_at T y).note
  pub marked : (y : ℕ) → (row_at T' y).marked ≡ (row_at T y).marked

-- all but the notes is as before
pub record Like (T T' : List Row) : Type 0 where
  pub same : length T' ≡ length T
  pub cls : (x : ℕ) → (row_at T' x).class ≡ (row_at T x).class
  pub place : (x : ℕ) → (row_at T' x).place ≡ (row_at T x).place
  pub object : (x : ℕ) → (row_at T' x).object_at ≡ (row_at T x).object_at
  pub first : (x : ℕ) → (row_at T' x).begin ≡ (row_at T x).begin
  pub mid : (x : ℕ) → (row_at T' x).middle ≡ (row_at T x).middle
  pub end : (x : ℕ) → (row_at T' x).end ≡ (row_at T x).end

-- n objects at n places
pub record Standing (n : ℕ) (T : List Row) : Type 0 where
  pub room : n ≤ length T
  pub place : (x : ℕ) → x < n → (row_at T x).place < n
  pub holds : (x : ℕ) → x < n → (row_at T (row_at T x).place).object_at ≡ x
  pub object : (p : ℕ) → p < n → (row_at T p).object_at < n
  pub stands : (p : ℕ) → p < n → (row_at T (row_at T p).object_at).place ≡ p

-- in m classes
pub record Classes (n m : ℕ) (T : List Row) : Type 0 where
  pub placed : Standing n T
  pub few : m ≤ n
  pub low : (x : ℕ) → x < n → (row_at T x).class < m
  pub from : (x : ℕ) → x < n → (row_at T (row_at T x).class).begin ≤ (row_at T x).place
  pub to : (x : ℕ) → x < n → (row_at T x).place < (row_at T (row_at T x).class).end
  pub only : (x c : ℕ) → x < n → c < m → (row_at T c).begin ≤ (row_at T x).place → (row_at T x).place < (row_at T c).end → (row_at T x).class ≡ c
  pub ends : (c : ℕ) → c < m → (row_at T c).end ≤ n
  pub mids : (c : ℕ) → c < m → (row_at T c).begin ≤ (row_at T c).middle

-- object z is in class c, whose middle is a, at place l, not in front
pub record Found (n m : ℕ) (T : List Row) (z c a l : ℕ) : Type 0 where
  pub low : z < n
  pub cls : c ≡ (row_at T z).class
  pub mid : a ≡ (row_at T c).middle
  pub place : l ≡ (row_at T z).place
  pub behind : a ≤ l

-- object x is in front
pub record Front (T : List Row) (x : ℕ) : Type 0 where
  pub at : (row_at T x).place < (row_at T (row_at T x).class).middle

-- those of which P holds have come to the front
pub record Brought (n m : ℕ) (T T' : List Row) (P : ℕ → Type 0) : Type 0 where
  pub classes : Classes n m T'
  pub same : length T' ≡ length T
  pub cls : (x : ℕ) → x < n → (row_at T' x).class ≡ (row_at T x).class
  pub keep : (x : ℕ) → x < n → Front T x → Front T' x
  pub only : (x : ℕ) → x < n → Front T' x → (Front T x → ⊥) → P x
  pub all : (x : ℕ) → x < n → P x → Front T' x

-- the first notes are as before
pub record SameNotes (n : ℕ) (T T' : List Row) : Type 0 where
  pub note : (x : ℕ) → x < n → (row_at T' x).note ≡ (row_at T x).note

-- x refers, by the field of these links, to an object of class s
pub record Into (K : List Link) (T : List Row) (s x : ℕ) : Type 0 where
  pub some : 0 < (link_at K x).target
  pub cls : (row_at T (link_at K x).target).class ≡ s

-- the objects of class s noted, up to place e
pub record Noted (T : List Row) (s e : ℕ) (T' : List Row) : Type 0 where
  pub like : Like T T'
  pub note : (p : ℕ) → (row_at T s).begin ≤ p → p < e → (row_at T' p).note ≡ (row_at T p).object_at

-- the objects at places from a to e are of class m
pub record Relabelled (n : ℕ) (T : List Row) (a e m : ℕ) (T' : List Row) : Type 0 where
  pub same : length T' ≡ length T
  pub new : (x : ℕ) → x < n → a ≤ (row_at T x).place → (row_at T x).place < e → (row_at T' x).class ≡ m
  pub below : (x : ℕ) → x < n → (row_at T x).place < a → (row_at T' x).class ≡ (row_at T x).class
  pub above : (x : ℕ) → x < n → e ≤ (row_at T x).place → (row_at T' x).class ≡ (row_at T x).class
  pub place : (x : ℕ) → (row_at T' x).place ≡ (row_at T x).place
  pub object : (x : ℕ) → (row_at T' x).object_at ≡ (row_at T x).object_at
  pub first : (x : ℕ) → (row_at T' x).begin ≡ (row_at T x).begin
  pub mid : (x : ℕ) → (row_at T' x).middle ≡ (row_at T x).middle
  pub end : (x : ℕ) → (row_at T' x).end ≡ (row_at T x).end
  pub note : (x : ℕ) → (row_at T' x).note ≡ (row_at T x).note
  pub marked : (x : ℕ) → (row_at T' x).marked ≡ (row_at T x).marked

-- class c has the places from a to e
pub record LaidOut (T : List Row) (c a e : ℕ) (T' : List Row) : Type 0 where
  pub same : length T' ≡ length T
  pub first : (row_at T' c).begin ≡ a
  pub mid : (row_at T' c).middle ≡ a
  pub end : (row_at T' c).end ≡ e
  pub others : (y : ℕ) → ((y ≡ c) → ⊥) → row_at T' y ≡ row_at T y
  pub cls : (y : ℕ) → (row_at T' y).class ≡ (row_at T y).class
  pub place : (y : ℕ) → (row_at T' y).place ≡ (row_at T y).place
  pub object : (y : ℕ) → (row_at T' y).object_at ≡ (row_at T y).object_at
  pub note : (y : ℕ) → (row_at T' y).note ≡ (row_at T y).note
  pub marked : (y : ℕ) → (row_at T' y).marked ≡ (row_at T y).marked

-- objects that D takes to one number are in one class, and both in front or neither
pub record Kept (D : ℕ → ℕ) (n : ℕ) (T : List Row) : Type 0 where
  pub cls : (x y : ℕ) → x < n → y < n → D x ≡ D y → (row_at T x).class ≡ (row_at T y).class
  pub front : (x y : ℕ) → x < n → y < n → D x ≡ D y → Front T x → Front T y

-- classes parted, and no two such objects apart
pub record Split (n : ℕ) (T T' : List Row) (m r : ℕ) : Type 0 where
  pub classes : Classes n r T'
  pub more : m ≤ r
  pub same : length T' ≡ length T
  pub kept : (D : ℕ → ℕ) → Kept D n T → Kept D n T'

-- D goes with these links: where x and y have one number, so have what they refer to
pub record Goes (D : ℕ → ℕ) (n : ℕ) (K : List Link) : Type 0 where
  pub some : (x y : ℕ) → x < n → y < n → D x ≡ D y → 0 < (link_at K x).target → 0 < (link_at K y).target
  pub same : (x y : ℕ) → x < n → y < n → D x ≡ D y → 0 < (link_at K x).target → D (link_at K x).target ≡ D (link_at K y).target

-- x and y have one number only if they look alike at first
pub record GoesByLooks (D : ℕ → ℕ) (n : ℕ) (K : List Link) : Type 0 where
  pub same : (x y : ℕ) → x < n → y < n → D x ≡ D y → (link_at K x).target ≡ (link_at K y).target

pub record PartedLooks (n : ℕ) (K : List Link) (T T' : List Row) (r : ℕ) : Type 0 where
  pub classes : Classes n r T'
  pub same : length T' ≡ length T
  pub kept : (D : ℕ → ℕ) → GoesByLooks D n K → Kept D n T → Kept D n T'

pub record PartedFields (n : ℕ) (F : List (List Link)) (T T' : List Row) (m r : ℕ) : Type 0 where
  pub classes : Classes n r T'
  pub more : m ≤ r
  pub same : length T' ≡ length T
  pub kept : (D : ℕ → ℕ) → ((f : ℕ) → f < code_count → Goes D n (field_at F f)) → Kept D n T → Kept D n T'

-- n objects in one class
pub record Begun (n : ℕ) (T : List Row) : Type 0 where
  pub classes : Classes n 1 T
  pub kept : (D : ℕ → ℕ) → Kept D n T
