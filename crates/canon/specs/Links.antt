-- Lists of who refers to whom, a table for each field and one for looks: of row x the last that refers to x, the one before x that refers to what x does, what x refers to.
-- 0 is none: it stands for no object.
use Rattle.std.specs.Prelude.{ℕ, ◌+◌, ◌-◌, ◌*◌, ◌%◌, ◌≤◌, ◌<◌, ◌≡◌, Bool, true, false, cond, List, ltb, length, get_or}
use Rattle.canon.specs.declared.rows.Row.{Row}
use Rattle.canon.specs.declared.rows.Link.{Link}
use Rattle.canon.specs.Tables.{four_at, on_codes}
use Rattle.canon.specs.Layout.{Codes}
use Rattle.canon.specs.Figures.{object_size, head_size, code_count, numbers_at, first_leaf, four_bytes, hash_count, hashed_by}
use Rattle.canon.specs.Rows.{free, row_at, link_at, field_at}

-- h is the last below b that E takes to v, 0 if there is none
pub record Last (E : ℕ → ℕ) (v b h : ℕ) : Type 0 where
  pub low : h < b
  pub is : 0 < h → E h ≡ v
  pub none : (z : ℕ) → h < z → z < b → E z ≡ v → ⊥

-- the lists, of the rows below b
pub record Hung (n b : ℕ) (K : List Link) : Type 0 where
  pub room : n ≤ length K
  pub null : (x : ℕ) → x ≡ 0 → (link_at K x).target ≡ 0
  pub low : (x : ℕ) → 0 < x → x < b → (link_at K x).target < n
  pub heads : (v : ℕ) → 0 < v → v < n → Last (λ x. (link_at K x).target) v b (link_at K v).last
  pub nexts : (x : ℕ) → 0 < x → x < b → 0 < (link_at K x).target → Last (λ y. (link_at K y).target) (link_at K x).target x (link_at K x).before

-- of all n
pub record Lists (n : ℕ) (K : List Link) : Type 0 where
  pub all : Hung n n K

-- of each field
pub record AllLists (n : ℕ) (F : List (List Link)) : Type 0 where
  pub each : (f : ℕ) → f < code_count → Lists n (field_at F f)

-- ---- the lists made
-- a code as it looks at first, all objects alike, and byte k of an object
unfoldable pub looked : ℕ → ℕ
looked b = cond (ltb b first_leaf) 0 b

abbrev pub shown : ℕ → ℕ → ℕ
shown = on_codes looked

-- objects i and j look alike in their first k bytes, each shown by F, and whether they do in all
pub record AlikeTo (F : ℕ → ℕ → ℕ) (N : List ℕ) (i j k : ℕ) : Type 0 where
  pub all : (f : ℕ) → f < k → F f (get_or N (object_size * i + f) 0) ≡ F f (get_or N (object_size * j + f) 0)

pub record AlikeTest (F : ℕ → ℕ → ℕ) (N : List ℕ) (i j : ℕ) (r : Bool) : Type 0 where
  pub yes : r ≡ true → AlikeTo F N i j object_size
  pub not : r ≡ false → AlikeTo F N i j object_size → ⊥

-- a number that tells most looks apart: of the object's class and its numbers, and of its codes too
unfoldable pub hash_plain : List ℕ → ℕ → ℕ
hash_plain N p = get_or N p 0 % hash_count + (four_at N (p + numbers_at) + four_bytes * four_at N (p + numbers_at + 4)) % hashed_by

unfoldable pub hash_of : List ℕ → ℕ → ℕ
hash_of N i =
    (7 * looked (get_or N (object_size * i + 2) 0) + 13 * looked (get_or N (object_size * i + 3) 0) + 29 * looked (get_or N (object_size * i + 4) 0) + 5 * looked (get_or N (object_size * i + 5) 0)
    + hash_plain N (object_size * i)) % hash_count

-- what a code refers to
unfoldable pub target_of : ℕ → ℕ
target_of b = cond (ltb b first_leaf) (b + 1) 0

-- row x hung up on v
pub record HungOn (n x v : ℕ) (K K' : List Link) : Type 0 where
  pub hung : Hung n (x + 1) K'
  pub size : length K' ≡ length K
  pub here : (link_at K' x).target ≡ v
  pub rest : (y : ℕ) → ((y ≡ x) → ⊥) → (link_at K' y).target ≡ (link_at K y).target

-- the rows below x by their hashes: the last of each, in H; the one before each, in T
pub record Chained (N : List ℕ) (x : ℕ) (H : List ℕ) (T : List Row) : Type 0 where
  pub heads : (h : ℕ) → h < hash_count → Last (λ y. hash_of N (y - 1)) h x (get_or H h 0)
  pub nexts : (y : ℕ) → 0 < y → y < x → Last (λ z. hash_of N (z - 1)) (hash_of N (y - 1)) y (row_at T y).note

-- those that look alike have one first one
pub record Grouped (N : List ℕ) (x : ℕ) (K : List Link) : Type 0 where
  pub same : (y z : ℕ) → 0 < y → y < x → 0 < z → z < x → AlikeTo shown N (y - 1) (z - 1) object_size → (link_at K y).target ≡ (link_at K z).target

-- what is needed to look for it: the list of those with x's hash begins at `from`
pub record Sought (N : List ℕ) (T : List Row) (K : List Link) (n x h from : ℕ) : Type 0 where
  pub codes : Codes N (n - 1)
  pub room_t : n ≤ length T
  pub room_k : n ≤ length K
  pub pos : 0 < x
  pub small : x < n
  pub is : h ≡ hash_of N (x - 1)
  pub nexts : (y : ℕ) → 0 < y → y < x → Last (λ z. hash_of N (z - 1)) (hash_of N (y - 1)) y (row_at T y).note
  pub start : Last (λ y. hash_of N (y - 1)) h x from
  pub low : (y : ℕ) → 0 < y → y < x → (link_at K y).target < n
  pub grouped : Grouped N x K

-- r is the first one of those that look as x does
pub record LikeBefore (N : List ℕ) (n x : ℕ) (K : List Link) (r : ℕ) : Type 0 where
  pub low : r < n
  pub is : (y : ℕ) → 0 < y → y < x → AlikeTo shown N (x - 1) (y - 1) object_size → (link_at K y).target ≡ r

-- the rows hung up by their looks
pub record GroupedAll (N : List ℕ) (n : ℕ) (K K' : List Link) : Type 0 where
  pub size : length K' ≡ length K
  pub lists : Lists n K'
  pub grouped : Grouped N n K'

-- the rows below x hung up by field f
pub record ReferredTo (N : List ℕ) (n f x : ℕ) (K K' : List Link) : Type 0 where
  pub hung : Hung n x K'
  pub size : length K' ≡ length K
  pub targets : (y : ℕ) → 0 < y → y < x → (link_at K' y).target ≡ target_of (get_or N (object_size * (y - 1) + head_size + f) 0)

-- by the first w fields
pub record Referred (N : List ℕ) (n w : ℕ) (F F' : List (List Link)) : Type 0 where
  pub done : (f : ℕ) → f < w → Lists n (field_at F' f)
  pub targets : (f : ℕ) → f < w → (y : ℕ) → 0 < y → y < n → (link_at (field_at F' f) y).target ≡ target_of (get_or N (object_size * (y - 1) + head_size + f) 0)
  pub others : (g : ℕ) → w ≤ g → field_at F' g ≡ field_at F g

-- n rows with nothing in them, and of each field
pub record Free (n : ℕ) (K : List Link) : Type 0 where
  pub room : n ≤ length K
  pub none : (x : ℕ) → x < n → link_at K x ≡ free

pub record AllFree (n : ℕ) (F : List (List Link)) : Type 0 where
  pub each : (f : ℕ) → f < code_count → Free n (field_at F f)

-- nothing hung up by the four fields
pub record Unhung (n : ℕ) (F : List (List Link)) : Type 0 where
  pub each : (f : ℕ) → f < code_count → Hung n 1 (field_at F f)

-- all of it, by looks in K and by the fields in F
pub record Linked (N : List ℕ) (n : ℕ) (K : List Link) (F : List (List Link)) : Type 0 where
  pub looks : Lists n K
  pub grouped : Grouped N n K
  pub fields : AllLists n F
  pub targets : (f : ℕ) → f < code_count → (y : ℕ) → 0 < y → y < n → (link_at (field_at F f) y).target ≡ target_of (get_or N (object_size * (y - 1) + head_size + f) 0)
