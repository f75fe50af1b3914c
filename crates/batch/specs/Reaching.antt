-- The parts that part 0 leads to, listed by going over the list, and what is known while it grows. By bytes: every byte below number_field numbers a part.
-- Not here: which of them unfold to the same tree (Colouring).
use Rattle.std.specs.Prelude.{ℕ, ◌+◌, ◌≤◌, ◌<◌, ◌≡◌, Bool, true, false, cond, List, map, length, get_or}
use Rattle.canon.specs.Tables.{zero_count}
use Rattle.batch.specs.Figures.{field_room, number_field, byte_count}
use Rattle.batch.specs.Layout.{field_byte}

-- x is one of the first t of L
pub record Listed (L : List ℕ) (t x : ℕ) : Type 0 where
  pub place : ℕ
  pub low : place < t
  pub is : get_or L place 0 ≡ x

-- part x has a field that holds part y
pub record FieldOf (P : List ℕ) (x y : ℕ) : Type 0 where
  pub field : ℕ
  pub low : field < field_room
  pub is : field_byte P x field ≡ y
  pub part : y < number_field

-- field after field leads from part 0 to part x
pub data Led (P : List ℕ) : ℕ → Type 0 where
  first : Led P 0
  next : {x : ℕ} (y : ℕ) → Led P x → FieldOf P x y → Led P y

-- whatever S has true for is one of the first t of L, and there is room for the others
pub record Noted (S : List Bool) (L : List ℕ) (t : ℕ) : Type 0 where
  pub seen : length S ≡ byte_count
  pub list : length L ≡ byte_count
  pub free : t + zero_count number_field (map (λ b. cond b 1 0) S) ≤ number_field
  pub listed : (x : ℕ) → get_or S x false ≡ true → Listed L t x

-- the byte b met: the list of t parts in L₀ has r in L, with no other new one than b
pub record Met (L₀ : List ℕ) (t b : ℕ) (S : List Bool) (L : List ℕ) (r : ℕ) : Type 0 where
  pub noted : Noted S L r
  pub more : t ≤ r
  pub front : (q : ℕ) → q < t → get_or L q 0 ≡ get_or L₀ q 0
  pub new : (q : ℕ) → t ≤ q → q < r → get_or L q 0 ≡ b
  pub part : t < r → b < number_field
  pub here : b < number_field → Listed L r b

-- the first k fields of part p met
pub record FieldsMet (P : List ℕ) (p k : ℕ) (L₀ : List ℕ) (t : ℕ) (S : List Bool) (L : List ℕ) (r : ℕ) : Type 0 where
  pub noted : Noted S L r
  pub more : t ≤ r
  pub front : (q : ℕ) → q < t → get_or L q 0 ≡ get_or L₀ q 0
  pub here : (f : ℕ) → f < k → field_byte P p f < number_field → Listed L r (field_byte P p f)
  pub new : (q : ℕ) → t ≤ q → q < r → FieldOf P p (get_or L q 0)

-- t parts are listed, and the fields of the first h of them are met
pub record ReachedTo (P : List ℕ) (S : List Bool) (L : List ℕ) (t h : ℕ) : Type 0 where
  pub noted : Noted S L t
  pub root : Listed L t 0
  pub closed : (q f : ℕ) → q < h → f < field_room → field_byte P (get_or L q 0) f < number_field → Listed L t (field_byte P (get_or L q 0) f)
  pub led : (q : ℕ) → q < t → Led P (get_or L q 0)

-- the first m of L are the parts that part 0 leads to
pub record Reaches (P L : List ℕ) (m : ℕ) : Type 0 where
  pub few : m ≤ number_field
  pub long : length L ≡ byte_count
  pub root : Listed L m 0
  pub closed : (x f : ℕ) → Listed L m x → f < field_room → field_byte P x f < number_field → Listed L m (field_byte P x f)
  pub led : (x : ℕ) → Listed L m x → Led P x
