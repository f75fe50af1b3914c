-- The colours of the parts that are reached, by rounds, and the parts that lead them.
-- Not here: which parts are reached (Reaching), the objects that are made of them (Merging).
use Rattle.std.specs.declared.option.Option.{Option as RustOption}
use Rattle.std.specs.Prelude.{Some, None, ℕ, ◌≤◌, ◌<◌, ◌≡◌, Bool, true, false, cond, List, eqb, ltb, length, get_or}
use Rattle.cofj.specs.Values.{obj, Node}
use Rattle.cofj.specs.Unfolding.{Same}
use Rattle.canon.specs.Figures.{object_size, undetermined_code, number_code, capacity}
use Rattle.canon.specs.Tables.{on_codes}
use Rattle.canon.specs.Links.{AlikeTo}
use Rattle.batch.specs.Figures.{number_field, wide_size, byte_count}
use Rattle.batch.specs.Layout.{Lies}
use Rattle.batch.specs.Reaching.{Listed}
use Rattle.batch.specs.Merging.{Many}

-- a field's byte as it looks: the colour of the part that it holds, a number, or undetermined
unfoldable pub look_in : List ℕ → ℕ → ℕ
look_in C b = cond (ltb b number_field) (get_or C b 0) (cond (eqb b number_field) number_code undetermined_code)

-- byte j of a part as it looks: a field's so, any other itself
abbrev pub shade_in : List ℕ → ℕ → ℕ → ℕ
shade_in C = on_codes (look_in C)

-- parts p and q have one colour, and look alike; and whether they do
pub record Alike (P C : List ℕ) (p q : ℕ) : Type 0 where
  pub colour : get_or C p 0 ≡ get_or C q 0
  pub looks : AlikeTo (shade_in C) P p q object_size

pub record Alikeness (P C : List ℕ) (p q : ℕ) (r : Bool) : Type 0 where
  pub yes : r ≡ true → Alike P C p q
  pub not : r ≡ false → Alike P C p q → ⊥

-- the first colour from c on, below top, whose leading part is alike p; top if there is none
pub record FirstAlike (P C D : List ℕ) (c top p r : ℕ) : Type 0 where
  pub more : c ≤ r
  pub most : r ≤ top
  pub here : r < top → Alike P C p (get_or D r 0)
  pub none : (d : ℕ) → c ≤ d → d < r → Alike P C p (get_or D d 0) → ⊥

-- room for all of it
pub record Room (P C D : List ℕ) : Type 0 where
  pub parts : wide_size ≤ length P
  pub colours : length C ≡ byte_count
  pub leads : length D ≡ capacity

-- part p is of one of the first k colours, and the part that leads one has it
pub record Own (C D : List ℕ) (k p : ℕ) : Type 0 where
  pub low : get_or C p 0 < k
  pub own : (c : ℕ) → c < k → get_or C (get_or D c 0) 0 ≡ c

-- the m listed parts have k colours, each led by one of them; two that unfold to the same tree have one
pub record Coloured (P L : List ℕ) (m : ℕ) (C D : List ℕ) (k : ℕ) : Type 0 where
  pub some_colour : 1 ≤ k
  pub few : k ≤ capacity
  pub low : (x : ℕ) → Listed L m x → get_or C x 0 < k
  pub leads : (c : ℕ) → c < k → Listed L m (get_or D c 0)
  pub own : (c : ℕ) → c < k → get_or C (get_or D c 0) 0 ≡ c
  pub first : get_or D 0 0 ≡ 0
  pub one : (ns : List Node) → Lies P ns → (x y : ℕ) → Listed L m x → Listed L m y → Same ns (obj x) ns (obj y) → get_or C x 0 ≡ get_or C y 0

-- and each is alike the one that leads its colour
pub record Settled (P L : List ℕ) (m : ℕ) (C D : List ℕ) (k : ℕ) : Type 0 where
  pub coloured : Coloured P L m C D k
  pub alike : (x : ℕ) → Listed L m x → Alike P C x (get_or D (get_or C x 0) 0)

-- ---- a round, from the k colours C to the colours N
-- the first i listed parts have theirs, of top colours
pub record RoundTo (P L : List ℕ) (m : ℕ) (C : List ℕ) (k : ℕ) (N D : List ℕ) (top i : ℕ) : Type 0 where
  pub start : Coloured P L m C D k
  pub more : k ≤ top
  pub few : top ≤ capacity
  pub leads : (c : ℕ) → c < top → Listed L m (get_or D c 0)
  pub apart : (a b : ℕ) → a < b → b < top → Alike P C (get_or D a 0) (get_or D b 0) → ⊥
  pub low : (q : ℕ) → q < i → get_or N (get_or L q 0) 0 < top
  pub alike : (q : ℕ) → q < i → Alike P C (get_or L q 0) (get_or D (get_or N (get_or L q 0) 0) 0)

-- all have: of r colours, as many as before if these are settled; or there are too many
pub record RoundDone (P L : List ℕ) (m : ℕ) (C : List ℕ) (k : ℕ) (N D : List ℕ) (o : RustOption ℕ) : Type 0 where
  pub more : (r : ℕ) → o ≡ Some r → k ≤ r
  pub next : (r : ℕ) → o ≡ Some r → Coloured P L m N D r
  pub settled : o ≡ Some k → Settled P L m C D k
  pub many : o ≡ None → (ns : List Node) → Lies P ns → Many ns

-- ---- rounds: r colours in the end, if there are not too many
pub record Colours (P L : List ℕ) (m : ℕ) (C D : List ℕ) (o : RustOption ℕ) : Type 0 where
  pub settled : (r : ℕ) → o ≡ Some r → Settled P L m C D r
  pub many : o ≡ None → (ns : List Node) → Lies P ns → Many ns
