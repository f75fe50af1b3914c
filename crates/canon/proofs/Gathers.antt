-- Laws of objects gathered, as an order lists them, renamed by a table.
use Rattle.std.proofs.Common.{ℕ, ◌+◌, ◌*◌, ◌%◌, ◌<◌, ◌≤◌, arith, ◌≡◌, refl, ◌∙◌, List, [], ◌∷◌, get_or}
use native.Mathlib.Decide.{ℕ_discrete}
use Rattle.canon.specs.Figures.{object_size}
use Rattle.canon.specs.Layout.{node_in, nodes_in, Packed}
use Rattle.canon.specs.Tables.{Carried, copied, Lifted}
use Rattle.canon.specs.Numbers.{Gathered}
use Rattle.canon.proofs.Nodes.{AllPacked}
use Rattle.canon.proofs.Turned.{turn_ref, changed, lifted_nodes, lifted_packed}

pub gather_none : (N O T D : List ℕ) (to : ℕ) → Gathered N O 0 T D to D
gather_none N O T D to = record { same = refl; here = λ j k h. absurd (omega arith); below = λ q h. refl; above = λ q h. refl }

-- the next object, made in B and carried from there
pub gather_more : (N O T D₀ : List ℕ) (to : ℕ) (D B₀ B D2 : List ℕ) (j : ℕ) → Gathered N O j T D₀ to D → Lifted N (object_size * get_or O j 0) object_size T B₀ 0 B
    → Carried B 0 D (to + object_size * j) object_size D2 → Gathered N O (j + 1) T D₀ to D2
gather_more N O T D₀ to D B₀ B D2 j g f c = record {
  same = c.same ∙ g.same;
  here = λ i k h l. go i k h l (ℕ_discrete i j);
  below = λ q h. c.below q (omega arith) ∙ g.below q h;
  above = λ q h. c.above q (omega arith) ∙ g.above q (omega arith);
}
  where
    go : (i k : ℕ) → i < j + 1 → k < object_size → Dec (i ≡ j) → get_or D2 (to + object_size * i + k) 0 ≡ copied T k (get_or N (object_size * get_or O i 0 + k) 0)
    go i k h l (yes e) = let z : k % object_size ≡ k = omega arith in rw e (c.here k l ∙ rw z at (f.here k l))
    go i k h l (no e) = c.below (to + object_size * i + k) (omega (arith, e)) ∙ g.here i k (omega (arith, e)) l

pub gather_done : (N O T D₀ : List ℕ) (to : ℕ) (D : List ℕ) (j m : ℕ) → Gathered N O j T D₀ to D → j ≤ m → m ≤ j → Gathered N O m T D₀ to D
gather_done N O T D₀ to D j m g h k = let e : j ≡ m = omega arith in rw e at g

-- ---- what is gathered
module _ (N O : List ℕ) (m : ℕ) (T D₀ : List ℕ) (to : ℕ) (D : List ℕ) (g : Gathered N O m T D₀ to D) where
  one : (j : ℕ) → j < m → Lifted N (object_size * get_or O j 0) object_size T D (to + object_size * j) D
  one j h = record {
    same = refl;
    here = λ q l. let z : q % object_size ≡ q = omega arith in rw z (g.here j q h l);
    below = λ q l. refl;
    above = λ q l. refl;
  }

  all_one : (j : ℕ) → Packed N (object_size * get_or O j 0) → AllPacked N (object_size * get_or O j 0) 1
  all_one j pk i l = let z : object_size * get_or O j 0 + object_size * i ≡ object_size * get_or O j 0 = omega arith in rw z pk

  pub gathered_node : (j : ℕ) → j < m → Packed N (object_size * get_or O j 0) → node_in D (to + object_size * j) ≡ changed (turn_ref T) (node_in N (object_size * get_or O j 0))
  unfolding nodes_in
  gathered_node j h pk =
      let e : node_in D (to + object_size * j) ∷ [] ≡ changed (turn_ref T) (node_in N (object_size * get_or O j 0)) ∷ [] = lifted_nodes N (object_size * get_or O j 0) T D (to + object_size * j) D 1 (one j h) (all_one j pk) in
      cc

  pub gathered_packed : (j : ℕ) → j < m → Packed N (object_size * get_or O j 0) → Packed D (to + object_size * j)
  gathered_packed j h pk =
      let z : to + object_size * j + object_size * 0 ≡ to + object_size * j = omega arith in
      rw z at (lifted_packed N (object_size * get_or O j 0) T D (to + object_size * j) D 1 (one j h) (all_one j pk) 0 (omega arith))
