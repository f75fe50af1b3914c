-- Laws of the first place of an object.
use Rattle.std.proofs.Common.{ℕ, suc, ◌+◌, ◌-◌, ◌*◌, ◌<◌, ◌≤◌, arith, ◌≡◌, sym, ap, ◌∙◌, Bool, true, false, List, ◌∷◌}
use Rattle.cofj.specs.Values.{place_of, eq_node, eq_nats}
use Rattle.cofj.proofs.Basics.{eq_node_refl}
use Rattle.canon.specs.Figures.{object_size}
use Rattle.canon.specs.Layout.{node_in, nodes_in, part}
use Rattle.canon.specs.Rounds.{Looks, place_is}
use Rattle.canon.proofs.Nodes.{eq_node_lem}

module _ (L : List ℕ) (n i j : ℕ) (lk : Looks L n) (hi : i < n)
    (inv : place_is L n i ≡ j + place_of (node_in L (object_size * i)) (nodes_in L (object_size * j) (n - j))) where
  next_node : j < n → nodes_in L (object_size * j) (n - j) ≡ node_in L (object_size * j) ∷ nodes_in L (object_size * (j + 1)) (n - (j + 1))
  unfolding nodes_in
  next_node h =
      let e : n - j ≡ suc (n - (j + 1)) = omega arith in
      let e6 : object_size * (j + 1) ≡ object_size * j + object_size = omega arith in
      rw (e, e6)

  test : j < n → eq_node (node_in L (object_size * i)) (node_in L (object_size * j)) ≡ eq_nats (part L (object_size * i) object_size) (part L (object_size * j) object_size)
  test h = eq_node_lem L L (object_size * i) (object_size * j) (omega (arith, lk.room)) (omega (arith, lk.room)) (lk.packed i hi) (lk.packed j h)

  pub place_found : (r : Bool) → j < i → r ≡ eq_nats (part L (object_size * i) object_size) (part L (object_size * j) object_size) → r ≡ true → j ≡ place_is L n i
  unfolding place_of
  place_found r h e t = sym (inv ∙ rw (next_node (omega arith), test (omega arith), ← e, t, place_of) (omega arith))

  pub place_more : (r : Bool) → j < i → r ≡ eq_nats (part L (object_size * i) object_size) (part L (object_size * j) object_size) → r ≡ false
      → place_is L n i ≡ (j + 1) + place_of (node_in L (object_size * i)) (nodes_in L (object_size * (j + 1)) (n - (j + 1)))
  unfolding place_of
  place_more r h e t = inv ∙ rw (next_node (omega arith), test (omega arith), ← e, t, place_of) (omega arith)

  pub place_last : j ≤ i → i ≤ j → i ≡ place_is L n i
  unfolding place_of
  place_last h k =
      let z : j ≡ i = omega arith in
      let t : eq_node (node_in L (object_size * i)) (node_in L (object_size * j)) ≡ true = ap (λ (q : ℕ). eq_node (node_in L (object_size * i)) (node_in L (object_size * q))) z ∙ eq_node_refl (node_in L (object_size * i)) in
      sym (inv ∙ rw (next_node (omega arith), t, place_of) (omega arith))

pub place_start : (L : List ℕ) (n i : ℕ) → place_is L n i ≡ 0 + place_of (node_in L (object_size * i)) (nodes_in L (object_size * 0) (n - 0))
unfolding place_is
place_start L n i = let e : n - 0 ≡ n = omega arith in rw e (omega arith)
