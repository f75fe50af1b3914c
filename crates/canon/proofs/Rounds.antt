-- Laws of the rounds of colours.
use Rattle.std.proofs.Common.{ℕ, zero, suc, ◌+◌, ◌-◌, ◌*◌, ◌<◌, ◌≤◌, mul-le-mul, arith, ◌≡◌, refl, sym, ap, ap₂, ◌∙◌, subst, Bool, true, false, List, [], map, length, get_or, take, length-take-le, get_or-take, ext_get_or}
use Rattle.std.proofs.Math.Option.{some}
use Rattle.std.proofs.Math.ListN.{get_elem?, get_or-map}
use Rattle.cofj.specs.Values.{Ref, obj, leaf, undet, Node, node, Graph, graph, rename, rename_node, node_at, refs_at, colour_of, place_of, refine, refine_to, colours, eq_nats}
use Rattle.cofj.specs.Unfolding.{Same, InRange}
use Rattle.cofj.proofs.Basics.{eq_nats_true}
use Rattle.cofj.proofs.Trees.{same_look}
use Rattle.cofj.proofs.Colours.{look, next, next_at, next_low, next_looks, next_same, look_next, length-refine, refs_coarser, colour_same}
use Rattle.canon.specs.Figures.{object_size, capacity}
use Rattle.canon.specs.Layout.{node_in, nodes_in, part, Raw}
use Rattle.canon.specs.Tables.{Filled, Carried, Lifted, Below}
use Rattle.canon.specs.Rounds.{Looks, place_is}
use Rattle.canon.specs.Classing.{Coarse}
use Rattle.canon.proofs.Colouring.{colours_are, looks_colours}
use Rattle.canon.proofs.Nodes.{AllPacked, length_nodes, at_nodes}
use Rattle.canon.proofs.Turned.{turn_ref, lifted_nodes, lifted_packed, turn_rename, nodes_agree}

-- a table's front, by its items
pub front_is : (A l : List ℕ) (n : ℕ) → length l ≡ n → n ≤ length A → ((i : ℕ) → i < n → get_or A i 0 ≡ get_or l i 0) → take n A ≡ l
front_is A l n e h f =
    ext_get_or 0 (take n A) l (length-take-le n A h ∙ sym e)
    (λ i k. let k' : i < n = omega (arith, length-take-le n A h) in get_or-take n A i 0 k' ∙ f i k')

module _ (N C L₀ L : List ℕ) (n : ℕ) (raw : Raw N n) (f : Lifted N 0 (object_size * n) C L₀ 0 L) where
  packed_at : AllPacked N 0 n
  packed_at j k = let e : 0 + object_size * j ≡ object_size * j = omega arith in rw e (raw.packed j k)

  pub looks_ok : object_size * n ≤ length L₀ → Looks L n
  looks_ok h = record {
    room = omega (arith, f.same);
    packed = λ i l. let e : object_size * i ≡ 0 + object_size * i = omega arith in rw e (lifted_packed N 0 C L₀ 0 L n f packed_at i l);
  }

  inner : (i k : ℕ) (r : Ref) → get_elem? (refs_at (nodes_in N 0 n) i) k ≡ some r → InRange n r
  inner i k r e = subst (λ (m : ℕ). InRange m r) (length_nodes N 0 n) (raw.whole.inner i k r e)

  looks_are : Below n C → nodes_in L 0 n ≡ map (rename_node (colour_of (take n C))) (nodes_in N 0 n)
  looks_are b =
      lifted_nodes N 0 C L₀ 0 L n f packed_at
      ∙ nodes_agree (turn_ref C) (rename (colour_of (take n C))) (InRange n)
      (turn_rename C n (colour_of (take n C)) (omega (arith, raw.few)) (λ i h. sym (get_or-take n C i 0 h))
      (λ i h. rw (get_or-take n C i 0 h) (omega (arith, b.low i h, raw.few))))
      (nodes_in N 0 n) inner

  pub round_done : (X : List ℕ) → Below n C → Filled (λ i. place_is L n i) n X → n ≤ length X → take n X ≡ refine (nodes_in N 0 n) (take n C)
  unfolding place_is
  round_done X b g room =
      front_is X (refine (nodes_in N 0 n) (take n C)) n (length-refine (nodes_in N 0 n) (take n C) ∙ length_nodes N 0 n) (omega (arith, raw.few))
      (λ i h.
      let ei : 0 + object_size * i ≡ object_size * i = omega arith in
      let h' : i < length (nodes_in N 0 n) = rw (length_nodes N 0 n) h in
      let en : node_in L (object_size * i) ≡ rename_node (colour_of (take n C)) (node_at (nodes_in N 0 n) i) =
      ap (node_in L) (sym ei) ∙ sym (at_nodes L 0 n i h) ∙ ap (λ (l : List Node). node_at l i) (looks_are b) ∙ get_or-map (rename_node (colour_of (take n C))) (nodes_in N 0 n) i (node 0 []) in
      g.at i h ∙ ap₂ place_of en (looks_are b) ∙ sym (next_at (nodes_in N 0 n) (take n C) i h'))

-- ---- until nothing changes
turn_step : (ns : List Node) (cs : List ℕ) (k : ℕ) (b : Bool) → eq_nats cs (refine ns cs) ≡ b
    → refine_to (suc k) ns cs ≡ (elim b as (λ _. List ℕ) [ true ↦ cs | false ↦ refine_to k ns (refine ns cs) ])
unfolding refine_to
turn_step ns cs k b e = ap (λ (x : Bool). elim x as (λ _. List ℕ) [ true ↦ cs | false ↦ refine_to k ns (refine ns cs) ]) e

still_to : (ns : List Node) (cs : List ℕ) (k : ℕ) → eq_nats cs (refine ns cs) ≡ true → refine_to k ns cs ≡ cs
unfolding refine_to
still_to ns cs zero e = refl
still_to ns cs (suc k) e = turn_step ns cs k true e

pub square_fits : (n : ℕ) → n ≤ capacity → n * n ≤ capacity * capacity
square_fits n h = mul-le-mul h h

-- a table that k rounds more of the rounds from zeros cannot be finer than
pub record Going (N : List ℕ) (n k : ℕ) (C : List ℕ) : Type 0 where
  pub coarse : Coarse N n C
  pub other : List ℕ
  pub left : colours (nodes_in N 0 n) ≡ refine_to k (nodes_in N 0 n) other
  pub finer : (i j : ℕ) → i < n → j < n → get_or C i 0 ≡ get_or C j 0 → colour_of other i ≡ colour_of other j

module _ (N : List ℕ) (n : ℕ) (raw : Raw N n) where
  abbrev ns : List Node
  ns = nodes_in N 0 n

  abbrev g : Graph
  g = graph (leaf undet) ns

  size : length ns ≡ n
  size = length_nodes N 0 n

  pub coarse_below : (C : List ℕ) → Coarse N n C → n ≤ length C → Below n C
  coarse_below C c h = record { room = h; low = λ i l. omega (arith, c.low i l) }

  pub going_start : (C : List ℕ) → Coarse N n C → Going N n (n * n + 1) C
  unfolding colours
  going_start C c =
      let e : n * n + 1 ≡ suc (length ns * length ns) = rw size (omega arith) in
      let z : (i : ℕ) → colour_of (map (λ _. 0) ns) i ≡ 0 = λ i. get_or-map (λ _. 0) ns i (node 0 []) in
      record { coarse = c; other = map (λ _. 0) ns; left = ap (λ (k : ℕ). refine_to k ns (map (λ _. 0) ns)) (sym e); finer = λ i j h l q. z i ∙ sym (z j) }

  module _ (C : List ℕ) (long : n ≤ length C) where
    abbrev cs : List ℕ
    cs = take n C

    at : (i : ℕ) → i < n → colour_of cs i ≡ get_or C i 0
    at i h = get_or-take n C i 0 h

    inside : (i : ℕ) → i < n → i < length ns
    inside i h = omega (arith, size)

    full_of : Coarse N n C → (i j : ℕ) → i < length ns → j < length ns → Same ns (obj i) ns (obj j) → colour_of cs i ≡ colour_of cs j
    full_of c i j h l e = let h' : i < n = omega (arith, size) in let l' : j < n = omega (arith, size) in at i h' ∙ c.full i j h' l' e ∙ sym (at j l')

    -- a round more
    module _ (X : List ℕ) (e : take n X ≡ refine ns cs) where
      next_is : (i : ℕ) → i < n → get_or X i 0 ≡ next ns cs i
      next_is i h = sym (get_or-take n X i 0 h) ∙ ap (λ (s : List ℕ). get_or s i 0) e

      coarse_next : Coarse N n C → Coarse N n X
      coarse_next c = record {
        low = λ i h. rw (next_is i h) (next_low ns cs i (inside i h));
        first = λ i h.
            let l : next ns cs i < n = omega (arith, next_low ns cs i (inside i h)) in
            rw (next_is i h) (next_is (next ns cs i) l ∙ look_next ns cs (next ns cs i) i (inside (next ns cs i) l) (inside i h) (next_looks ns cs i (inside i h)));
        full = λ i j h l q. next_is i h ∙ look_next ns cs i j (inside i h) (inside j l) (same_look g g raw.whole raw.whole (colour_of cs) (colour_of cs) (full_of c) i j q) ∙ sym (next_is j l);
      }

      finer_next : (z : List ℕ) → ((i j : ℕ) → i < n → j < n → get_or C i 0 ≡ get_or C j 0 → colour_of z i ≡ colour_of z j) → (i j : ℕ) → i < n → j < n → get_or X i 0 ≡ get_or X j 0 → next ns z i ≡ next ns z j
      finer_next z f i j h l q =
          let t : look ns cs i ≡ look ns cs j = next_same ns cs i j (inside i h) (inside j l) (sym (next_is i h) ∙ q ∙ next_is j l) in
          look_next ns z i j (inside i h) (inside j l)
          (ap₂ node (ap (λ (x : Node). x.cls) t)
          (refs_coarser (length ns) (colour_of cs) (colour_of z)
          (λ a b p r d. let p' : a < n = omega (arith, size) in let r' : b < n = omega (arith, size) in f a b p' r' (sym (at a p') ∙ d ∙ at b r'))
          (refs_at ns i) (refs_at ns j) (raw.whole.inner i) (raw.whole.inner j) (ap (λ (x : Node). x.refs) t)))

      pub going_more : (k : ℕ) → 0 < k → Going N n k C → Going N n (k - 1) X
      going_more k pos w = go (eq_nats w.other (refine ns w.other)) refl
        where
          ek : k ≡ suc (k - 1)
          ek = omega arith

          go : (b : Bool) → eq_nats w.other (refine ns w.other) ≡ b → Going N n (k - 1) X
          go true q = record {
            coarse = coarse_next w.coarse;
            other = w.other;
            left = w.left ∙ still_to ns w.other k q ∙ sym (still_to ns w.other (k - 1) q);
            finer = λ i j h l d. rw (← eq_nats_true w.other (refine ns w.other) q) at (finer_next w.other w.finer i j h l d);
          }
          go false q = record {
            coarse = coarse_next w.coarse;
            other = refine ns w.other;
            left = w.left ∙ ap (λ (x : ℕ). refine_to x ns w.other) ek ∙ turn_step ns w.other (k - 1) false q;
            finer = finer_next w.other w.finer;
          }

    low_of : Coarse N n C → (i : ℕ) → i < length ns → colour_of cs i ≤ i
    low_of c i h = let h' : i < n = omega (arith, size) in omega (arith, at i h', c.low i h')

    first_of : Coarse N n C → (i : ℕ) → i < length ns → colour_of cs (colour_of cs i) ≡ colour_of cs i
    first_of c i h =
        let h' : i < n = omega (arith, size) in
        let l : get_or C i 0 < n = omega (arith, c.low i h') in
        ap (colour_of cs) (at i h') ∙ at (get_or C i 0) l ∙ c.first i h' ∙ sym (at i h')

    long_of : length cs ≡ length ns
    long_of = length-take-le n C (omega (arith, raw.few)) ∙ sym size

    -- a round changes nothing
    pub settle_still : (X : List ℕ) (r : Bool) → Coarse N n C → take n X ≡ refine ns cs → r ≡ eq_nats (part C 0 n) (part X 0 n) → r ≡ true → cs ≡ colours ns
    settle_still X r c e er t =
        let s : cs ≡ refine ns cs = eq_nats_true cs (take n X) (sym er ∙ t) ∙ e in
        looks_colours g raw.whole cs long_of (low_of c) (first_of c)
        (λ i j h l q. next_same ns cs i j h l (ap (λ (x : List ℕ). colour_of x i) (sym s) ∙ q ∙ ap (λ (x : List ℕ). colour_of x j) s))
        (full_of c)

    -- so many rounds suffice
    pub settle_done : (k : ℕ) → Going N n k C → k ≤ 0 → cs ≡ colours ns
    unfolding refine_to
    settle_done k w h =
        let ek : k ≡ 0 = omega arith in
        let z : colours ns ≡ w.other = w.left ∙ rw ek in
        colours_are g raw.whole cs long_of (low_of w.coarse) (first_of w.coarse)
        (λ i j a b q. let a' : i < n = omega (arith, size) in let b' : j < n = omega (arith, size) in
        colour_same g raw.whole i j a b (ap (λ (x : List ℕ). colour_of x i) z ∙ w.finer i j a' b' (sym (at i a') ∙ q ∙ at j b') ∙ ap (λ (x : List ℕ). colour_of x j) (sym z)))
        (full_of w.coarse)

  -- what is copied back
  pub copied_is : (C X C2 : List ℕ) → Carried X 0 C 0 n C2 → n ≤ length C2 → n ≤ length X → take n X ≡ refine ns (take n C) → take n C2 ≡ refine ns (take n C)
  copied_is C X C2 f long longX e =
      front_is C2 (take n X) n (length-take-le n X (omega (arith, raw.few))) (omega (arith, raw.few))
      (λ i l. let z : 0 + i ≡ i = omega arith in (rw z at (f.here i l)) ∙ sym (get_or-take n X i 0 l))
      ∙ e
