-- The colours of a graph's objects: two objects have one colour exactly when they unfold to the same tree.
use Prim.Native.Nat.{ℕ, zero, suc, ◌+◌, ◌*◌, ◌≤◌, ◌<◌, zero-le, suc-le-suc}
use native.Mathlib.Nat.{suc-mul}
use native.Mathlib.Omega.{arith}
use mathlib.Core.Path.{◌≡◌, refl, sym, ap, ap₂, ◌∙◌, subst}
use mathlib.Core.Bool.{Bool, true, false, true≢false}
use mathlib.Core.List.{List, [], ◌∷◌, map, head-eq_of_cons-eq, tail-eq_of_cons-eq}
use mathlib.Core.Option.{some}
use lib.Dec.{eqb}
use lib.ListN.{length, get_or, get_elem?, length-map, get_or-map}
use borrow.Author.Tests.{eqb-true, eqb-false}
use Rattle.cofj.specs.Values.{Ref, obj, leaf, Node, node, Graph, rename, rename_node, node_at, refs_at, colour_of, refine, refine_to, colours, place_of, eq_nats}
use Rattle.cofj.specs.Unfolding.{child, Same, InRange, Whole}
use Rattle.cofj.proofs.Basics.{get_d_map_lt, place_of_spec, eq_nats_true}
use Rattle.cofj.proofs.Trees.{renamed_same, same_look}

-- ---- one round
module _ (ns : List Node) (cs : List ℕ) where
  abbrev pub look : ℕ → Node
  look i = rename_node (colour_of cs) (node_at ns i)

  abbrev pub next : ℕ → ℕ
  next i = colour_of (refine ns cs) i

  pub next_at : (i : ℕ) → i < length ns → next i ≡ place_of (look i) (map (rename_node (colour_of cs)) ns)
  unfolding refine
  next_at i h =
      let ls = map (rename_node (colour_of cs)) ns in
      get_d_map_lt (λ n. place_of n ls) ls i 0 (node 0 []) (subst (λ (k : ℕ). i < k) (sym (length-map ns (rename_node (colour_of cs)))) h)
      ∙ ap (λ (n : Node). place_of n ls) (get_or-map (rename_node (colour_of cs)) ns i (node 0 []))

  next_spec : (i : ℕ) → i < length ns → (next i ≤ i) × (look (next i) ≡ look i)
  next_spec i h =
      let ls = map (rename_node (colour_of cs)) ns in
      let s = place_of_spec (look i) (node 0 []) ls i (subst (λ (k : ℕ). i < k) (sym (length-map ns (rename_node (colour_of cs)))) h)
      (get_or-map (rename_node (colour_of cs)) ns i (node 0 [])) in
      let e = next_at i h in (
        subst (λ (k : ℕ). k ≤ i) (sym e) s.0,
        sym (get_or-map (rename_node (colour_of cs)) ns (next i) (node 0 [])) ∙ subst (λ (k : ℕ). get_or ls k (node 0 []) ≡ look i) (sym e) s.1,
      )

  pub next_low : (i : ℕ) → i < length ns → next i ≤ i
  next_low i h = (next_spec i h).0

  pub next_looks : (i : ℕ) → i < length ns → look (next i) ≡ look i
  next_looks i h = (next_spec i h).1

  pub next_same : (i j : ℕ) → i < length ns → j < length ns → next i ≡ next j → look i ≡ look j
  next_same i j h h' e = sym (next_looks i h) ∙ ap look e ∙ next_looks j h'

  pub look_next : (i j : ℕ) → i < length ns → j < length ns → look i ≡ look j → next i ≡ next j
  look_next i j h h' e = next_at i h ∙ ap (λ (n : Node). place_of n (map (rename_node (colour_of cs)) ns)) e ∙ sym (next_at j h')

  pub length-refine : length (refine ns cs) ≡ length ns
  unfolding refine
  length-refine = length-map (map (rename_node (colour_of cs)) ns) _ ∙ length-map ns (rename_node (colour_of cs))

-- ---- looks under a coarser colouring
module _ (n : ℕ) (a b : ℕ → ℕ) (coarser : (i j : ℕ) → i < n → j < n → a i ≡ a j → b i ≡ b j) where
  ref_coarser : (r s : Ref) → InRange n r → InRange n s → rename a r ≡ rename a s → rename b r ≡ rename b s
  ref_coarser (obj i) (obj j) p q e = ap obj (coarser i j p q (cc))
  ref_coarser (obj i) (leaf k) p q e = cc
  ref_coarser (leaf k) (obj j) p q e = cc
  ref_coarser (leaf k) (leaf l) p q e = cc

  pub refs_coarser : (rs ss : List Ref) → ((f : ℕ) (r : Ref) → get_elem? rs f ≡ some r → InRange n r) → ((f : ℕ) (r : Ref) → get_elem? ss f ≡ some r → InRange n r)
      → map (rename a) rs ≡ map (rename a) ss → map (rename b) rs ≡ map (rename b) ss
  refs_coarser [] [] p q e = refl
  refs_coarser [] (s ∷ ss) p q e = cc
  refs_coarser (r ∷ rs) [] p q e = cc
  refs_coarser (r ∷ rs) (s ∷ ss) p q e =
      ap₂ {C = List Ref} ◌∷◌ (ref_coarser r s (p 0 r refl) (q 0 s refl) (head-eq_of_cons-eq e))
      (refs_coarser rs ss (λ f. p (suc f)) (λ f. q (suc f)) (tail-eq_of_cons-eq e))

-- ---- what each round keeps
module _ (g : Graph) (w : Whole g) where
  pub record Good (cs : List ℕ) : Type 0 where
    pub size : length cs ≡ length g.nodes
    pub low : (i : ℕ) → i < length g.nodes → colour_of cs i ≤ i
    pub mono : (i j : ℕ) → i < length g.nodes → j < length g.nodes → look g.nodes cs i ≡ look g.nodes cs j → colour_of cs i ≡ colour_of cs j
    pub full : (i j : ℕ) → i < length g.nodes → j < length g.nodes → Same g.nodes (obj i) g.nodes (obj j) → colour_of cs i ≡ colour_of cs j

  good_start : Good (map (λ _. 0) g.nodes)
  good_start =
      let z : (i : ℕ) → colour_of (map (λ _. 0) g.nodes) i ≡ 0 = λ i. get_or-map (λ _. 0) g.nodes i (node 0 []) in
      record {
        size = length-map g.nodes (λ _. 0);
        low = λ i h. subst (λ (k : ℕ). k ≤ i) (sym (z i)) zero-le;
        mono = λ i j h h' e. z i ∙ sym (z j);
        full = λ i j h h' e. z i ∙ sym (z j);
      }

  good_next : (cs : List ℕ) → Good cs → Good (refine g.nodes cs)
  good_next cs G =
      record {
        size = length-refine g.nodes cs;
        low = next_low g.nodes cs;
        mono = λ i j h h' e. look_next g.nodes cs i j h h'
            (ap₂ node (ap (λ (n : Node). n.cls) e)
            (refs_coarser (length g.nodes) (next g.nodes cs) (colour_of cs)
            (λ k l p q d. G.mono k l p q (next_same g.nodes cs k l p q d))
            (refs_at g.nodes i) (refs_at g.nodes j) (w.inner i) (w.inner j) (ap (λ (n : Node). n.refs) e)));
        full = λ i j h h' e. look_next g.nodes cs i j h h' (same_look g g w w (colour_of cs) (colour_of cs) G.full i j e);
      }

  grows : (cs : List ℕ) → Good cs → (i : ℕ) → i < length g.nodes → colour_of cs i ≤ next g.nodes cs i
  grows cs G i h =
      let l = next_low g.nodes cs i h in
      let j : next g.nodes cs i < length g.nodes = omega arith in
      let e = G.mono (next g.nodes cs i) i j h (next_looks g.nodes cs i h) in
      let m = G.low (next g.nodes cs i) j in
      omega arith

-- ---- the sum of the colours bounds the rounds
total : List ℕ → ℕ
total [] = 0
total (c ∷ cs) = c + total cs

total_le : (cs ds : List ℕ) → length cs ≡ length ds → ((i : ℕ) → i < length cs → get_or cs i 0 ≤ get_or ds i 0) → total cs ≤ total ds
unfolding total
total_le [] [] e h = zero-le
total_le [] (d ∷ ds) e h = zero-le
total_le (c ∷ cs) [] e h = omega arith
total_le (c ∷ cs) (d ∷ ds) e h = omega (arith, h 0 (suc-le-suc zero-le), total_le cs ds (omega arith) (λ i p. h (suc i) (suc-le-suc p)))

total_lt : (cs ds : List ℕ) → length cs ≡ length ds → ((i : ℕ) → i < length cs → get_or cs i 0 ≤ get_or ds i 0) → eq_nats cs ds ≡ false → total cs < total ds
unfolding total eq_nats
total_lt [] [] e h q = absurd (true≢false q)
total_lt [] (d ∷ ds) e h q = omega arith
total_lt (c ∷ cs) [] e h q = omega arith
total_lt (c ∷ cs) (d ∷ ds) e h q = go (eqb c d) refl q (λ x. total_lt cs ds (omega arith) (λ i p. h (suc i) (suc-le-suc p)) x)
  where
    go : (b : Bool) → eqb c d ≡ b → (elim b as (λ _. Bool) [ true ↦ eq_nats cs ds | false ↦ false ]) ≡ false → (eq_nats cs ds ≡ false → total cs < total ds)
        → c + total cs < d + total ds
    go true x y ih = omega (arith, eqb-true c d x, ih y)
    go false x y ih =
        let ne : c ≡ d → ⊥ = eqb-false c d x in
        omega (arith, h 0 (suc-le-suc zero-le), total_le cs ds (omega arith) (λ i p. h (suc i) (suc-le-suc p)))

total_bound : (n : ℕ) (cs : List ℕ) → ((i : ℕ) → i < length cs → get_or cs i 0 ≤ n) → total cs ≤ length cs * n
unfolding total
total_bound n [] h = zero-le
total_bound n (c ∷ cs) h = rw suc-mul (omega (arith, h 0 (suc-le-suc zero-le), total_bound n cs (λ i p. h (suc i) (suc-le-suc p))))

-- ---- the last round changes nothing
module _ (g : Graph) (w : Whole g) where
  abbrev Stable : List ℕ → Type 0
  Stable cs = Good g w cs × (eq_nats cs (refine g.nodes cs) ≡ true)

  reaches : (k : ℕ) (cs : List ℕ) → Good g w cs → suc (length g.nodes * length g.nodes) ≤ k + total cs → Stable (refine_to k g.nodes cs)
  unfolding refine_to
  reaches zero cs G h =
      let n = length g.nodes in
      let b : total cs ≤ length cs * n = total_bound n cs (λ i p. omega (arith, G.low i (rw G.size at p), rw G.size at p)) in
      let c : total cs ≤ n * n = rw G.size at b in
      absurd (omega arith)
  reaches (suc k) cs G h =
      go (eq_nats cs (refine g.nodes cs)) refl
      (λ l. reaches k (refine g.nodes cs) (good_next g w cs G) l)
    where
      go : (b : Bool) → eq_nats cs (refine g.nodes cs) ≡ b
          → (suc (length g.nodes * length g.nodes) ≤ k + total (refine g.nodes cs) → Stable (refine_to k g.nodes (refine g.nodes cs)))
          → Stable (elim b as (λ _. List ℕ) [ true ↦ cs | false ↦ refine_to k g.nodes (refine g.nodes cs) ])
      go true e ih = (G, e)
      go false e ih = ih (omega (
        arith,
        total_lt cs (refine g.nodes cs) (G.size ∙ sym (length-refine g.nodes cs))
            (λ i p. grows g w cs G i (rw G.size at p)) e,
      ))

  stable : Stable (colours g.nodes)
  unfolding colours
  stable = reaches (suc (length g.nodes * length g.nodes)) (map (λ _. 0) g.nodes) (good_start g w) (omega arith)

  abbrev pub colour : ℕ → ℕ
  colour i = colour_of (colours g.nodes) i

  pub colour_size : length (colours g.nodes) ≡ length g.nodes
  colour_size = stable.0.size

  fixed : (i : ℕ) → colour i ≡ next g.nodes (colours g.nodes) i
  fixed i = ap (λ (cs : List ℕ). colour_of cs i) (eq_nats_true _ _ stable.1)

  pub colour_low : (i : ℕ) → i < length g.nodes → colour i ≤ i
  colour_low i h = stable.0.low i h

  pub colour_full : (i j : ℕ) → i < length g.nodes → j < length g.nodes → Same g.nodes (obj i) g.nodes (obj j) → colour i ≡ colour j
  colour_full i j h h' e = stable.0.full i j h h' e

  pub colour_look : (i j : ℕ) → i < length g.nodes → j < length g.nodes → colour i ≡ colour j
      → rename_node colour (node_at g.nodes i) ≡ rename_node colour (node_at g.nodes j)
  colour_look i j h h' e = next_same g.nodes (colours g.nodes) i j h h' (sym (fixed i) ∙ e ∙ fixed j)

  -- the first of its colour has that colour
  pub colour_first : (i : ℕ) → i < length g.nodes → colour (colour i) ≡ colour i
  colour_first i h =
      let l = colour_low i h in
      let j : colour i < length g.nodes = omega arith in
      stable.0.mono (colour i) i j h
      (ap (look g.nodes (colours g.nodes)) (fixed i) ∙ next_looks g.nodes (colours g.nodes) i h)

  in_range_child : (r : Ref) → InRange (length g.nodes) r → (k : ℕ) (r' : Ref) → child g.nodes r k ≡ some r' → InRange (length g.nodes) r'
  in_range_child (obj i) p k r' e = w.inner i k r' e
  in_range_child (leaf l) p k r' e = let z : ◌≡◌ {A = ℕ} 0 1 = cc in absurd (omega arith)

  pub colour_same : (i j : ℕ) → i < length g.nodes → j < length g.nodes → colour i ≡ colour j → Same g.nodes (obj i) g.nodes (obj j)
  colour_same i j h h' e p =
      renamed_same g.nodes g.nodes colour colour (InRange (length g.nodes)) (InRange (length g.nodes)) in_range_child in_range_child
      colour_look p (obj i) (obj j) h h' (ap obj e)
