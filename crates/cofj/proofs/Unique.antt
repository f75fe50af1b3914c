-- (b) Graphs that unfold to the same tree have the same value.
use Prim.Native.Nat.{ℕ, zero, suc, ◌<◌, suc-le-suc}
use native.Mathlib.Nat.{not-suc-le-zero}
use native.Mathlib.Omega.{arith}
use mathlib.Core.Path.{◌≡◌, refl, sym, ap, ap₂, ◌∙◌}
use mathlib.Core.Bool.{Bool, true, false, false≢true, true≢false}
use mathlib.Core.List.{List, [], ◌∷◌, ◌++◌, map}
use mathlib.Core.Option.{some}
use lib.Dec.{eqb}
use lib.ListN.{length}
use borrow.Author.Tests.{eqb-true, eqb-false, eq-eqb, ne_eqb}
use Rattle.cofj.specs.Values.{Ref, obj, leaf, Node, Graph, graph, refs_at, colours, is_in, place_in, visit, visit_all, canon}
use Rattle.cofj.specs.Unfolding.{object, at_leaf, follow, Same, SameTree, InRange, Whole}
use Rattle.cofj.proofs.Trees.{Pointwise, same_refs, same_look, same_rename}
use Rattle.cofj.proofs.Colours.{colour, colour_low, colour_first, colour_full, colour_same}
use Rattle.cofj.proofs.Walk.{Kept, walk, visited, unseen, unseen_top, unseen_le, enter_kept, enter_less, order, start}
use Rattle.cofj.proofs.Canon.{number, canon_is, canon_same, canon-whole}

module _ (g h : Graph) (wg : Whole g) (wh : Whole h) where
  abbrev N : ℕ
  N = length g.nodes

  abbrev M : ℕ
  M = length h.nodes

  abbrev Twin : ℕ → ℕ → Type 0
  Twin i j = Same g.nodes (obj i) h.nodes (obj j)

  -- a number met on each side, at one place
  pub record Pair (c d : ℕ) : Type 0 where
    pub in_g : c < N
    pub in_h : d < M
    pub first_g : colour g wg c ≡ c
    pub first_h : colour h wh d ≡ d
    pub twin : Twin c d

  abbrev Matched : List ℕ → List ℕ → Type 0
  Matched [] [] = Unit {0}
  Matched [] (d ∷ ds) = ⊥
  Matched (c ∷ cs) [] = ⊥
  Matched (c ∷ cs) (d ∷ ds) = Pair c d × Matched cs ds

  matched_snoc : (cs ds : List ℕ) (c d : ℕ) → Matched cs ds → Pair c d → Matched (cs ++ (c ∷ [])) (ds ++ (d ∷ []))
  matched_snoc [] [] c d m p = (p, tt)
  matched_snoc [] (y ∷ ds) c d m p = absurd m
  matched_snoc (x ∷ cs) [] c d m p = absurd m
  matched_snoc (x ∷ cs) (y ∷ ds) c d m p = (m.0, matched_snoc cs ds c d m.1 p)

  -- the two tests agree
  module _ (i j : ℕ) (hi : i < N) (hj : j < M) (t : Twin i j) where
    same_test : (c d : ℕ) → Pair c d → eqb (colour g wg i) c ≡ eqb (colour h wh j) d
    same_test c d p = go (eqb (colour g wg i) c) refl
      where
        there : colour g wg i ≡ c → colour h wh j ≡ d
        there e =
            let s = colour_same g wg i c hi p.in_g (e ∙ sym p.first_g) in
            colour_full h wh j d hj p.in_h (λ q. sym (t q) ∙ s q ∙ p.twin q) ∙ p.first_h

        back : colour h wh j ≡ d → colour g wg i ≡ c
        back e =
            let s = colour_same h wh j d hj p.in_h (e ∙ sym p.first_h) in
            colour_full g wg i c hi p.in_g (λ q. t q ∙ s q ∙ sym (p.twin q)) ∙ p.first_g

        go : (b : Bool) → eqb (colour g wg i) c ≡ b → b ≡ eqb (colour h wh j) d
        go true e = sym (eq-eqb (colour h wh j) d (there (eqb-true (colour g wg i) c e)))
        go false e = sym (ne_eqb (colour h wh j) d (λ x. eqb-false (colour g wg i) c e (back x)))

    same_is_in : (cs ds : List ℕ) → Matched cs ds → is_in (colour g wg i) cs ≡ is_in (colour h wh j) ds
    unfolding is_in
    same_is_in [] [] m = refl
    same_is_in [] (y ∷ ds) m = absurd m
    same_is_in (x ∷ cs) [] m = absurd m
    same_is_in (x ∷ cs) (y ∷ ds) m =
        ap₂ {A = Bool} {B = Bool} (λ a b. elim a [ true ↦ true | false ↦ b ]) (same_test x y m.0) (same_is_in cs ds m.1)

    same_place : (cs ds : List ℕ) → Matched cs ds → place_in (colour g wg i) cs ≡ place_in (colour h wh j) ds
    unfolding place_in
    same_place [] [] m = refl
    same_place [] (y ∷ ds) m = absurd m
    same_place (x ∷ cs) [] m = absurd m
    same_place (x ∷ cs) (y ∷ ds) m =
        ap₂ {A = Bool} {B = ℕ} (λ a b. elim a [ true ↦ 0 | false ↦ suc b ]) (same_test x y m.0) (same_place cs ds m.1)

    -- the colours themselves are a pair
    pair : Pair (colour g wg i) (colour h wh j)
    pair =
        let a = colour_low g wg i hi in
        let b = colour_low h wh j hj in
        let a' : colour g wg i < N = omega arith in
        let b' : colour h wh j < M = omega arith in
        record {
          in_g = a';
          in_h = b';
          first_g = colour_first g wg i hi;
          first_h = colour_first h wh j hj;
          twin = λ q. colour_same g wg (colour g wg i) i a' hi (colour_first g wg i hi) q ∙ t q ∙ colour_same h wh j (colour h wh j) hj b' (sym (colour_first h wh j hj)) q;
        }

  -- ---- the two walks keep step
  abbrev Item : Ref → Ref → Type 0
  Item r s = Same g.nodes r h.nodes s × InRange N r × InRange M s

  abbrev Sim : ℕ → ℕ → Type 0
  Sim k k' = (r s : Ref) (cs ds : List ℕ) → Item r s → Matched cs ds → Kept g wg cs → Kept h wh ds → unseen N cs < k → unseen M ds < k'
      → Matched (visit g.nodes (colours g.nodes) k r cs) (visit h.nodes (colours h.nodes) k' s ds)

  sim_all : (k k' : ℕ) → Sim k k' → (rs ss : List Ref) → Pointwise Item rs ss → (cs ds : List ℕ) → Matched cs ds → Kept g wg cs → Kept h wh ds
      → unseen N cs < k → unseen M ds < k' → Matched (walk g wg k rs cs) (walk h wh k' ss ds)
  unfolding visit_all
  sim_all k k' sm [] [] p cs ds m a b l l' = m
  sim_all k k' sm [] (s ∷ ss) p cs ds m a b l l' = absurd p
  sim_all k k' sm (r ∷ rs) [] p cs ds m a b l l' = absurd p
  sim_all k k' sm (r ∷ rs) (s ∷ ss) p cs ds m a b l l' =
      let t = visit g.nodes (colours g.nodes) k r cs in
      let t' = visit h.nodes (colours h.nodes) k' s ds in
      let v = visited g wg k r cs p.0.1 a l in
      let v' = visited h wh k' s ds p.0.2 b l' in
      sim_all k k' sm rs ss p.1 t t' (sm r s cs ds p.0 m a b l l') v.0.kept v'.0.kept
      (omega (arith, unseen_le N cs t v.0.ext)) (omega (arith, unseen_le M ds t' v'.0.ext))

  fields_items : (i j : ℕ) → Twin i j → Pointwise Item (refs_at g.nodes i) (refs_at h.nodes j)
  fields_items i j t = same_refs g h wg wh (λ _. 0) (λ _. 0) (λ _ _ _ _ _. refl) i j t

  sim : (k k' : ℕ) → Sim k k'
  unfolding visit
  sim zero k' r s cs ds p m a b l l' = absurd (not-suc-le-zero l)
  sim (suc k) zero r s cs ds p m a b l l' = absurd (not-suc-le-zero l')
  sim (suc k) (suc k') (obj i) (leaf y) cs ds p m a b l l' = let z : some (object _ _) ≡ some (at_leaf y) = p.0 [] in absurd (let q : ◌≡◌ {A = ℕ} 0 1 = cc in omega arith)
  sim (suc k) (suc k') (leaf x) (obj j) cs ds p m a b l l' = let z : some (at_leaf x) ≡ some (object _ _) = p.0 [] in absurd (let q : ◌≡◌ {A = ℕ} 0 1 = cc in omega arith)
  sim (suc k) (suc k') (leaf x) (leaf y) cs ds p m a b l l' = m
  sim (suc k) (suc k') (obj i) (obj j) cs ds p m a b l l' =
      go (is_in (colour g wg i) cs) (is_in (colour h wh j) ds) refl refl (same_is_in i j p.1 p.2 p.0 cs ds m)
      (sim_all k k' (sim k k') (refs_at g.nodes (colour g wg i)) (refs_at h.nodes (colour h wh j)))
    where
      c : ℕ
      c = colour g wg i

      d : ℕ
      d = colour h wh j

      cs' : List ℕ
      cs' = cs ++ (c ∷ [])

      ds' : List ℕ
      ds' = ds ++ (d ∷ [])

      twins : Pair c d
      twins = pair i j p.1 p.2 p.0

      go : (x y : Bool) → is_in c cs ≡ x → is_in d ds ≡ y → x ≡ y
          → (Pointwise Item (refs_at g.nodes c) (refs_at h.nodes d) → (us vs : List ℕ) → Matched us vs → Kept g wg us → Kept h wh vs
          → unseen N us < k → unseen M vs < k' → Matched (walk g wg k (refs_at g.nodes c) us) (walk h wh k' (refs_at h.nodes d) vs))
          → Matched (elim x as (λ _. List ℕ) [ true ↦ cs | false ↦ walk g wg k (refs_at g.nodes c) cs' ])
          (elim y as (λ _. List ℕ) [ true ↦ ds | false ↦ walk h wh k' (refs_at h.nodes d) ds' ])
      go true true e e' q all = m
      go true false e e' q all = absurd (true≢false q)
      go false true e e' q all = absurd (false≢true q)
      go false false e e' q all =
          all (fields_items c d twins.twin) cs' ds' (matched_snoc cs ds c d m twins)
          (enter_kept g wg i p.1 cs a) (enter_kept h wh j p.2 ds b)
          (omega (arith, enter_less g wg i p.1 cs e)) (omega (arith, enter_less h wh j p.2 ds e'))

  matched_map : (F G : ℕ → Node) → ((c d : ℕ) → Pair c d → F c ≡ G d) → (cs ds : List ℕ) → Matched cs ds → map F cs ≡ map G ds
  matched_map F G e [] [] m = refl
  matched_map F G e [] (d ∷ ds) m = absurd m
  matched_map F G e (c ∷ cs) [] m = absurd m
  matched_map F G e (c ∷ cs) (d ∷ ds) m = ap₂ {C = List Node} ◌∷◌ (e c d m.0) (matched_map F G e cs ds m.1)

  -- graphs that unfold to the same tree have the same value
  pub same_canon : SameTree g h → canon g ≡ canon h
  same_canon t =
      let item : Item g.root h.root = (t, wg.top, wh.top) in
      let orders : Matched (order g wg) (order h wh) =
      sim (suc N) (suc M) g.root h.root [] [] item tt (start g wg) (start h wh) (suc-le-suc (unseen_top N [])) (suc-le-suc (unseen_top M [])) in
      let agree : (i j : ℕ) → i < N → j < M → Twin i j → number g wg i ≡ number h wh j = λ i j a b e. same_place i j a b e (order g wg) (order h wh) orders in
      canon_is g wg
      ∙ ap₂ graph
      (same_rename g.nodes h.nodes N M (number g wg) (number h wh) agree g.root h.root wg.top wh.top t)
      (matched_map _ _ (λ c d p. same_look g h wg wh (number g wg) (number h wh) agree c d p.twin) (order g wg) (order h wh) orders)
      ∙ sym (canon_is h wh)

-- a value is its own value
pub canon-canon : (g : Graph) → Whole g → canon (canon g) ≡ canon g
canon-canon g w = same_canon (canon g) g (canon-whole g w) w (canon_same g w)

-- equal values unfold to the same tree
pub canon_tree : (g h : Graph) → Whole g → Whole h → canon g ≡ canon h → SameTree g h
canon_tree g h v w e p = sym (canon_same g v p) ∙ ap (λ (k : Graph). follow k.nodes k.root p) e ∙ canon_same h w p
