-- An object entered into a block: found there or added, and what that leaves as it was; the laws of `enter`, `enter_new`, `enter_over`, `lies_from` and `refers_from`.
-- Not here: the bytes of one more object (Beside), parts of other blocks (Brings).
use Rattle.std.proofs.Common.{ℕ, ◌+◌, ◌*◌, ◌/◌, ◌%◌, ◌<◌, ◌≤◌, arith, ◌≡◌, refl, sym, ap, ◌∙◌, subst, Bool, true, false, cond, ltb, List, length, get_or, lt-ltb, le-ltb, ltb-true}
use native.Mathlib.Decide.{dec_lt}
use Rattle.std.proofs.Math.Bool.{false≢true}
use mathlib.Core.Logic.{◌⊎◌, inl, inr}
use Rattle.std.proofs.Math.Option.{some}
use Rattle.std.proofs.Math.ListN.{get_elem?}
use Rattle.cofj.specs.Values.{Ref, Node, node_at, refs_at}
use Rattle.cofj.specs.Unfolding.{follow, Same, InRange}
use Rattle.canon.specs.Figures.{object_size, head_size, code_count, first_leaf, capacity, count_at, level_at, reach_at, block_size, three_bytes}
use Rattle.canon.specs.Layout.{node_in, nodes_in, count_in, level_in, reach_in, objects_in, Block, Inside, Outside}
use Rattle.canon.proofs.Nodes.{byte_of, packed_byte, length_nodes, at_nodes}
use Rattle.values.proofs.Trees.{in_larger}
use Rattle.values.proofs.Copies.{block_moves}
use Rattle.values.proofs.Selecting.{unchanged}
use Rattle.std.specs.declared.option.Option.{Option}
use Rattle.std.specs.declared.option.Option.TheVariants.{Some, None}
use Rattle.maker.specs.Adding.{codes_of, object_of, CodesLevel, Missed, Found, Appended, Added}
use Rattle.maker.specs.Merging.{Grown, Fits, Standing, Entered, lies_from, refers_from}
use Rattle.maker.proofs.Answers.{only, never_none, never_some}
use Rattle.maker.proofs.Codes.{object_code}
use Rattle.maker.proofs.Adding.{more, old_tree, at_new}
use Rattle.maker.proofs.Beside.{outside_more, add_here, objects_are, block_added}

-- ---- a block that has grown, and the others
pub grown_none : (host : ℕ) (W : List ℕ) → Block W host → Grown host W W
grown_none host W bk = record { outside = unchanged host W; block = bk; most = omega arith; trees = λ r h p. refl }

pub grown_more : (host : ℕ) (W W1 W2 : List ℕ) → Grown host W W1 → Grown host W1 W2 → Grown host W W2
grown_more host W W1 W2 a b = record {
  outside = outside_more host W W1 W2 a.outside b.outside;
  block = b.block;
  most = omega (arith, a.most, b.most);
  trees = λ r h p. a.trees r h p ∙ b.trees r (in_larger (count_in W host) (count_in W1 host) r a.most h) p;
}

module _ (host : ℕ) (W W' : List ℕ) (o : Outside host W W') (b : ℕ) (apart : (b ≡ host) → ⊥) where
  pub other_byte : (p : ℕ) → block_size * b ≤ p → p < block_size * b + block_size → get_or W' p 0 ≡ get_or W p 0
  other_byte p l m = go (dec_lt b host)
    where
      go : Dec (b < host) → get_or W' p 0 ≡ get_or W p 0
      go (yes q) = o.below p (omega arith)
      go (no q) = o.above p (omega (arith, q, apart))

  pub other_block : Block W b → (objects_in W' b ≡ objects_in W b) × Block W' b
  unfolding count_in level_in reach_in
  other_block bk =
      block_moves W W' b b (other_byte (block_size * b + count_at) (omega arith) (omega arith)) (other_byte (block_size * b + level_at) (omega arith) (omega arith)) (other_byte (block_size * b + reach_at) (omega arith) (omega arith))
      (λ k h. other_byte (block_size * b + k) (omega arith) (omega (arith, bk.small))) (omega (arith, bk.room, o.same)) bk

  pub other_inside : (i : ℕ) → Inside W b i → Inside W' b i
  unfolding count_in
  other_inside i ib = record { block = (other_block ib.block).1; low = omega (arith, ib.low, other_byte (block_size * b + count_at) (omega arith) (omega arith)) }

-- ---- entered
module _ (W : List ℕ) (host : ℕ) (T : List ℕ) (bk : Block W host) (ft : Fits W host T) where
  pub enter_count : get_or W (block_size * host + count_at) 0 ≡ count_in W host
  unfolding count_in
  enter_count = refl

  pub enter_full : Missed W host T (count_in W host) → capacity ≤ get_or W (block_size * host + count_at) 0 → Entered W host T W None
  unfolding count_in
  enter_full ms h =
      let e : get_or W (block_size * host + count_at) 0 ≡ capacity = omega (arith, bk.small) in
      record {
        grown = grown_none host W bk;
        standing = never_some _;
        from = λ y l. inl l;
        full = λ _. (e, subst (Missed W host T) e ms, refl);
      }

  module _ (a : Option ℕ) (fd : Found W host (get_or W (block_size * host + count_at) 0) T a) where
    pub enter_found : (k : ℕ) → a ≡ Some k → Entered W host T W (Some k)
    unfolding count_in objects_in
    enter_found k ea = let hit = fd.hit k ea in record {
      grown = grown_none host W bk;
      standing = only (Standing W host T) k (record { low = hit.low; is = at_nodes W (block_size * host) (get_or W (block_size * host + count_at) 0) k hit.low ∙ hit.is });
      from = λ y l. inl l;
      full = never_none k;
    }

    pub enter_missed : a ≡ None → Missed W host T (count_in W host)
    unfolding count_in
    enter_missed ge = fd.miss ge

-- added
module _ (W : List ℕ) (host c n w v : ℕ) (bk : Block W host) (ft : Fits W host (object_of c n w v)) where
  abbrev T : List ℕ
  T = object_of c n w v

  module _ (ms : Missed W host (object_of c n w v) (count_in W host)) (h : get_or W (block_size * host + count_at) 0 < capacity) (l : ℕ) (D : List ℕ) (lv : CodesLevel w l) (le : get_or W (block_size * host + level_at) 0 ≤ l)
      (a : Appended W host (get_or W (block_size * host + count_at) 0) (object_of c n w v) l D) where
    abbrev t : ℕ
    t = get_or W (block_size * host + count_at) 0

    abbrev ns : List Node
    ns = nodes_in W (block_size * host) t

    inner : (i f : ℕ) (r : Ref) → get_elem? (refs_at ns i) f ≡ some r → InRange (length ns) r
    unfolding count_in objects_in
    inner = bk.whole.inner

    above : (f : ℕ) (r : Ref) → get_elem? (node_in T 0).refs f ≡ some r → InRange (length ns) r
    unfolding count_in
    above f r e = subst (λ (m : ℕ). InRange m r) (sym (length_nodes W (block_size * host) t)) (ft.low f r e)

    miss : (j : ℕ) → j < length ns → node_at ns j ≡ node_in T 0 → ⊥
    unfolding count_in
    miss j q e =
        let m : j < t = omega (arith, length_nodes W (block_size * host) t) in
        ms.none j m (sym (at_nodes W (block_size * host) t j m) ∙ e)

    added : Added W host t T host D
    unfolding count_in
    added = add_here W host c n w v host t l bk refl lv le D refl a

    are : objects_in D host ≡ more ns (node_in T 0)
    unfolding count_in objects_in
    are = objects_are W host t T host D bk.packed ft.packed (omega arith) inner above bk.distinct miss bk.room added

    grown_block : Block D host
    unfolding count_in objects_in
    grown_block = block_added W host t T host D bk.packed ft.packed (omega arith) inner above bk.distinct miss bk.room added

    kept_trees : (r : Ref) → InRange (count_in W host) r → Same (objects_in W host) r (objects_in D host) r
    unfolding count_in objects_in
    kept_trees r q p =
        sym (old_tree (node_in T 0) ns inner above r (subst (λ (m : ℕ). InRange m r) (sym (length_nodes W (block_size * host) t)) q) p)
        ∙ ap (λ (x : List Node). follow x r p) (sym are)

    pub enter_new_lem : Entered W host (object_of c n w v) D (Some (get_or W (block_size * host + count_at) 0))
    unfolding count_in
    enter_new_lem = record {
      grown = record { outside = a.outside; block = grown_block; most = omega (arith, a.count); trees = kept_trees };
      standing = only (Standing D host (object_of c n w v)) t (record {
        low = omega (arith, a.count);
        is = ap (λ (x : List Node). node_at x t) are ∙ ap (node_at (more ns (node_in T 0))) (sym (length_nodes W (block_size * host) t)) ∙ at_new (node_in T 0) ns inner above;
      });
      from = λ y l. from y l (dec_lt y t);
      full = never_none t;
    }
      where
        from : (y : ℕ) → y < get_or D (block_size * host + count_at) 0 → Dec (y < t) → (y < t) ⊎ (◌≡◌ {A = Option ℕ} (Some t) (Some y))
        from y l (yes q) = inl q
        from y l (no q) = let e : t ≡ y = omega (arith, a.count, q) in inr (ap Some e)

-- ---- an object that refers to one that none refers to
module _ (c f : ℕ) where
  pub lies_not : c < f → false ≡ lies_from c f
  unfolding lies_from
  lies_not h = rw (lt-ltb c f h)

  pub lies_tested : f ≤ c → ltb c first_leaf ≡ lies_from c f
  unfolding lies_from
  lies_tested h = rw (le-ltb c f h)

  lies_is : lies_from c f ≡ true → (f ≤ c) × (c < first_leaf)
  unfolding lies_from
  lies_is e = go (dec_lt c f)
    where
      go : Dec (c < f) → (f ≤ c) × (c < first_leaf)
      go (yes h) = absurd (false≢true (lies_not h ∙ e))
      go (no h) = (omega (arith, h), ltb-true c first_leaf (lies_tested (omega (arith, h)) ∙ e))

module _ (w f : ℕ) where
  module _ (b : Bool) (e : b ≡ lies_from (w % 256) f) where
    pub refers_first : b ≡ true → true ≡ refers_from w f
    unfolding refers_from
    refers_first h = rw (← e, h)

    module _ (n : b ≡ false) (b1 : Bool) (e1 : b1 ≡ lies_from (w / 256 % 256) f) where
      pub refers_second : b1 ≡ true → true ≡ refers_from w f
      unfolding refers_from
      refers_second h = rw (← e, n, ← e1, h)

      module _ (n1 : b1 ≡ false) (b2 : Bool) (e2 : b2 ≡ lies_from (w / 65536 % 256) f) where
        pub refers_third : b2 ≡ true → true ≡ refers_from w f
        unfolding refers_from
        refers_third h = rw (← e, n, ← e1, n1, ← e2, h)

        pub refers_last : b2 ≡ false → (b3 : Bool) → b3 ≡ lies_from (w / three_bytes) f → b3 ≡ refers_from w f
        unfolding refers_from
        refers_last h b3 e3 = rw (← e, n, ← e1, n1, ← e2, h) e3

  -- a code that is an object's, of number f or a higher one
  record From : Type 0 where
    place : ℕ
    low : place < code_count
    high : f ≤ get_or (codes_of w) place 0
    object : get_or (codes_of w) place 0 < first_leaf

  refers_from_lem : refers_from w f ≡ true → From
  unfolding refers_from codes_of
  refers_from_lem e = go (lies_from (w % 256) f) refl (lies_from (w / 256 % 256) f) refl (lies_from (w / 65536 % 256) f) refl e
    where
      at : (i : ℕ) → i < code_count → lies_from (get_or (codes_of w) i 0) f ≡ true → From
      at i l q = let z = lies_is (get_or (codes_of w) i 0) f q in record { place = i; low = l; high = z.0; object = z.1 }

      go : (a : Bool) → lies_from (w % 256) f ≡ a → (b : Bool) → lies_from (w / 256 % 256) f ≡ b → (c : Bool) → lies_from (w / 65536 % 256) f ≡ c
          → cond a true (cond b true (cond c true (lies_from (w / three_bytes) f))) ≡ true → From
      go true ea b eb c ec q = at 0 (omega arith) ea
      go false ea true eb c ec q = at 1 (omega arith) eb
      go false ea false eb true ec q = at 2 (omega arith) ec
      go false ea false eb false ec q = at 3 (omega arith) q

pub fresh_missed : (W : List ℕ) (host c n w v : ℕ) → Block W host → Fits W host (object_of c n w v) → (b : Bool) → b ≡ refers_from w (get_or W (block_size * host + reach_at) 0) → b ≡ true
    → Missed W host (object_of c n w v) (count_in W host)
unfolding reach_in
fresh_missed W host c n w v bk ft b eb h = record { none = none }
  where
    fr : From w (get_or W (block_size * host + reach_at) 0)
    fr = refers_from_lem w (get_or W (block_size * host + reach_at) 0) (sym eb ∙ h)

    k : ℕ
    k = 2 + fr.place

    none : (j : ℕ) → j < count_in W host → node_in W (block_size * host + object_size * j) ≡ node_in (object_of c n w v) 0 → ⊥
    none j l e =
        let z : block_size * host + object_size * j + head_size + fr.place ≡ block_size * host + object_size * j + k = omega arith in
        let y : 0 + k ≡ 2 + fr.place = omega arith in
        let same : get_or W (block_size * host + object_size * j + head_size + fr.place) 0 ≡ get_or (codes_of w) fr.place 0 =
        ap (λ (x : ℕ). get_or W x 0) z ∙ packed_byte W (block_size * host + object_size * j) (bk.packed j l) k (omega (arith, fr.low)) ∙ ap (λ (x : Node). byte_of x k) e
        ∙ sym (packed_byte (object_of c n w v) 0 ft.packed k (omega (arith, fr.low))) ∙ ap (λ (x : ℕ). get_or (object_of c n w v) x 0) y ∙ object_code c n w v fr.place fr.low in
        absurd (omega (arith, fr.high, same, bk.reach j fr.place l fr.low (omega (arith, fr.object, same))))
