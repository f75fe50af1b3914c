-- Objects of one list that are not among those of another, the host: whoever leads to such an object is one, and many of them can be added to the host at once,
-- rings too, their fields turned. Who asks: merging a part into a host block. The law of one new object (Adding, distinct-more) has no source list.
-- Not here: how it is found out that an object is not among them.
use Rattle.std.proofs.Common.{ℕ, ◌≤◌, ◌<◌, arith, ◌≡◌, refl, sym, ap, ap₂, ◌∙◌, subst, List, [], ◌∷◌, length, get_or}
use native.Mathlib.Decide.{dec_lt}
use mathlib.Core.Logic.{◌⊎◌, inl, inr, ⊎_elim}
use Rattle.std.proofs.Math.Option.{Option, none, some, none-ne-some}
use Rattle.std.proofs.Math.ListN.{get_elem?, length-map, get_or-eq_default}
use Rattle.cofj.specs.Partial.{◌>>=◌}
use Rattle.cofj.specs.Values.{Ref, obj, leaf, undet, Node, node, rename, rename_node, node_at, refs_at}
use Rattle.cofj.specs.Unfolding.{object, at_leaf, child, follow, Same, InRange}
use Rattle.cofj.proofs.Basics.{at_map}
use Rattle.cofj.proofs.Trees.{renamed_same, same_child, same_count}
use Rattle.canon.specs.Layout.{Distinct}
use Rattle.canon.proofs.Nodes.{some_at, at_some}
use Rattle.values.proofs.Trees.{in_larger, leaf_same}
use Rattle.maker.specs.Sorting.{Fresh}

module _ (ps ns : List Node) (t : ℕ) (inner : (y f : ℕ) (s : Ref) → y < t → get_elem? (refs_at ns y) f ≡ some s → InRange t s) where
  -- whoever leads to a fresh object is fresh
  pub fresh_up : (x f z : ℕ) → get_elem? (refs_at ps x) f ≡ some (obj z) → Fresh ps ns t z → Fresh ps ns t x
  fresh_up x f z e n = record {
    none = λ y h q.
        let s : Ref = get_or (refs_at ns y) f (leaf undet) in
        let there : get_elem? (refs_at ns y) f ≡ some s = some_at (refs_at ns y) f (omega (arith, (at_some (refs_at ps x) f (obj z) e).1, same_count ps ns x y q)) in
        go s (inner y f s h there) (same_child ps ns (obj x) (obj y) q f (obj z) s e there);
  }
    where
      go : (s : Ref) → InRange t s → Same ps (obj z) ns s → ⊥
      go (obj w) h q = n.none w h q
      go (leaf l) h q = let d : some (object _ _) ≡ some (at_leaf l) = q [] in absurd (let u : ◌≡◌ {A = ℕ} 0 1 = cc in omega arith)

-- ---- many objects added: the host ns becomes ms, object x of ps, which New says to be one of them, object `to x` of it
module _ (ps ns ms : List Node)
    (inner : (i f : ℕ) (r : Ref) → get_elem? (refs_at ns i) f ≡ some r → InRange (length ns) r)
    (most : length ns ≤ length ms)
    (old : (i : ℕ) → i < length ns → node_at ms i ≡ node_at ns i)
    (to : ℕ → ℕ) (New : ℕ → Type 0)
    (small : (x : ℕ) → New x → to x < length ms)
    (is : (x : ℕ) → New x → node_at ms (to x) ≡ rename_node to (node_at ps x)) where
  -- object z of ps is one of the host's
  pub record Told (z : ℕ) : Type 0 where
    pub low : to z < length ns
    pub same : Same ps (obj z) ns (obj (to z))

  -- where object i of the new host comes from
  pub record Source (i : ℕ) : Type 0 where
    pub from : ℕ
    pub new : New from
    pub at : to from ≡ i

  module _ (fields : (x f z : ℕ) → New x → get_elem? (refs_at ps x) f ≡ some (obj z) → New z ⊎ Told z) where
    inside : (r : Ref) → InRange (length ns) r → (k : ℕ) (r' : Ref) → child ns r k ≡ some r' → InRange (length ns) r'
    inside (obj i) q k r' z = inner i k r' z
    inside (leaf l) q k r' z = absurd (none-ne-some r' z)

    -- what was there unfolds as before
    pub old_trees : (r : Ref) → InRange (length ns) r → (p : List ℕ) → follow ms r p ≡ follow ns r p
    old_trees r h p =
        sym (renamed_same ns ms (λ i. i) (λ i. i) (InRange (length ns)) (λ _. Unit {0}) inside (λ _ _ _ _ _. tt)
        (λ i j l u z. ap (rename_node (λ k. k)) (sym (old i l) ∙ ap (node_at ms) z)) p r r h tt refl)

    -- and each object added, or told before, as its source
    told_tree : (p : List ℕ) (z : ℕ) → Told z → follow ps (obj z) p ≡ follow ms (obj (to z)) p
    told_tree p z w = w.same p ∙ sym (old_trees (obj (to z)) w.low p)

    label : (z : ℕ) → New z ⊎ Told z → follow ps (obj z) [] ≡ follow ms (obj (to z)) []
    label z (inl n) = ap some (ap₂ object (sym (ap (λ (x : Node). x.cls) (is z n))) (sym (ap (λ (x : Node). length x.refs) (is z n) ∙ length-map (refs_at ps z) (rename to))))
    label z (inr w) = told_tree [] z w

    field : (f : ℕ) (p : List ℕ) (z : ℕ) → ((y : ℕ) → New y ⊎ Told y → follow ps (obj y) p ≡ follow ms (obj (to y)) p) → New z ⊎ Told z → follow ps (obj z) (f ∷ p) ≡ follow ms (obj (to z)) (f ∷ p)
    field f p z ih (inr w) = told_tree (f ∷ p) z w
    field f p z ih (inl n) =
        go (get_elem? (refs_at ps z) f) refl
        ∙ sym (ap (λ (x : Node). get_elem? x.refs f >>= (λ s. follow ms s p)) (is z n) ∙ ap (λ (o : Option Ref). o >>= (λ s. follow ms s p)) (at_map (rename to) (refs_at ps z) f))
      where
        ref : (r : Ref) → get_elem? (refs_at ps z) f ≡ some r → follow ps r p ≡ follow ms (rename to r) p
        ref (obj y) e = ih y (fields z f y n e)
        ref (leaf l) e = leaf_same ps ms (leaf l) tt p

        go : (o : Option Ref) → get_elem? (refs_at ps z) f ≡ o → o >>= (λ s. follow ps s p) ≡ (o >>= (λ s. some (rename to s))) >>= (λ s. follow ms s p)
        go none e = refl
        go (some r) e = ref r e

    pub new_trees : (p : List ℕ) (z : ℕ) → New z ⊎ Told z → follow ps (obj z) p ≡ follow ms (obj (to z)) p
    new_trees [] z w = label z w
    new_trees (f ∷ p) z w = field f p z (λ y u. new_trees p y u) w

    -- the objects of the new host refer to one another
    pub inner_many : ((i : ℕ) → length ns ≤ i → i < length ms → Source i) → (i f : ℕ) (r : Ref) → get_elem? (refs_at ms i) f ≡ some r → InRange (length ms) r
    inner_many src i f r e = go (dec_lt i (length ns)) (dec_lt i (length ms))
      where
        back : (x : ℕ) → New x → (q : Ref) → get_elem? (refs_at ps x) f ≡ some q → InRange (length ms) (rename to q)
        back x n (obj z) u = ⊎_elim (λ m. small z m) (λ w. omega (arith, w.low)) (fields x f z n u)
        back x n (leaf l) u = tt

        pick : (x : ℕ) → New x → (o : Option Ref) → get_elem? (refs_at ps x) f ≡ o → o >>= (λ q. some (rename to q)) ≡ some r → InRange (length ms) r
        pick x n none u v = absurd (none-ne-some r v)
        pick x n (some q) u v = subst (InRange (length ms)) (let w : rename to q ≡ r = cc in w) (back x n q u)

        go : Dec (i < length ns) → Dec (i < length ms) → InRange (length ms) r
        go (yes h) l = in_larger (length ns) (length ms) r most (inner i f r (sym (ap (λ (x : Node). get_elem? x.refs f) (old i h)) ∙ e))
        go (no h) (yes l) =
            let s = src i (omega (arith, h)) l in
            pick s.from s.new (get_elem? (refs_at ps s.from) f) refl
            (sym (at_map (rename to) (refs_at ps s.from) f) ∙ sym (ap (λ (x : Node). get_elem? x.refs f) (ap (node_at ms) (sym s.at) ∙ is s.from s.new)) ∙ e)
        go (no h) (no l) = absurd (none-ne-some r (sym (ap (λ (x : Node). get_elem? x.refs f) (get_or-eq_default ms (node 0 []) {n = i} (omega (arith, l)))) ∙ e))

    -- no two equal
    pub distinct_many : Distinct ns → ((x : ℕ) → New x → Fresh ps ns (length ns) x) → ((x y : ℕ) → New x → New y → Same ps (obj x) ps (obj y) → x ≡ y)
        → ((i : ℕ) → length ns ≤ i → i < length ms → Source i) → Distinct ms
    distinct_many d fresh apart src = record { apart = λ i j h l e. go i j h l e (dec_lt i (length ns)) (dec_lt j (length ns)) }
      where
        -- one new, one old
        mixed : (i j : ℕ) → Source i → j < length ns → Same ms (obj i) ms (obj j) → ⊥
        mixed i j s h e = (fresh s.from s.new).none j h (λ p. new_trees p s.from (inl s.new) ∙ ap (λ (k : ℕ). follow ms (obj k) p) s.at ∙ e p ∙ old_trees (obj j) h p)

        go : (i j : ℕ) → i < length ms → j < length ms → Same ms (obj i) ms (obj j) → Dec (i < length ns) → Dec (j < length ns) → i ≡ j
        go i j h l e (yes a) (yes b) = d.apart i j a b (λ p. sym (old_trees (obj i) a p) ∙ e p ∙ old_trees (obj j) b p)
        go i j h l e (yes a) (no b) = absurd (mixed j i (src j (omega (arith, b)) l) a (λ p. sym (e p)))
        go i j h l e (no a) (yes b) = absurd (mixed i j (src i (omega (arith, a)) h) b e)
        go i j h l e (no a) (no b) =
            let s = src i (omega (arith, a)) h in
            let u = src j (omega (arith, b)) l in
            let z : s.from ≡ u.from =
            apart s.from u.from s.new u.new
            (λ p. new_trees p s.from (inl s.new) ∙ ap (λ (k : ℕ). follow ms (obj k) p) s.at ∙ e p
            ∙ sym (new_trees p u.from (inl u.new) ∙ ap (λ (k : ℕ). follow ms (obj k) p) u.at)) in
            sym s.at ∙ ap to z ∙ u.at
