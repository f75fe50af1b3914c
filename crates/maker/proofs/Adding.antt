-- A new object after the objects ns, which are distinct: its parts are among them. If none of them is the new object, they are distinct with it.
use Rattle.std.proofs.Common.{ℕ, zero, suc, ◌+◌, ◌<◌, arith, ◌≡◌, refl, sym, ap, ap₂, ◌∙◌, subst, List, [], ◌∷◌, ◌++◌, length, length-append, get_or-append-add}
use native.Mathlib.Decide.{dec_lt}
use Rattle.std.proofs.Math.Option.{Option, none, some, none-ne-some}
use Rattle.std.proofs.Math.ListN.{get_elem?, length-map, get_or-append, get_or-eq_default}
use Rattle.cofj.specs.Partial.{◌>>=◌}
use Rattle.cofj.specs.Values.{Ref, obj, leaf, Node, node, Graph, graph, rename_node, node_at, refs_at, canon, make}
use Rattle.cofj.specs.Unfolding.{object, child, follow, Same, InRange, AllWhole}
use Rattle.cofj.proofs.Trees.{renamed_same, same_cls, same_count, same_child, same_rename}
use Rattle.cofj.proofs.Canon.{rename_id}
use Rattle.canon.specs.Layout.{Distinct}
use Rattle.values.proofs.Trees.{in_larger, made_as}
use Rattle.maker.specs.Adding.{roots}

abbrev pub more : List Node → Node → List Node
more ns top = ns ++ (top ∷ [])

-- objects that are the same are equal, and so are references to them
module _ (ns : List Node) (d : Distinct ns) where
  ref_equal : (r s : Ref) → InRange (length ns) r → InRange (length ns) s → Same ns r ns s → r ≡ s
  ref_equal r s a b e = sym (rename_id r) ∙ same_rename ns ns (length ns) (length ns) (λ i. i) (λ i. i) d.apart r s a b e ∙ rename_id s

  pub refs_equal : (rs ss : List Ref) → ((f : ℕ) (r : Ref) → get_elem? rs f ≡ some r → InRange (length ns) r) → ((f : ℕ) (r : Ref) → get_elem? ss f ≡ some r → InRange (length ns) r)
      → length rs ≡ length ss → ((f : ℕ) (r s : Ref) → get_elem? rs f ≡ some r → get_elem? ss f ≡ some s → Same ns r ns s) → rs ≡ ss
  refs_equal [] [] a b l h = refl
  refs_equal [] (s ∷ ss) a b l h = absurd (omega arith)
  refs_equal (r ∷ rs) [] a b l h = absurd (omega arith)
  refs_equal (r ∷ rs) (s ∷ ss) a b l h =
      ap₂ {C = List Ref} ◌∷◌ (ref_equal r s (a 0 r refl) (b 0 s refl) (h 0 r s refl refl))
      (refs_equal rs ss (λ f. a (suc f)) (λ f. b (suc f)) (omega arith) (λ f. h (suc f)))

module _ (top : Node) (ns : List Node)
    (inner : (i f : ℕ) (r : Ref) → get_elem? (refs_at ns i) f ≡ some r → InRange (length ns) r)
    (above : (f : ℕ) (r : Ref) → get_elem? top.refs f ≡ some r → InRange (length ns) r) where
  pub size_more : length (more ns top) ≡ length ns + 1
  size_more = length-append ns (top ∷ [])

  pub at_old : (i : ℕ) → i < length ns → node_at (more ns top) i ≡ node_at ns i
  at_old i h = get_or-append ns (top ∷ []) (node 0 []) i h

  pub at_new : node_at (more ns top) (length ns) ≡ top
  at_new = let e : length ns + 0 ≡ length ns = omega arith in ap (node_at (more ns top)) (sym e) ∙ get_or-append-add ns (top ∷ []) 0 (node 0 [])

  at_after : (i : ℕ) → length ns < i → node_at (more ns top) i ≡ node 0 []
  at_after i h = get_or-eq_default (more ns top) (node 0 []) {n = i} (omega (arith, size_more))

  pub inner_more : (i f : ℕ) (r : Ref) → get_elem? (refs_at (more ns top) i) f ≡ some r → InRange (length (more ns top)) r
  inner_more i f r e = subst (λ (k : ℕ). InRange k r) (sym size_more) (go (dec_lt i (length ns)) (dec_lt (length ns) i))
    where
      go : Dec (i < length ns) → Dec (length ns < i) → InRange (length ns + 1) r
      go (yes h) d = in_larger (length ns) (length ns + 1) r (omega arith) (inner i f r (sym (ap (λ (x : Node). get_elem? x.refs f) (at_old i h)) ∙ e))
      go (no h) (yes l) = absurd (none-ne-some r (sym (ap (λ (x : Node). get_elem? x.refs f) (at_after i l)) ∙ e))
      go (no h) (no l) =
          let z : i ≡ length ns = omega (arith, h, l) in
          in_larger (length ns) (length ns + 1) r (omega arith) (above f r (sym (ap (λ (x : Node). get_elem? x.refs f) (ap (node_at (more ns top)) z ∙ at_new)) ∙ e))

  -- ---- trees
  inside : (r : Ref) → InRange (length ns) r → (k : ℕ) (r' : Ref) → child ns r k ≡ some r' → InRange (length ns) r'
  inside (obj i) q k r' z = inner i k r' z
  inside (leaf l) q k r' z = absurd (none-ne-some r' z)

  pub old_tree : (r : Ref) → InRange (length ns) r → (p : List ℕ) → follow (more ns top) r p ≡ follow ns r p
  old_tree r h p =
      sym (renamed_same ns (more ns top) (λ i. i) (λ i. i) (InRange (length ns)) (λ _. Unit {0}) inside (λ _ _ _ _ _. tt)
      (λ i j l u z. ap (rename_node (λ k. k)) (sym (at_old i l) ∙ ap (node_at (more ns top)) z)) p r r h tt refl)

  pub follow_new : (f : ℕ) (p : List ℕ) → follow (more ns top) (obj (length ns)) (f ∷ p) ≡ get_elem? top.refs f >>= (λ s. follow ns s p)
  follow_new f p = ap (λ (x : Node). get_elem? x.refs f >>= (λ s. follow (more ns top) s p)) at_new ∙ go (get_elem? top.refs f) refl
    where
      go : (o : Option Ref) → get_elem? top.refs f ≡ o → o >>= (λ s. follow (more ns top) s p) ≡ o >>= (λ s. follow ns s p)
      go none e = refl
      go (some s) e = old_tree s (above f s e) p

  -- ---- no two equal
  module _ (d : Distinct ns) (miss : (j : ℕ) → j < length ns → node_at ns j ≡ top → ⊥) where
    new_alike : (j : ℕ) → j < length ns → Same (more ns top) (obj (length ns)) ns (obj j) → node_at ns j ≡ top
    new_alike j h e =
        ap₂ node (sym (same_cls (more ns top) ns (length ns) j e) ∙ ap (λ (x : Node). x.cls) at_new)
        (sym (refs_equal ns d top.refs (refs_at ns j) above (inner j)
        (ap (λ (x : Node). length x.refs) (sym at_new) ∙ same_count (more ns top) ns (length ns) j e)
        (λ f r s er es p.
        sym (old_tree r (above f r er) p)
        ∙ same_child (more ns top) ns (obj (length ns)) (obj j) e f r s (ap (λ (x : Node). get_elem? x.refs f) at_new ∙ er) es p)))

    pub distinct_more : Distinct (more ns top)
    distinct_more = record { apart = λ i j h h' e. go i j (dec_lt i (length ns)) (dec_lt j (length ns)) (subst (λ (k : ℕ). i < k) size_more h) (subst (λ (k : ℕ). j < k) size_more h') e }
      where
        new : (i j : ℕ) → i ≡ length ns → j < length ns → Same (more ns top) (obj i) (more ns top) (obj j) → ⊥
        new i j z h e = miss j h (new_alike j h (λ p. ap (λ (k : ℕ). follow (more ns top) (obj k) p) (sym z) ∙ e p ∙ old_tree (obj j) h p))

        go : (i j : ℕ) → Dec (i < length ns) → Dec (j < length ns) → i < length ns + 1 → j < length ns + 1 → Same (more ns top) (obj i) (more ns top) (obj j) → i ≡ j
        go i j (yes a) (yes b) h h' e = d.apart i j a b (λ p. sym (old_tree (obj i) a p) ∙ e p ∙ old_tree (obj j) b p)
        go i j (yes a) (no b) h h' e = absurd (new j i (omega (arith, b)) a (λ p. sym (e p)))
        go i j (no a) (yes b) h h' e = absurd (new i j (omega (arith, a)) b e)
        go i j (no a) (no b) h h' e = omega (arith, a, b)

-- ---- the values of the fields, among the objects ns
pub record Fit (ns : List Node) (g : Graph) : Type 0 where
  pub low : InRange (length ns) g.root
  pub tree : (p : List ℕ) → follow ns g.root p ≡ follow g.nodes g.root p

abbrev pub AllFit : List Node → List Graph → Type 0
AllFit ns [] = Unit {0}
AllFit ns (g ∷ gs) = Fit ns g × AllFit ns gs

module _ (ns : List Node) where
  pub roots_low : (gs : List Graph) → AllFit ns gs → (f : ℕ) (r : Ref) → get_elem? (roots gs) f ≡ some r → InRange (length ns) r
  roots_low [] a f r e = absurd (none-ne-some r e)
  roots_low (g ∷ gs) a zero r e = subst (InRange (length ns)) (let z : g.root ≡ r = cc in z) a.0.low
  roots_low (g ∷ gs) a (suc f) r e = roots_low gs a.1 f r e

  roots-follow : (gs : List Graph) → AllFit ns gs → (f : ℕ) (p : List ℕ) → get_elem? (roots gs) f >>= (λ s. follow ns s p) ≡ get_elem? gs f >>= (λ v. follow v.nodes v.root p)
  roots-follow [] a f p = refl
  roots-follow (g ∷ gs) a zero p = a.0.tree p
  roots-follow (g ∷ gs) a (suc f) p = roots-follow gs a.1 f p

module _ (c : ℕ) (gs : List Graph) (ns : List Node) (ws : AllWhole gs) (fits : AllFit ns gs)
    (inner : (i f : ℕ) (r : Ref) → get_elem? (refs_at ns i) f ≡ some r → InRange (length ns) r) where
  abbrev pub top : Node
  top = node c (roots gs)

  -- one of the objects is the new one
  pub make_found : (k : ℕ) → k < length ns → node_at ns k ≡ top → make c gs ≡ canon (graph (obj k) ns)
  make_found k h e =
      made_as c gs ws (graph (obj k) ns) (record { top = h; inner = inner })
      (ap (λ (x : Node). some (object x.cls (length x.refs))) e ∙ ap (λ (l : ℕ). some (object c l)) (length-map gs (λ g. g.root)))
      (λ f p. ap (λ (x : Node). get_elem? x.refs f >>= (λ s. follow ns s p)) e ∙ roots-follow ns gs fits f p)

  -- the new one is after them
  pub make_new : make c gs ≡ canon (graph (obj (length ns)) (more ns top))
  make_new =
      let above = roots_low ns gs fits in
      made_as c gs ws (graph (obj (length ns)) (more ns top)) (record { top = omega (arith, size_more top ns inner above); inner = inner_more top ns inner above })
      (ap (λ (x : Node). some (object x.cls (length x.refs))) (at_new top ns inner above) ∙ ap (λ (l : ℕ). some (object c l)) (length-map gs (λ g. g.root)))
      (λ f p. follow_new top ns inner above f p ∙ roots-follow ns gs fits f p)
