-- Marks bound to an object: the tree, and the objects that stay distinct where nobody refers to it.
-- Not here: how the objects lie in bytes (Bindings).
use Rattle.std.proofs.Common.{ℕ, ◌<◌, arith, ◌≡◌, refl, sym, ap, ◌∙◌, Bool, true, false, List, [], ◌∷◌, eqb, length, eqb-true}
use mathlib.Core.Logic.{◌⊎◌, inl, inr}
use Rattle.std.proofs.Math.Option.{Option, none, some, none-ne-some}
use Rattle.std.proofs.Math.ListN.{get_elem?, length-map}
use Rattle.cofj.specs.Partial.{◌>>=◌}
use Rattle.cofj.specs.Values.{Ref, obj, leaf, Leaf, mark, undet, num, Node, refs_at, bind_leaf, bind}
use Rattle.cofj.specs.Unfolding.{object, at_leaf, label_at, child, follow, Same, InRange, follow_bound}
use Rattle.cofj.proofs.Operations.{bound_node, bound_nodes, bound_follow}
use Rattle.canon.specs.Layout.{Distinct}

-- ---- a leaf bound
module _ (x i : ℕ) where
  pub bind_this : (k : ℕ) → eqb k x ≡ true → bind x (obj i) (leaf (mark k)) ≡ obj i
  bind_this k q = ap (λ (t : Bool). elim t as (λ _. Ref) [ true ↦ obj i | false ↦ leaf (mark k) ]) q

  pub bind_other : (k : ℕ) → eqb k x ≡ false → bind x (obj i) (leaf (mark k)) ≡ leaf (mark k)
  bind_other k q = ap (λ (t : Bool). elim t as (λ _. Ref) [ true ↦ obj i | false ↦ leaf (mark k) ]) q

  -- the mark itself is the object, any other leaf stays
  bind_leaf_lem : (l : Leaf) → ((l ≡ mark x) × (bind_leaf x (obj i) l ≡ obj i)) ⊎ (bind_leaf x (obj i) l ≡ leaf l)
  bind_leaf_lem (mark k) = go (eqb k x) refl
    where
      go : (t : Bool) → eqb k x ≡ t → ((mark k ≡ mark x) × (bind_leaf x (obj i) (mark k) ≡ obj i)) ⊎ (bind_leaf x (obj i) (mark k) ≡ leaf (mark k))
      go true q = inl (ap mark (eqb-true k x q), bind_this k q)
      go false q = inr (bind_other k q)
  bind_leaf_lem undet = inr refl
  bind_leaf_lem (num n) = inr refl

-- ---- objects that are distinct stay so if nobody refers to the one that the mark is bound to, and no other becomes equal to it
module _ (ns : List Node) (x i : ℕ)
    (inner : (j f : ℕ) (r : Ref) → get_elem? (refs_at ns j) f ≡ some r → InRange (length ns) r)
    (free : (j f : ℕ) (r : Ref) → get_elem? (refs_at ns j) f ≡ some r → r ≡ obj i → ⊥)
    (only : (k : ℕ) → k < length ns → Same (bound_nodes x i ns) (obj i) (bound_nodes x i ns) (obj k) → k ≡ i) where
  -- a reference that a field may have
  record Field (r : Ref) : Type 0 where
    low : InRange (length ns) r
    other : r ≡ obj i → ⊥

  -- they unfold to the same tree once bound
  record Alike (r s : Ref) : Type 0 where
    tree : (p : List ℕ) → follow_bound x (obj i) ns r p ≡ follow_bound x (obj i) ns s p

  turn : (r s : Ref) → Alike r s → Alike s r
  turn r s e = record { tree = λ p. sym (e.tree p) }

  same_bound : (r s : Ref) → bind x (obj i) r ≡ bind x (obj i) s → (p : List ℕ) → follow_bound x (obj i) ns r p ≡ follow_bound x (obj i) ns s p
  same_bound r s z [] = ap (λ (y : Ref). some (label_at ns y)) z
  same_bound r s z (f ∷ p) = ap (λ (y : Ref). child ns y f >>= (λ a. follow_bound x (obj i) ns a p)) z

  label : (l : Leaf) (r : Ref) → bind_leaf x (obj i) l ≡ r → some (label_at ns (bind_leaf x (obj i) l)) ≡ some (label_at ns r)
  label l r q = ap (λ (y : Ref). some (label_at ns y)) q

  leaf_object : (l : Leaf) (a : ℕ) → Field (obj a) → Alike (leaf l) (obj a) → ⊥
  leaf_object l a h e = go (bind_leaf_lem x i l)
    where
      go : ((l ≡ mark x) × (bind_leaf x (obj i) l ≡ obj i)) ⊎ (bind_leaf x (obj i) l ≡ leaf l) → ⊥
      go (inl q) =
          h.other (ap obj (only a h.low
          (λ p. bound_follow x i ns p (obj i) ∙ sym (same_bound (leaf l) (obj i) q.1 p) ∙ e.tree p ∙ sym (bound_follow x i ns p (obj a)))))
      go (inr q) = let z : some (at_leaf l) ≡ some (object _ _) = sym (label l (leaf l) q) ∙ e.tree [] in let y : ◌≡◌ {A = ℕ} 0 1 = cc in omega arith

  leaf_leaf : (l m : Leaf) → Alike (leaf l) (leaf m) → leaf l ≡ leaf m
  leaf_leaf l m e = go (bind_leaf_lem x i l) (bind_leaf_lem x i m)
    where
      go : ((l ≡ mark x) × (bind_leaf x (obj i) l ≡ obj i)) ⊎ (bind_leaf x (obj i) l ≡ leaf l) → ((m ≡ mark x) × (bind_leaf x (obj i) m ≡ obj i)) ⊎ (bind_leaf x (obj i) m ≡ leaf m) → leaf l ≡ leaf m
      go (inl q) (inl w) = ap leaf (q.0 ∙ sym w.0)
      go (inl q) (inr w) = let z : some (object _ _) ≡ some (at_leaf m) = sym (label l (obj i) q.1) ∙ e.tree [] ∙ label m (leaf m) w in cc
      go (inr q) (inl w) = let z : some (at_leaf l) ≡ some (object _ _) = sym (label l (leaf l) q) ∙ e.tree [] ∙ label m (obj i) w.1 in cc
      go (inr q) (inr w) = let z : some (at_leaf l) ≡ some (at_leaf m) = sym (label l (leaf l) q) ∙ e.tree [] ∙ label m (leaf m) w in cc

  -- two objects, and a field of each
  below : (a b : ℕ) → Alike (obj a) (obj b) → (f : ℕ) (p : List ℕ) → ((r s : Ref) → Field r → Field s → Alike r s → follow ns r p ≡ follow ns s p)
      → follow ns (obj a) (f ∷ p) ≡ follow ns (obj b) (f ∷ p)
  below a b e f p ih = go (child ns (obj a) f) refl (child ns (obj b) f) refl
    where
      ends : (o o' : Option Ref) → child ns (obj a) f ≡ o → child ns (obj b) f ≡ o' → (q : List ℕ)
          → o >>= (λ r. follow_bound x (obj i) ns r q) ≡ o' >>= (λ r. follow_bound x (obj i) ns r q)
      ends o o' z z' q = sym (ap (λ (y : Option Ref). y >>= (λ r. follow_bound x (obj i) ns r q)) z) ∙ e.tree (f ∷ q) ∙ ap (λ (y : Option Ref). y >>= (λ r. follow_bound x (obj i) ns r q)) z'

      go : (o : Option Ref) → child ns (obj a) f ≡ o → (o' : Option Ref) → child ns (obj b) f ≡ o' → o >>= (λ r. follow ns r p) ≡ o' >>= (λ r. follow ns r p)
      go none z none z' = refl
      go none z (some s) z' = absurd (none-ne-some _ (ends none (some s) z z' []))
      go (some r) z none z' = absurd (none-ne-some _ (sym (ends (some r) none z z' [])))
      go (some r) z (some s) z' =
          ih r s (record { low = inner a f r z; other = free a f r z }) (record { low = inner b f s z'; other = free b f s z' }) (record { tree = ends (some r) (some s) z z' })

  fields_by : (p : List ℕ) → ((a b : ℕ) → Alike (obj a) (obj b) → follow ns (obj a) p ≡ follow ns (obj b) p) → (r s : Ref) → Field r → Field s → Alike r s → follow ns r p ≡ follow ns s p
  fields_by p both (obj a) (obj b) hr hs e = both a b e
  fields_by p both (obj a) (leaf k) hr hs e = absurd (leaf_object k a hr (turn (obj a) (leaf k) e))
  fields_by p both (leaf k) (obj b) hr hs e = absurd (leaf_object k b hs e)
  fields_by p both (leaf k) (leaf l) hr hs e = ap (λ (y : Ref). follow ns y p) (leaf_leaf k l e)

  fields : (p : List ℕ) (r s : Ref) → Field r → Field s → Alike r s → follow ns r p ≡ follow ns s p
  fields [] r s hr hs e = fields_by [] (λ a b q. q.tree []) r s hr hs e
  fields (f ∷ p) r s hr hs e = fields_by (f ∷ p) (λ a b q. below a b q f p (λ r' s' h h' q'. fields p r' s' h h' q')) r s hr hs e

  objects : (a b : ℕ) → Alike (obj a) (obj b) → (p : List ℕ) → follow ns (obj a) p ≡ follow ns (obj b) p
  objects a b e [] = e.tree []
  objects a b e (f ∷ p) = below a b e f p (λ r s h h' q. fields p r s h h' q)

  pub distinct_bound : Distinct ns → Distinct (bound_nodes x i ns)
  distinct_bound d = record {
    apart = λ a b ha hb e.
        let n : length (bound_nodes x i ns) ≡ length ns = length-map ns (bound_node x i) in
        d.apart a b (omega arith) (omega arith) (objects a b (record { tree = λ p. sym (bound_follow x i ns p (obj a)) ∙ e p ∙ bound_follow x i ns p (obj b) }));
  }
