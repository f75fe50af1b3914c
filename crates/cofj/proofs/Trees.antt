-- Unfoldings: what the same tree says of two objects, and a renaming under which two graphs look the same.
use Prim.Native.Nat.{ℕ, suc, ◌<◌}
use native.Mathlib.Omega.{arith}
use mathlib.Core.Path.{◌≡◌, refl, sym, ap, ap₂, ◌∙◌}
use mathlib.Core.List.{List, [], ◌∷◌, map}
use mathlib.Core.Option.{Option, none, some}
use lib.ListN.{length, get_elem?, length-map}
use Rattle.cofj.specs.Partial.{◌>>=◌}
use Rattle.cofj.specs.Values.{Ref, obj, leaf, Node, node, Graph, rename, rename_node, node_at, refs_at}
use Rattle.cofj.specs.Unfolding.{object, at_leaf, label_at, child, follow, Same, InRange, Whole}
use Rattle.cofj.proofs.Basics.{at_map}

-- ---- lists of references, item by item
abbrev pub Pointwise : (Ref → Ref → Type 0) → List Ref → List Ref → Type 0
Pointwise R [] [] = Unit {0}
Pointwise R [] (s ∷ ss) = ⊥
Pointwise R (r ∷ rs) [] = ⊥
Pointwise R (r ∷ rs) (s ∷ ss) = R r s × Pointwise R rs ss

pub pointwise_of : (R : Ref → Ref → Type 0) (rs ss : List Ref) → length rs ≡ length ss
    → ((f : ℕ) (r s : Ref) → get_elem? rs f ≡ some r → get_elem? ss f ≡ some s → R r s) → Pointwise R rs ss
pointwise_of R [] [] e h = tt
pointwise_of R [] (s ∷ ss) e h = omega arith
pointwise_of R (r ∷ rs) [] e h = omega arith
pointwise_of R (r ∷ rs) (s ∷ ss) e h = (h 0 r s refl refl, pointwise_of R rs ss (omega arith) (λ f. h (suc f)))

pub map_pointwise : (f g : Ref → Ref) (R : Ref → Ref → Type 0) → ((r s : Ref) → R r s → f r ≡ g s)
    → (rs ss : List Ref) → Pointwise R rs ss → map f rs ≡ map g ss
map_pointwise f g R h [] [] p = refl
map_pointwise f g R h [] (s ∷ ss) p = absurd p
map_pointwise f g R h (r ∷ rs) [] p = absurd p
map_pointwise f g R h (r ∷ rs) (s ∷ ss) p = ap₂ {C = List Ref} ◌∷◌ (h r s p.0) (map_pointwise f g R h rs ss p.1)

-- ---- what `Same` says of two references
module _ (ns ms : List Node) where
  pub same_child : (r s : Ref) → Same ns r ms s → (f : ℕ) (r' s' : Ref) → child ns r f ≡ some r' → child ms s f ≡ some s' → Same ns r' ms s'
  same_child r s h f r' s' e e' p =
      sym (ap (λ (o : Option Ref). o >>= λ x. follow ns x p) e) ∙ h (f ∷ p) ∙ ap (λ (o : Option Ref). o >>= λ x. follow ms x p) e'

  pub same_cls : (i j : ℕ) → Same ns (obj i) ms (obj j) → (node_at ns i).cls ≡ (node_at ms j).cls
  same_cls i j h = let e : some (object (node_at ns i).cls (length (refs_at ns i))) ≡ some (object (node_at ms j).cls (length (refs_at ms j))) = h [] in cc

  pub same_count : (i j : ℕ) → Same ns (obj i) ms (obj j) → length (refs_at ns i) ≡ length (refs_at ms j)
  same_count i j h = let e : some (object (node_at ns i).cls (length (refs_at ns i))) ≡ some (object (node_at ms j).cls (length (refs_at ms j))) = h [] in cc

  -- a renaming of the objects of each side that gives one number to two objects with the same tree gives one reference to two references with the same tree
  pub same_rename : (n m : ℕ) (f g : ℕ → ℕ) → ((i j : ℕ) → i < n → j < m → Same ns (obj i) ms (obj j) → f i ≡ g j)
      → (r s : Ref) → InRange n r → InRange m s → Same ns r ms s → rename f r ≡ rename g s
  same_rename n m f g h (obj i) (obj j) a b e = ap obj (h i j a b e)
  same_rename n m f g h (obj i) (leaf l) a b e = let z : some (object _ _) ≡ some (at_leaf l) = e [] in cc
  same_rename n m f g h (leaf k) (obj j) a b e = let z : some (at_leaf k) ≡ some (object _ _) = e [] in cc
  same_rename n m f g h (leaf k) (leaf l) a b e = let z : some (at_leaf k) ≡ some (at_leaf l) = e [] in cc

-- ---- two graphs with a renaming of each under which they look the same unfold to the same trees
module _ (ns ms : List Node) (f g : ℕ → ℕ) (P Q : Ref → Type 0)
    (cP : (r : Ref) → P r → (k : ℕ) (r' : Ref) → child ns r k ≡ some r' → P r')
    (cQ : (s : Ref) → Q s → (k : ℕ) (s' : Ref) → child ms s k ≡ some s' → Q s')
    (st : (i j : ℕ) → P (obj i) → Q (obj j) → f i ≡ g j → rename_node f (node_at ns i) ≡ rename_node g (node_at ms j)) where
  -- the label
  here : (r s : Ref) → P r → Q s → rename f r ≡ rename g s → label_at ns r ≡ label_at ms s
  here (obj i) (obj j) p q e =
      let c : f i ≡ g j = cc in
      let t = st i j p q c in
      ap₂ object (ap (λ (n : Node). n.cls) t)
      (sym (length-map (refs_at ns i) (rename f)) ∙ ap (λ (n : Node). length n.refs) t ∙ length-map (refs_at ms j) (rename g))
  here (obj i) (leaf l) p q e = cc
  here (leaf k) (obj j) p q e = cc
  here (leaf k) (leaf l) p q e = cc

  -- the field k, renamed
  below : (r s : Ref) → P r → Q s → rename f r ≡ rename g s → (k : ℕ)
      → child ns r k >>= (λ x. some (rename f x)) ≡ child ms s k >>= (λ x. some (rename g x))
  below (obj i) (obj j) p q e k =
      let c : f i ≡ g j = cc in
      sym (at_map (rename f) (refs_at ns i) k) ∙ ap (λ (n : Node). get_elem? n.refs k) (st i j p q c) ∙ at_map (rename g) (refs_at ms j) k
  below (obj i) (leaf l) p q e k = cc
  below (leaf k') (obj j) p q e k = cc
  below (leaf k') (leaf l) p q e k = refl

  pub renamed_same : (path : List ℕ) (r s : Ref) → P r → Q s → rename f r ≡ rename g s → follow ns r path ≡ follow ms s path
  renamed_same [] r s p q e = ap some (here r s p q e)
  renamed_same (k ∷ path) r s p q e =
      go (child ns r k) refl (child ms s k) refl (below r s p q e k) (λ r' s' p' q' e'. renamed_same path r' s' p' q' e')
    where
      go : (o : Option Ref) → child ns r k ≡ o → (o' : Option Ref) → child ms s k ≡ o'
          → o >>= (λ x. some (rename f x)) ≡ o' >>= (λ x. some (rename g x))
          → ((r' s' : Ref) → P r' → Q s' → rename f r' ≡ rename g s' → follow ns r' path ≡ follow ms s' path)
          → o >>= (λ x. follow ns x path) ≡ o' >>= (λ x. follow ms x path)
      go none a none b z ih = refl
      go none a (some s') b z ih = cc
      go (some r') a none b z ih = cc
      go (some r') a (some s') b z ih = ih r' s' (cP r p k r' a) (cQ s q k s' b) (cc)

-- ---- two objects with the same tree look the same under such a renaming
module _ (g h : Graph) (wg : Whole g) (wh : Whole h) (a b : ℕ → ℕ)
    (agree : (i j : ℕ) → i < length g.nodes → j < length h.nodes → Same g.nodes (obj i) h.nodes (obj j) → a i ≡ b j) where
  pub same_refs : (i j : ℕ) → Same g.nodes (obj i) h.nodes (obj j)
      → Pointwise (λ r s. Same g.nodes r h.nodes s × InRange (length g.nodes) r × InRange (length h.nodes) s) (refs_at g.nodes i) (refs_at h.nodes j)
  same_refs i j e =
      pointwise_of _ (refs_at g.nodes i) (refs_at h.nodes j) (same_count g.nodes h.nodes i j e)
      (λ f r s p q. (same_child g.nodes h.nodes (obj i) (obj j) e f r s p q, wg.inner i f r p, wh.inner j f s q))

  pub same_look : (i j : ℕ) → Same g.nodes (obj i) h.nodes (obj j) → rename_node a (node_at g.nodes i) ≡ rename_node b (node_at h.nodes j)
  same_look i j e =
      ap₂ node (same_cls g.nodes h.nodes i j e)
      (map_pointwise (rename a) (rename b) _
      (λ r s t. same_rename g.nodes h.nodes (length g.nodes) (length h.nodes) a b agree r s t.1 t.2 t.0)
      (refs_at g.nodes i) (refs_at h.nodes j) (same_refs i j e))
