-- What graphs that unfold to the same tree give: the same field, the same X = u, the same new object.
use Rattle.std.proofs.Common.{ℕ, zero, suc, ◌≤◌, arith, ◌≡◌, refl, sym, ap, ◌∙◌, subst, Bool, true, false, List, [], ◌∷◌, eqb, length}
use Rattle.std.proofs.Math.Option.{Option, none, some, none-ne-some}
use Rattle.std.proofs.Math.ListN.{get_elem?}
use Rattle.cofj.specs.Partial.{◌>>=◌}
use Rattle.cofj.specs.Values.{Ref, obj, leaf, Leaf, mark, undet, num, Node, Graph, graph, refs_at, canon, select, selected, bind_leaf, bind, close, make}
use Rattle.cofj.specs.Unfolding.{object, at_leaf, child, follow, Same, SameTree, InRange, Whole, follow_bound, AllWhole}
use Rattle.cofj.proofs.Trees.{same_child}
use Rattle.cofj.proofs.Canon.{number, canon_is, canon_same, canon-whole}
use Rattle.cofj.proofs.Unique.{same_canon, canon-canon}
use Rattle.cofj.proofs.Numbering.{canonical_root}
use Rattle.cofj.proofs.Operations.{at_ref, bound_nodes, bound_follow, bound_whole, laid, laid_whole, make_top, make_field, make-whole}

child_in : (g : Graph) → Whole g → (r : Ref) (f : ℕ) (s : Ref) → child g.nodes r f ≡ some s → InRange (length g.nodes) s
child_in g w (obj i) f s e = w.inner i f s e
child_in g w (leaf l) f s e = absurd (none-ne-some s e)

-- ---- references that lead to no object
pub in_larger : (n m : ℕ) (r : Ref) → n ≤ m → InRange n r → InRange m r
in_larger n m (obj i) h l = omega arith
in_larger n m (leaf k) h l = tt

-- one that is in range of no objects unfolds to itself, whatever the objects are
pub leaf_same : (ns ms : List Node) (r : Ref) → InRange 0 r → Same ns r ms r
leaf_same ns ms (obj i) h p = absurd (omega arith)
leaf_same ns ms (leaf l) h [] = refl
leaf_same ns ms (leaf l) h (f ∷ p) = refl

-- ---- a field
abbrev pick : List Node → ℕ → Ref → Option Graph
pick ns f r = elim r as (λ _. Option Graph) [ obj i ↦ selected ns (get_elem? (refs_at ns i) f) | leaf l ↦ none ]

pick-child : (ns : List Node) (f : ℕ) (r : Ref) → pick ns f r ≡ selected ns (child ns r f)
pick-child ns f (obj i) = refl
pick-child ns f (leaf l) = refl

pub same_select : (g h : Graph) → Whole g → Whole h → SameTree g h → (f : ℕ) → select f g ≡ select f h
unfolding select
same_select g h wg wh t f =
    pick-child g.nodes f g.root ∙ go (child g.nodes g.root f) refl (child h.nodes h.root f) refl ∙ sym (pick-child h.nodes f h.root)
  where
    ends : (o o' : Option Ref) → child g.nodes g.root f ≡ o → child h.nodes h.root f ≡ o' → o >>= (λ s. follow g.nodes s []) ≡ o' >>= (λ s. follow h.nodes s [])
    ends o o' e e' = sym (ap (λ (x : Option Ref). x >>= λ s. follow g.nodes s []) e) ∙ t (f ∷ []) ∙ ap (λ (x : Option Ref). x >>= λ s. follow h.nodes s []) e'

    go : (o : Option Ref) → child g.nodes g.root f ≡ o → (o' : Option Ref) → child h.nodes h.root f ≡ o' → selected g.nodes o ≡ selected h.nodes o'
    go none e none e' = refl
    go none e (some s) e' = absurd (none-ne-some _ (ends none (some s) e e'))
    go (some r) e none e' = absurd (none-ne-some _ (sym (ends (some r) none e e')))
    go (some r) e (some s) e' =
        ap some (same_canon (graph r g.nodes) (graph s h.nodes) (at_ref g wg r (child_in g wg g.root f r e)) (at_ref h wh s (child_in h wh h.root f s e'))
        (same_child g.nodes h.nodes g.root h.root t f r s e e'))

pub select-canon : (g : Graph) → Whole g → (f : ℕ) → select f (canon g) ≡ select f g
select-canon g w = same_select (canon g) g (canon-whole g w) w (canon_same g w)

-- ---- X = u
module _ (x i j : ℕ) (ns ms : List Node) (root : Same ns (obj i) ms (obj j)) where
  leaf_bound : (l : Leaf) → Same ns (bind_leaf x (obj i) l) ms (bind_leaf x (obj j) l)
  leaf_bound (mark k) = go (eqb k x)
    where
      go : (t : Bool) → Same ns (elim t as (λ _. Ref) [ true ↦ obj i | false ↦ leaf (mark k) ]) ms (elim t as (λ _. Ref) [ true ↦ obj j | false ↦ leaf (mark k) ])
      go true = root
      go false = leaf_same ns ms (leaf (mark k)) tt
  leaf_bound undet = leaf_same ns ms (leaf undet) tt
  leaf_bound (num n) = leaf_same ns ms (leaf (num n)) tt

  bind_same : (r s : Ref) → Same ns r ms s → Same ns (bind x (obj i) r) ms (bind x (obj j) s)
  bind_same (obj a) (obj b) e = e
  bind_same (obj a) (leaf l) e = let z : some (object _ _) ≡ some (at_leaf l) = e [] in absurd (let q : ◌≡◌ {A = ℕ} 0 1 = cc in omega arith)
  bind_same (leaf k) (obj b) e = let z : some (at_leaf k) ≡ some (object _ _) = e [] in absurd (let q : ◌≡◌ {A = ℕ} 0 1 = cc in omega arith)
  bind_same (leaf k) (leaf l) e =
      let z : some (at_leaf k) ≡ some (at_leaf l) = e [] in
      let q : k ≡ l = cc in
      subst (λ (m : Leaf). Same ns (bind_leaf x (obj i) k) ms (bind_leaf x (obj j) m)) q (leaf_bound k)

  bound_same : (p : List ℕ) (r s : Ref) → Same ns r ms s → follow_bound x (obj i) ns r p ≡ follow_bound x (obj j) ms s p
  bound_same [] r s e = bind_same r s e []
  bound_same (f ∷ p) r s e = go (child ns (bind x (obj i) r) f) refl (child ms (bind x (obj j) s) f) refl (bound_same p)
    where
      b : Same ns (bind x (obj i) r) ms (bind x (obj j) s)
      b = bind_same r s e

      ends : (o o' : Option Ref) → child ns (bind x (obj i) r) f ≡ o → child ms (bind x (obj j) s) f ≡ o' → o >>= (λ a. follow ns a []) ≡ o' >>= (λ a. follow ms a [])
      ends o o' q q' = sym (ap (λ (y : Option Ref). y >>= λ a. follow ns a []) q) ∙ b (f ∷ []) ∙ ap (λ (y : Option Ref). y >>= λ a. follow ms a []) q'

      go : (o : Option Ref) → child ns (bind x (obj i) r) f ≡ o → (o' : Option Ref) → child ms (bind x (obj j) s) f ≡ o'
          → ((a a' : Ref) → Same ns a ms a' → follow_bound x (obj i) ns a p ≡ follow_bound x (obj j) ms a' p)
          → o >>= (λ a. follow_bound x (obj i) ns a p) ≡ o' >>= (λ a. follow_bound x (obj j) ms a p)
      go none q none q' ih = refl
      go none q (some a) q' ih = absurd (none-ne-some _ (ends none (some a) q q'))
      go (some a) q none q' ih = absurd (none-ne-some _ (sym (ends (some a) none q q')))
      go (some a) q (some a') q' ih = ih a a' (same_child ns ms (bind x (obj i) r) (bind x (obj j) s) b f a a' q q')

  same_close : Whole (graph (obj i) ns) → Whole (graph (obj j) ms) → close x (graph (obj i) ns) ≡ close x (graph (obj j) ms)
  unfolding close
  same_close wn wm =
      same_canon (graph (obj i) (bound_nodes x i ns)) (graph (obj j) (bound_nodes x j ms)) (bound_whole (graph (obj i) ns) wn x i wn.top) (bound_whole (graph (obj j) ms) wm x j wm.top)
      (λ p. bound_follow x i ns p (obj i) ∙ bound_same p (obj i) (obj j) root ∙ sym (bound_follow x j ms p (obj j)))

module _ (i : ℕ) (ns : List Node) (w : Whole (graph (obj i) ns)) where
  pub canon_root : (canon (graph (obj i) ns)).root ≡ obj 0
  canon_root =
      let e : (canon (graph (obj i) ns)).root ≡ obj (number (graph (obj i) ns) w i) = ap (λ (h : Graph). h.root) (canon_is (graph (obj i) ns) w) in
      e ∙ ap obj (canonical_root (canon (graph (obj i) ns)) (canon-whole (graph (obj i) ns) w) (canon-canon (graph (obj i) ns) w) _ e)

  canon_eta : canon (graph (obj i) ns) ≡ graph (obj 0) (canon (graph (obj i) ns)).nodes
  canon_eta = ap (λ (r : Ref). graph r (canon (graph (obj i) ns)).nodes) canon_root

  pub close-canon : (x : ℕ) → close x (canon (graph (obj i) ns)) ≡ close x (graph (obj i) ns)
  close-canon x =
      ap (close x) canon_eta
      ∙ same_close x 0 i (canon (graph (obj i) ns)).nodes ns
      (λ p. ap (λ (r : Ref). follow (canon (graph (obj i) ns)).nodes r p) (sym canon_root) ∙ canon_same (graph (obj i) ns) w p)
      (subst Whole canon_eta (canon-whole (graph (obj i) ns) w)) w

-- ---- a new object
-- what a graph must unfold to, to be the new object's
pub made_as : (c : ℕ) (gs : List Graph) → AllWhole gs → (h : Graph) → Whole h → follow h.nodes h.root [] ≡ some (object c (length gs))
    → ((f : ℕ) (p : List ℕ) → follow h.nodes h.root (f ∷ p) ≡ get_elem? gs f >>= (λ v. follow v.nodes v.root p)) → make c gs ≡ canon h
unfolding make
made_as c gs w h wh e0 e1 =
    sym (canon-canon (laid c gs) (laid_whole c gs w)) ∙ same_canon (make c gs) h (make-whole c gs w) wh go
  where
    go : (p : List ℕ) → follow (make c gs).nodes (make c gs).root p ≡ follow h.nodes h.root p
    go [] = make_top c gs w ∙ sym e0
    go (f ∷ p) = make_field c gs w f p ∙ sym (e1 f p)

abbrev pub AllSame : List Graph → List Graph → Type 0
AllSame [] [] = Unit {0}
AllSame [] (h ∷ hs) = ⊥
AllSame (g ∷ gs) [] = ⊥
AllSame (g ∷ gs) (h ∷ hs) = SameTree g h × AllSame gs hs

same_length : (gs hs : List Graph) → AllSame gs hs → length hs ≡ length gs
same_length [] [] s = refl
same_length [] (h ∷ hs) s = absurd s
same_length (g ∷ gs) [] s = absurd s
same_length (g ∷ gs) (h ∷ hs) s = ap suc (same_length gs hs s.1)

same_field : (gs hs : List Graph) → AllSame gs hs → (f : ℕ) (p : List ℕ) → get_elem? hs f >>= (λ v. follow v.nodes v.root p) ≡ get_elem? gs f >>= (λ v. follow v.nodes v.root p)
same_field [] [] s f p = refl
same_field [] (h ∷ hs) s f p = absurd s
same_field (g ∷ gs) [] s f p = absurd s
same_field (g ∷ gs) (h ∷ hs) s zero p = sym (s.0 p)
same_field (g ∷ gs) (h ∷ hs) s (suc f) p = same_field gs hs s.1 f p

pub same_make : (c : ℕ) (gs hs : List Graph) → AllWhole gs → AllWhole hs → AllSame gs hs → make c gs ≡ make c hs
unfolding make
same_make c gs hs wg wh s =
    made_as c gs wg (make c hs) (make-whole c hs wh)
    (make_top c hs wh ∙ ap (λ (l : ℕ). some (object c l)) (same_length gs hs s))
    (λ f p. make_field c hs wh f p ∙ same_field gs hs s f p)
    ∙ canon-canon (laid c hs) (laid_whole c hs wh)
