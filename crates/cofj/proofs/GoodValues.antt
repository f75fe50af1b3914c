-- Canonical, whole, within the limit, made of its classes' objects, with leaves that may stand in them: what the operations keep of this.
use Prim.Native.Nat.{ℕ, zero, suc, ◌≤◌, zero-le}
use native.Mathlib.Omega.{arith}
use mathlib.Core.Path.{◌≡◌, refl, ◌∙◌, subst}
use mathlib.Core.Bool.{Bool, true, false}
use mathlib.Core.List.{List, [], ◌∷◌, ◌++◌, map}
use mathlib.Core.Option.{some, none-ne-some}
use lib.Dec.{eqb}
use lib.ListN.{length, get_or, get_elem?, length-map}
use borrow.Author.Tests.{eqb-false}
use Rattle.cofj.specs.Syntax.{Table}
use Rattle.cofj.specs.Classes.{fields_to}
use Rattle.cofj.specs.Values.{Ref, obj, leaf, Leaf, mark, undet, num, Node, node, Graph, rename, rename_node, node_at, canon, colours, visit, bind, bind_leaf, leaf_of}
use Rattle.cofj.specs.Unfolding.{Whole, AllWhole}
use Rattle.cofj.specs.Formed.{AllIn, LeafBelow, RefBelow, Formed, Good}
use Rattle.cofj.proofs.Canon.{canon-whole, canon-length}
use Rattle.cofj.proofs.Unique.{canon-canon}
use Rattle.cofj.proofs.Operations.{bound_node}

-- ---- every item of a list
module _ {A B : Type 0} where
  pub all_map : (P : A → Type 0) (Q : B → Type 0) (f : A → B) → ((a : A) → P a → Q (f a)) → (l : List A) → AllIn P l → AllIn Q (map f l)
  all_map P Q f h [] p = tt
  all_map P Q f h (x ∷ xs) p = (h x p.0, all_map P Q f h xs p.1)

  all_any : (Q : B → Type 0) (f : A → B) → ((a : A) → Q (f a)) → (l : List A) → AllIn Q (map f l)
  all_any Q f h [] = tt
  all_any Q f h (x ∷ xs) = (h x, all_any Q f h xs)

module _ {A : Type 0} (P : A → Type 0) where
  pub all_append : (l m : List A) → AllIn P l → AllIn P m → AllIn P (l ++ m)
  all_append [] m p q = q
  all_append (x ∷ xs) m p q = (p.0, all_append xs m p.1 q)

  -- an item, or the default
  pub all_at : (d : A) → P d → (l : List A) → AllIn P l → (i : ℕ) → P (get_or l i d)
  all_at d q [] p i = q
  all_at d q (x ∷ xs) p zero = p.0
  all_at d q (x ∷ xs) p (suc i) = all_at d q xs p.1 i

  pub all_get : (l : List A) → AllIn P l → (i : ℕ) (a : A) → get_elem? l i ≡ some a → P a
  all_get [] p i a e = absurd (none-ne-some a e)
  all_get (x ∷ xs) p zero a e = subst P (let y : x ≡ a = cc in y) p.0
  all_get (x ∷ xs) p (suc i) a e = all_get xs p.1 i a e

pub all_weaken : {A : Type 0} (P Q : A → Type 0) → ((a : A) → P a → Q a) → (l : List A) → AllIn P l → AllIn Q l
all_weaken P Q h [] p = tt
all_weaken P Q h (x ∷ xs) p = (h x p.0, all_weaken P Q h xs p.1)

-- ---- leaves
pub ref_rename : (k : ℕ) (f : ℕ → ℕ) (r : Ref) → RefBelow k r → RefBelow k (rename f r)
ref_rename k f (obj i) h = tt
ref_rename k f (leaf l) h = h

leaf_more : (k : ℕ) (l : Leaf) → LeafBelow k l → LeafBelow (suc k) l
leaf_more k (mark x) h = omega arith
leaf_more k undet h = tt
leaf_more k (num n) h = h

ref_more : (k : ℕ) (r : Ref) → RefBelow k r → RefBelow (suc k) r
ref_more k (obj i) h = tt
ref_more k (leaf l) h = leaf_more k l h

-- the newest mark is bound to a reference that has it not
pub leaf_bind : (k : ℕ) (r : Ref) → RefBelow k r → (l : Leaf) → LeafBelow (suc k) l → RefBelow k (bind_leaf k r l)
leaf_bind k r p (mark x) h = go (eqb x k) refl
  where
    go : (b : Bool) → eqb x k ≡ b → RefBelow k (elim b as (λ _. Ref) [ true ↦ r | false ↦ leaf (mark x) ])
    go true e = p
    go false e = let z = eqb-false x k e in omega arith
leaf_bind k r p undet h = tt
leaf_bind k r p (num n) h = h

ref_bind : (k i : ℕ) (r : Ref) → RefBelow (suc k) r → RefBelow k (bind k (obj i) r)
ref_bind k i (obj j) h = tt
ref_bind k i (leaf l) h = leaf_bind k (obj i) tt l h

-- ---- objects
module _ (t : Table) where
  pub formed_rename : (k : ℕ) (f : ℕ → ℕ) (n : Node) → Formed t k n → Formed t k (rename_node f n)
  formed_rename k f n h =
      record { known = h.known; count = length-map n.refs (rename f) ∙ h.count; leaves = all_map (RefBelow k) (RefBelow k) (rename f) (ref_rename k f) n.refs h.leaves }

  pub formed_default : (k : ℕ) → Formed t k (node 0 [])
  unfolding fields_to
  formed_default k = record { known = zero-le; count = refl; leaves = tt }

  formed_more : (k : ℕ) (n : Node) → Formed t k n → Formed t (suc k) n
  formed_more k n h = record { known = h.known; count = h.count; leaves = all_weaken (RefBelow k) (RefBelow (suc k)) (ref_more k) n.refs h.leaves }

  pub formed_bind : (k i : ℕ) (n : Node) → Formed t (suc k) n → Formed t k (bound_node k i n)
  formed_bind k i n h =
      record {
        known = h.known;
        count = length-map n.refs (bind k (obj i)) ∙ h.count;
        leaves = all_map (RefBelow (suc k)) (RefBelow k) (bind k (obj i)) (ref_bind k i) n.refs h.leaves;
      }

  -- the canonical form lists objects of the graph, renamed
  pub canon_formed : (k : ℕ) (g : Graph) → AllIn (Formed t k) g.nodes → AllIn (Formed t k) (canon g).nodes
  unfolding canon
  canon_formed k g h =
      all_any (Formed t k) _ (λ c. formed_rename k _ (node_at g.nodes c) (all_at (Formed t k) (node 0 []) (formed_default k) g.nodes h c))
      (visit g.nodes (colours g.nodes) (suc (length g.nodes)) g.root [])

  pub canon_root : (k : ℕ) (g : Graph) → RefBelow k g.root → RefBelow k (canon g).root
  unfolding canon
  canon_root k g h = ref_rename k _ g.root h

  module _ (objects : ℕ) where
    abbrev pub AllGood : ℕ → List Graph → Type 0
    AllGood k vs = AllIn (Good t objects k) vs

    pub all_whole : (k : ℕ) (vs : List Graph) → AllGood k vs → AllWhole vs
    all_whole k [] h = tt
    all_whole k (v ∷ vs) h = (h.0.whole, all_whole k vs h.1)

    pub good_canon : (k : ℕ) (g : Graph) → Whole g → length g.nodes ≤ objects → RefBelow k g.root → AllIn (Formed t k) g.nodes → Good t objects k (canon g)
    good_canon k g w h m f =
        record { whole = canon-whole g w; own = canon-canon g w; small = omega (arith, canon-length g w); root = canon_root k g m; nodes = canon_formed k g f }

    pub good_leaf : (k : ℕ) (l : Leaf) → LeafBelow k l → Good t objects k (leaf_of l)
    unfolding canon
    good_leaf k l h = record { whole = record { top = tt; inner = λ i f r e. absurd (none-ne-some r e) }; own = refl; small = zero-le; root = h; nodes = tt }

    pub good_more : (k : ℕ) (v : Graph) → Good t objects k v → Good t objects (suc k) v
    good_more k v h =
        record { whole = h.whole; own = h.own; small = h.small; root = ref_more k v.root h.root; nodes = all_weaken (Formed t k) (Formed t (suc k)) (formed_more k) v.nodes h.nodes }
