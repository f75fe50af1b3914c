-- A value with 33 different objects in it has more than 32 objects, however it is laid out: so a making that gives up for want of places does so rightly.
-- Here: objects that stand in a value (In), why a crowd is too large, and two ways to a crowd: objects of a host with new ones of a part, and a full host with a new root.
-- Who asks: the proofs of joining and of adding, where they give up. Not here: which objects of a block stand in the value that is made.
use Rattle.std.proofs.Common.{ℕ, zero, suc, ◌≤◌, ◌<◌, suc-le-suc, arith, ◌≡◌, refl, sym, ap, ◌∙◌, List, [], ◌∷◌, ◌++◌, append_assoc, length, get_or}
use native.Mathlib.Decide.{dec_lt, ℕ_discrete}
use Rattle.std.proofs.Math.Option.{Option, none, some, none-ne-some}
use Rattle.std.proofs.Math.ListN.{get_elem?}
use Rattle.cofj.specs.Partial.{◌>>=◌}
use Rattle.cofj.specs.Values.{Ref, obj, leaf, Node, Graph, graph, node_at, refs_at, make}
use Rattle.cofj.specs.Unfolding.{object, at_leaf, child, follow, Same, SameTree, InRange, Whole, AllWhole}
use Rattle.cofj.proofs.Operations.{make_field}
use Rattle.canon.specs.Figures.{capacity}
use Rattle.canon.specs.Layout.{Distinct}
use Rattle.maker.specs.Figures.{too_many}
use Rattle.maker.specs.Sorting.{Fresh}
use Rattle.maker.specs.Crowds.{In, Within, Crowd}
use Rattle.maker.proofs.Adding.{more, size_more, old_tree, distinct_more}

-- ---- n different numbers below m: n is at most m
-- x, but d in the place of m
abbrev dodge : (m d x : ℕ) → Dec (x ≡ m) → ℕ
dodge m d x (yes e) = d
dodge m d x (no e) = x

dodge_low : (m d x : ℕ) (z : Dec (x ≡ m)) → d < suc m → x < suc m → (x ≡ d → ⊥) → dodge m d x z < m
dodge_low m d x (yes e) a b n = omega (arith, n)
dodge_low m d x (no e) a b n = omega (arith, e)

dodge_apart : (m d x y : ℕ) (z : Dec (x ≡ m)) (w : Dec (y ≡ m)) → (x ≡ d → ⊥) → (y ≡ d → ⊥) → dodge m d x z ≡ dodge m d y w → x ≡ y
dodge_apart m d x y (yes e) (yes u) a b h = e ∙ sym u
dodge_apart m d x y (yes e) (no u) a b h = absurd (b (sym h))
dodge_apart m d x y (no e) (yes u) a b h = absurd (a h)
dodge_apart m d x y (no e) (no u) a b h = h

pub pigeon : (n m : ℕ) (f : (k : ℕ) → k < n → ℕ) → ((k : ℕ) (h : k < n) → f k h < m) → ((k l : ℕ) (h : k < n) (u : l < n) → f k h ≡ f l u → k ≡ l) → n ≤ m
pigeon zero m f low apart = omega arith
pigeon (suc n) zero f low apart = absurd (omega (arith, low 0 (omega arith)))
pigeon (suc n) (suc m) f low apart =
    suc-le-suc (pigeon n m (λ k h. dodge m d (f k (up k h)) (ℕ_discrete (f k (up k h)) m))
    (λ k h. dodge_low m d (f k (up k h)) (ℕ_discrete (f k (up k h)) m) (low n last) (low k (up k h)) (other k h))
    (λ k l h u e. apart k l (up k h) (up l u) (dodge_apart m d (f k (up k h)) (f l (up l u)) (ℕ_discrete (f k (up k h)) m) (ℕ_discrete (f l (up l u)) m) (other k h) (other l u) e)))
  where
    last : n < suc n
    last = omega arith

    up : (k : ℕ) → k < n → k < suc n
    up k h = omega arith

    d : ℕ
    d = f n last

    other : (k : ℕ) (h : k < n) → f k (up k h) ≡ d → ⊥
    other k h e = let z : k ≡ n = apart k n (up k h) last e in omega arith

-- ---- an object in a value is one of the value's objects
pub record Numbered (ns : List Node) (x : ℕ) (g : Graph) : Type 0 where
  pub at : ℕ
  pub low : at < length g.nodes
  pub same : Same ns (obj x) g.nodes (obj at)

module _ (ns : List Node) (x : ℕ) (g : Graph) (w : Whole g) where
  -- the reference at the end of the path
  end_at : (r : Ref) → InRange (length g.nodes) r → ((q : List ℕ) → follow ns (obj x) q ≡ follow g.nodes r q) → Numbered ns x g
  end_at (obj i) h e = record { at = i; low = h; same = e }
  end_at (leaf l) h e = let z : some (object _ _) ≡ some (at_leaf l) = e [] in absurd (let u : ◌≡◌ {A = ℕ} 0 1 = cc in omega arith)

  child_low : (r : Ref) (f : ℕ) (s : Ref) → child g.nodes r f ≡ some s → InRange (length g.nodes) s
  child_low (obj i) f s e = w.inner i f s e
  child_low (leaf l) f s e = absurd (none-ne-some s e)

  along : (p : List ℕ) (r : Ref) → InRange (length g.nodes) r → ((q : List ℕ) → follow ns (obj x) q ≡ follow g.nodes r (p ++ q)) → Numbered ns x g
  along [] r h e = end_at r h e
  along (f ∷ p) r h e = go (child g.nodes r f) refl (along p)
    where
      go : (o : Option Ref) → child g.nodes r f ≡ o
          → ((s : Ref) → InRange (length g.nodes) s → ((q : List ℕ) → follow ns (obj x) q ≡ follow g.nodes s (p ++ q)) → Numbered ns x g) → Numbered ns x g
      go none z ih = absurd (none-ne-some _ (sym (e [] ∙ ap (λ (o : Option Ref). o >>= λ s. follow g.nodes s (p ++ [])) z)))
      go (some s) z ih = ih s (child_low r f s z) (λ q. e q ∙ ap (λ (o : Option Ref). o >>= λ t. follow g.nodes t (p ++ q)) z)

  pub in_number : In ns x g → Numbered ns x g
  in_number i = along i.path g.root w.top i.tree

pub crowd_large : (g : Graph) → Whole g → Crowd g → capacity < length g.nodes
crowd_large g w c =
    pigeon too_many (length g.nodes) (λ k h. (num k h).at) (λ k h. (num k h).low)
    (λ k l h u e. c.apart k l h u (λ p. (num k h).same p ∙ ap (λ (i : ℕ). follow g.nodes (obj i) p) e ∙ sym ((num l u).same p)))
  where
    num : (k : ℕ) → k < too_many → Numbered (c.list k) (c.at k) g
    num k h = in_number (c.list k) (c.at k) g w (c.inside k h)

-- ---- which objects are in a value
module _ (g : Graph) where
  pub in_root : (ns : List Node) (x : ℕ) → Same ns (obj x) g.nodes g.root → In ns x g
  in_root ns x e = record { path = []; tree = e }

  pub in_same : (ns ms : List Node) (x y : ℕ) → In ns x g → Same ns (obj x) ms (obj y) → In ms y g
  in_same ns ms x y i e = record { path = i.path; tree = λ q. sym (e q) ∙ i.tree q }

  -- one path after the other
  pub in_within : (ns ms : List Node) (x y : ℕ) → In ns x g → In ms y (graph (obj x) ns) → In ms y g
  in_within ns ms x y i j = record {
    path = i.path ++ j.path;
    tree = λ q. j.tree q ∙ i.tree (j.path ++ q) ∙ sym (ap (follow g.nodes g.root) (append_assoc i.path j.path q));
  }

-- the same value, otherwise laid out
pub within_same : (h k g : Graph) → SameTree h k → Within h g → Within k g
within_same h k g e w = record { path = w.path; tree = λ q. sym (e q) ∙ w.tree q }

-- what is in a part is in the new object
graph_at : (d : Graph) (gs : List Graph) (f : ℕ) → f < length gs → get_elem? gs f ≡ some (get_or gs f d)
graph_at d [] f h = absurd (omega arith)
graph_at d (g ∷ gs) zero h = refl
graph_at d (g ∷ gs) (suc f) h = graph_at d gs f (omega arith)

pub within_field : (c : ℕ) (gs : List Graph) → AllWhole gs → (d : Graph) (f : ℕ) → f < length gs → Within (get_or gs f d) (make c gs)
within_field c gs w d f h = record {
  path = f ∷ [];
  tree = λ q. sym (make_field c gs w f q ∙ ap (λ (o : Option Graph). o >>= λ v. follow v.nodes v.root q) (graph_at d gs f h));
}

-- ---- the objects of a host ns, and new ones of a part ps
abbrev pick : {A P : Type 0} → Dec P → A → A → A
pick (yes h) a b = a
pick (no h) a b = b

module _ (ps ns : List Node) (g : Graph) (t : ℕ) (size : length ns ≡ t) (distinct : Distinct ns) (old : (y : ℕ) → y < t → In ns y g)
    (from : ℕ → ℕ)
    (fresh : (k : ℕ) → t ≤ k → k < too_many → Fresh ps ns t (from k))
    (new : (k : ℕ) → t ≤ k → k < too_many → In ps (from k) g)
    (apart : (k l : ℕ) → t ≤ k → k < too_many → t ≤ l → l < too_many → Same ps (obj (from k)) ps (obj (from l)) → k ≡ l) where
  pub crowd_joined : Crowd g
  crowd_joined = record {
    list = λ k. pick (dec_lt k t) ns ps;
    at = λ k. pick (dec_lt k t) k (from k);
    inside = λ k h. there k h (dec_lt k t);
    apart = λ k l h u e. differ k l h u (dec_lt k t) (dec_lt l t) e;
  }
    where
      there : (k : ℕ) → k < too_many → (z : Dec (k < t)) → In (pick z ns ps) (pick z k (from k)) g
      there k h (yes a) = old k a
      there k h (no a) = new k (omega (arith, a)) h

      differ : (k l : ℕ) → k < too_many → l < too_many → (z : Dec (k < t)) (w : Dec (l < t)) → Same (pick z ns ps) (obj (pick z k (from k))) (pick w ns ps) (obj (pick w l (from l))) → k ≡ l
      differ k l h u (yes a) (yes b) e = distinct.apart k l (omega arith) (omega arith) e
      differ k l h u (yes a) (no b) e = absurd ((fresh l (omega (arith, b)) u).none k a (λ p. sym (e p)))
      differ k l h u (no a) (yes b) e = absurd ((fresh k (omega (arith, a)) h).none l b e)
      differ k l h u (no a) (no b) e = apart k l (omega (arith, a)) h (omega (arith, b)) u e

-- ---- the 32 objects of a full host, and a new root, which is none of them
module _ (top : Node) (ns : List Node)
    (inner : (i f : ℕ) (r : Ref) → get_elem? (refs_at ns i) f ≡ some r → InRange (length ns) r)
    (above : (f : ℕ) (r : Ref) → get_elem? top.refs f ≡ some r → InRange (length ns) r)
    (distinct : Distinct ns) (miss : (j : ℕ) → j < length ns → node_at ns j ≡ top → ⊥)
    (g : Graph) (size : length ns ≡ capacity) (old : (y : ℕ) → y < capacity → In ns y g) (root : Same (more ns top) (obj capacity) g.nodes g.root) where
  pub crowd_topped : Crowd g
  crowd_topped = record {
    list = λ k. more ns top;
    at = λ k. k;
    inside = λ k h. there k h (dec_lt k capacity);
    apart = λ k l h u e. (distinct_more top ns inner above distinct miss).apart k l (fits k h) (fits l u) e;
  }
    where
      fits : (k : ℕ) → k < too_many → k < length (more ns top)
      fits k h = omega (arith, size_more top ns inner above)

      there : (k : ℕ) → k < too_many → Dec (k < capacity) → In (more ns top) k g
      there k h (yes a) = in_same g ns (more ns top) k k (old k a) (λ p. sym (old_tree top ns inner above (obj k) (omega arith) p))
      there k h (no a) = let z : k ≡ capacity = omega (arith, a) in in_root g (more ns top) k (λ p. ap (λ (i : ℕ). follow (more ns top) (obj i) p) z ∙ root p)
