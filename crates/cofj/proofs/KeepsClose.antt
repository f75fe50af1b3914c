-- X = u keeps the invariant of type soundness: the mark X is bound to the root, an object of a type of its bound.
use Prim.Native.Nat.{ℕ, zero, suc, ◌≤◌}
use native.Mathlib.Omega.{arith}
use mathlib.Core.Path.{◌≡◌, refl, sym, ap, ◌∙◌, subst, fun_ext}
use mathlib.Core.Bool.{Bool, true, false}
use mathlib.Core.List.{List, [], ◌∷◌}
use mathlib.Core.Option.{Option, none, some}
use lib.Dec.{eqb}
use lib.ListN.{length, get_elem?}
use borrow.Author.Tests.{eqb-true, eqb-false}
use Rattle.cofj.specs.Syntax.{Ty, ty, Table}
use Rattle.cofj.specs.Partial.{◌>>=◌}
use Rattle.cofj.specs.Classes.{class_fits, fields_of}
use Rattle.cofj.specs.Values.{Ref, obj, leaf, Leaf, mark, undet, num, Node, Graph, graph, close, bind_leaf, bind}
use Rattle.cofj.specs.Unfolding.{object, label_at, child, follow, Whole, follow_bound}
use Rattle.cofj.specs.WellFormed.{WellFormed}
use Rattle.cofj.proofs.Chain.{fits_self}
use Rattle.cofj.proofs.Canon.{canon-whole}
use Rattle.cofj.proofs.Operations.{close_tree, bound_whole}
use Rattle.cofj.proofs.Keeps.{leaf_whole, leaf_typed}
use Rattle.cofj.proofs.Typed.{tree, bound, under, OkLeaf, OkAt, Typed, AllTyped, Has, bound_old, bound_new, typed-fits}

module _ (t : Table) (wf : WellFormed t) where
  -- below an object the tags 1, 2 and 3 say the same
  retag : (σ : List ℕ) (c g : ℕ) (ns : List Node) (i : ℕ) → AllTyped t σ (ty c (suc g)) (follow ns (obj i)) → AllTyped t σ (ty c 1) (follow ns (obj i))
  retag σ c g ns i h zero = tt
  retag σ c g ns i h (suc n) = ((h 1).0, (h (suc n)).1)

-- what a reference is bound to decides what it unfolds to
bound_as : (x : ℕ) (u : Ref) (ns : List Node) (r s : Ref) → bind x u r ≡ bind x u s → (p : List ℕ) → follow_bound x u ns r p ≡ follow_bound x u ns s p
bound_as x u ns r s e [] = ap (λ (z : Ref). some (label_at ns z)) e
bound_as x u ns r s e (f ∷ p) = ap (λ (z : Ref). child ns z f >>= λ y. follow_bound x u ns y p) e

bound_leaf : (x : ℕ) (u : Ref) (ns : List Node) (l : Leaf) → bind_leaf x u l ≡ leaf l → (p : List ℕ) → follow_bound x u ns (leaf l) p ≡ follow ns (leaf l) p
bound_leaf x u ns l e [] = ap (λ (z : Ref). some (label_at ns z)) e
bound_leaf x u ns l e (f ∷ p) = ap (λ (z : Ref). child ns z f >>= λ y. follow_bound x u ns y p) e

bind_is : (x k : ℕ) (u : Ref) → eqb k x ≡ true → bind_leaf x u (mark k) ≡ u
bind_is x k u e = rw (e, bind_leaf)

bind_not : (x k : ℕ) (u : Ref) → eqb k x ≡ false → bind_leaf x u (mark k) ≡ leaf (mark k)
bind_not x k u e = rw (e, bind_leaf)

-- the newest mark bound to the root, an object of a type of its bound
module _ (t : Table) (wf : WellFormed t) (σ : List ℕ) (c g : ℕ) (small : g ≤ 1) (ns : List Node) (i : ℕ) (A : AllTyped t (c ∷ σ) (ty c g) (follow ns (obj i))) where
  at_object : (n : ℕ) → ((r : Ref) (w : Ty) → AllTyped t (c ∷ σ) w (follow ns r) → Typed t σ n w (follow_bound (length σ) (obj i) ns r))
      → (j : ℕ) (w : Ty) → AllTyped t (c ∷ σ) w (follow ns (obj j)) → Typed t σ (suc n) w (follow_bound (length σ) (obj i) ns (obj j))
  at_object n ih j w h = ((h 1).0, λ c' k f w' e z. go c' k f w' e z (child ns (obj j) f) refl)
    where
      go : (c' k f : ℕ) (w' : Ty) → some (label_at ns (obj j)) ≡ some (object c' k) → get_elem? (fields_of t.classes c') f ≡ some w'
          → (o : Option Ref) → child ns (obj j) f ≡ o → Typed t σ n (ty w'.cls (under w.tag w'.tag)) (λ p. child ns (obj j) f >>= λ s. follow_bound (length σ) (obj i) ns s p)
      go c' k f w' e z none q =
          absurd (subst (λ (o : Option Ref). OkAt t (c ∷ σ) (ty w'.cls (under w.tag w'.tag)) (o >>= λ s. follow ns s [])) q ((h 2).1 c' k f w' e z).0)
      go c' k f w' e z (some s) q =
          subst (λ (o : Option Ref). Typed t σ n (ty w'.cls (under w.tag w'.tag)) (λ p. o >>= λ y. follow_bound (length σ) (obj i) ns y p)) (sym q)
          (ih s (ty w'.cls (under w.tag w'.tag))
          (λ m. subst (λ (o : Option Ref). Typed t (c ∷ σ) m (ty w'.cls (under w.tag w'.tag)) (λ p. o >>= λ y. follow ns y p)) q ((h (suc m)).1 c' k f w' e z)))

  pub bound_typed : (n : ℕ) (r : Ref) (w : Ty) → AllTyped t (c ∷ σ) w (follow ns r) → Typed t σ n w (follow_bound (length σ) (obj i) ns r)
  bound_typed zero r w h = tt
  bound_typed (suc n) (obj j) w h = at_object n (bound_typed n) j w h
  bound_typed (suc n) (leaf (mark k)) w h = go (eqb k (length σ)) refl (h 1).0 (at_object n (bound_typed n) i w)
    where
      go : (b : Bool) → eqb k (length σ) ≡ b → OkLeaf t (c ∷ σ) w (mark k)
          → (AllTyped t (c ∷ σ) w (follow ns (obj i)) → Typed t σ (suc n) w (follow_bound (length σ) (obj i) ns (obj i)))
          → Typed t σ (suc n) w (follow_bound (length σ) (obj i) ns (leaf (mark k)))
      go true q ok ih =
          let e : some c ≡ some ok.0 = sym (bound_new c σ) ∙ ap (bound (c ∷ σ)) (sym (eqb-true k (length σ) q)) ∙ ok.1 in
          let d : ok.0 ≡ c = cc in
          subst (Typed t σ (suc n) w) (fun_ext (λ p. bound_as (length σ) (obj i) ns (obj i) (leaf (mark k)) (sym (bind_is (length σ) k (obj i) q)) p))
          (ih (λ m. typed-fits t wf m (c ∷ σ) (ty c g) w (follow ns (obj i)) (subst (λ (x : ℕ). class_fits t.classes x w.cls ≡ true) d ok.2) (omega (arith, ok.3)) (A m)))
      go false q ok ih =
          subst (Typed t σ (suc n) w) (sym (fun_ext (λ p. bound_leaf (length σ) (obj i) ns (mark k) (bind_not (length σ) k (obj i) q) p)))
          (leaf_typed t wf (suc n) σ w ns (mark k) (ok.0, sym (bound_old c σ k ok.0 (eqb-false k (length σ) q)) ∙ ok.1, ok.2, ok.3))
  bound_typed (suc n) (leaf undet) w h =
      subst (Typed t σ (suc n) w) (sym (fun_ext (λ p. bound_leaf (length σ) (obj i) ns undet refl p))) (leaf_typed t wf (suc n) σ w ns undet (h 1).0)
  bound_typed (suc n) (leaf (num x)) w h =
      subst (Typed t σ (suc n) w) (sym (fun_ext (λ p. bound_leaf (length σ) (obj i) ns (num x) refl p))) (leaf_typed t wf (suc n) σ w ns (num x) (h 1).0)

-- a tag after X = u: 2 and 3 may be undetermined
abbrev pub raise : ℕ → ℕ
raise zero = 0
raise (suc zero) = 1
raise (suc (suc g)) = 3

module _ (t : Table) (wf : WellFormed t) where
  close-whole : (x : ℕ) (r : Ref) (ns : List Node) → Whole (graph r ns) → Whole (close x (graph r ns))
  unfolding close
  close-whole x (obj i) ns h = canon-whole _ (bound_whole (graph (obj i) ns) h x i h.top)
  close-whole x (leaf (mark k)) ns h = go (eqb k x)
    where
      go : (b : Bool) → Whole (graph (elim b as (λ _. Ref) [ true ↦ leaf undet | false ↦ leaf (mark k) ]) [])
      go true = leaf_whole undet
      go false = leaf_whole (mark k)
  close-whole x (leaf undet) ns h = leaf_whole undet
  close-whole x (leaf (num n)) ns h = leaf_whole (num n)

  -- the root is an object
  close_object : (σ : List ℕ) (c g : ℕ) (ns : List Node) (i : ℕ) → g ≤ 3 → Has t (c ∷ σ) (ty c g) (graph (obj i) ns)
      → AllTyped t σ (ty c (raise g)) (tree (close (length σ) (graph (obj i) ns)))
  close_object σ c zero ns i l h n =
      subst (Typed t σ n (ty c 0)) (sym (fun_ext (λ p. close_tree (length σ) i ns h.whole p)))
      (bound_typed t wf σ c 0 (omega arith) ns i h.typed n (obj i) (ty c 0) h.typed)
  close_object σ c (suc g) ns i l h n =
      let A = retag t wf (c ∷ σ) c g ns i h.typed in
      typed-fits t wf n σ (ty c 1) (ty c (raise (suc g))) _ (fits_self t.classes c c refl) (small g)
      (subst (Typed t σ n (ty c 1)) (sym (fun_ext (λ p. close_tree (length σ) i ns h.whole p)))
      (bound_typed t wf σ c 1 (omega arith) ns i A n (obj i) (ty c 1) A))
    where
      small : (k : ℕ) → 1 ≤ raise (suc k)
      small zero = omega arith
      small (suc k) = omega arith

  raise_le : (g : ℕ) → raise g ≤ 3
  raise_le zero = omega arith
  raise_le (suc zero) = omega arith
  raise_le (suc (suc g)) = omega arith

  raise_2 : (g : ℕ) → 2 ≤ g → raise g ≡ 3
  raise_2 zero h = absurd (omega arith)
  raise_2 (suc zero) h = absurd (omega arith)
  raise_2 (suc (suc g)) h = refl

  close-typed : (σ : List ℕ) (c g : ℕ) (r : Ref) (ns : List Node) → g ≤ 3 → Has t (c ∷ σ) (ty c g) (graph r ns)
      → AllTyped t σ (ty c (raise g)) (tree (close (length σ) (graph r ns)))
  unfolding close
  close-typed σ c g (obj i) ns l h n = close_object σ c g ns i l h n
  close-typed σ c g (leaf (mark k)) ns l h n = go (eqb k (length σ)) refl (h.typed 1).0
    where
      go : (b : Bool) → eqb k (length σ) ≡ b → OkLeaf t (c ∷ σ) (ty c g) (mark k)
          → Typed t σ n (ty c (raise g)) (tree (graph (elim b as (λ _. Ref) [ true ↦ leaf undet | false ↦ leaf (mark k) ]) []))
      go true q ok = leaf_typed t wf n σ (ty c (raise g)) [] undet (let e = raise_2 g ok.3 in omega arith)
      go false q ok =
          leaf_typed t wf n σ (ty c (raise g)) [] (mark k)
          (ok.0, sym (bound_old c σ k ok.0 (eqb-false k (length σ) q)) ∙ ok.1, ok.2, let e = raise_2 g ok.3 in omega arith)
  close-typed σ c g (leaf undet) ns l h n =
      let ok : 3 ≤ g = (h.typed 1).0 in
      let e = raise_2 g (omega arith) in
      leaf_typed t wf n σ (ty c (raise g)) [] undet (omega arith)
  close-typed σ c g (leaf (num x)) ns l h n = leaf_typed t wf n σ (ty c (raise g)) [] (num x) (h.typed 1).0

  pub has_close : (σ : List ℕ) (u : Ty) (v : Graph) → Has t (u.cls ∷ σ) u v → Has t σ (ty u.cls (raise u.tag)) (close (length σ) v)
  has_close σ u v h =
      record {
        whole = close-whole (length σ) v.root v.nodes h.whole;
        typed = close-typed σ u.cls u.tag v.root v.nodes h.tag h;
        tag = raise_le u.tag;
      }
