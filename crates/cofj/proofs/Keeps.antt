-- The operations on values keep the invariant of type soundness.
use Prim.Native.Nat.{ℕ, zero, suc, ◌≤◌, zero-le, max}
use native.Mathlib.Omega.{arith}
use mathlib.Core.Path.{◌≡◌, refl, sym, ap, ◌∙◌, subst, fun_ext}
use mathlib.Core.Bool.{Bool, true, false, cond, false≢true}
use mathlib.Core.List.{List, [], ◌∷◌, map}
use mathlib.Core.Option.{Option, none, some, none-ne-some, some-ne-none}
use lib.Dec.{eqb, leb}
use lib.ListN.{length, get_elem?, length-map}
use borrow.Author.Tests.{eqb-false, leb-true}
use Rattle.cofj.specs.Limits.{number_class}
use Rattle.cofj.specs.Syntax.{Ty, ty, Table}
use Rattle.cofj.specs.Partial.{◌>>=◌}
use Rattle.cofj.specs.Classes.{class_fits, fits, fields_of}
use Rattle.cofj.specs.Lookup.{Found, lookup}
use Rattle.cofj.specs.Typing.{closed_tag, all_fit, narrow, number_type}
use Rattle.cofj.specs.Values.{Ref, obj, leaf, Leaf, mark, undet, num, Node, Graph, graph, refs_at, canon, select, selected, make, leaf_of, leaf_number, number_in}
use Rattle.cofj.specs.Unfolding.{Label, object, at_leaf, follow, Whole, AllWhole}
use Rattle.cofj.specs.WellFormed.{WellFormed, Tags}
use Rattle.cofj.proofs.Chain.{fits_self}
use Rattle.cofj.proofs.Climb.{fits_fields, field_tag}
use Rattle.cofj.proofs.Numbers.{number_above, number_below, number_fields, number_lookup}
use Rattle.cofj.proofs.Canon.{canon-whole}
use Rattle.cofj.proofs.Operations.{make_top, make_field, make-whole, select_tree, at_ref}
use Rattle.cofj.proofs.Typed.{tree, under, OkLeaf, OkAt, Typed, AllTyped, Has, Hold, typed-fits, typed_more, typed_closed}
use Rattle.cofj.proofs.Partial.{and_true, or_false}

-- ---- leaves
pub leaf_whole : (l : Leaf) → Whole (leaf_of l)
leaf_whole l = record { top = tt; inner = λ i f s e. absurd (none-ne-some s e) }

module _ (t : Table) (wf : WellFormed t) where
  pub leaf_typed : (n : ℕ) (σ : List ℕ) (u : Ty) (ns : List Node) (l : Leaf) → OkLeaf t σ u l → Typed t σ n u (follow ns (leaf l))
  leaf_typed zero σ u ns l h = tt
  leaf_typed (suc n) σ u ns l h = (h, λ c j f w e z. let y : some (at_leaf l) ≡ some (object c j) = e in absurd (let q : ◌≡◌ {A = ℕ} 0 1 = cc in omega arith))

  pub has_leaf : (σ : List ℕ) (u : Ty) (l : Leaf) → u.tag ≤ 3 → OkLeaf t σ u l → Has t σ u (leaf_of l)
  has_leaf σ u l g h = record { whole = leaf_whole l; typed = λ n. leaf_typed n σ u [] l h; tag = g }

  -- ---- weakening of values
  pub has_fits : (σ : List ℕ) (u u' : Ty) (v : Graph) → fits t.classes u u' ≡ true → u'.tag ≤ 3 → Has t σ u v → Has t σ u' v
  has_fits σ u u' v p g h =
      let q = and_true (class_fits t.classes u.cls u'.cls) (leb u.tag u'.tag) p in
      record { whole = h.whole; typed = λ n. typed-fits t wf n σ u u' (tree v) q.0 (leb-true u.tag u'.tag q.1) (h.typed n); tag = g }

  pub has_more : (x : ℕ) (σ : List ℕ) (u : Ty) (v : Graph) → Has t σ u v → Has t (x ∷ σ) u v
  has_more x σ u v h = record { whole = h.whole; typed = λ n. typed_more t wf n x σ u (tree v) (h.typed n); tag = h.tag }

  pub hold_more : (x : ℕ) (σ : List ℕ) (us : List Ty) (vs : List Graph) → Hold t σ us vs → Hold t (x ∷ σ) us vs
  hold_more x σ [] [] h = tt
  hold_more x σ [] (v ∷ vs) h = h
  hold_more x σ (u ∷ us) [] h = h
  hold_more x σ (u ∷ us) (v ∷ vs) h = (has_more x σ u v h.0, hold_more x σ us vs h.1)

  pub has_closed : (u : Ty) (g : ℕ) (v : Graph) → (3 ≤ u.tag → 3 ≤ g) → g ≤ 3 → Has t [] u v → Has t [] (ty u.cls g) v
  has_closed u g v q l h = record { whole = h.whole; typed = λ n. typed_closed t wf n u (ty u.cls g) (tree v) refl q (h.typed n); tag = l }

  pub hold_fits : (σ : List ℕ) (us ws : List Ty) (vs : List Graph) → all_fit t us ws ≡ true → Tags ws → Hold t σ us vs → Hold t σ ws vs
  hold_fits σ [] [] [] p g h = tt
  hold_fits σ [] [] (v ∷ vs) p g h = h
  hold_fits σ [] (w ∷ ws) vs p g h = absurd (false≢true p)
  hold_fits σ (u ∷ us) [] vs p g h = absurd (false≢true p)
  hold_fits σ (u ∷ us) (w ∷ ws) [] p g h = h
  hold_fits σ (u ∷ us) (w ∷ ws) (v ∷ vs) p g h =
      let q = and_true (fits t.classes u w) (all_fit t us ws) p in
      (has_fits σ u w v q.0 g.0 h.0, hold_fits σ us ws vs q.1 g.1 h.1)

  pub hold_length : (σ : List ℕ) (us : List Ty) (vs : List Graph) → Hold t σ us vs → length us ≡ length vs
  hold_length σ [] [] h = refl
  hold_length σ [] (v ∷ vs) h = absurd h
  hold_length σ (u ∷ us) [] h = absurd h
  hold_length σ (u ∷ us) (v ∷ vs) h = ap suc (hold_length σ us vs h.1)

  pub hold_whole : (σ : List ℕ) (us : List Ty) (vs : List Graph) → Hold t σ us vs → AllWhole vs
  hold_whole σ [] [] h = tt
  hold_whole σ [] (v ∷ vs) h = absurd h
  hold_whole σ (u ∷ us) [] h = absurd h
  hold_whole σ (u ∷ us) (v ∷ vs) h = (h.0.whole, hold_whole σ us vs h.1)

  pub fit_length : (us ws : List Ty) → all_fit t us ws ≡ true → length us ≡ length ws
  fit_length [] [] p = refl
  fit_length [] (w ∷ ws) p = absurd (false≢true p)
  fit_length (u ∷ us) [] p = absurd (false≢true p)
  fit_length (u ∷ us) (w ∷ ws) p = ap suc (fit_length us ws (and_true (fits t.classes u w) (all_fit t us ws) p).1)

  pub hold_get : (σ : List ℕ) (us : List Ty) (vs : List Graph) → Hold t σ us vs → (f : ℕ) (w : Ty) → get_elem? us f ≡ some w
      → (v : Graph) × (get_elem? vs f ≡ some v) × Has t σ w v
  hold_get σ [] vs h f w e = absurd (none-ne-some w e)
  hold_get σ (u ∷ us) [] h f w e = absurd h
  hold_get σ (u ∷ us) (v ∷ vs) h zero w e = (v, refl, subst (λ (x : Ty). Has t σ x v) (let y : u ≡ w = cc in y) h.0)
  hold_get σ (u ∷ us) (v ∷ vs) h (suc f) w e = hold_get σ us vs h.1 f w e

  -- ---- the root of a value of tag 0 or 1: an object, or a number where the class is that of numbers
  object_at : (σ : List ℕ) (u : Ty) → u.tag ≤ 1 → (u.cls ≡ number_class → ⊥) → (o : Option Label) → OkAt t σ u o
      → (c : ℕ) × (k : ℕ) × (o ≡ some (object c k)) × (class_fits t.classes c u.cls ≡ true)
  object_at σ u g x none h = absurd h
  object_at σ u g x (some (object c k)) h = (c, k, refl, h.0)
  object_at σ u g x (some (at_leaf (mark k))) h = absurd (omega (arith, h.3))
  object_at σ u g x (some (at_leaf undet)) h = absurd (omega arith)
  object_at σ u g x (some (at_leaf (num n))) h = absurd (x (number_above t wf u.cls h))

  pub has_object : (σ : List ℕ) (u : Ty) (v : Graph) → u.tag ≤ 1 → (u.cls ≡ number_class → ⊥) → Has t σ u v
      → (c : ℕ) × (k : ℕ) × (tree v [] ≡ some (object c k)) × (class_fits t.classes c u.cls ≡ true)
  has_object σ u v g x h = object_at σ u g x (tree v []) (h.typed 1).0

  -- a class with a field or a method is not that of numbers
  pub has_fields : (c f : ℕ) (w : Ty) → get_elem? (fields_of t.classes c) f ≡ some w → c ≡ number_class → ⊥
  has_fields c f w e z =
      absurd (none-ne-some w (sym (ap (λ (l : List Ty). get_elem? l f) (ap (fields_of t.classes) z ∙ number_fields t wf)) ∙ e))

  pub has_methods : (c m : ℕ) (f : Found) → lookup t c m ≡ some f → c ≡ number_class → ⊥
  has_methods c m f e z = absurd (none-ne-some f (sym (ap (λ (k : ℕ). lookup t k m) z ∙ number_lookup t wf m) ∙ e))

  -- a value of the type of numbers is one
  pub has_number : (σ : List ℕ) (v : Graph) → Has t σ number_type v → (n : ℕ) × (number_in v ≡ some n)
  has_number σ v h = go v.root (h.typed 1).0
    where
      go : (r : Ref) → OkAt t σ number_type (follow v.nodes r []) → (n : ℕ) × ((elim r as (λ _. Option ℕ) [ obj i ↦ none | leaf l ↦ leaf_number l ]) ≡ some n)
      go (obj i) ok = let z = number_below t wf _ ok.0 in absurd (omega (arith, ok.2, wf.classes))
      go (leaf (mark k)) ok = absurd (omega (arith, ok.3))
      go (leaf undet) ok = absurd (omega arith)
      go (leaf (num n)) ok = (n, refl)

  -- an object has its own class for a type
  pub has_own : (σ : List ℕ) (u : Ty) (v : Graph) (c k : ℕ) → tree v [] ≡ some (object c k) → Has t σ u v → Has t σ (ty c u.tag) v
  has_own σ u v c k e h = record { whole = h.whole; typed = go; tag = h.tag }
    where
      count : OkAt t σ u (some (object c k)) → OkAt t σ (ty c u.tag) (some (object c k))
      count x = (fits_self t.classes c c refl, x.1, x.2)

      go : (n : ℕ) → Typed t σ n (ty c u.tag) (tree v)
      go zero = tt
      go (suc n) =
          (subst (OkAt t σ (ty c u.tag)) (sym e) (count (subst (OkAt t σ u) e (h.typed 1).0)), (h.typed (suc n)).1)

  -- ---- new
  make-typed : (σ : List ℕ) (c g : ℕ) → c ≤ length t.classes → (vs : List Graph) → AllWhole vs → length vs ≡ length (fields_of t.classes c)
      → ((f : ℕ) (w : Ty) → get_elem? (fields_of t.classes c) f ≡ some w → (v : Graph) × (get_elem? vs f ≡ some v) × AllTyped t σ (ty w.cls (under g w.tag)) (tree v))
      → AllTyped t σ (ty c g) (tree (make c vs))
  make-typed σ c g kn vs a l h zero = tt
  make-typed σ c g kn vs a l h (suc n) = (subst (OkAt t σ (ty c g)) (sym (make_top c vs a)) (fits_self t.classes c c refl, l, kn), below)
    where
      below : (c' k f : ℕ) (w : Ty) → tree (make c vs) [] ≡ some (object c' k) → get_elem? (fields_of t.classes c') f ≡ some w
          → Typed t σ n (ty w.cls (under g w.tag)) (λ p. tree (make c vs) (f ∷ p))
      below c' k f w e z =
          let y : some (object c (length vs)) ≡ some (object c' k) = sym (make_top c vs a) ∙ e in
          let x : c' ≡ c = cc in
          let r = h f w (sym (ap (λ (d : ℕ). get_elem? (fields_of t.classes d) f) x) ∙ z) in
          subst (Typed t σ n (ty w.cls (under g w.tag)))
          (sym (fun_ext (λ p. make_field c vs a f p ∙ ap (λ (o : Option Graph). o >>= (λ v. tree v p)) r.1))) (r.2 n)

  pub has_new : (σ : List ℕ) (c : ℕ) → c ≤ length t.classes → (us : List Ty) (vs : List Graph) → Hold t σ us vs → all_fit t us (fields_of t.classes c) ≡ true
      → Tags (fields_of t.classes c) → Has t σ (ty c 0) (make c vs)
  has_new σ c kn us vs h p g =
      let k = hold_fits σ us (fields_of t.classes c) vs p g h in
      record {
        whole = make-whole c vs (hold_whole σ us vs h);
        typed = make-typed σ c 0 kn vs (hold_whole σ us vs h) (sym (hold_length σ (fields_of t.classes c) vs k))
            (λ f w e. let r = hold_get σ (fields_of t.classes c) vs k f w e in (r.0, r.1, r.2.typed));
        tag = zero-le;
      }

  -- an open tag is at most 2
  narrow_le : (g h : ℕ) → g ≤ 3 → leb (cond (closed_tag g) g 0) h ≡ true → g ≤ max 2 h
  narrow_le g h l = go (closed_tag g) refl
    where
      go : (b : Bool) → closed_tag g ≡ b → leb (cond b g 0) h ≡ true → g ≤ max 2 h
      go true q e = omega (arith, leb-true g h e)
      go false q e = let ne = eqb-false g 3 (or_false (eqb g 0) (eqb g 3) q).1 in omega arith

  hold_open : (σ : List ℕ) (us ws : List Ty) (vs : List Graph) → Hold t σ us vs → all_fit t (map narrow us) ws ≡ true → (f : ℕ) (w : Ty) → get_elem? ws f ≡ some w
      → (v : Graph) × (get_elem? vs f ≡ some v) × AllTyped t σ (ty w.cls (max 2 w.tag)) (tree v)
  hold_open σ [] [] vs h p f w e = absurd (none-ne-some w e)
  hold_open σ [] (x ∷ ws) vs h p f w e = absurd (false≢true p)
  hold_open σ (u ∷ us) [] vs h p f w e = absurd (false≢true p)
  hold_open σ (u ∷ us) (x ∷ ws) [] h p f w e = absurd h
  hold_open σ (u ∷ us) (x ∷ ws) (v ∷ vs) h p zero w e =
      let y : x ≡ w = cc in
      let q = (and_true (fits t.classes (narrow u) x) (all_fit t (map narrow us) ws) p).0 in
      let r = and_true (class_fits t.classes u.cls x.cls) (leb (narrow u).tag x.tag) q in (
        v,
        refl,
        subst (λ (k : Ty). AllTyped t σ (ty k.cls (max 2 k.tag)) (tree v)) y
            (λ n. typed-fits t wf n σ u (ty x.cls (max 2 x.tag)) (tree v) r.0 (narrow_le u.tag x.tag h.0.tag r.1) (h.0.typed n)),
      )
  hold_open σ (u ∷ us) (x ∷ ws) (v ∷ vs) h p (suc f) w e =
      hold_open σ us ws vs h.1 (and_true (fits t.classes (narrow u) x) (all_fit t (map narrow us) ws) p).1 f w e

  pub has_new_open : (σ : List ℕ) (c : ℕ) → c ≤ length t.classes → (us : List Ty) (vs : List Graph) → Hold t σ us vs → all_fit t (map narrow us) (fields_of t.classes c) ≡ true
      → Has t σ (ty c 1) (make c vs)
  has_new_open σ c kn us vs h p =
      record {
        whole = make-whole c vs (hold_whole σ us vs h);
        typed = make-typed σ c 1 kn vs (hold_whole σ us vs h)
            (sym (hold_length σ us vs h) ∙ sym (length-map us narrow) ∙ fit_length (map narrow us) (fields_of t.classes c) p)
            (hold_open σ us (fields_of t.classes c) vs h p);
        tag = omega arith;
      }

  -- ---- field f
  select_none : (f : ℕ) (v : Graph) → select f v ≡ none → tree v (f ∷ []) ≡ none
  unfolding select
  select_none f v e = go v.root e
    where
      found : (o : Option Ref) → selected v.nodes o ≡ none → o >>= (λ s. follow v.nodes s []) ≡ none
      found none z = refl
      found (some s) z = absurd (some-ne-none _ z)

      go : (r : Ref) → ◌≡◌ {A = Option Graph} (elim r [ obj i ↦ selected v.nodes (get_elem? (refs_at v.nodes i) f) | leaf l ↦ none ]) none
          → follow v.nodes r (f ∷ []) ≡ none
      go (obj i) z = found (get_elem? (refs_at v.nodes i) f) z
      go (leaf l) z = refl

  select-whole : (f : ℕ) (v v' : Graph) → Whole v → select f v ≡ some v' → Whole v'
  unfolding select
  select-whole f v v' h e = go v.root e
    where
      found : (i : ℕ) (o : Option Ref) → get_elem? (refs_at v.nodes i) f ≡ o → selected v.nodes o ≡ some v' → Whole v'
      found i none q z = absurd (none-ne-some v' z)
      found i (some r) q z = subst Whole (let y : canon (graph r v.nodes) ≡ v' = cc in y) (canon-whole (graph r v.nodes) (at_ref v h r (h.inner i f r q)))

      go : (r : Ref) → (elim r as (λ _. Option Graph) [ obj i ↦ selected v.nodes (get_elem? (refs_at v.nodes i) f) | leaf l ↦ none ]) ≡ some v' → Whole v'
      go (obj i) z = found i (get_elem? (refs_at v.nodes i) f) refl z
      go (leaf l) z = absurd (none-ne-some v' z)

  pub has_select : (σ : List ℕ) (c f : ℕ) (w : Ty) (v : Graph) → Has t σ (ty c 0) v → get_elem? (fields_of t.classes c) f ≡ some w
      → (v' : Graph) × (select f v ≡ some v') × Has t σ w v'
  has_select σ c f w v h e = go (select f v) refl
    where
      below : (n : ℕ) → Typed t σ n w (λ p. tree v (f ∷ p))
      below n =
          let o = has_object σ (ty c 0) v zero-le (has_fields c f w e) h in
          (h.typed (suc n)).1 o.0 o.1 f w o.2 (fits_fields t.classes wf.parents o.0 c f w o.3 e)

      go : (o : Option Graph) → select f v ≡ o → (v' : Graph) × (o ≡ some v') × Has t σ w v'
      go none q = absurd (subst (OkAt t σ w) (select_none f v q) (below 1).0)
      go (some v') q = (
        v',
        refl,
        record {
          whole = select-whole f v v' h.whole q;
          typed = λ n. subst (Typed t σ n w) (sym (fun_ext (λ p. select_tree v h.whole f v' q p))) (below n);
          tag = field_tag t wf c f w e;
        },
      )
