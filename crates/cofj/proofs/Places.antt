-- From the invariant of type soundness to its statement, every place of a finished value, by paths; and back, for the input of a run.
use Prim.Native.Nat.{ℕ, zero, suc, ◌≤◌, ◌<◌}
use native.Mathlib.Omega.{arith}
use mathlib.Core.Path.{◌≡◌, refl, sym, ap, ◌∙◌, subst}
use mathlib.Core.Bool.{true}
use mathlib.Core.List.{List, [], ◌∷◌, ◌++◌, append_assoc, append-nil}
use mathlib.Core.Option.{Option, none, some, none-ne-some}
use lib.ListN.{length, get_elem?}
use Rattle.cofj.specs.Limits.{number_class}
use Rattle.cofj.specs.Syntax.{Ty, ty, Table}
use Rattle.cofj.specs.Partial.{◌>>=◌}
use Rattle.cofj.specs.Classes.{class_fits, fields_of}
use Rattle.cofj.specs.Values.{Ref, obj, leaf, mark, undet, num, Node, node, Graph, node_at, refs_at}
use Rattle.cofj.specs.Unfolding.{Label, object, at_leaf, label_at, child, follow}
use Rattle.cofj.specs.Formed.{AllIn, Formed, Good}
use Rattle.cofj.specs.WellFormed.{WellFormed}
use Rattle.cofj.specs.Soundness.{StandsAt, NotOpen, Sits}
use Rattle.cofj.proofs.Basics.{at_lt, at_some}
use Rattle.cofj.proofs.Chain.{fits_self}
use Rattle.cofj.proofs.Climb.{field_tag}
use Rattle.cofj.proofs.Numbers.{number_above}
use Rattle.cofj.proofs.GoodValues.{all_at, formed_default}
use Rattle.cofj.proofs.Typed.{Tree, tree, bound, under, OkAt, Typed, AllTyped, Has}

module _ (t : Table) (wf : WellFormed t) where
  -- an allowed label at a place whose tag is 3 only where the declared one is
  pub stands : (u : Ty) (w : Ty) → u.cls ≡ w.cls → (3 ≤ u.tag → w.tag ≡ 3) → (o : Option Label) → OkAt t [] u o → StandsAt t w o
  unfolding bound
  stands u w p q none h = h
  stands u w p q (some (object c n)) h = (subst (λ (d : ℕ). class_fits t.classes c d ≡ true) p h.0, h.1)
  stands u w p q (some (at_leaf (mark k))) h = absurd (none-ne-some h.0 h.1)
  stands u w p q (some (at_leaf undet)) h = q h
  stands u w p q (some (at_leaf (num n))) h = sym p ∙ number_above t wf u.cls h

  pub under_3 : (g h : ℕ) → h ≤ 3 → 3 ≤ under g h → h ≡ 3
  under_3 zero h l p = omega arith
  under_3 (suc g) h l p = omega arith

  not_open : (u : Ty) (o : Option Label) → OkAt t [] u o → NotOpen o
  unfolding bound
  not_open u none h = tt
  not_open u (some (object c n)) h = tt
  not_open u (some (at_leaf (mark k))) h = absurd (none-ne-some h.0 h.1)
  not_open u (some (at_leaf undet)) h = tt
  not_open u (some (at_leaf (num n))) h = tt

  -- a field that can be followed is declared, and what is below it is typed
  pub onward : (ns : List Node) (r : Ref) (u : Ty) → AllTyped t [] u (follow ns r) → (f : ℕ) (s : Ref) → child ns r f ≡ some s → (w : Ty) × AllTyped t [] w (follow ns s)
  onward ns (obj i) u h f s e =
      let l = at_lt (refs_at ns i) f s e in
      let w = at_some (fields_of t.classes (node_at ns i).cls) f (subst (λ (n : ℕ). f < n) (h 1).0.1 l) in (
        ty w.0.cls (under u.tag w.0.tag),
        λ n. subst (λ (o : Option Ref). Typed t [] n (ty w.0.cls (under u.tag w.0.tag)) (λ p. o >>= λ y. follow ns y p)) e
            ((h (suc n)).1 (node_at ns i).cls (length (refs_at ns i)) f w.0 refl w.1),
      )
  onward ns (leaf l) u h f s e = absurd (none-ne-some s e)

  no_mark : (ns : List Node) (p : List ℕ) (r : Ref) (u : Ty) → AllTyped t [] u (follow ns r) → NotOpen (follow ns r p)
  no_mark ns [] r u h = not_open u (some (label_at ns r)) (h 1).0
  no_mark ns (f ∷ p) r u h = go (child ns r f) refl (no_mark ns p)
    where
      go : (o : Option Ref) → child ns r f ≡ o → ((s : Ref) (w : Ty) → AllTyped t [] w (follow ns s) → NotOpen (follow ns s p)) → NotOpen (o >>= λ s. follow ns s p)
      go none e ih = tt
      go (some s) e ih = let k = onward ns r u h f s e in ih s k.0 k.1

  places : (ns : List Node) (p : List ℕ) (r : Ref) (u : Ty) → AllTyped t [] u (follow ns r) → (c n f : ℕ) (w : Ty) → follow ns r p ≡ some (object c n)
      → get_elem? (fields_of t.classes c) f ≡ some w → StandsAt t w (follow ns r (p ++ (f ∷ [])))
  places ns [] r u h c n f w e z =
      stands (ty w.cls (under u.tag w.tag)) w refl (under_3 u.tag w.tag (field_tag t wf c f w z)) (follow ns r (f ∷ [])) ((h 2).1 c n f w e z).0
  places ns (k ∷ p) r u h c n f w e z = go (child ns r k) refl e (places ns p)
    where
      go : (o : Option Ref) → child ns r k ≡ o → o >>= (λ s. follow ns s p) ≡ some (object c n)
          → ((s : Ref) (u' : Ty) → AllTyped t [] u' (follow ns s) → (c' n' f' : ℕ) (w' : Ty) → follow ns s p ≡ some (object c' n')
          → get_elem? (fields_of t.classes c') f' ≡ some w' → StandsAt t w' (follow ns s (p ++ (f' ∷ []))))
          → StandsAt t w (o >>= λ s. follow ns s (p ++ (f ∷ [])))
      go none q y ih = absurd (none-ne-some (object c n) y)
      go (some s) q y ih = let d = onward ns r u h k s q in ih s d.0 d.1 c n f w y z

  pub sits : (u : Ty) (v : Graph) → Has t [] u v → Sits t u v
  sits u v h =
      record {
        root = stands u u refl (λ l. let m = h.tag in omega arith) (tree v []) (h.typed 1).0;
        places = λ p c n f w e z. places v.nodes p v.root u h.typed c n f w e z;
        closed = λ p. no_mark v.nodes p v.root u h.typed;
      }

  -- ---- and back
  -- an object that is met is one of the table's
  abbrev Known : Option Label → Type 0
  Known o = (c n : ℕ) → o ≡ some (object c n) → c ≤ length t.classes

  known_label : (ns : List Node) → AllIn (Formed t 0) ns → (r : Ref) → Known (some (label_at ns r))
  known_label ns h (obj i) c n e =
      let y : (node_at ns i).cls ≡ c = cc in
      subst (λ (d : ℕ). d ≤ length t.classes) y (all_at (Formed t 0) (node 0 []) (formed_default t 0) ns h i).known
  known_label ns h (leaf l) c n e = absurd (let q : ◌≡◌ {A = ℕ} 0 1 = cc in omega arith)

  known_at : (ns : List Node) → AllIn (Formed t 0) ns → (p : List ℕ) (r : Ref) → Known (follow ns r p)
  known_at ns h [] r c n e = known_label ns h r c n e
  known_at ns h (f ∷ p) r c n e = go (child ns r f) e (λ s. known_at ns h p s c n)
    where
      go : (o : Option Ref) → o >>= (λ s. follow ns s p) ≡ some (object c n) → ((s : Ref) → follow ns s p ≡ some (object c n) → c ≤ length t.classes) → c ≤ length t.classes
      go none e ih = absurd (none-ne-some (object c n) e)
      go (some s) e ih = ih s e

  okay : (u w : Ty) → u.cls ≡ w.cls → (w.tag ≡ 3 → 3 ≤ u.tag) → (o : Option Label) → Known o → StandsAt t w o → OkAt t [] u o
  okay u w p q none k h = h
  okay u w p q (some (object c n)) k h = (subst (λ (d : ℕ). class_fits t.classes c d ≡ true) (sym p) h.0, h.1, k c n refl)
  okay u w p q (some (at_leaf (mark x))) k h = absurd h
  okay u w p q (some (at_leaf undet)) k h = q h
  okay u w p q (some (at_leaf (num n))) k h = fits_self t.classes number_class u.cls (sym (p ∙ h))

  under_of : (g h : ℕ) → h ≡ 3 → 3 ≤ under g h
  under_of zero h e = omega arith
  under_of (suc g) h e = omega arith

  -- what lies below a path is typed
  typed_below : (x : Ty) (v : Graph) → AllIn (Formed t 0) v.nodes → Sits t x v → (n : ℕ) (p : List ℕ) (u w : Ty) → u.cls ≡ w.cls → (w.tag ≡ 3 → 3 ≤ u.tag) → StandsAt t w (tree v p)
      → Typed t [] n u (λ q. tree v (p ++ q))
  typed_below x v g s zero p u w a b h = tt
  typed_below x v g s (suc n) p u w a b h = (
    subst (λ (q : List ℕ). OkAt t [] u (tree v q)) (sym (append-nil p)) (okay u w a b (tree v p) (known_at v.nodes g p v.root) h),
    λ c k f y e z. subst (λ (T : Tree). Typed t [] n (ty y.cls (under u.tag y.tag)) T) (λ i q. tree v (append_assoc p (f ∷ []) q i))
        (typed_below x v g s n (p ++ (f ∷ [])) (ty y.cls (under u.tag y.tag)) y refl (under_of u.tag y.tag)
        (s.places p c k f y (ap (tree v) (sym (append-nil p)) ∙ e) z)),
  )

  pub has_sits : (objects : ℕ) (u : Ty) (v : Graph) → Good t objects 0 v → u.tag ≤ 3 → Sits t u v → Has t [] u v
  has_sits objects u v g l s = record { whole = g.whole; typed = λ n. typed_below u v g.nodes s n [] u u refl (λ e. omega arith) s.root; tag = l }
