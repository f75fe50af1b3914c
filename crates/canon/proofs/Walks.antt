-- Laws of the walk.
use Rattle.std.proofs.Common.{ℕ, zero, suc, ◌+◌, ◌-◌, ◌*◌, ◌<◌, ◌≤◌, arith, add-one, ◌≡◌, refl, sym, ap, ◌∙◌, Bool, true, false, cond, true≢false, List, [], ◌∷◌, ◌++◌, eqb, length, get_or, set, take, replicate, length-append, length-take, drop_of_length-le, drop-cons, get_or-take, get_or-set_same, get_or-set_other, length-take-le, take-suc-set, eq-eqb, ne_eqb}
use native.Mathlib.Decide.{dec_lt, ℕ_discrete}
use Rattle.cofj.specs.Values.{Ref, obj, leaf, undet, Node, refs_at, colour_of, is_in, place_in, visit, visit_all}
use Rattle.canon.specs.Figures.{object_size, head_size, code_count, numbers_at, first_leaf}
use Rattle.canon.specs.Layout.{leaf_from, ref_of, number_at, ref_in, four, node_in, nodes_in}
use Rattle.canon.specs.Walking.{walk_ref, walk_fields, mark_in, Listed, Walkable}
use Rattle.canon.proofs.Zeros.{zero_at}
use Rattle.canon.proofs.Nodes.{ref_object, ref_leaf, four_at_lem, at_nodes}

-- ---- what is met stays
all_grows : (f : Ref → List ℕ → List ℕ) → ((r : Ref) (s : List ℕ) → length s ≤ length (f r s)) → (rs : List Ref) (s : List ℕ) → length s ≤ length (visit_all f rs s)
unfolding visit_all
all_grows f h [] s = omega arith
all_grows f h (r ∷ rs) s = omega (arith, h r s, all_grows f h rs (f r s))

grows : (ns : List Node) (cs : List ℕ) (k : ℕ) (r : Ref) (s : List ℕ) → length s ≤ length (visit ns cs k r s)
unfolding visit
grows ns cs zero r s = omega arith
grows ns cs (suc k) (leaf l) s = omega arith
grows ns cs (suc k) (obj i) s =
    go (is_in (colour_of cs i) s) (all_grows (λ r t. visit ns cs k r t) (λ r t. grows ns cs k r t) (refs_at ns (colour_of cs i)) (s ++ (colour_of cs i ∷ [])))
  where
    go : (b : Bool) → length (s ++ (colour_of cs i ∷ [])) ≤ length (visit_all (λ r t. visit ns cs k r t) (refs_at ns (colour_of cs i)) (s ++ (colour_of cs i ∷ [])))
        → length s ≤ length {A = ℕ} (elim b as (λ _. List ℕ) [ true ↦ s | false ↦ visit_all (λ r t. visit ns cs k r t) (refs_at ns (colour_of cs i)) (s ++ (colour_of cs i ∷ [])) ])
    go true h = omega arith
    go false h = omega (arith, length-append s (colour_of cs i ∷ []))

pub fields_grow : (N C : List ℕ) (k c f : ℕ) (s : List ℕ) → length s ≤ length (walk_fields N C k c f s)
unfolding walk_fields
fields_grow N C k c f s = all_grows (λ r t. visit (nodes_in N 0 (length C)) C k r t) (λ r t. grows (nodes_in N 0 (length C)) C k r t) _ s

-- ---- the table of what is met
pub listed_none : (n k : ℕ) (O : List ℕ) → Listed n O (replicate k 0) 0
unfolding mark_in is_in
listed_none n k O = record { few = omega arith; entry = λ c h. zero_at k c }

in_more : (c d : ℕ) (s : List ℕ) → ((d ≡ c) → ⊥) → mark_in d (s ++ (c ∷ [])) ≡ mark_in d s
unfolding mark_in is_in place_in
in_more c d s h = go s
  where
    go : (s : List ℕ) → mark_in d (s ++ (c ∷ [])) ≡ mark_in d s
    go [] = rw (ne_eqb d c h, is_in)
    go (x ∷ s) = pick (eqb d x) (is_in d (s ++ (c ∷ []))) (is_in d s) (go s)
      where
        pick : (b p q : Bool) → cond p (place_in d (s ++ (c ∷ [])) + 1) 0 ≡ cond q (place_in d s + 1) 0
            → cond (elim b as (λ _. Bool) [ true ↦ true | false ↦ p ]) ((elim b as (λ _. ℕ) [ true ↦ 0 | false ↦ suc (place_in d (s ++ (c ∷ []))) ]) + 1) 0
            ≡ cond (elim b as (λ _. Bool) [ true ↦ true | false ↦ q ]) ((elim b as (λ _. ℕ) [ true ↦ 0 | false ↦ suc (place_in d s) ]) + 1) 0
        pick true p q e = refl
        pick false true true e = omega arith
        pick false true false e = absurd (omega arith)
        pick false false true e = absurd (omega arith)
        pick false false false e = refl

in_last : (c : ℕ) (s : List ℕ) → is_in c s ≡ false → mark_in c (s ++ (c ∷ [])) ≡ length s + 1
unfolding mark_in is_in place_in
in_last c [] h = rw (eq-eqb c c refl, is_in, place_in)
in_last c (x ∷ s) h = pick (eqb c x) h (in_last c s)
  where
    pick : (b : Bool) → (elim b as (λ _. Bool) [ true ↦ true | false ↦ is_in c s ]) ≡ false → (is_in c s ≡ false → cond (is_in c (s ++ (c ∷ []))) (place_in c (s ++ (c ∷ [])) + 1) 0 ≡ length s + 1)
        → cond (elim b as (λ _. Bool) [ true ↦ true | false ↦ is_in c (s ++ (c ∷ [])) ]) ((elim b as (λ _. ℕ) [ true ↦ 0 | false ↦ suc (place_in c (s ++ (c ∷ []))) ]) + 1) 0 ≡ suc (length s) + 1
    pick true e ih = absurd (true≢false e)
    pick false e ih = go (is_in c (s ++ (c ∷ []))) (ih e)
      where
        go : (p : Bool) → cond p (place_in c (s ++ (c ∷ [])) + 1) 0 ≡ length s + 1 → cond p (suc (place_in c (s ++ (c ∷ []))) + 1) 0 ≡ suc (length s) + 1
        go true z = omega arith
        go false z = absurd (omega arith)

-- a colour is met exactly when its entry is not 0
mark_in_lem : (c : ℕ) (s : List ℕ) → ((mark_in c s ≡ 0) → ⊥) → is_in c s ≡ true
unfolding mark_in
mark_in_lem c s h = go (is_in c s) refl
  where
    go : (b : Bool) → is_in c s ≡ b → is_in c s ≡ true
    go true e = e
    go false e = absurd (h (rw e))

mark_out : (c : ℕ) (s : List ℕ) → mark_in c s ≡ 0 → is_in c s ≡ false
unfolding mark_in
mark_out c s h = go (is_in c s) refl
  where
    go : (b : Bool) → is_in c s ≡ b → is_in c s ≡ false
    go true e = absurd (let z : cond true (place_in c s + 1) 0 ≡ 0 = sym (ap (λ (x : Bool). cond x (place_in c s + 1) 0) e) ∙ h in omega arith)
    go false e = e

entry_more : (n : ℕ) (T s : List ℕ) (c m : ℕ) → ((d : ℕ) → d < n → get_or T d 0 ≡ mark_in d s) → length s ≡ m → get_or T c 0 ≡ 0 → c < n → n ≤ length T
    → (d : ℕ) → d < n → get_or (set T c (m + 1)) d 0 ≡ mark_in d (s ++ (c ∷ []))
entry_more n T s c m l e z h room d k = go d k (ℕ_discrete d c)
  where
    go : (d : ℕ) → d < n → Dec (d ≡ c) → get_or (set T c (m + 1)) d 0 ≡ mark_in d (s ++ (c ∷ []))
    go d k (yes q) = rw q (get_or-set_same T c (m + 1) 0 (omega arith) ∙ ap (λ (x : ℕ). x + 1) (sym e) ∙ sym (in_last c s (mark_out c s (sym (l c h) ∙ z))))
    go d k (no q) = get_or-set_other T c d (m + 1) 0 q ∙ l d k ∙ sym (in_more c d s q)

put-listed : (n : ℕ) (T O : List ℕ) (c m : ℕ) → c < n → Listed n O T m → m + 1 ≤ n → n ≤ length O → get_or T c 0 ≡ 0 → n ≤ length T → Listed n (set O m c) (set T c (m + 1)) (m + 1)
put-listed n T O c m low lt small room h long =
    let e : take (m + 1) (set O m c) ≡ take m O ++ (c ∷ []) = rw (add-one m) (take-suc-set O m c (omega arith)) in
    record { few = small; entry = rw e (entry_more n T (take m O) c m lt.entry (length-take-le m O (omega arith)) h low long) }

-- ---- one code
no_visit : (ns : List Node) (cs : List ℕ) (k : ℕ) (r : Ref) (s : List ℕ) → ((i : ℕ) → r ≡ obj i → ⊥) → visit ns cs k r s ≡ s
unfolding visit
no_visit ns cs zero r s h = refl
no_visit ns cs (suc k) (obj i) s h = absurd (h i refl)
no_visit ns cs (suc k) (leaf l) s h = refl

no_object : (r x : ℕ) → first_leaf ≤ r → (i : ℕ) → ref_of r x ≡ obj i → ⊥
no_object r x h i e = let y : leaf (leaf_from r x) ≡ obj i = sym (ref_leaf r x h) ∙ e in let q : ◌≡◌ {A = ℕ} 0 1 = cc in omega arith

-- whatever number is beside it
visit_code : (ns : List Node) (cs : List ℕ) (k r x : ℕ) (s : List ℕ) → visit ns cs k (ref_of r x) s ≡ visit ns cs k (ref_of r 0) s
visit_code ns cs k r x s = go (dec_lt r first_leaf)
  where
    go : Dec (r < first_leaf) → visit ns cs k (ref_of r x) s ≡ visit ns cs k (ref_of r 0) s
    go (yes h) = ap (λ (y : Ref). visit ns cs k y s) (ref_object r x h ∙ sym (ref_object r 0 h))
    go (no h) = let l : first_leaf ≤ r = omega (arith, h) in no_visit ns cs k (ref_of r x) s (no_object r x l) ∙ sym (no_visit ns cs k (ref_of r 0) s (no_object r 0 l))

module _ (N C O : List ℕ) (k r m : ℕ) where
  pub visit_zero : k ≡ 0 → take m O ≡ walk_ref N C k r (take m O)
  unfolding walk_ref visit
  visit_zero e = rw e

  pub visit_none : first_leaf ≤ r → take m O ≡ walk_ref N C k r (take m O)
  unfolding walk_ref
  visit_none h = sym (no_visit (nodes_in N 0 (length C)) C k (ref_of r 0) (take m O) (no_object r 0 h))

  module _ (nz : (k ≡ 0) → ⊥) (obj-r : r < first_leaf) (T : List ℕ)
      (pre : Walkable N C O T × Listed (length C) O T m × (r < first_leaf → r < length C) × (length (walk_ref N C k r (take m O)) ≤ length C)) where
    pub colour_low : get_or C r 0 < length C
    colour_low = pre.0.colours.low r (pre.2 obj-r)

    step : (b : Bool) → is_in (get_or C r 0) (take m O) ≡ b → walk_ref N C k r (take m O)
        ≡ (elim b as (λ _. List ℕ) [ true ↦ take m O | false ↦ walk_fields N C (k - 1) (get_or C r 0) 0 (take m O ++ (get_or C r 0 ∷ [])) ])
    unfolding walk_ref visit walk_fields
    step b eb =
        let ek : k ≡ suc (k - 1) = omega (arith, nz) in
        ap (λ (x : Ref). visit (nodes_in N 0 (length C)) C k x (take m O)) (ref_object r 0 obj-r)
        ∙ ap (λ (x : ℕ). visit (nodes_in N 0 (length C)) C x (obj r) (take m O)) ek
        ∙ ap (λ (x : Bool). elim x as (λ _. List ℕ) [ true ↦ take m O | false ↦ visit_all (λ y t. visit (nodes_in N 0 (length C)) C (k - 1) y t) (refs_at (nodes_in N 0 (length C)) (get_or C r 0)) (take m O ++ (get_or C r 0 ∷ [])) ]) eb

    pub visit_seen : ((get_or T (get_or C r 0) 0 ≡ 0) → ⊥) → take m O ≡ walk_ref N C k r (take m O)
    visit_seen h = sym (step true (mark_in_lem (get_or C r 0) (take m O) (λ z. h (pre.1.entry (get_or C r 0) colour_low ∙ z))))

    module _ (h : get_or T (get_or C r 0) 0 ≡ 0) where
      new_step : walk_ref N C k r (take m O) ≡ walk_fields N C (k - 1) (get_or C r 0) 0 (take m O ++ (get_or C r 0 ∷ []))
      new_step = step false (mark_out (get_or C r 0) (take m O) (sym (pre.1.entry (get_or C r 0) colour_low) ∙ h))

      pub new_fits : m + 1 ≤ length C
      new_fits =
          let a = fields_grow N C (k - 1) (get_or C r 0) 0 (take m O ++ (get_or C r 0 ∷ [])) in
          omega (arith, ap length new_step, length-append (take m O) (get_or C r 0 ∷ []), length-take-le m O (omega (arith, pre.0.order, pre.1.few)), pre.3)

      visit_same : walk_ref N C k r (take m O) ≡ walk_fields N C (k - 1) (get_or C r 0) 0 (take (m + 1) (set O m (get_or C r 0)))
      visit_same =
          let put : take (m + 1) (set O m (get_or C r 0)) ≡ take m O ++ (get_or C r 0 ∷ []) = rw (add-one m) (take-suc-set O m (get_or C r 0) (omega (arith, new_fits, pre.0.order))) in
          new_step ∙ ap (walk_fields N C (k - 1) (get_or C r 0) 0) (sym put)

      pub visit_new : (s : List ℕ) → s ≡ walk_fields N C (k - 1) (get_or C r 0) 0 (take (m + 1) (set O m (get_or C r 0))) → s ≡ walk_ref N C k r (take m O)
      visit_new s e = e ∙ sym visit_same

      pub new_small : length (walk_fields N C (k - 1) (get_or C r 0) 0 (take (m + 1) (set O m (get_or C r 0)))) ≤ length C
      new_small = rw (← visit_same) pre.3

      pub new_listed : Listed (length C) (set O m (get_or C r 0)) (set T (get_or C r 0) (m + 1)) (m + 1)
      new_listed = put-listed (length C) T O (get_or C r 0) m colour_low pre.1 new_fits pre.0.order h pre.0.met

-- ---- the fields
refs_are : (N C : List ℕ) (c : ℕ) → c < length C → refs_at (nodes_in N 0 (length C)) c ≡ take (get_or N (object_size * c + 1) 0) (four N (object_size * c))
unfolding node_in
refs_are N C c h = let e : 0 + object_size * c ≡ object_size * c = omega arith in ap (λ (x : Node). x.refs) (at_nodes N 0 (length C) c h ∙ ap (node_in N) e)

module _ (N C : List ℕ) (k c f : ℕ) (s : List ℕ) (small : c < length C) where
  over : length (refs_at (nodes_in N 0 (length C)) c) ≤ f → s ≡ walk_fields N C k c f s
  unfolding walk_fields visit_all
  over h = sym (ap (λ (l : List Ref). visit_all (λ r t. visit (nodes_in N 0 (length C)) C k r t) l s) (drop_of_length-le (refs_at (nodes_in N 0 (length C)) c) {i = f} h))

  pub fields_end : code_count ≤ f → s ≡ walk_fields N C k c f s
  fields_end h = over (omega (arith, ap length (refs_are N C c small), length-take (get_or N (object_size * c + 1) 0) (four N (object_size * c))))

  pub fields_out : get_or N (object_size * c + 1) 0 ≤ f → s ≡ walk_fields N C k c f s
  fields_out h = over (omega (arith, ap length (refs_are N C c small), length-take (get_or N (object_size * c + 1) 0) (four N (object_size * c))))

  module _ (h4 : f < code_count) (hc : f < get_or N (object_size * c + 1) 0) where
    pub fields_step : walk_fields N C k c f s ≡ walk_fields N C k c (f + 1) (walk_ref N C k (get_or N (object_size * c + head_size + f) 0) s)
    unfolding walk_fields visit_all walk_ref ref_in
    fields_step =
        let l : f < length (refs_at (nodes_in N 0 (length C)) c) = omega (arith, ap length (refs_are N C c small), length-take (get_or N (object_size * c + 1) 0) (four N (object_size * c))) in
        let e : get_or (refs_at (nodes_in N 0 (length C)) c) f (leaf undet) ≡ ref_in N (object_size * c) f =
        ap (λ (x : List Ref). get_or x f (leaf undet)) (refs_are N C c small) ∙ get_or-take (get_or N (object_size * c + 1) 0) (four N (object_size * c)) f (leaf undet) hc ∙ four_at_lem N (object_size * c) f h4 in
        ap (λ (x : List Ref). visit_all (λ r t. visit (nodes_in N 0 (length C)) C k r t) x s) (drop-cons (refs_at (nodes_in N 0 (length C)) c) f (leaf undet) l)
        ∙ rw (e, ← visit_code (nodes_in N 0 (length C)) C k (get_or N (object_size * c + head_size + f) 0) (number_at N (object_size * c + numbers_at + 2 * f)) s, add-one f)

    pub first_small : length (walk_fields N C k c f s) ≤ length C → length (walk_ref N C k (get_or N (object_size * c + head_size + f) 0) s) ≤ length C
    first_small l = omega (arith, rw fields_step at l, fields_grow N C k c (f + 1) (walk_ref N C k (get_or N (object_size * c + head_size + f) 0) s))

    module _ (s1 : List ℕ) (e1 : s1 ≡ walk_ref N C k (get_or N (object_size * c + head_size + f) 0) s) where
      pub rest_small : length (walk_fields N C k c f s) ≤ length C → length (walk_fields N C k c (f + 1) (s1)) ≤ length C
      rest_small l = rw e1 (rw fields_step at l)

      pub fields_more : (s2 : List ℕ) → s2 ≡ walk_fields N C k c (f + 1) (s1) → s2 ≡ walk_fields N C k c f s
      fields_more s2 e2 = e2 ∙ ap (walk_fields N C k c (f + 1)) e1 ∙ sym fields_step
