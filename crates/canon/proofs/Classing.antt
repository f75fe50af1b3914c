-- Laws of colours by classes: what parting leaves is coarse, and what is coarse and steady are the colours. Not here: the first of each class (Firsts).
use Rattle.std.proofs.Common.{ℕ, zero, suc, ◌+◌, ◌-◌, ◌*◌, ◌<◌, ◌≤◌, arith, ◌≡◌, refl, sym, ap, ◌∙◌, subst, List, [], ◌∷◌, length, get_or, take, get_or-take, length-take-le}
use native.Mathlib.Decide.{dec_lt, ℕ_discrete}
use Rattle.std.proofs.Math.Option.{some}
use Rattle.std.proofs.Math.ListN.{get_elem?, get_or-map, length-map}
use Rattle.cofj.specs.Values.{Ref, obj, leaf, undet, Node, Graph, graph, rename, rename_node, node_at, refs_at, colour_of, colours}
use Rattle.cofj.specs.Unfolding.{InRange}
use Rattle.cofj.proofs.Colours.{colour, colour_full, colour_look}
use Rattle.canon.specs.Figures.{object_size, head_size, code_count, numbers_at, first_leaf}
use Rattle.canon.specs.declared.rows.Row.{Row}
use Rattle.canon.specs.declared.rows.Link.{Link}
use Rattle.canon.specs.Rows.{link_at, field_at}
use Rattle.canon.specs.Layout.{code_of, node_in, nodes_in, Packed, Raw, Codes}
use Rattle.canon.specs.Links.{looked, shown, AlikeTo, target_of, Linked}
use Rattle.canon.specs.Parting.{Kept, Begun, Goes, GoesByLooks, PartedLooks, PartedFields}
use Rattle.canon.specs.Classing.{Leads, Steady, Coarse}
use Rattle.canon.proofs.Nodes.{byte_of, packed_byte, slot_code, field_low, length_nodes, at_nodes}
use Rattle.canon.proofs.Lifts.{copy_turned}
use Rattle.canon.proofs.Turned.{turn_ref, changed, turn_rename, node_agree}
use Rattle.canon.proofs.Colouring.{looks_colours}
use Rattle.canon.proofs.Looks.{show_object}
use Rattle.canon.proofs.Refers.{target_object, target_leaf}
use Rattle.canon.proofs.Alikes.{alike_turned, leaf_code, byte-rename}

module _ (N : List ℕ) (n : ℕ) (raw : Raw N n) where
  abbrev ns : List Node
  ns = nodes_in N 0 n

  abbrev g : Graph
  g = graph (leaf undet) ns

  size : length ns ≡ n
  size = length_nodes N 0 n

  inner : (i f : ℕ) (r : Ref) → get_elem? (refs_at ns i) f ≡ some r → InRange n r
  inner i f r e = subst (λ (l : ℕ). InRange l r) size (raw.whole.inner i f r e)

  node_is : (i : ℕ) → i < n → node_at ns i ≡ node_in N (object_size * i)
  node_is i h = at_nodes N 0 n i h ∙ ap (node_in N) (let z : 0 + object_size * i ≡ object_size * i = omega arith in z)

  -- ---- coarse and steady: the colours
  module _ (C : List ℕ) (long : n ≤ length C) (c : Coarse N n C) (s : Steady N n C) where
    abbrev col : ℕ → ℕ
    col = colour_of (take n C)

    col_is : (i : ℕ) → i < n → col i ≡ get_or C i 0
    col_is i h = get_or-take n C i 0 h

    look_is : (i : ℕ) → i < n → rename_node col (node_at ns i) ≡ changed (turn_ref C) (node_in N (object_size * i))
    look_is i h =
        sym (node_agree (turn_ref C) (rename col) (InRange n)
        (turn_rename C n col (omega (arith, raw.few)) (λ j l. sym (col_is j l)) (λ j l. omega (arith, col_is j l, c.low j l, raw.few))) (node_at ns i) (inner i))
        ∙ ap (changed (turn_ref C)) (node_is i h)

    first_packed : (i : ℕ) → i < n → Packed N (object_size * get_or C i 0)
    first_packed i h = raw.packed (get_or C i 0) (omega (arith, c.low i h))

    look_same : (i j : ℕ) → i < n → j < n → col i ≡ col j → rename_node col (node_at ns i) ≡ rename_node col (node_at ns j)
    look_same i j h l e =
        look_is i h ∙ alike_turned N C i (get_or C i 0) (raw.packed i h) (first_packed i h) (s.alike i h)
        ∙ ap (λ (x : ℕ). changed (turn_ref C) (node_in N (object_size * x))) (sym (col_is i h) ∙ e ∙ col_is j l)
        ∙ sym (look_is j l ∙ alike_turned N C j (get_or C j 0) (raw.packed j l) (first_packed j l) (s.alike j l))

    pub steady_colours : take n C ≡ colours ns
    steady_colours =
        looks_colours g raw.whole (take n C) (length-take-le n C (omega (arith, raw.few)) ∙ sym size)
        (λ i h. let h' : i < n = omega (arith, size) in omega (arith, col_is i h', c.low i h'))
        (λ i h. let h' : i < n = omega (arith, size) in
        let l : get_or C i 0 < n = omega (arith, c.low i h') in
        ap col (col_is i h') ∙ col_is (get_or C i 0) l ∙ c.first i h' ∙ sym (col_is i h'))
        (λ i j h l e. look_same i j (omega (arith, size)) (omega (arith, size)) e)
        (λ i j h l e. let h' : i < n = omega (arith, size) in let l' : j < n = omega (arith, size) in col_is i h' ∙ c.full i j h' l' e ∙ sym (col_is j l'))

  -- ---- the colours go with the fields
  abbrev hue : ℕ → ℕ
  hue = colour g raw.whole

  row_hue : ℕ → ℕ
  row_hue zero = 0
  row_hue (suc i) = suc (hue i)

  -- two codes that are one under the hues
  data Codes2 (a b : ℕ) : Type 0 where
    objects : a < n → b < n → hue a ≡ hue b → Codes2 a b
    leaves : first_leaf ≤ a → a ≡ b → Codes2 a b

  codes_of : (r s : Ref) → InRange n r → InRange n s → rename hue r ≡ rename hue s → Codes2 (code_of r) (code_of s)
  codes_of (obj a) (obj b) p q e = objects p q (cc)
  codes_of (obj a) (leaf l) p q e = absurd (let z : ◌≡◌ {A = ℕ} 0 1 = cc in omega arith)
  codes_of (leaf l) (obj b) p q e = absurd (let z : ◌≡◌ {A = ℕ} 0 1 = cc in omega arith)
  codes_of (leaf l) (leaf m) p q e = leaves (leaf_code l) (ap code_of e)

  at_in : (rs : List Ref) → ((k : ℕ) (r : Ref) → get_elem? rs k ≡ some r → InRange n r) → (f : ℕ) → InRange n (get_or rs f (leaf undet))
  at_in [] h f = tt
  at_in (r ∷ rs) h zero = h 0 r refl
  at_in (r ∷ rs) h (suc f) = at_in rs (λ k. h (suc k)) f

  module _ (i j : ℕ) (hi : i < n) (hj : j < n) (e : hue i ≡ hue j) where
    look : rename_node hue (node_at ns i) ≡ rename_node hue (node_at ns j)
    look = colour_look g raw.whole i j (omega (arith, size)) (omega (arith, size)) e

    byte : (x : ℕ) → x < n → (f : ℕ) → f < object_size → get_or N (object_size * x + f) 0 ≡ byte_of (node_at ns x) f
    byte x h f l = packed_byte N (object_size * x) (raw.packed x h) f l ∙ ap (λ (y : Node). byte_of y f) (sym (node_is x h))

    class_is : get_or N (object_size * i + 0) 0 ≡ get_or N (object_size * j + 0) 0
    unfolding byte_of
    class_is = byte i hi 0 (omega arith) ∙ ap (λ (y : Node). y.cls) look ∙ sym (byte j hj 0 (omega arith))

    count_is : get_or N (object_size * i + 1) 0 ≡ get_or N (object_size * j + 1) 0
    unfolding byte_of
    count_is =
        byte i hi 1 (omega arith) ∙ sym (length-map (refs_at ns i) (rename hue)) ∙ ap (λ (y : Node). length y.refs) look ∙ length-map (refs_at ns j) (rename hue)
        ∙ sym (byte j hj 1 (omega arith))

    code_is : (f : ℕ) → f < code_count → Codes2 (get_or N (object_size * i + head_size + f) 0) (get_or N (object_size * j + head_size + f) 0)
    code_is f h =
        rw (code i hi, code j hj)
        (codes_of (get_or (refs_at ns i) f (leaf undet)) (get_or (refs_at ns j) f (leaf undet)) (at_in (refs_at ns i) (inner i) f) (at_in (refs_at ns j) (inner j) f)
        (sym (get_or-map (rename hue) (refs_at ns i) f (leaf undet)) ∙ ap (λ (y : Node). get_or y.refs f (leaf undet)) look ∙ get_or-map (rename hue) (refs_at ns j) f (leaf undet)))
      where
        code : (x : ℕ) → x < n → get_or N (object_size * x + head_size + f) 0 ≡ code_of (get_or (refs_at ns x) f (leaf undet))
        code x l = sym (slot_code N (object_size * x) (raw.packed x l) f h) ∙ ap (λ (y : Node). code_of (get_or y.refs f (leaf undet))) (sym (node_is x l))

    rest_is : (k : ℕ) → numbers_at ≤ k → k < object_size → get_or N (object_size * i + k) 0 ≡ get_or N (object_size * j + k) 0
    rest_is k a h =
        byte i hi k h ∙ sym (byte-rename hue (node_at ns i) k a) ∙ ap (λ (y : Node). byte_of y k) look ∙ byte-rename hue (node_at ns j) k a ∙ sym (byte j hj k h)

    looked_same : (a b : ℕ) → Codes2 a b → looked a ≡ looked b
    looked_same a b (objects p q z) = sym (show_object a (omega (arith, raw.few))) ∙ show_object b (omega (arith, raw.few))
    looked_same a b (leaves p z) = ap looked z

    pub hue_alike : AlikeTo shown N i j object_size
    hue_alike = record { all = λ f h. go f h (dec_lt f head_size) (dec_lt f numbers_at) }
      where
        head_is : (k : ℕ) → k < head_size → get_or N (object_size * i + k) 0 ≡ get_or N (object_size * j + k) 0
        head_is zero h = class_is
        head_is (suc zero) h = count_is
        head_is (suc (suc k)) h = absurd (omega arith)

        shown_code : (k : ℕ) → head_size ≤ k → k < numbers_at → looked (get_or N (object_size * i + k) 0) ≡ looked (get_or N (object_size * j + k) 0)
        shown_code k a h =
            let zi : object_size * i + head_size + (k - head_size) ≡ object_size * i + k = omega arith in
            let zj : object_size * j + head_size + (k - head_size) ≡ object_size * j + k = omega arith in
            rw (zi, zj) at (looked_same _ _ (code_is (k - head_size) (omega arith)))

        go : (f : ℕ) → f < object_size → Dec (f < head_size) → Dec (f < numbers_at) → shown f (get_or N (object_size * i + f) 0) ≡ shown f (get_or N (object_size * j + f) 0)
        go f h (yes a) b = ap (shown f) (head_is f a)
        go f h (no a) (yes b) = let l : head_size ≤ f = omega (arith, a) in sym (copy_turned looked _ f _ l b refl) ∙ shown_code f l b ∙ copy_turned looked _ f _ l b refl
        go f h (no a) (no b) = ap (shown f) (rest_is f (omega (arith, b)) h)

  -- a row's object
  row_low : (x : ℕ) → 0 < x → x < n + 1 → x - 1 < n
  row_low x p q = omega arith

  row_suc : (x : ℕ) → 0 < x → row_hue x ≡ suc (hue (x - 1))
  unfolding row_hue
  row_suc zero p = absurd (omega arith)
  row_suc (suc i) p = let z : suc i - 1 ≡ i = omega arith in rw z

  row_null : (x : ℕ) → row_hue x ≡ 0 → x ≡ 0
  unfolding row_hue
  row_null zero e = refl
  row_null (suc i) e = absurd (omega arith)

  module _ (K : List Link) (F : List (List Link)) (k : Linked N (n + 1) K F) where
    goes_looks : GoesByLooks row_hue (n + 1) K
    unfolding row_hue
    goes_looks = record { same = λ x y hx hy e. go x y hx hy e (ℕ_discrete x 0) (ℕ_discrete y 0) }
      where
        go : (x y : ℕ) → x < n + 1 → y < n + 1 → row_hue x ≡ row_hue y → Dec (x ≡ 0) → Dec (y ≡ 0) → (link_at K x).target ≡ (link_at K y).target
        go x y hx hy e (yes p) q = let z : y ≡ 0 = row_null y (sym e ∙ ap row_hue p) in ap (λ (u : ℕ). (link_at K u).target) (p ∙ sym z)
        go x y hx hy e (no p) (yes q) = absurd (p (row_null x (e ∙ ap row_hue q)))
        go x y hx hy e (no p) (no q) =
            let a : 0 < x = omega (arith, p) in
            let b : 0 < y = omega (arith, q) in
            k.grouped.same x y a hx b hy (hue_alike (x - 1) (y - 1) (row_low x a hx) (row_low y b hy) (let z : suc (hue (x - 1)) ≡ suc (hue (y - 1)) = sym (row_suc x a) ∙ e ∙ row_suc y b in omega arith))

    goes_field : (f : ℕ) → f < code_count → Goes row_hue (n + 1) (field_at F f)
    unfolding row_hue
    goes_field f hf = record { some = λ x y hx hy e l. (both x y hx hy e l).0; same = λ x y hx hy e l. (both x y hx hy e l).1 }
      where
        targets : (a b : ℕ) → Codes2 a b → 0 < target_of a → (0 < target_of b) × (row_hue (target_of a) ≡ row_hue (target_of b))
        targets a b (objects p q z) l =
            let ta : a + 1 ≡ target_of a = target_object a (omega (arith, raw.few)) in
            let tb : b + 1 ≡ target_of b = target_object b (omega (arith, raw.few)) in
            let za : a + 1 - 1 ≡ a = omega arith in
            let zb : b + 1 - 1 ≡ b = omega arith in
            (omega (arith, tb), ap row_hue (sym ta) ∙ row_suc (a + 1) (omega arith) ∙ ap (λ (u : ℕ). suc (hue u)) za ∙ ap suc z ∙ sym (ap row_hue (sym tb) ∙ row_suc (b + 1) (omega arith) ∙ ap (λ (u : ℕ). suc (hue u)) zb))
        targets a b (leaves p z) l = absurd (omega (arith, target_leaf a p))

        both : (x y : ℕ) → x < n + 1 → y < n + 1 → row_hue x ≡ row_hue y → 0 < (link_at (field_at F f) x).target
            → (0 < (link_at (field_at F f) y).target) × (row_hue (link_at (field_at F f) x).target ≡ row_hue (link_at (field_at F f) y).target)
        both x y hx hy e l = go (ℕ_discrete x 0) (ℕ_discrete y 0)
          where
            go : Dec (x ≡ 0) → Dec (y ≡ 0) → (0 < (link_at (field_at F f) y).target) × (row_hue (link_at (field_at F f) x).target ≡ row_hue (link_at (field_at F f) y).target)
            go (yes p) q = absurd (omega (arith, (k.fields.each f hf).all.null x p))
            go (no p) (yes q) = absurd (p (row_null x (e ∙ ap row_hue q)))
            go (no p) (no q) =
                let a : 0 < x = omega (arith, p) in
                let b : 0 < y = omega (arith, q) in
                let tx : (link_at (field_at F f) x).target ≡ target_of (get_or N (object_size * (x - 1) + head_size + f) 0) = k.targets f hf x a hx in
                let ty : (link_at (field_at F f) y).target ≡ target_of (get_or N (object_size * (y - 1) + head_size + f) 0) = k.targets f hf y b hy in
                let c = code_is (x - 1) (y - 1) (row_low x a hx) (row_low y b hy) (let z : suc (hue (x - 1)) ≡ suc (hue (y - 1)) = sym (row_suc x a) ∙ e ∙ row_suc y b in omega arith) f hf in
                let w = targets _ _ c (rw tx at l) in
                (rw ty w.0, rw (tx, ty) w.1)

    -- ---- what parting leaves is coarse
    module _ (T1 T2 T3 : List Row) (C : List ℕ) (m r : ℕ) (b : Begun (n + 1) T1) (p : PartedLooks (n + 1) K T1 T2 m) (q : PartedFields (n + 1) F T2 T3 m r) (l : Leads T3 n C) where
      kept : Kept row_hue (n + 1) T3
      kept = q.kept row_hue goes_field (p.kept row_hue goes_looks (b.kept row_hue))

      pub parted_coarse : Coarse N n C
      parted_coarse = record {
        low = l.low;
        first = λ i h. l.agree (get_or C i 0) i (omega (arith, l.low i h)) h (l.same i h);
        full = λ i j h u e. l.agree i j h u (kept.cls (i + 1) (j + 1) (omega arith) (omega arith) (one i j (colour_full g raw.whole i j (omega (arith, size)) (omega (arith, size)) e)));
      }
        where
          one : (i j : ℕ) → hue i ≡ hue j → row_hue (i + 1) ≡ row_hue (j + 1)
          one i j e =
              let zi : i + 1 - 1 ≡ i = omega arith in
              let zj : j + 1 - 1 ≡ j = omega arith in
              row_suc (i + 1) (omega arith) ∙ ap (λ (u : ℕ). suc (hue u)) zi ∙ ap suc e ∙ sym (row_suc (j + 1) (omega arith) ∙ ap (λ (u : ℕ). suc (hue u)) zj)

  -- ---- the codes of a graph are its objects'
  pub raw_codes : Codes N n
  raw_codes = record {
    few = raw.few;
    room = raw.room;
    low = λ i f h l u. omega (arith, field_low N (object_size * i) (raw.packed i (omega arith)) n (λ k r e. inner i k r (ap (λ (x : Node). get_elem? x.refs k) (node_is i (omega arith)) ∙ e)) f l u);
  }

  pub row_codes : Codes N (n + 1 - 1)
  row_codes = let e : n ≡ n + 1 - 1 = omega arith in subst (Codes N) e raw_codes
