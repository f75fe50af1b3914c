-- Laws of the parts that lead colours, laid as objects: these unfold as the parts do.
use Rattle.std.proofs.Common.{ℕ, ◌+◌, ◌*◌, ◌-◌, ◌/◌, ◌%◌, ◌<◌, ◌≤◌, arith, Some, None, ◌≡◌, refl, sym, ap, ap₂, ◌∙◌, subst, List, [], map, length, get_or, take, length-take, get_or-take, ext_get_or}
use native.Mathlib.Decide.{dec_lt}
use Rattle.std.specs.declared.option.Option.{Option as RustOption}
use Rattle.std.proofs.Math.Option.{some, none-ne-some}
use Rattle.std.proofs.Math.ListN.{get_elem?, length-map, get_or-eq_default}
use Rattle.cofj.specs.Values.{Ref, obj, leaf, mark, undet, num, Node, node, graph, rename, rename_node, colour_of, node_at, refs_at}
use Rattle.cofj.specs.Unfolding.{child, SameTree, InRange, Whole}
use Rattle.cofj.specs.Formed.{AllIn, RefBelow}
use Rattle.cofj.proofs.Partial.{opt_bind}
use Rattle.cofj.proofs.Basics.{get_d_map_lt, at_map}
use Rattle.cofj.proofs.Trees.{renamed_same}
use Rattle.cofj.proofs.Canon.{node_id}
use Rattle.cofj.proofs.GoodValues.{all_at, all_get}
use Rattle.canon.specs.Figures.{object_size, code_count, capacity, undetermined_code, number_code, objects_size, head_size, numbers_at}
use Rattle.canon.specs.Layout.{ref_of, number_beside, number_at, ref_in, four, node_in, nodes_in, Packed}
use Rattle.canon.specs.Numbers.{graph_in}
use Rattle.canon.proofs.Lifts.{copy_plain, copy_rest, copy_turned}
use Rattle.canon.proofs.Nodes.{ref_object, ref_undet, ref_number, some_at, four_at_lem, length_nodes, at_nodes}
use Rattle.batch.specs.Figures.{part_size, field_room, number_field, no_part}
use Rattle.batch.specs.Layout.{held_byte, Lies}
use Rattle.batch.specs.Reaching.{Listed, Reaches}
use Rattle.batch.specs.Merging.{Quotient, Merged}
use Rattle.batch.specs.Colouring.{look_in, shade_in, Coloured, Settled, Colours}
use Rattle.batch.specs.Laying.{Laid}
use Rattle.batch.proofs.Shades.{look_part, look_number, look_none}
use Rattle.batch.proofs.Listings.{held, held_lies, listed_low, listed_ref}

-- ---- four references, of which as many count as there are
take-four : (S : List ℕ) (at n : ℕ) (rs : List Ref) → n ≡ length rs → length rs ≤ code_count → ((f : ℕ) → f < length rs → ref_in S at f ≡ get_or rs f (leaf undet)) → take n (four S at) ≡ rs
take-four S at n rs e h g =
    ext_get_or (leaf undet) (take n (four S at)) rs (omega (arith, length-take n (four S at)))
    (λ f l.
    let l' : f < length rs = omega (arith, length-take n (four S at)) in
    get_or-take n (four S at) f (leaf undet) (omega arith) ∙ four_at_lem S at f (omega arith) ∙ g f l')

-- ---- what is laid
module _ (P L : List ℕ) (m : ℕ) (rc : Reaches P L m) (C D : List ℕ) (k : ℕ) (st : Settled P L m C D k) (R₀ R : List ℕ) (la : Laid P C D k R₀ R) (ns : List Node) (ly : Lies P ns) where
  co : Coloured P L m C D k
  co = st.coloured

  low : (x : ℕ) → Listed L m x → get_or C x 0 < k
  low = co.low

  -- a listed part looks as the object of its colour
  look : (x c : ℕ) → Listed L m x → c ≡ get_or C x 0 → (f : ℕ) → f < object_size → get_or R (object_size * c + f) 0 ≡ shade_in C f (get_or P (part_size * x + f) 0)
  look x c o e f h = rw e (la.here (get_or C x 0) f (low x o) h ∙ sym ((st.alike x o).looks.all f h))

  module _ (x c : ℕ) (o : Listed L m x) (e : c ≡ get_or C x 0) where
    lx : x < length ns
    lx = listed_low P ns ly L m rc x o

    class : get_or R (object_size * c) 0 ≡ (node_at ns x).cls
    class =
        let zc : object_size * c + 0 ≡ object_size * c = omega arith in
        let zx : part_size * x + 0 ≡ part_size * x = omega arith in
        let u : get_or R (object_size * c) 0 ≡ shade_in C 0 (get_or P (part_size * x) 0) = rw (zc, zx) at (look x c o e 0 (omega arith)) in
        u ∙ sym (copy_plain (look_in C) _ 0 (omega arith)) ∙ ly.class x lx

    count : get_or R (object_size * c + 1) 0 ≡ length (refs_at ns x)
    count = look x c o e 1 (omega arith) ∙ sym (copy_plain (look_in C) _ 1 (omega arith)) ∙ ly.count x lx

    -- a field's code is that of what it holds, as it looks, and its number is beside it
    code : (f : ℕ) → f < field_room → get_or R (object_size * c + head_size + f) 0 ≡ look_in C (held_byte (held P ns ly x f))
    code f h =
        let zc : object_size * c + head_size + f ≡ object_size * c + (head_size + f) = omega arith in
        let zx : part_size * x + (head_size + f) ≡ part_size * x + head_size + f = omega arith in
        rw zc
        (look x c o e (head_size + f) (omega arith) ∙ sym (copy_turned (look_in C) _ (head_size + f) _ (omega arith) (omega arith) refl)
        ∙ ap (look_in C) (ap (λ (k : ℕ). get_or P k 0) zx ∙ (held_lies P ns ly x f lx h).byte))

    rest : (j : ℕ) → numbers_at ≤ j → j < object_size → get_or R (object_size * c + j) 0 ≡ get_or P (part_size * x + j) 0
    rest j a h = look x c o e j h ∙ sym (copy_rest (look_in C) _ j a)

    low_digit : (f : ℕ) → f < field_room → get_or R (object_size * c + numbers_at + 2 * f) 0 ≡ number_beside (held P ns ly x f) % 256
    low_digit f h =
        let zc : object_size * c + numbers_at + 2 * f ≡ object_size * c + (numbers_at + 2 * f) = omega arith in
        let zx : part_size * x + (numbers_at + 2 * f) ≡ part_size * x + numbers_at + 2 * f = omega arith in
        rw zc (rest (numbers_at + 2 * f) (omega arith) (omega arith) ∙ ap (λ (k : ℕ). get_or P k 0) zx ∙ (held_lies P ns ly x f lx h).low)

    high_digit : (f : ℕ) → f < field_room → get_or R (object_size * c + numbers_at + 2 * f + 1) 0 ≡ number_beside (held P ns ly x f) / 256
    high_digit f h =
        let zc : object_size * c + numbers_at + 2 * f + 1 ≡ object_size * c + (numbers_at + 2 * f + 1) = omega arith in
        let zx : part_size * x + (numbers_at + 2 * f + 1) ≡ part_size * x + numbers_at + 2 * f + 1 = omega arith in
        rw zc (rest (numbers_at + 2 * f + 1) (omega arith) (omega arith) ∙ ap (λ (k : ℕ). get_or P k 0) zx ∙ (held_lies P ns ly x f lx h).high)

    number : (f : ℕ) → f < field_room → number_at R (object_size * c + numbers_at + 2 * f) ≡ number_beside (held P ns ly x f)
    number f h = omega (arith, low_digit f h, high_digit f h)

    -- so the field is what it holds, coloured
    turned : (f : ℕ) (r : Ref) → get_elem? (refs_at ns x) f ≡ some r → ref_of (look_in C (held_byte r)) (number_beside r) ≡ rename (colour_of C) r
    turned f (obj i) a =
        ap (λ (b : ℕ). ref_of b 0) (sym (look_part C i (omega (arith, ly.few, ly.whole.inner x f (obj i) a))))
        ∙ ref_object (get_or C i 0) 0 (omega (arith, low i (listed_ref P ns ly L m rc x f i o a), co.few))
    turned f (leaf (mark y)) a =
        let h : y < 0 = all_get (RefBelow 0) (refs_at ns x) (all_at (λ (n : Node). AllIn (RefBelow 0) n.refs) (node 0 []) tt ns ly.closed x) f (leaf (mark y)) a in
        absurd (omega arith)
    turned f (leaf undet) a = ap (λ (b : ℕ). ref_of b 0) (sym (look_none C no_part (omega arith) (λ z. omega arith))) ∙ ref_undet 0
    turned f (leaf (num y)) a = ap (λ (b : ℕ). ref_of b y) (sym (look_number C number_field refl)) ∙ ref_number y

    object_is : node_in R (object_size * c) ≡ rename_node (colour_of C) (node_at ns x)
    unfolding node_in ref_in
    object_is =
        ap₂ node class
        (take-four R (object_size * c) _ (map (rename (colour_of C)) (refs_at ns x)) (count ∙ sym n) (omega (arith, n, ly.low x lx))
        (λ f h.
        let l : f < length (refs_at ns x) = omega (arith, n) in
        let g : f < field_room = omega (arith, ly.low x lx) in
        ap₂ ref_of (code f g) (number f g)
        ∙ turned f (held P ns ly x f) (some_at (refs_at ns x) f l)
        ∙ sym (get_d_map_lt (rename (colour_of C)) (refs_at ns x) f (leaf undet) (leaf undet) l)))
      where
        n : length (map (rename (colour_of C)) (refs_at ns x)) ≡ length (refs_at ns x)
        n = length-map (refs_at ns x) (rename (colour_of C))

    packed : Packed R (object_size * c)
    packed = record {
      count = rw count (ly.low x lx);
      spare = λ j a b. spare j (rw count at a) b;
      plain = λ f h d. number f h ∙ plain f h (held P ns ly x f) refl d;
      low = λ f h. omega (arith, low_digit f h);
      blank = λ j a h. rest j (omega arith) h ∙ ly.blank x j lx a h;
    }
      where
        spare : (j : ℕ) → head_size + length (refs_at ns x) ≤ j → j < numbers_at → get_or R (object_size * c + j) 0 ≡ undetermined_code
        spare j a b =
            let z : object_size * c + j ≡ object_size * c + head_size + (j - head_size) = omega arith in
            let e : held P ns ly x (j - head_size) ≡ leaf undet = get_or-eq_default (refs_at ns x) (leaf undet) {n = j - head_size} (omega arith) in
            rw z (code (j - head_size) (omega arith) ∙ ap (λ (r : Ref). look_in C (held_byte r)) e ∙ sym (look_none C no_part (omega arith) (λ y. omega arith)))

        plain : (f : ℕ) → f < field_room → (r : Ref) → held P ns ly x f ≡ r → ((get_or R (object_size * c + head_size + f) 0 ≡ number_code) → ⊥) → number_beside r ≡ 0
        plain f h (obj i) e d = refl
        plain f h (leaf (mark k)) e d = refl
        plain f h (leaf undet) e d = refl
        plain f h (leaf (num k)) e d = absurd (d (code f h ∙ ap (λ (r : Ref). look_in C (held_byte r)) e ∙ sym (look_number C number_field refl)))

  object_at : (x c : ℕ) → Listed L m x → c ≡ get_or C x 0 → node_at (nodes_in R 0 k) c ≡ rename_node (colour_of C) (node_at ns x)
  object_at x c o e =
      let z : 0 + object_size * c ≡ object_size * c = omega arith in
      at_nodes R 0 k c (rw e (low x o)) ∙ rw z (object_is x c o e)

  lead_at : (c : ℕ) → c < k → node_at (nodes_in R 0 k) c ≡ rename_node (colour_of C) (node_at ns (get_or D c 0))
  lead_at c h = object_at (get_or D c 0) c (co.leads c h) (sym (co.own c h))

  whole : Whole (graph (leaf undet) (nodes_in R 0 k))
  whole = record { top = tt; inner = λ i f r e. go i f r e (dec_lt i k) }
    where
      coloured : (x f : ℕ) → Listed L m x → (s : Ref) → get_elem? (refs_at ns x) f ≡ some s → InRange (length (nodes_in R 0 k)) (rename (colour_of C) s)
      coloured x f o (obj i) e = rw (length_nodes R 0 k) (low i (listed_ref P ns ly L m rc x f i o e))
      coloured x f o (leaf l) e = tt

      go : (i f : ℕ) (r : Ref) → get_elem? (refs_at (nodes_in R 0 k) i) f ≡ some r → Dec (i < k) → InRange (length (nodes_in R 0 k)) r
      go i f r e (yes h) =
          let x = get_or D i 0 in
          let w = opt_bind (get_elem? (refs_at ns x) f) (λ a. some (rename (colour_of C) a)) r (sym (at_map (rename (colour_of C)) (refs_at ns x) f) ∙ sym (ap (λ (n : Node). get_elem? n.refs f) (lead_at i h)) ∙ e) in
          let z : rename (colour_of C) w.0 ≡ r = cc in
          subst (InRange (length (nodes_in R 0 k))) z (coloured x f (co.leads i h) w.0 w.1)
      go i f r e (no h) =
          absurd (none-ne-some r (sym (ap (λ (n : Node). get_elem? n.refs f) (get_or-eq_default (nodes_in R 0 k) (node 0 []) {n = i} (omega (arith, h, length_nodes R 0 k)))) ∙ e))

  abbrev Met : Ref → Type 0
  Met (obj i) = Listed L m i
  Met (leaf l) = Unit {0}

  met_child : (r : Ref) → Met r → (f : ℕ) (s : Ref) → child ns r f ≡ some s → Met s
  met_child (obj i) o f (obj j) e = listed_ref P ns ly L m rc i f j o e
  met_child (obj i) o f (leaf l) e = tt
  met_child (leaf l) o f s e = absurd (none-ne-some s e)

  tree : SameTree (graph_in R k 0) (graph (obj 0) ns)
  tree path =
      sym (renamed_same ns (nodes_in R 0 k) (colour_of C) (λ i. i) Met (λ _. Unit {0}) met_child (λ _ _ _ _ _. tt)
      (λ i j o _ e. sym (object_at i j o (sym e)) ∙ sym (node_id (node_at (nodes_in R 0 k) j)))
      path (obj 0) (obj 0) rc.root tt (ap obj first))
    where
      first : get_or C 0 0 ≡ 0
      first = ap (λ (x : ℕ). get_or C x 0) (sym co.first) ∙ co.own 0 co.some_colour

  pub quotient : objects_size ≤ length R → Quotient ns R k
  quotient room = record {
    some_object = co.some_colour;
    raw = record {
      few = co.few;
      room = omega (arith, co.few);
      packed = λ c h. packed (get_or D c 0) c (co.leads c h) (sym (co.own c h));
      whole = whole;
    };
    tree = tree;
  }

-- ---- merged
module _ (P L : List ℕ) (m : ℕ) (C D : List ℕ) (o : RustOption ℕ) (cs : Colours P L m C D o) where
  pub merged_many : (R : List ℕ) → o ≡ None → Merged P R None
  merged_many R e = record { least = λ k z. absurd (cc); many = λ ns ly _. cs.many e ns ly; few = λ ns ly k z. absurd (cc) }

  pub merged_room : (k : ℕ) → o ≡ Some k → k ≤ capacity
  merged_room k e = (cs.settled k e).coloured.few

  pub merged_few : (R₀ R : List ℕ) → Reaches P L m → (k : ℕ) → o ≡ Some k → Laid P C D k R₀ R → objects_size ≤ length R₀ → Merged P R (Some k)
  merged_few R₀ R rc k e la room = record {
    least = λ t z. let w : k ≡ t = cc in rw w at (merged_room k e);
    many = λ ns ly z. absurd (cc);
    few = λ ns ly t z. let w : k ≡ t = cc in rw w at (quotient P L m rc C D k (cs.settled k e) R₀ R la ns ly (omega (arith, la.same)));
  }
