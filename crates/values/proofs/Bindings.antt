-- The objects of a block with a mark bound, in bytes: one law for each return of `bind_code`, `bind_object`, `bind_all` and `bind_objects`.
-- Not here: what it does to trees (BoundTrees), which of them are equal then (Apart), who refers to whom (Referring).
use Rattle.std.proofs.Common.{ℕ, zero, suc, ◌+◌, ◌-◌, ◌*◌, ◌%◌, ◌<◌, ◌≤◌, arith, ◌≡◌, refl, sym, ap, ap₂, ◌∙◌, subst, List, ◌∷◌, length, get_or, set, length-set, get_or-set_same, get_or-set_other, eq-eqb, ne_eqb}
use native.Mathlib.Decide.{dec_lt, ℕ_discrete}
use Rattle.std.proofs.Math.Option.{some}
use Rattle.std.proofs.Math.ListN.{get_elem?}
use Rattle.cofj.specs.Values.{Ref, obj, leaf, mark, undet, num, Node, graph, refs_at, canon, bind, close}
use Rattle.cofj.specs.Unfolding.{InRange, Whole}
use Rattle.cofj.proofs.Operations.{bound_node, bound_nodes, bound_whole}
use Rattle.canon.specs.Figures.{object_size, head_size, code_count, numbers_at, first_leaf, undetermined_code, number_code, first_mark, capacity, objects_size, count_at, block_size}
use Rattle.canon.specs.Layout.{ref_of, node_in, nodes_in, Packed, Block, Inside, objects_in, graph_at, count_in, Raw}
use Rattle.canon.specs.Numbers.{graph_in}
use Rattle.canon.specs.Tables.{Carried}
use Rattle.canon.proofs.Nodes.{Code, is_object, is_undet, is_number, is_mark, code_view, ref_object, ref_undet, ref_number, ref_mark}
use Rattle.canon.proofs.Lifts.{copy_plain, copy_rest, copy_turned}
use Rattle.canon.proofs.Turned.{node_changed, packed_changed}
use Rattle.values.specs.declared.ValueRef.{ValueRef}
use Rattle.values.specs.Operations.{Gives}
use Rattle.values.specs.Binding.{bound_code, bound_byte, ObjectBound, AllBound, Bound, Rooted}
use Rattle.values.proofs.Blocks.{size_in, whole_at}
use Rattle.values.proofs.Trees.{close-canon}
use Rattle.values.proofs.BoundTrees.{bind_other, bind_this}

module _ (hot i c : ℕ) where
  pub code_bound : c ≡ hot → i ≡ bound_code hot i c
  unfolding bound_code
  code_bound e = rw (eq-eqb c hot e)

  pub code_kept : ((c ≡ hot) → ⊥) → c ≡ bound_code hot i c
  unfolding bound_code
  code_kept h = rw (ne_eqb c hot h)

bound_ref : (x i c n : ℕ) → i < first_leaf → ref_of (bound_code (first_mark + x) i c) n ≡ bind x (obj i) (ref_of c n)
bound_ref x i c n small = go (code_view c)
  where
    kept : (r : Ref) → ref_of c n ≡ r → ((c ≡ first_mark + x) → ⊥) → bind x (obj i) r ≡ r → ref_of (bound_code (first_mark + x) i c) n ≡ bind x (obj i) (ref_of c n)
    kept r e h b = ap (λ (d : ℕ). ref_of d n) (sym (code_kept (first_mark + x) i c h)) ∙ e ∙ sym b ∙ ap (bind x (obj i)) (sym e)

    marked : (k : ℕ) → c ≡ first_mark + k → Dec (k ≡ x) → ref_of (bound_code (first_mark + x) i c) n ≡ bind x (obj i) (ref_of c n)
    marked k e (yes z) =
        ap (λ (d : ℕ). ref_of d n) (sym (code_bound (first_mark + x) i c (e ∙ ap (λ (d : ℕ). first_mark + d) z))) ∙ ref_object i n small ∙ sym (bind_this x i k (eq-eqb k x z))
        ∙ ap (bind x (obj i)) (sym (ap (λ (d : ℕ). ref_of d n) e ∙ ref_mark k n))
    marked k e (no z) = kept (leaf (mark k)) (ap (λ (d : ℕ). ref_of d n) e ∙ ref_mark k n) (λ y. z (omega arith)) (bind_other x i k (ne_eqb k x z))

    go : Code c → ref_of (bound_code (first_mark + x) i c) n ≡ bind x (obj i) (ref_of c n)
    go (is_object h) = kept (obj c) (ref_object c n h) (λ z. omega arith) refl
    go (is_undet e) = kept (leaf undet) (ap (λ (d : ℕ). ref_of d n) e ∙ ref_undet n) (λ z. omega arith) refl
    go (is_number e) = kept (leaf (num n)) (ap (λ (d : ℕ). ref_of d n) e ∙ ref_number n) (λ z. omega arith) refl
    go (is_mark k e) = marked k e (ℕ_discrete k x)

module _ (S R : List ℕ) (x i : ℕ) (small : i < first_leaf) where
  abbrev Here : ℕ → ℕ → Type 0
  Here from to = (f : ℕ) → f < object_size → get_or R (to + f) 0 ≡ bound_byte (first_mark + x) i f (get_or S (from + f) 0)

  -- the same for a byte's place in its object
  placed : (from to : ℕ) → Here from to → (p : ℕ) → p < object_size → get_or R (to + p) 0 ≡ bound_byte (first_mark + x) i (p % object_size) (get_or S (from + p) 0)
  placed from to h p l = let e : p % object_size ≡ p = omega arith in rw e (h p l)

  node_bound : (from to : ℕ) → Here from to → Packed S from → node_in R to ≡ bound_node x i (node_in S from)
  node_bound from to h pk = node_changed S R (bound_code (first_mark + x) i) from to (placed from to h) (bind x (obj i)) pk (λ b n _. bound_ref x i b n small)

  packed_bound : (from to : ℕ) → Here from to → Packed S from → Packed R to
  packed_bound from to h =
      packed_changed S R (bound_code (first_mark + x) i) from to (placed from to h)
      (sym (code_kept (first_mark + x) i undetermined_code (λ z. omega arith))) (sym (code_kept (first_mark + x) i number_code (λ z. omega arith)))

  nodes_bound : (n from to : ℕ) → ((j : ℕ) → j < n → Here (from + object_size * j) (to + object_size * j)) → ((j : ℕ) → j < n → Packed S (from + object_size * j)) → nodes_in R to n ≡ bound_nodes x i (nodes_in S from n)
  unfolding nodes_in
  nodes_bound zero from to h pk = refl
  nodes_bound (suc n) from to h pk =
      let za : to + object_size * 0 ≡ to = omega arith in
      let zb : from + object_size * 0 ≡ from = omega arith in
      ap₂ {C = List Node} ◌∷◌ (node_bound from to (rw (za, zb) at (h 0 (omega arith))) (rw zb at (pk 0 (omega arith))))
      (nodes_bound n (from + object_size) (to + object_size) (λ j l.
      let ea : to + object_size + object_size * j ≡ to + object_size * suc j = omega arith in
      let eb : from + object_size + object_size * j ≡ from + object_size * suc j = omega arith in
      rw (ea, eb) (h (suc j) (omega arith))) (λ j l.
      let eb : from + object_size + object_size * j ≡ from + object_size * suc j = omega arith in
      rw eb (pk (suc j) (omega arith))))

module _ (R₀ : List ℕ) (p hot i : ℕ) where
  -- the first k codes of the object at place p
  record CodesBound (k : ℕ) (R : List ℕ) : Type 0 where
    same : length R ≡ length R₀
    here : (f : ℕ) → f < k → get_or R (p + (head_size + f)) 0 ≡ bound_code hot i (get_or R₀ (p + (head_size + f)) 0)
    below : (y : ℕ) → y < p + head_size → get_or R y 0 ≡ get_or R₀ y 0
    above : (y : ℕ) → p + head_size + k ≤ y → get_or R y 0 ≡ get_or R₀ y 0

  code_next : (k v : ℕ) (R : List ℕ) → CodesBound k R → p + (head_size + k) < length R₀ → v ≡ bound_code hot i (get_or R (p + (head_size + k)) 0) → CodesBound (k + 1) (set R (p + (head_size + k)) v)
  code_next k v R o room e = record {
    same = length-set R (p + (head_size + k)) v ∙ o.same;
    here = λ f h. go f h (ℕ_discrete f k);
    below = λ y h. get_or-set_other R (p + (head_size + k)) y v 0 (λ z. omega arith) ∙ o.below y h;
    above = λ y h. get_or-set_other R (p + (head_size + k)) y v 0 (λ z. omega arith) ∙ o.above y (omega arith);
  }
    where
      go : (f : ℕ) → f < k + 1 → Dec (f ≡ k) → get_or (set R (p + (head_size + k)) v) (p + (head_size + f)) 0 ≡ bound_code hot i (get_or R₀ (p + (head_size + f)) 0)
      go f h (yes z) = rw z (get_or-set_same R (p + (head_size + k)) v 0 (omega (arith, o.same)) ∙ e ∙ ap (bound_code hot i) (o.above (p + (head_size + k)) (omega arith)))
      go f h (no z) = get_or-set_other R (p + (head_size + k)) (p + (head_size + f)) v 0 (λ y. z (omega arith)) ∙ o.here f (omega (arith, z))

  all_codes : (R : List ℕ) → CodesBound code_count R → ObjectBound R₀ p hot i R
  all_codes R o = record {
    same = o.same;
    here = λ f h. go f h (dec_lt f head_size) (dec_lt f numbers_at);
    below = λ y h. o.below y (omega arith);
    above = λ y h. o.above y (omega arith);
  }
    where
      go : (f : ℕ) → f < object_size → Dec (f < head_size) → Dec (f < numbers_at) → get_or R (p + f) 0 ≡ bound_byte hot i f (get_or R₀ (p + f) 0)
      go f h (yes l) m = o.below (p + f) (omega arith) ∙ copy_plain (bound_code hot i) (get_or R₀ (p + f) 0) f l
      go f h (no l) (yes m) =
          let e : head_size + (f - head_size) ≡ f = omega (arith, l) in
          copy_turned (bound_code hot i) (get_or R₀ (p + f) 0) f (get_or R (p + f) 0) (omega (arith, l)) m (rw e at (o.here (f - head_size) (omega (arith, l))))
      go f h (no l) (no m) = o.above (p + f) (omega (arith, m)) ∙ copy_rest (bound_code hot i) (get_or R₀ (p + f) 0) f (omega (arith, m))

  pub object_bound : p + object_size ≤ length R₀ → (v2 v3 v4 v5 : ℕ) → v2 ≡ bound_code hot i (get_or R₀ (p + 2) 0) → v3 ≡ bound_code hot i (get_or (set R₀ (p + 2) v2) (p + 3) 0)
      → v4 ≡ bound_code hot i (get_or (set (set R₀ (p + 2) v2) (p + 3) v3) (p + 4) 0) → v5 ≡ bound_code hot i (get_or (set (set (set R₀ (p + 2) v2) (p + 3) v3) (p + 4) v4) (p + 5) 0)
      → ObjectBound R₀ p hot i (set (set (set (set R₀ (p + 2) v2) (p + 3) v3) (p + 4) v4) (p + 5) v5)
  object_bound room v2 v3 v4 v5 e2 e3 e4 e5 =
      let o0 : CodesBound 0 R₀ = record { same = refl; here = λ f h. absurd (omega arith); below = λ y h. refl; above = λ y h. refl } in
      let o1 = code_next 0 v2 R₀ o0 (omega arith) e2 in
      let o2 = code_next 1 v3 _ o1 (omega arith) e3 in
      let o3 = code_next 2 v4 _ o2 (omega arith) e4 in
      all_codes _ (code_next 3 v5 _ o3 (omega arith) e5)

module _ (R₀ : List ℕ) (hot i : ℕ) where
  pub bound_none : AllBound R₀ 0 hot i R₀
  bound_none = record { same = refl; here = λ j f h. absurd (omega arith); above = λ y h. refl }

  pub bound_more : (j : ℕ) (R R2 : List ℕ) → AllBound R₀ j hot i R → ObjectBound R (object_size * j) hot i R2 → AllBound R₀ (j + 1) hot i R2
  bound_more j R R2 o n = record {
    same = n.same ∙ o.same;
    here = λ k f h l. go k f h l (ℕ_discrete k j);
    above = λ y h. n.above y (omega arith) ∙ o.above y (omega arith);
  }
    where
      go : (k f : ℕ) → k < j + 1 → f < object_size → Dec (k ≡ j) → get_or R2 (object_size * k + f) 0 ≡ bound_byte hot i f (get_or R₀ (object_size * k + f) 0)
      go k f h l (yes z) = rw z (n.here f l ∙ ap (bound_byte hot i f) (o.above (object_size * j + f) (omega arith)))
      go k f h l (no z) = n.below (object_size * k + f) (omega (arith, z)) ∙ o.here k f (omega (arith, z)) l

  pub bound_done : (j n : ℕ) (R : List ℕ) → AllBound R₀ j hot i R → j ≤ n → n ≤ j → AllBound R₀ n hot i R
  bound_done j n R o h k = let z : j ≡ n = omega arith in rw z at o

pub bound_all : (W : List ℕ) (b x i : ℕ) (R₀ R₁ R : List ℕ) → Carried W (block_size * b) R₀ 0 (object_size * get_or W (block_size * b + count_at) 0) R₁ → AllBound R₁ (get_or W (block_size * b + count_at) 0) (first_mark + x) i R
    → objects_size ≤ length R₀ → Bound W b x i R (get_or W (block_size * b + count_at) 0)
unfolding count_in
bound_all W b x i R₀ R₁ R c o l = record {
  count = refl;
  objects = record {
    here = λ j f h k.
        let z : 0 + (object_size * j + f) ≡ object_size * j + f = omega arith in
        let y : block_size * b + object_size * j + f ≡ block_size * b + (object_size * j + f) = omega arith in
        o.here j f h k ∙ ap (bound_byte (first_mark + x) i f) (rw y (rw z at (c.here (object_size * j + f) (omega arith))));
  };
  room = omega (arith, o.same, c.same);
}

module _ (W : List ℕ) (b i : ℕ) (ob : Inside W b i) where
  bk : Block W b
  bk = ob.block

  pub block_room : block_size * b + block_size ≤ length W
  block_room = bk.room

  size : length (objects_in W b) ≡ count_in W b
  size = size_in W b bk

  module _ (x : ℕ) (R : List ℕ) (n : ℕ) (bd : Bound W b x i R n) where
    here_at : (j : ℕ) → j < n → (f : ℕ) → f < object_size → get_or R (object_size * j + f) 0 ≡ bound_byte (first_mark + x) i f (get_or W (block_size * b + object_size * j + f) 0)
    here_at j h f l = bd.objects.here j f h l

    pub objects_are : nodes_in R 0 n ≡ bound_nodes x i (objects_in W b)
    unfolding objects_in
    objects_are =
        nodes_bound W R x i (omega (arith, ob.low, bk.small)) n (block_size * b) 0 (λ j h f l. let z : 0 + object_size * j ≡ object_size * j = omega arith in rw z (here_at j h f l))
        (λ j h. bk.packed j (omega (arith, bd.count)))
        ∙ ap (λ (k : ℕ). bound_nodes x i (nodes_in W (block_size * b) k)) bd.count

    whole_bound : Whole (graph (obj i) (bound_nodes x i (objects_in W b)))
    whole_bound = bound_whole (graph_at W b i) (whole_at W b bk i ob.low) x i (omega (arith, size, ob.low))

    pub bound_small : n ≤ capacity
    bound_small = omega (arith, bd.count, bk.small)

    pub bound_raw : Raw R n
    bound_raw = record {
      few = bound_small;
      room = omega (arith, bd.count, bk.small, bd.room);
      packed = λ j h. packed_bound W R x i (omega (arith, ob.low, bk.small)) (block_size * b + object_size * j) (object_size * j) (here_at j h) (bk.packed j (omega (arith, bd.count)));
      whole = record { top = tt; inner = λ j k r e. subst (λ (ns : List Node). InRange (length ns) r) (sym objects_are) (whole_bound.inner j k r (subst (λ (ns : List Node). get_elem? (refs_at ns j) k ≡ some r) objects_are e)) };
    }

    pub root_low : i < n
    root_low = omega (arith, bd.count, ob.low)

    pub bound_rooted : (dst : ℕ) → block_size * dst + block_size ≤ length W → Rooted R n i W dst
    bound_rooted dst room = record { raw = bound_raw; inside = root_low; room = room }

    -- what the objects bound stand for
    pub closed : (dst : ℕ) (W' : List ℕ) (o : ValueRef) → Gives W dst W' o (canon (graph_in R n i)) → Gives W dst W' o (close x (canon (graph_at W b i)))
    unfolding close
    closed dst W' o g = record {
      held = g.held;
      is = g.is ∙ ap (λ (ns : List Node). canon (graph (obj i) ns)) objects_are ∙ sym (close-canon i (objects_in W b) (whole_at W b bk i ob.low) x);
      place = g.place;
      outside = g.outside;
    }
