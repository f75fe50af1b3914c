-- The host with the new objects of a part: one law for each return of `join`.
-- Not here: the bytes (Additions).
use Rattle.std.proofs.Common.{ℕ, ◌+◌, ◌-◌, ◌*◌, ◌%◌, ◌<◌, ◌≤◌, arith, ◌≡◌, refl, sym, ap, ◌∙◌, subst, Bool, true, false, cond, List, [], eqb, length, get_or, ne_eqb}
use native.Mathlib.Decide.{dec_lt}
use Rattle.std.proofs.Math.Bool.{false≢true}
use mathlib.Core.Logic.{◌⊎◌, inl, inr, ⊎_elim}
use Rattle.std.proofs.Math.Option.{some}
use Rattle.std.proofs.Math.ListN.{get_elem?}
use Rattle.cofj.specs.Values.{Ref, obj, leaf, undet, Node, graph, rename, rename_node, node_at, refs_at}
use Rattle.cofj.specs.Unfolding.{object, at_leaf, follow, Same, InRange, Whole}
use Rattle.cofj.proofs.Basics.{get_d_map_lt}
use Rattle.canon.specs.Figures.{object_size, code_count, first_leaf, capacity, count_at, block_size}
use Rattle.canon.specs.Layout.{ref_of, code_of, nodes_in, Packed, Distinct, count_in, objects_in, Block}
use Rattle.canon.specs.Tables.{Lifted}
use Rattle.canon.proofs.Nodes.{AllPacked, ref_object, at_some, length_nodes, at_nodes, node_same, packed_same, code_is, four_fields, code_low}
use Rattle.canon.proofs.Lifts.{turn_object}
use Rattle.canon.proofs.Turned.{turn_ref, changed, lifted_nodes, lifted_packed, turn_rename, node_agree}
use Rattle.values.proofs.Blocks.{size_in, inner_in}
use Rattle.std.specs.declared.option.Option.{Option}
use Rattle.std.specs.declared.option.Option.TheVariants.{Some, None}
use Rattle.maker.specs.Figures.{not_told}
use Rattle.maker.specs.Merging.{Grown, CodeAs}
use Rattle.maker.specs.Sorting.{Fresh, Decided, code_at}
use Rattle.maker.specs.Joining.{numbers_of, New, NewAmong, Counted, Fitted, Placing, Extended, Joining, Joined}
use Rattle.maker.proofs.Fresh.{Told, Source, old_trees, new_trees, inner_many, distinct_many}
use Rattle.maker.proofs.Numberings.{fitted_all}
use Rattle.maker.proofs.Turns.{leaf_low}
use Rattle.maker.proofs.Enters.{grown_none, other_block}
use Rattle.maker.proofs.Imported.{code_grown}

-- ---- the host then
-- what unfolds as an object is an object
code_small : (ps ns : List Node) (z r : ℕ) → Same ps (obj z) ns (ref_of r 0) → r < first_leaf
code_small ps ns z r q = go (dec_lt r first_leaf)
  where
    none : (s : Ref) → InRange 0 s → Same ps (obj z) ns s → ⊥
    none (obj i) h q = absurd (omega arith)
    none (leaf l) h q = let d : some (object _ _) ≡ some (at_leaf l) = q [] in absurd (let u : ◌≡◌ {A = ℕ} 0 1 = cc in omega arith)

    go : Dec (r < first_leaf) → r < first_leaf
    go (yes h) = h
    go (no h) = absurd (none (ref_of r 0) (leaf_low 0 r 0 (omega (arith, h))) q)

module _ (W : List ℕ) (src host : ℕ) (T : List ℕ) (F : List Bool) (jn : Joining W src host T F) (n : ℕ) (na : NewAmong (get_or W (block_size * src + count_at) 0) F n) where
  all_fitted : (T' : List ℕ) (a : Option ℕ) → Fitted n (get_or W (block_size * host + count_at) 0) T F T' a → Fitted (count_in W src) (count_in W host) T F T' a
  unfolding count_in
  all_fitted T' a = fitted_all (get_or W (block_size * src + count_at) 0) F n na (get_or W (block_size * host + count_at) 0) T T' a

  pub join_full : (T' : List ℕ) (a : Option ℕ) → Fitted n (get_or W (block_size * host + count_at) 0) T F T' a → a ≡ None → Joined W src host T F W T' false
  join_full T' a ft h = record {
    grown = grown_none host W jn.target;
    mapped = λ z. absurd (false≢true z);
    told = λ z. absurd (false≢true z);
    from = λ z. absurd (false≢true z);
    over = λ _. (all_fitted T' a ft).over h;
  }

  module _ (T' : List ℕ) (a : Option ℕ) (ft : Fitted n (get_or W (block_size * host + count_at) 0) T F T' a) (m : ℕ) (ea : a ≡ Some m) where
    few : m ≤ capacity
    few = (all_fitted T' a ft).few m ea jn.target.small

    ct : Counted (count_in W src) (count_in W host) T F T' m
    ct = (all_fitted T' a ft).counted m ea

    table : length T' ≡ capacity
    table = ct.same ∙ jn.sorted.mapped.table

    join_placing : Placing W src host T' F
    join_placing = record {
      source = jn.source;
      target = jn.target;
      apart = jn.apart;
      told = table;
      marked = jn.sorted.table;
      numbered = record { low = ct.numbered.low; high = λ x h n. omega (arith, ct.numbered.high x h n, few); one = ct.numbered.one };
    }

    pub join_ready : Placing W src host T' F × NewAmong (count_in W src) F n × (count_in W host ≤ m) × (m ≤ capacity)
    unfolding count_in
    join_ready = (join_placing, na, ct.most, few)

    low : (x : ℕ) → New F x → x < count_in W src
    low x n = jn.sorted.low x n

    -- whatever was told or is new is told
    told_some : (z : ℕ) → Decided T F z → (get_or T' z 0 ≡ 0) → ⊥
    told_some z d e = go (get_or F z false) refl
      where
        go : (b : Bool) → get_or F z false ≡ b → ⊥
        go false q = ⊎_elim (λ n. n (sym (ct.kept z q) ∙ e)) (λ n. false≢true (sym q ∙ n)) d
        go true n = absurd (omega (arith, ct.numbered.low z (low z n) n))

    -- none is new
    none_new : m ≡ count_in W host → Joined W src host T F W T' true
    none_new e = record {
      grown = grown_none host W jn.target;
      mapped = λ _. record { table = table; each = λ x y q. jn.sorted.mapped.each x y (sym (ct.kept x (old x (get_or F x false) refl)) ∙ q) };
      told = λ _. told_some;
      from = λ _ y h. inl h;
      over = λ z. absurd (false≢true (sym z));
    }
      where
        old : (x : ℕ) (b : Bool) → get_or F x false ≡ b → get_or F x false ≡ false
        old x false z = z
        old x true n = absurd (omega (arith, ct.numbered.low x (low x n) n, ct.numbered.high x (low x n) n))

    pub join_none : m ≡ get_or W (block_size * host + count_at) 0 → Joined W src host T F W T' true
    unfolding count_in
    join_none e = none_new e

    -- they are added
    module _ (W' : List ℕ) (ex : Extended W src host T' F m W') where
      abbrev ps : List Node
      ps = objects_in W src

      abbrev ns : List Node
      ns = objects_in W host

      abbrev ms : List Node
      ms = objects_in W' host

      abbrev to : ℕ → ℕ
      to x = get_or T' x 0 - 1

      size_old : length ns ≡ count_in W host
      size_old = size_in W host jn.target

      size_new : length ms ≡ m
      unfolding objects_in
      size_new = length_nodes W' (block_size * host) (count_in W' host) ∙ ex.count

      most : length ns ≤ length ms
      most = omega (arith, size_old, size_new, ct.most)

      old_byte : (i k : ℕ) → i < count_in W host → k < object_size → get_or W' (block_size * host + object_size * i + k) 0 ≡ get_or W (block_size * host + object_size * i + k) 0
      old_byte i k h l = let e : block_size * host + object_size * i + k ≡ block_size * host + (object_size * i + k) = omega arith in rw e (ex.old (object_size * i + k) (omega arith))

      old : (i : ℕ) → i < length ns → node_at ms i ≡ node_at ns i
      unfolding objects_in
      old i h =
          let l : i < count_in W host = omega (arith, size_old) in
          at_nodes W' (block_size * host) (count_in W' host) i (omega (arith, ex.count, ct.most))
          ∙ node_same W' W (block_size * host + object_size * i) (block_size * host + object_size * i) (λ k g. old_byte i k l g)
          ∙ sym (at_nodes W (block_size * host) (count_in W host) i l)

      small : (x : ℕ) → New F x → to x < length ms
      small x n = omega (arith, size_new, ct.numbered.low x (low x n) n, ct.numbered.high x (low x n) n)

      lifted : (x : ℕ) → New F x → Lifted W (block_size * src + object_size * x) object_size (numbers_of T') W' (block_size * host + object_size * to x) W'
      lifted x n = record { same = refl; here = λ q h. let z : q % object_size ≡ q = omega arith in rw z (ex.here x q (low x n) n h); below = λ q h. refl; above = λ q h. refl }

      -- its bytes before
      source_packed : (x : ℕ) → New F x → AllPacked W (block_size * src + object_size * x) 1
      source_packed x n j l = let e : block_size * src + object_size * x + object_size * j ≡ block_size * src + object_size * x = omega arith in rw e (jn.source.packed x (low x n))

      -- what a new object refers to
      field_decided : (x f z : ℕ) → New F x → get_elem? (refs_at ps x) f ≡ some (obj z) → (z < count_in W src) × Decided T F z
      unfolding objects_in
      field_decided x f z n e =
          let a = at_some (refs_at ps x) f (obj z) e in
          let l : f < code_count = omega (arith, a.1, four_fields W (block_size * src) (count_in W src) jn.source.packed x (low x n)) in
          let c : code_at W src x f ≡ z = code_is W (block_size * src) (count_in W src) jn.source.packed x (low x n) f l ∙ ap code_of a.0 in
          let h : z < count_in W src = inner_in W src jn.source x f (obj z) e in
          (h, subst (λ (i : ℕ). Decided T F i) c (jn.settled.field x f n l (omega (arith, jn.source.small))))

      -- z is an object of the host, as before
      record Here (z : ℕ) : Type 0 where
        pub low : to z < count_in W host
        pub same : Same ps (obj z) ns (obj (to z))

      old_here : (z : ℕ) → z < count_in W src → get_or F z false ≡ false → Decided T F z → Here z
      old_here z h e d =
          let some : (get_or T' z 0 ≡ 0) → ⊥ = told_some z d in
          let c : CodeAs W src z host (to z) = jn.sorted.mapped.each z (to z) (omega (arith, some, ct.kept z e)) in
          let s : Same ps (obj z) ns (ref_of (to z) 0) = subst (λ (r : Ref). Same ps r ns (ref_of (to z) 0)) (ref_object z 0 (omega (arith, jn.source.small))) (c.same 0) in
          let r : ref_of (to z) 0 ≡ obj (to z) = ref_object (to z) 0 (code_small ps ns z (to z) s) in
          record { low = subst (InRange (count_in W host)) r (c.low 0); same = subst (λ (q : Ref). Same ps (obj z) ns q) r s }

      to_low : (z : ℕ) → z < count_in W src → Decided T F z → to z < m
      to_low z h d = go (get_or F z false) refl
        where
          go : (b : Bool) → get_or F z false ≡ b → to z < m
          go false e = omega (arith, (old_here z h e d).low, ct.most)
          go true n = omega (arith, ct.numbered.low z h n, ct.numbered.high z h n)

      -- the table renames
      abbrev Turns : Ref → Type 0
      Turns r = turn_ref (numbers_of T') r ≡ rename to r

      turns : (r : Ref) → ((z : ℕ) → r ≡ obj z → (z < count_in W src) × Decided T F z) → Turns r
      unfolding numbers_of
      turns (obj z) h =
          let d = h z refl in
          let l : z < length T' = omega (arith, d.0, jn.source.small, table) in
          let e : get_or (numbers_of T') z 0 ≡ to z = get_d_map_lt (λ k. cond (eqb k 0) not_told (k - 1)) T' z 0 0 l ∙ rw (ne_eqb (get_or T' z 0) 0 (told_some z d.1)) in
          ap (λ (c : ℕ). ref_of c 0) (sym (turn_object (numbers_of T') z (omega (arith, table))) ∙ e) ∙ ref_object (to z) 0 (omega (arith, to_low z d.0 d.1, few))
      turns (leaf l) h = turn_rename (numbers_of T') 0 to (omega arith) (λ i q. absurd (omega arith)) (λ i q. absurd (omega arith)) (leaf l) tt

      is : (x : ℕ) → New F x → node_at ms (to x) ≡ rename_node to (node_at ps x)
      unfolding objects_in nodes_in
      is x n =
          at_nodes W' (block_size * host) (count_in W' host) (to x) (omega (arith, ex.count, size_new, small x n))
          ∙ ap (λ (l : List Node). node_at l 0) (lifted_nodes W (block_size * src + object_size * x) (numbers_of T') W' (block_size * host + object_size * to x) W' 1 (lifted x n) (source_packed x n))
          ∙ ap (changed (turn_ref (numbers_of T'))) (sym (at_nodes W (block_size * src) (count_in W src) x (low x n)))
          ∙ node_agree (turn_ref (numbers_of T')) (rename to) Turns (λ r t. t) (node_at ps x) (λ f r e. turns r (λ z q. field_decided x f z n (e ∙ ap some q)))

      inner : (i f : ℕ) (r : Ref) → get_elem? (refs_at ns i) f ≡ some r → InRange (length ns) r
      inner = jn.target.whole.inner

      fields : (x f z : ℕ) → New F x → get_elem? (refs_at ps x) f ≡ some (obj z) → New F z ⊎ Told ps ns ms inner most old to (New F) small is z
      fields x f z n e = go (field_decided x f z n e) (get_or F z false) refl
        where
          go : (z < count_in W src) × Decided T F z → (b : Bool) → get_or F z false ≡ b → New F z ⊎ Told ps ns ms inner most old to (New F) small is z
          go d false q = let h = old_here z d.0 q d.1 in inr (record { low = omega (arith, size_old, h.low); same = h.same })
          go d true q = inl q

      source : (i : ℕ) → length ns ≤ i → i < length ms → Source ps ns ms inner most old to (New F) small is i
      source i h l =
          let g = ct.from (i + 1) (omega (arith, size_old)) (omega (arith, size_new)) in
          record { from = g.source; new = g.new; at = omega (arith, g.at) }

      distinct : Distinct ms
      distinct =
          distinct_many ps ns ms inner most old to (New F) small is fields jn.target.distinct
          (λ x n. subst (λ (k : ℕ). Fresh ps ns k x) (sym size_old) (jn.sorted.fresh x n))
          (λ x y n q e. jn.source.distinct.apart x y (omega (arith, low x n, size_in W src jn.source)) (omega (arith, low y q, size_in W src jn.source)) e) source

      whole : Whole (graph (leaf undet) ms)
      whole = record { top = tt; inner = inner_many ps ns ms inner most old to (New F) small is fields source }

      packed : (i : ℕ) → i < count_in W' host → Packed W' (block_size * host + object_size * i)
      packed i h = go (dec_lt i (count_in W host))
        where
          new : (x : ℕ) → New F x → Packed W' (block_size * host + object_size * to x)
          new x n =
              let z : block_size * host + object_size * to x + object_size * 0 ≡ block_size * host + object_size * to x = omega arith in
              rw z at (lifted_packed W (block_size * src + object_size * x) (numbers_of T') W' (block_size * host + object_size * to x) W' 1 (lifted x n) (source_packed x n) 0 (omega arith))

          go : Dec (i < count_in W host) → Packed W' (block_size * host + object_size * i)
          go (yes l) = packed_same W' W (block_size * host + object_size * i) (block_size * host + object_size * i) (λ k g. old_byte i k l g) (jn.target.packed i l)
          go (no l) =
              let s = source i (omega (arith, l, size_old)) (omega (arith, size_new, ex.count)) in
              subst (λ (k : ℕ). Packed W' (block_size * host + object_size * k)) s.at (new s.from s.new)

      block : Block W' host
      unfolding objects_in
      block = record {
        room = omega (arith, ex.outside.same, jn.target.room);
        small = omega (arith, ex.count, few);
        packed = packed;
        whole = whole;
        distinct = distinct;
        level = λ i f h. ex.level i f (omega (arith, ex.count));
        reach = λ i f h l c. omega (arith, ex.reach, ex.count, code_low W' (block_size * host) (count_in W' host) packed i h whole f l c);
      }

      grown : Grown host W W'
      grown = record {
        outside = ex.outside;
        block = block;
        most = omega (arith, ex.count, ct.most);
        trees = λ r h p. sym (old_trees ps ns ms inner most old to (New F) small is fields r (subst (λ (k : ℕ). InRange k r) (sym size_old) h) p);
      }

      new_code : (x y : ℕ) → get_or T' x 0 ≡ y + 1 → New F x → CodeAs W' src x host y
      new_code x y e n =
          let z : to x ≡ y = omega arith in
          let ey : (k : ℕ) → ref_of y k ≡ obj y = λ k. ref_object y k (omega (arith, small x n, size_new, few)) in
          let ex' : (k : ℕ) → ref_of x k ≡ obj x = λ k. ref_object x k (omega (arith, low x n, jn.source.small)) in
          record {
            low = λ k. subst (InRange (count_in W' host)) (sym (ey k)) (omega (arith, small x n, size_new, ex.count));
            leaf = λ q. absurd (omega (arith, low x n, jn.source.small));
            same = λ k p.
                ap (λ (l : List Node). follow l (ref_of x k) p) (other_block host W W' ex.outside src jn.apart jn.source).0
                ∙ ap (λ (r : Ref). follow ps r p) (ex' k) ∙ new_trees ps ns ms inner most old to (New F) small is fields p x (inl n)
                ∙ ap (λ (r : Ref). follow ms r p) (ap obj z ∙ sym (ey k));
          }

      pub join_more : Joined W src host T F W' T' true
      join_more = record {
        grown = grown;
        mapped = λ _. record { table = table; each = λ x y e. go x y e (get_or F x false) refl };
        told = λ _. told_some;
        from = λ _ y h. from y h (dec_lt y (count_in W host));
        over = λ z. absurd (false≢true (sym z));
      }
        where
          from : (y : ℕ) → y < count_in W' host → Dec (y < count_in W host) → (y < count_in W host) ⊎ ((x : ℕ) × New F x × Same ps (obj x) ms (obj y))
          from y h (yes l) = inl l
          from y h (no l) =
              let s = source y (omega (arith, l, size_old)) (omega (arith, size_new, ex.count)) in
              inr (s.from, s.new, λ p. new_trees ps ns ms inner most old to (New F) small is fields p s.from (inl s.new) ∙ ap (λ (k : ℕ). follow ms (obj k) p) s.at)

          go : (x y : ℕ) → get_or T' x 0 ≡ y + 1 → (b : Bool) → get_or F x false ≡ b → CodeAs W' src x host y
          go x y e false z = code_grown host W W' grown src jn.apart jn.source x y (jn.sorted.mapped.each x y (sym (ct.kept x z) ∙ e))
          go x y e true n = new_code x y e n
