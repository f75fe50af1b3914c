-- What trying a host answers: one law for each return of `try_in`.
-- Not here: the parts brought (Brings), which block is the host (Hosts).
use Rattle.std.proofs.Common.{ℕ, zero, suc, ◌+◌, ◌*◌, ◌<◌, ◌≤◌, arith, ◌≡◌, refl, sym, ap, ap₂, ◌∙◌, subst, List, [], ◌∷◌, map, length, get_or, take, length-take, get_or-take}
use native.Mathlib.Decide.{dec_lt}
use Rattle.std.proofs.Math.Option.{some}
use Rattle.std.proofs.Math.ListN.{get_elem?}
use Rattle.cofj.specs.Partial.{◌>>=◌}
use Rattle.cofj.specs.Values.{Ref, obj, leaf, undet, Node, node, Graph, graph, node_at, canon, make}
use Rattle.cofj.specs.Unfolding.{object, follow, Same, InRange, Whole}
use Rattle.cofj.proofs.Basics.{get_d_map_lt}
use Rattle.cofj.proofs.Canon.{canon_same}
use Rattle.canon.specs.Figures.{code_count, undetermined_code, capacity, block_size}
use Rattle.canon.specs.Layout.{ref_of, ref_in, four, node_in, count_in, objects_in, graph_at, Block, Inside}
use Rattle.canon.proofs.Nodes.{four_at_lem, at_nodes}
use Rattle.values.specs.declared.ValueRef.{ValueRef}
use Rattle.values.specs.declared.ValueRef.TheVariants.{Object}
use Rattle.values.specs.Layout.{raw_of, Holds}
use Rattle.values.specs.Operations.{Gives}
use Rattle.values.proofs.Blocks.{size_in, whole_at}
use Rattle.values.proofs.Trees.{made_as}
use Rattle.std.specs.declared.option.Option.{Option}
use Rattle.std.specs.declared.option.Option.TheVariants.{Some, None}
use Rattle.std.proofs.lemmas.Option.{none-some, same_Some}
use Rattle.maker.specs.Laying.{values_from, raws_from, PartsHeld, MadeIs}
use Rattle.maker.specs.Adding.{codes_of, pairs_of, object_of, beside_of, RootNumbers, part_of}
use Rattle.maker.specs.Merging.{Grown, Fits, Standing, Entered, TriedIs, As, AllWithin, RootBrought, PartsBrought}
use Rattle.maker.specs.Crowds.{Within, BlockIn, Crowd}
use Rattle.maker.proofs.Crowds.{within_field, crowd_topped}
use Rattle.maker.proofs.Codes.{object_class, object_count, object_ref, codes_packed}
use Rattle.maker.proofs.Finds.{numbers_plain}
use Rattle.maker.proofs.Makes.{raws_whole, made_raw, parts_length, made_brought}
use Rattle.maker.proofs.Adding.{more, size_more, inner_more, at_new, follow_new}
use Rattle.maker.proofs.Turns.{leaf_low, low_refs}
use Rattle.maker.proofs.Enters.{grown_more}
use Rattle.maker.proofs.Brings.{beneath_grown, like_grown}

-- ---- what trying a host answers
module _ (W : List ℕ) (v : Graph) (host dst : ℕ) (W1 : List ℕ) where
  tried_none : Grown host W W1 → (BlockIn W host v → Crowd v) → TriedIs W v host dst W1 None
  tried_none g c = record { here = λ r e. absurd (none-some r e); none = λ _. g; over = λ _. c }

  tried_value : (r : ValueRef) → MadeIs W v dst W1 (Some r) → TriedIs W v host dst W1 (Some r)
  tried_value r m = record {
    here = λ s e. subst (λ (x : ValueRef). MadeIs W v dst W1 (Some x)) (same_Some r s e) m;
    none = λ e. absurd (none-some r (sym e));
    over = λ e. absurd (none-some r (sym e));
  }

abbrev AllLike : List Node → List Ref → List Graph → Type 0
AllLike ms [] [] = Unit {0}
AllLike ms [] (g ∷ gs) = ⊥
AllLike ms (r ∷ rs) [] = ⊥
AllLike ms (r ∷ rs) (g ∷ gs) = Same ms r g.nodes g.root × AllLike ms rs gs

like_follow : (ms : List Node) (rs : List Ref) (gs : List Graph) → AllLike ms rs gs → (f : ℕ) (p : List ℕ) → get_elem? rs f >>= (λ s. follow ms s p) ≡ get_elem? gs f >>= (λ v. follow v.nodes v.root p)
like_follow ms [] [] a f p = refl
like_follow ms [] (g ∷ gs) a f p = absurd a
like_follow ms (r ∷ rs) [] a f p = absurd a
like_follow ms (r ∷ rs) (g ∷ gs) a zero p = a.0 p
like_follow ms (r ∷ rs) (g ∷ gs) a (suc f) p = like_follow ms rs gs a.1 f p

like_all : (W : List ℕ) (ms : List Node) (n : ℕ) (rs : List Ref) (ps : List ValueRef) → n ≤ length rs → n ≤ length ps
    → ((i : ℕ) → i < n → Same ms (get_or rs i (leaf undet)) (raw_of W (part_of ps i)).nodes (raw_of W (part_of ps i)).root) → AllLike ms (take n rs) (map (raw_of W) (take n ps))
like_all W ms zero rs ps a b h = tt
like_all W ms (suc n) [] ps a b h = absurd (omega arith)
like_all W ms (suc n) (r ∷ rs) [] a b h = absurd (omega arith)
like_all W ms (suc n) (r ∷ rs) (s ∷ ps) a b h = (h 0 (omega arith), like_all W ms n rs ps (omega arith) (omega arith) (λ i l. h (suc i) (omega arith)))

module _ (W : List ℕ) (c : ℕ) (ps : List ValueRef) (n host dst : ℕ) (held : PartsHeld W ps n) (few : n ≤ code_count) (le : dst ≤ host) (W1 : List ℕ) (a : Option ℕ) (br : PartsBrought W ps n host W1 a) where
  abbrev made : Graph
  made = make c (values_from W ps 0 n)

  -- the parts stand in the new object
  raw_at : (i : ℕ) → i < n → get_or (raws_from W ps 0 n) i (graph (leaf undet) []) ≡ raw_of W (part_of ps i)
  unfolding raws_from
  raw_at i l =
      get_d_map_lt (raw_of W) (take n ps) i (graph (leaf undet) []) (Object 0 0) (omega (arith, length-take n ps, held.full))
      ∙ ap (raw_of W) (get_or-take n ps i (Object 0 0) l)

  all_within : AllWithin W ps n made
  all_within i l =
      subst (Within (raw_of W (part_of ps i))) (sym (made_raw W c ps n held))
      (subst (λ (h : Graph). Within h (make c (raws_from W ps 0 n))) (raw_at i l)
      (within_field c (raws_from W ps 0 n) (raws_whole W c ps n held) (graph (leaf undet) []) i (omega (arith, parts_length W ps n held))))

  pub in_none : a ≡ None → TriedIs W (make c (values_from W ps 0 n)) host dst W1 None
  in_none z = tried_none W made host dst W1 br.grown (λ old. br.over z made old all_within)

  module _ (w : ℕ) (ew : a ≡ Some w) (v : ℕ) (rn : RootNumbers ps n 0 v) where
    rb : RootBrought W ps n 0 W1 host w
    rb = br.done w ew

    abbrev root_object : List ℕ
    root_object = object_of c n w v

    like_code : (j : ℕ) → j < n → As W (part_of ps j) W1 host (get_or (codes_of w) j 0)
    like_code j h = let e : 0 + j ≡ j = omega arith in rw e at (rb.done j (omega arith))

    -- a field: the code of a part, and its number
    field_is : (j : ℕ) → j < n → ref_in root_object 0 j ≡ ref_of (get_or (codes_of w) j 0) (beside_of (part_of ps j))
    field_is j h =
        let e : 0 + j ≡ j = omega arith in
        object_ref c n w v j (omega arith) ∙ ap (ref_of (get_or (codes_of w) j 0)) (rw e at (rn.done j (omega arith)))

    pub in_block : Block W1 host
    in_block = br.grown.block

    pub in_fits : Fits W1 host (object_of c n w v)
    in_fits = record {
      packed = codes_packed c n w v few (λ j l m. rb.spare j (omega arith) m) (numbers_plain ps n v rn (λ j. get_or (codes_of w) j 0) (λ j l. (like_code j l).plain));
      low = low_refs root_object (count_in W1 host) (λ j l. go j l (dec_lt j n));
    }
      where
        go : (j : ℕ) → j < code_count → Dec (j < n) → InRange (count_in W1 host) (ref_in root_object 0 j)
        go j l (yes h) = rw (field_is j h) (like_code j h).low
        go j l (no h) = rw (object_ref c n w v j l, rb.spare j (omega (arith, h)) l) (leaf_low (count_in W1 host) undetermined_code (get_or (pairs_of v) j 0) (omega arith))

    module _ (W2 : List ℕ) (q : Option ℕ) (en : Entered W1 host (object_of c n w v) W2 q) where
      both : Grown host W W2
      both = grown_more host W W1 W2 br.grown en.grown

      -- the host is full of objects that stand in the new one, and does not have it
      module _ (z : q ≡ None) where
        abbrev hosted : List Node
        hosted = objects_in W1 host

        abbrev new_node : Node
        new_node = node_in root_object 0

        size : length hosted ≡ capacity
        size = size_in W1 host in_block ∙ (en.full z).0

        hosted_low : (f : ℕ) (s : Ref) → get_elem? new_node.refs f ≡ some s → InRange (length hosted) s
        hosted_low f s e = subst (λ (k : ℕ). InRange k s) (sym (size_in W1 host in_block)) (in_fits.low f s e)

        not_hosted : (j : ℕ) → j < length hosted → node_at hosted j ≡ new_node → ⊥
        unfolding objects_in
        not_hosted j h e = (en.full z).1.none j (omega (arith, size)) (sym (at_nodes W1 (block_size * host) (count_in W1 host) j (omega (arith, size_in W1 host in_block))) ∙ e)

        top_is : new_node ≡ node c (take n (four root_object 0))
        unfolding node_in
        top_is = ap₂ {A = ℕ} {B = ℕ} (λ x y. node x (take y (four root_object 0))) (object_class c n w v) (object_count c n w v)

        whole_more : Whole (graph (obj (length hosted)) (more hosted new_node))
        whole_more = record { top = omega (arith, size_more new_node hosted in_block.whole.inner hosted_low); inner = inner_more new_node hosted in_block.whole.inner hosted_low }

        like_now : AllLike hosted (take n (four root_object 0)) (raws_from W ps 0 n)
        unfolding raws_from
        like_now = like_all W hosted n (four root_object 0) ps few held.full (λ i l p.
            ap (λ (x : Ref). follow hosted x p) (four_at_lem root_object 0 i (omega arith) ∙ field_is i l) ∙ sym ((like_code i l).same p))

        value_more : made ≡ canon (graph (obj (length hosted)) (more hosted new_node))
        value_more =
            made_raw W c ps n held
            ∙ made_as c (raws_from W ps 0 n) (raws_whole W c ps n held) (graph (obj (length hosted)) (more hosted new_node)) whole_more
            (ap (λ (x : Node). some (object x.cls (length x.refs))) (at_new new_node hosted in_block.whole.inner hosted_low ∙ top_is)
            ∙ ap (λ (l : ℕ). some (object c l)) (omega (arith, length-take n (four root_object 0), few, parts_length W ps n held)))
            (λ f p. follow_new new_node hosted in_block.whole.inner hosted_low f p ∙ ap (λ (x : Node). get_elem? x.refs f >>= (λ s. follow hosted s p)) top_is
            ∙ like_follow hosted (take n (four root_object 0)) (raws_from W ps 0 n) like_now f p)

        root : Same (more hosted new_node) (obj capacity) made.nodes made.root
        root p =
            ap (λ (k : ℕ). follow (more hosted new_node) (obj k) p) (sym size) ∙ sym (canon_same (graph (obj (length hosted)) (more hosted new_node)) whole_more p)
            ∙ ap (λ (x : Graph). follow x.nodes x.root p) (sym value_more)

        crowd : BlockIn W host made → Crowd made
        crowd old =
            crowd_topped new_node hosted in_block.whole.inner hosted_low in_block.distinct not_hosted made size
            (λ y h. rb.stand made old all_within y (omega (arith, (en.full z).0))) root

        pub in_full : TriedIs W (make c (values_from W ps 0 n)) host dst W2 None
        in_full = tried_none W made host dst W2 both crowd

      pub in_room : block_size * dst + block_size ≤ length W → block_size * dst + block_size ≤ length W2
      in_room h = omega (arith, both.outside.same)

      module _ (r : ℕ) (d : q ≡ Some r) where
        st : Standing W2 host root_object r
        st = en.standing r d

        inside : Inside W2 host r
        inside = record { block = en.grown.block; low = st.low }

        whole : Whole (graph_at W2 host r)
        whole = whole_at W2 host en.grown.block r st.low

        node_is : node_at (objects_in W2 host) r ≡ node c (take n (four root_object 0))
        unfolding node_in
        node_is = st.is ∙ ap₂ {A = ℕ} {B = ℕ} (λ x y. node x (take y (four root_object 0))) (object_class c n w v) (object_count c n w v)

        like : AllLike (objects_in W2 host) (take n (four root_object 0)) (raws_from W ps 0 n)
        unfolding raws_from
        like = like_all W (objects_in W2 host) n (four root_object 0) ps few held.full (λ i l p.
            ap (λ (x : Ref). follow (objects_in W2 host) x p) (four_at_lem root_object 0 i (omega arith) ∙ field_is i l)
            ∙ sym ((like_grown host W1 W2 en.grown W (part_of ps i) (get_or (codes_of w) i 0) (like_code i l)).same p))

        value : make c (values_from W ps 0 n) ≡ canon (graph_at W2 host r)
        value =
            made_raw W c ps n held
            ∙ made_as c (raws_from W ps 0 n) (raws_whole W c ps n held) (graph_at W2 host r) whole
            (ap (λ (x : Node). some (object x.cls (length x.refs))) node_is
            ∙ ap (λ (l : ℕ). some (object c l)) (omega (arith, length-take n (four root_object 0), few, parts_length W ps n held)))
            (λ f p. ap (λ (x : Node). get_elem? x.refs f >>= (λ s. follow (objects_in W2 host) s p)) node_is ∙ like_follow (objects_in W2 host) (take n (four root_object 0)) (raws_from W ps 0 n) like f p)

        pub in_holds : Holds W2 (Object r host)
        in_holds = record { held = inside }

        pub in_made : (W3 : List ℕ) (v : ValueRef) → Gives W2 dst W3 v (canon (graph_at W2 host r)) → TriedIs W (make c (values_from W ps 0 n)) host dst W3 (Some v)
        in_made W3 v g = tried_value W _ host dst W3 v (made_brought W W2 _ dst host r inside value (beneath_grown host dst W W2 le both) W3 v g)
