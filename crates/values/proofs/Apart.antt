-- Objects told apart by a path, and objects that stay distinct where a mark is bound: the laws of `other_field`, `differ`, `unlike`, `stay_distinct`.
-- Not here: how they are bound (Bindings), the block written (Puts).
use Rattle.std.proofs.Common.{ℕ, ◌+◌, ◌*◌, ◌<◌, ◌≤◌, arith, Some, None, ◌≡◌, sym, ap, ◌∙◌, subst, Bool, true, false, not, List, [], length, get_or}
use native.Mathlib.Decide.{dec_lt, ℕ_discrete}
use Rattle.std.specs.declared.option.Option.{Option as RustOption}
use Rattle.std.proofs.Math.Bool.{false≢true}
use Rattle.std.proofs.Math.Option.{some, none-ne-some}
use Rattle.std.proofs.Math.ListN.{get_elem?, get_or-eq_default}
use Rattle.cofj.specs.Values.{Ref, obj, leaf, undet, Node, node, node_at, refs_at}
use Rattle.cofj.specs.Unfolding.{follow, Same, InRange}
use Rattle.cofj.proofs.Trees.{same_child, same_cls, same_count}
use Rattle.cofj.proofs.Operations.{bound_nodes}
use Rattle.canon.specs.Figures.{object_size, head_size, code_count, numbers_at, first_leaf, reach_at, block_size}
use Rattle.canon.specs.Layout.{code_of, number_beside, number_at, nodes_in, alike_at, Distinct, Block, Inside, objects_in, count_in, reach_in, Raw}
use Rattle.canon.proofs.Nodes.{some_at, at_some, length_nodes, AllPacked, class_is, count_is, code_is, number_is, four_fields, object_low, alike_yes, alike_no}
use Rattle.values.specs.Binding.{Bound, none_refer, OtherField, Leads, DifferTest, UnlikeTest, UnlikeOthers, OthersTest, DistinctTest}
use Rattle.values.proofs.Tests.{not_true, not_false}
use Rattle.values.proofs.Objects.{leaf_refs, is_object_lem}
use Rattle.values.proofs.Blocks.{size_in}
use Rattle.values.proofs.Trees.{in_larger}
use Rattle.values.proofs.BoundTrees.{distinct_bound}
use Rattle.values.proofs.Bindings.{objects_are}
use Rattle.values.proofs.Referring.{free_code}

module _ (R : List ℕ) (x y : ℕ) where
  pub other_code : (f : ℕ) → f < code_count → ((get_or R (object_size * x + head_size + f) 0 ≡ get_or R (object_size * y + head_size + f) 0) → ⊥) → OtherField R x y (Some f)
  other_code f l h = record { low = λ g q. let z : f ≡ g = cc in rw z at l; other = λ g q e _. let z : f ≡ g = cc in (rw z at h) e }

  pub other_number : (f m n : ℕ) → f < code_count → m ≡ number_at R (object_size * x + numbers_at + 2 * f) → n ≡ number_at R (object_size * y + numbers_at + 2 * f) → ((m ≡ n) → ⊥) → OtherField R x y (Some f)
  other_number f m n l em en h = record {
    low = λ g q. let z : f ≡ g = cc in rw z at l;
    other = λ g q _ e. let z : f ≡ g = cc in h ((rw z at em) ∙ e ∙ sym (rw z at en));
  }

  pub other_none : OtherField R x y None
  other_none = record { low = λ g q. absurd (cc); other = λ g q. absurd (cc) }

module _ (R : List ℕ) (n i k : ℕ) where
  pub differ_start : i < n → k < n → Leads R n i k i k
  differ_start h l = record { first = h; second = l; leads = λ e. e }

  pub differ_not : DifferTest R n i k false
  differ_not = record { yes = λ z. absurd (false≢true z) }

  module _ (raw : Raw R n) where
    packed : AllPacked R 0 n
    packed j h = let z : 0 + object_size * j ≡ object_size * j = omega arith in rw z (raw.packed j h)

    abbrev ns : List Node
    ns = nodes_in R 0 n

    cls_at : (x : ℕ) → x < n → get_or R (object_size * x) 0 ≡ (node_at ns x).cls
    cls_at x h = let z : 0 + object_size * x ≡ object_size * x = omega arith in rw z at (class_is R 0 n packed x h)

    count_at : (x : ℕ) → x < n → get_or R (object_size * x + 1) 0 ≡ length (refs_at ns x)
    count_at x h = let z : 0 + object_size * x ≡ object_size * x = omega arith in rw z at (count_is R 0 n packed x h)

    code_at : (x : ℕ) → x < n → (f : ℕ) → f < code_count → get_or R (object_size * x + head_size + f) 0 ≡ code_of (get_or (refs_at ns x) f (leaf undet))
    code_at x h f l = let z : 0 + object_size * x ≡ object_size * x = omega arith in rw z at (code_is R 0 n packed x h f l)

    number_at_lem : (x : ℕ) → x < n → (f : ℕ) → f < code_count → number_at R (object_size * x + numbers_at + 2 * f) ≡ number_beside (get_or (refs_at ns x) f (leaf undet))
    number_at_lem x h f l = let z : 0 + object_size * x ≡ object_size * x = omega arith in rw z at (number_is R 0 n packed x h f l)

    range_at : (x f : ℕ) → f < length (refs_at ns x) → InRange n (get_or (refs_at ns x) f (leaf undet))
    range_at x f h = subst (λ (l : ℕ). InRange l (get_or (refs_at ns x) f (leaf undet))) (length_nodes R 0 n) (raw.whole.inner x f _ (some_at (refs_at ns x) f h))

    -- a field that there is not
    spare_ref : (x : ℕ) → x < n → (f : ℕ) → get_or R (object_size * x + 1) 0 ≤ f → get_or (refs_at ns x) f (leaf undet) ≡ leaf undet
    spare_ref x h f m = get_or-eq_default (refs_at ns x) (leaf undet) {n = f} (omega (arith, count_at x h))

    module _ (x y : ℕ) (ld : Leads R n i k x y) where
      pub differ_unlike : (r : Bool) → r ≡ alike_at R (object_size * x) (object_size * y) → not r ≡ true → DifferTest R n i k true
      differ_unlike r t z = record {
        yes = λ _ e. alike_no R (object_size * x) (object_size * y) r t (not_true r z) (record {
          cls = cls_at x ld.first ∙ same_cls ns ns x y (ld.leads e) ∙ sym (cls_at y ld.second);
          count = count_at x ld.first ∙ same_count ns ns x y (ld.leads e) ∙ sym (count_at y ld.second);
        });
      }

      module _ (u : Bool) (t : u ≡ alike_at R (object_size * x) (object_size * y)) (zu : not u ≡ false) (w : RustOption ℕ) (o : OtherField R x y w) (f : ℕ) (is : w ≡ Some f) where
        hf : f < code_count
        hf = o.low f is

        abbrev a : ℕ
        a = get_or R (object_size * x + head_size + f) 0

        abbrev c : ℕ
        c = get_or R (object_size * y + head_size + f) 0

        en : get_or R (object_size * x + 1) 0 ≡ get_or R (object_size * y + 1) 0
        en = (alike_yes R (object_size * x) (object_size * y) u t (not_false u zu)).count

        -- they are not the same field
        not_same : get_or (refs_at ns x) f (leaf undet) ≡ get_or (refs_at ns y) f (leaf undet) → ⊥
        not_same e = o.other f is (code_at x ld.first f hf ∙ ap code_of e ∙ sym (code_at y ld.second f hf)) (number_at_lem x ld.first f hf ∙ ap number_beside e ∙ sym (number_at_lem y ld.second f hf))

        field_low : f < get_or R (object_size * x + 1) 0
        field_low = go (dec_lt f (get_or R (object_size * x + 1) 0))
          where
            go : Dec (f < get_or R (object_size * x + 1) 0) → f < get_or R (object_size * x + 1) 0
            go (yes h) = h
            go (no h) = absurd (not_same (spare_ref x ld.first f (omega (arith, h)) ∙ sym (spare_ref y ld.second f (omega (arith, h, en)))))

        abbrev r : Ref
        r = get_or (refs_at ns x) f (leaf undet)

        abbrev s : Ref
        s = get_or (refs_at ns y) f (leaf undet)

        low_x : f < length (refs_at ns x)
        low_x = omega (arith, field_low, count_at x ld.first)

        low_y : f < length (refs_at ns y)
        low_y = omega (arith, field_low, en, count_at y ld.second)

        ea : a ≡ code_of r
        ea = code_at x ld.first f hf

        ec : c ≡ code_of s
        ec = code_at y ld.second f hf

        children : Same ns (obj i) ns (obj k) → Same ns r ns s
        children e = same_child ns ns (obj x) (obj y) (ld.leads e) f r s (some_at (refs_at ns x) f low_x) (some_at (refs_at ns y) f low_y)

        pub differ_first : first_leaf ≤ a → DifferTest R n i k true
        differ_first h = record { yes = λ _ e. not_same (leaf_refs ns ns r s (in_larger n first_leaf r (omega (arith, raw.few)) (range_at x f low_x)) (children e) (omega (arith, ea))) }

        pub differ_second : first_leaf ≤ c → DifferTest R n i k true
        differ_second h = record { yes = λ _ e. not_same (sym (leaf_refs ns ns s r (in_larger n first_leaf s (omega (arith, raw.few)) (range_at y f low_y)) (λ p. sym (children e p)) (omega (arith, ec)))) }

        pub differ_step : a < first_leaf → c < first_leaf → Leads R n i k a c
        differ_step ha hc =
            let la : code_of r < first_leaf = omega (arith, ea) in
            let lc : code_of s < first_leaf = omega (arith, ec) in
            record {
              first = omega (arith, ea, object_low n r (range_at x f low_x) la);
              second = omega (arith, ec, object_low n s (range_at y f low_y) lc);
              leads = λ e p. ap (λ (q : Ref). follow ns q p) (ap obj ea ∙ sym (is_object_lem r la)) ∙ children e p ∙ ap (λ (q : Ref). follow ns q p) (is_object_lem s lc ∙ ap obj (sym ec));
            }

module _ (R : List ℕ) (n i : ℕ) where
  pub unlike_same : (k : ℕ) → k ≡ i → UnlikeTest R n i k true
  unlike_same k e = record { yes = λ _ _. e }

  pub unlike_differ : (k : ℕ) (r : Bool) → DifferTest R n i k r → UnlikeTest R n i k r
  unlike_differ k r t = record { yes = λ z e. absurd (t.yes z e) }

  pub others_none : UnlikeOthers R n i 0
  others_none = record { only = λ k h. absurd (omega arith) }

  pub others_more : (k : ℕ) (r : Bool) → UnlikeOthers R n i k → UnlikeTest R n i k r → not r ≡ false → UnlikeOthers R n i (k + 1)
  others_more k r o t e = record { only = λ j h. go j h (ℕ_discrete j k) }
    where
      go : (j : ℕ) → j < k + 1 → Dec (j ≡ k) → Same (nodes_in R 0 n) (obj i) (nodes_in R 0 n) (obj j) → j ≡ i
      go j h (yes z) q = z ∙ t.yes (not_false r e) (subst (λ (l : ℕ). Same (nodes_in R 0 n) (obj i) (nodes_in R 0 n) (obj l)) z q)
      go j h (no z) q = o.only j (omega (arith, z)) q

  pub others_not : OthersTest R n i false
  others_not = record { yes = λ z. absurd (false≢true z) }

  pub others_all : (k : ℕ) → UnlikeOthers R n i k → k ≤ n → n ≤ k → OthersTest R n i true
  others_all k o h l = let e : k ≡ n = omega arith in record { yes = λ _. rw e at o }

abbrev Free : List ℕ → ℕ → ℕ → Type 0
Free W b i = (j : ℕ) → j < count_in W b → (f : ℕ) → f < code_count → get_or W (block_size * b + object_size * j + head_size + f) 0 ≡ i → ⊥

module _ (W : List ℕ) (b i : ℕ) (bk : Block W b) (fr : Free W b i) where
  free_at : (j : ℕ) → j < count_in W b → (f : ℕ) (r : Ref) → get_elem? (refs_at (objects_in W b) j) f ≡ some r → r ≡ obj i → ⊥
  unfolding objects_in
  free_at j h f r e z =
      let g = at_some (refs_at (nodes_in W (block_size * b) (count_in W b)) j) f r e in
      let l : f < code_count = omega (arith, g.1, four_fields W (block_size * b) (count_in W b) bk.packed j h) in
      fr j h f l (code_is W (block_size * b) (count_in W b) bk.packed j h f l ∙ ap code_of (g.0 ∙ z))

  free_in : (j f : ℕ) (r : Ref) → get_elem? (refs_at (objects_in W b) j) f ≡ some r → r ≡ obj i → ⊥
  free_in j f r e = go (dec_lt j (count_in W b))
    where
      go : Dec (j < count_in W b) → r ≡ obj i → ⊥
      go (yes h) = free_at j h f r e
      go (no h) =
          let d : node_at (objects_in W b) j ≡ node 0 [] = get_or-eq_default (objects_in W b) (node 0 []) {n = j} (omega (arith, h, size_in W b bk)) in
          absurd (none-ne-some r (sym (ap (λ (y : Node). get_elem? y.refs f) d) ∙ e))

module _ (W : List ℕ) (b i : ℕ) (ob : Inside W b i) (x : ℕ) (R : List ℕ) (n : ℕ) (bd : Bound W b x i R n) where
  distinct_objects : Free W b i → UnlikeOthers R n i n → Distinct (nodes_in R 0 n)
  distinct_objects fr o =
      let e : nodes_in R 0 n ≡ bound_nodes x i (objects_in W b) = objects_are W b i ob x R n bd in
      subst Distinct (sym e)
      (distinct_bound (objects_in W b) x i ob.block.whole.inner (free_in W b i ob.block fr)
      (λ k h q. o.only k (omega (arith, bd.count, size_in W b ob.block)) (subst (λ (ns : List Node). Same ns (obj i) ns (obj k)) (sym e) q))
      ob.block.distinct)

  pub stays_distinct : (u r : Bool) → u ≡ none_refer W b n i → u ≡ true → OthersTest R n i r → DistinctTest R n r
  stays_distinct u r t e o = record { yes = λ z. distinct_objects (λ j h. free_code W b i n (sym t ∙ e) j (omega (arith, bd.count))) (o.yes z) }

  pub stays_beyond : (r : Bool) → get_or W (block_size * b + reach_at) 0 ≤ i → OthersTest R n i r → DistinctTest R n r
  unfolding reach_in
  stays_beyond r h o = record {
    yes = λ z. distinct_objects (λ j k f l e. omega (arith, ob.block.reach j f k l (omega (arith, ob.low, ob.block.small)))) (o.yes z);
  }

pub distinct_not : (R : List ℕ) (n : ℕ) → DistinctTest R n false
distinct_not R n = record { yes = λ z. absurd (false≢true z) }

pub distinct_yes : (R : List ℕ) (n : ℕ) (r : Bool) → DistinctTest R n r → r ≡ true → Distinct (nodes_in R 0 n)
distinct_yes R n r t e = t.yes e
