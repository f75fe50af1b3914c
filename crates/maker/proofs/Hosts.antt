-- Which block is the host, and what making asks once a block is written: the laws of `some_in`, `larger`, `largest`, and of each way to make.
-- Not here: what trying a host answers (Tries).
use Rattle.std.proofs.Common.{ℕ, zero, suc, ◌+◌, ◌-◌, ◌*◌, ◌<◌, ◌≤◌, arith, ◌≡◌, refl, sym, ap, ap₂, ◌∙◌, subst, Bool, true, false, cond, eqb, ltb, List, [], length, get_or, lt-ltb, le-ltb, eq-eqb, ne_eqb, eqb-true}
use Rattle.std.proofs.Math.Bool.{false≢true}
use Rattle.std.proofs.Math.Option.{none-ne-some}
use borrow.Author.Tests.{lt-leb}
use Rattle.cofj.specs.Values.{Node, make}
use Rattle.cofj.specs.Unfolding.{follow, Whole}
use Rattle.cofj.proofs.Operations.{make-whole}
use Rattle.canon.specs.Figures.{code_count, capacity, count_at, block_size, spare_block}
use Rattle.canon.specs.Layout.{nodes_in, count_in, objects_in, Block, Outside}
use Rattle.values.specs.declared.ValueRef.{ValueRef}
use Rattle.values.specs.declared.ValueRef.TheVariants.{Object, Mark, Number, Undetermined}
use Rattle.values.specs.Layout.{Holds, Low, lies_in}
use Rattle.values.specs.Tests.{any}
use Rattle.values.specs.Operations.{Copied}
use Rattle.values.proofs.Tests.{any_there, any_not}
use Rattle.values.proofs.Blocks.{held_room, no_object, size_in}
use Rattle.values.proofs.Copies.{block_moves}
use Rattle.values.proofs.Kept.{Kept, kept}
use Rattle.std.specs.declared.option.Option.{Option as RustOption}
use Rattle.std.specs.declared.option.Option.TheVariants.{Some, None}
use Rattle.maker.specs.Laying.{values_from, raws_from, PartsHeld, Makeable, MadeIs}
use Rattle.maker.specs.Adding.{Emptied, part_of}
use Rattle.maker.specs.Merging.{Grown, TriedIs, Begun, some_in, larger_of, largest_of}
use Rattle.maker.proofs.Crowds.{crowd_large}
use Rattle.maker.proofs.Makes.{raws_whole, made_raw}
use Rattle.maker.proofs.Enters.{other_block}
use Rattle.maker.proofs.Brings.{beneath_grown, made_from, parts_held, parts_values, same_values}

-- ---- the host
pub lies_object : (d : ℕ) (v : ValueRef) (x i : ℕ) → v ≡ Object i x → eqb x d ≡ lies_in d v
unfolding lies_in
lies_object d v x i e = rw e

pub lies_else : (d : ℕ) (v : ValueRef) → ((i x : ℕ) → v ≡ Object i x → ⊥) → false ≡ lies_in d v
unfolding lies_in
lies_else d (Object i x) n = absurd (n i x refl)
lies_else d (Mark k) n = refl
lies_else d (Number x) n = refl
lies_else d Undetermined n = refl

lies_block : (W : List ℕ) (d : ℕ) (v : ValueRef) → Holds W v → lies_in d v ≡ true → Block W d
unfolding lies_in
lies_block W d (Object i x) h e = subst (Block W) (eqb-true x d e) h.held.block
lies_block W d (Mark k) h e = absurd (false≢true e)
lies_block W d (Number x) h e = absurd (false≢true e)
lies_block W d Undetermined h e = absurd (false≢true e)

module _ (ps : List ValueRef) (n d : ℕ) where
  abbrev lies : ℕ → Bool
  lies i = lies_in d (part_of ps i)

  -- part m - 1 read
  module _ (m : ℕ) (r : Bool) (er : r ≡ lies_in d (part_of ps (m - 1))) where
    pub some_less : some_in ps n d ≡ some_in ps m d → 0 < m → r ≡ false → some_in ps n d ≡ some_in ps (m - 1) d
    unfolding some_in any
    some_less a h e =
        let z : m ≡ suc (m - 1) = omega arith in
        a ∙ ap (any lies) z ∙ rw (sym er ∙ e)

    pub some_there : m ≤ n → 0 < m → r ≡ true → true ≡ some_in ps n d
    unfolding some_in
    some_there l h e = sym (any_there lies n (m - 1) (omega arith) (sym er ∙ e))

  pub some_none : (i : ℕ) → some_in ps n d ≡ some_in ps i d → i ≤ 0 → false ≡ some_in ps n d
  unfolding some_in any
  some_none i a l = let e : i ≡ 0 = omega arith in sym (a ∙ ap (any lies) e)

  away_at : some_in ps n d ≡ false → (i : ℕ) → i < n → lies i ≡ false
  unfolding some_in
  away_at a i h = any_not lies n i a h

begun_here : (W : List ℕ) (b : ℕ) → Block W b → Begun W b b
begun_here W b bk = record { source = bk; target = bk; most = omega arith; trees = λ r h p. refl }

-- a block where a part lies
module _ (W : List ℕ) (ps : List ValueRef) (n d : ℕ) (held : PartsHeld W ps n) where
  lying_at : (i : ℕ) → i ≤ n → some_in ps i d ≡ true → Block W d
  unfolding some_in any
  lying_at zero h e = absurd (false≢true e)
  lying_at (suc i) h e = go (lying_at i (omega arith)) (lies_in d (part_of ps i)) refl e
    where
      go : (any (λ j. lies_in d (part_of ps j)) i ≡ true → Block W d) → (b : Bool) → lies_in d (part_of ps i) ≡ b → cond b true (any (λ j. lies_in d (part_of ps j)) i) ≡ true → Block W d
      go ih true z q = lies_block W d (part_of ps i) (held.part i (omega arith)) z
      go ih false z q = ih q

  pub some_begun : (r : Bool) → r ≡ some_in ps n d → r ≡ true → Begun W d d
  some_begun r e q = begun_here W d (lying_at n (omega arith) (sym e ∙ q))

-- ---- the block with the most objects
module _ (W : List ℕ) (v : ValueRef) (b : ℕ) where
  pub larger_leaf : ((i b : ℕ) → v ≡ Object i b → ⊥) → b ≡ larger_of W v b
  unfolding larger_of
  larger_leaf = no_object (λ x. b ≡ larger_of W x b) (λ k. refl) (λ n. refl) refl v

  module _ (x i : ℕ) (e : v ≡ Object i x) where
    pub larger_zero : x ≡ 0 → b ≡ larger_of W v b
    unfolding larger_of
    larger_zero z = rw (e, eq-eqb x 0 z)

    pub larger_other : (x ≡ 0 → ⊥) → get_or W (block_size * b + count_at) 0 < get_or W (block_size * x + count_at) 0 → x ≡ larger_of W v b
    unfolding larger_of count_in
    larger_other d h = rw (e, ne_eqb x 0 d, lt-ltb _ _ h)

    pub larger_same : (x ≡ 0 → ⊥) → get_or W (block_size * x + count_at) 0 ≤ get_or W (block_size * b + count_at) 0 → b ≡ larger_of W v b
    unfolding larger_of count_in
    larger_same d h = rw (e, ne_eqb x 0 d, le-ltb _ _ h)

larger_block : (W : List ℕ) (v : ValueRef) (b : ℕ) → Holds W v → Block W b → Block W (larger_of W v b)
unfolding larger_of
larger_block W (Object i x) b h bk = go (eqb x 0) (ltb (count_in W b) (count_in W x))
  where
    go : (z t : Bool) → Block W (cond z b (cond t x b))
    go true t = bk
    go false true = h.held.block
    go false false = bk
larger_block W (Mark k) b h bk = bk
larger_block W (Number x) b h bk = bk
larger_block W Undetermined b h bk = bk

module _ (W : List ℕ) (ps : List ValueRef) (n b : ℕ) where
  pub largest_none : b ≡ largest_of W ps 0 b
  unfolding largest_of
  largest_none = refl

  pub largest_more : (i d : ℕ) (v : ValueRef) (r : ℕ) → d ≡ largest_of W ps i b → v ≡ part_of ps i → r ≡ larger_of W v d → r ≡ largest_of W ps (i + 1) b
  unfolding largest_of
  largest_more i d v r ed ev er = let z : i + 1 ≡ suc i = omega arith in rw z (er ∙ ap₂ (larger_of W) ev ed)

  pub largest_done : (i d : ℕ) → d ≡ largest_of W ps i b → i ≤ n → n ≤ i → d ≡ largest_of W ps n b
  largest_done i d ed h l = let e : i ≡ n = omega arith in rw e at ed

  module _ (held : PartsHeld W ps n) (bk : Block W b) where
    block_at : (i : ℕ) → i ≤ n → Block W (largest_of W ps i b)
    unfolding largest_of
    block_at zero h = bk
    block_at (suc i) h = larger_block W (part_of ps i) (largest_of W ps i b) (held.part i (omega arith)) (block_at i (omega arith))

    pub largest_so_far : (i d : ℕ) → d ≡ largest_of W ps i b → i < n → Block W d
    largest_so_far i d e h = subst (Block W) (sym e) (block_at i (omega arith))

    pub largest_block : (d : ℕ) → d ≡ largest_of W ps n b → Block W d
    largest_block d e = subst (Block W) (sym e) (block_at n (omega arith))

    pub largest_read : (d : ℕ) → d ≡ largest_of W ps n b → block_size * d + count_at < length W
    largest_read d e = omega (arith, (largest_block d e).room)

    pub largest_begun : (d : ℕ) → d ≡ largest_of W ps n b → Begun W d d
    largest_begun d e = begun_here W d (largest_block d e)

-- ---- what making asks still holds
module _ (W : List ℕ) (ps : List ValueRef) (n dst : ℕ) (mk : Makeable W ps n dst) where
  pub makeable_room : block_size * dst + block_size ≤ length W
  makeable_room = omega (arith, mk.under, mk.room)

  pub makeable_held : PartsHeld W ps n
  makeable_held = mk.held

  pub makeable_few : n ≤ code_count
  makeable_few = mk.few

  kept_makeable : (W1 : List ℕ) → length W1 ≡ length W → PartsHeld W1 ps n → Makeable W1 ps n dst
  kept_makeable W1 e h = record { held = h; few = mk.few; below = mk.below; under = mk.under; room = omega (arith, mk.room, e) }

  -- after a host that had no room
  module _ (host : ℕ) (le : dst ≤ host) (c : ℕ) (W1 : List ℕ) (o : RustOption ValueRef) (to : TriedIs W (make c (values_from W ps 0 n)) host dst W1 o) where
    grown : o ≡ None → Grown host W W1
    grown = to.none

    module _ (t : o ≡ None) where
      pub tried_makeable : Makeable W1 ps n dst
      tried_makeable = kept_makeable W1 (grown t).outside.same (parts_held host W W1 (grown t) ps n mk.held)

      pub tried_made : (W2 : List ℕ) (q : RustOption ValueRef) → MadeIs W1 (make c (values_from W1 ps 0 n)) dst W2 q → MadeIs W (make c (values_from W ps 0 n)) dst W2 q
      tried_made W2 q m = made_from W W1 c ps n dst W2 q (beneath_grown host dst W W1 le (grown t)) (parts_values host W W1 (grown t) ps n mk.held) m

    pub tried_here : (v : ValueRef) → o ≡ Some v → MadeIs W (make c (values_from W ps 0 n)) dst W1 (Some v)
    tried_here v e = to.here v e

-- ---- a block written, where no part lies
module _ (W : List ℕ) (b : ℕ) (W1 : List ℕ) (o : Outside b W W1) (ps : List ValueRef) (n : ℕ) (held : PartsHeld W ps n) (away : (i : ℕ) → i < n → lies_in b (part_of ps i) ≡ false) where
  keeps : (i : ℕ) → i < n → Kept W W1 (part_of ps i)
  keeps i h = kept b W W1 o (part_of ps i) (away i h) (held.part i h)

  away_held : PartsHeld W1 ps n
  away_held = record { full = held.full; part = λ i h. (keeps i h).held }

  away_values : values_from W1 ps 0 n ≡ values_from W ps 0 n
  unfolding values_from
  away_values = same_values W W1 n ps (λ i h. (keeps i h).is)

  away_made : (c dst : ℕ) → dst ≤ b → (W2 : List ℕ) (q : RustOption ValueRef) → MadeIs W1 (make c (values_from W1 ps 0 n)) dst W2 q → MadeIs W (make c (values_from W ps 0 n)) dst W2 q
  away_made c dst l W2 q m = made_from W W1 c ps n dst W2 q (record { same = o.same; below = λ p h. o.below p (omega arith) }) away_values m

module _ (W : List ℕ) (b dst : ℕ) (W1 : List ℕ) (bk : Block W b) (lb : b < dst) (cp : Copied W b dst W1) (ps : List ValueRef) (n : ℕ) (mk : Makeable W ps n dst) where
  pub copied_begun : Begun W1 b dst
  copied_begun =
      let m = block_moves W W1 b dst cp.count cp.level cp.reach cp.here (omega (arith, cp.outside.same, makeable_room W ps n dst mk)) bk in
      let o = other_block dst W W1 cp.outside b (λ z. omega arith) bk in
      let same : count_in W1 b ≡ count_in W b = sym (size_in W1 b o.1) ∙ ap length o.0 ∙ size_in W b bk in
      record {
        source = o.1;
        target = m.1;
        most = omega (arith, same, cp.count);
        trees = λ r h p. ap (λ (x : List Node). follow x r p) (o.0 ∙ sym m.0);
      }

  module _ (away : some_in ps n dst ≡ false) where
    pub copied_makeable : Makeable W1 ps n dst
    copied_makeable = kept_makeable W ps n dst mk W1 cp.outside.same (away_held W dst W1 cp.outside ps n mk.held (away_at ps n dst away))

    pub copied_made : (c : ℕ) (W2 : List ℕ) (o : RustOption ValueRef) → MadeIs W1 (make c (values_from W1 ps 0 n)) dst W2 o → MadeIs W (make c (values_from W ps 0 n)) dst W2 o
    copied_made c = away_made W dst W1 cp.outside ps n mk.held (away_at ps n dst away) c dst (omega arith)

module _ (W : List ℕ) (b : ℕ) (W1 : List ℕ) (room : block_size * b + block_size ≤ length W) (em : Emptied W b W1) where
  none_there : objects_in W1 b ≡ []
  unfolding objects_in nodes_in
  none_there = rw em.count

  pub empty_begun : Begun W1 b b
  empty_begun = begun_here W1 b (record {
    room = omega (arith, em.outside.same);
    small = omega (arith, em.count);
    packed = λ i h. absurd (omega (arith, em.count));
    whole = rw none_there (record { top = tt; inner = λ i f r e. absurd (none-ne-some r e) });
    distinct = rw none_there (record { apart = λ i j h. absurd (omega arith) });
    level = λ i f h. absurd (omega (arith, em.count));
    reach = λ i f h l c. absurd (omega (arith, em.count));
  })

-- block dst emptied
module _ (W : List ℕ) (dst : ℕ) (W1 : List ℕ) (em : Emptied W dst W1) (ps : List ValueRef) (n : ℕ) (mk : Makeable W ps n dst) where
  pub fresh_begun : Begun W1 dst dst
  fresh_begun = empty_begun W dst W1 (makeable_room W ps n dst mk) em

  module _ (away : some_in ps n dst ≡ false) where
    pub fresh_makeable : Makeable W1 ps n dst
    fresh_makeable = kept_makeable W ps n dst mk W1 em.outside.same (away_held W dst W1 em.outside ps n mk.held (away_at ps n dst away))

    pub fresh_made : (c : ℕ) (W2 : List ℕ) (o : RustOption ValueRef) → MadeIs W1 (make c (values_from W1 ps 0 n)) dst W2 o → MadeIs W (make c (values_from W ps 0 n)) dst W2 o
    fresh_made c = away_made W dst W1 em.outside ps n mk.held (away_at ps n dst away) c dst (omega arith)

-- the spare block emptied: no part lies there
module _ (W : List ℕ) (ps : List ValueRef) (n dst : ℕ) (mk : Makeable W ps n dst) where
  spare_away : (i : ℕ) → i < n → lies_in spare_block (part_of ps i) ≡ false
  unfolding lies_in
  spare_away i h = go (part_of ps i) (mk.below i h)
    where
      go : (v : ValueRef) → Low spare_block v → lies_in spare_block v ≡ false
      go (Object k b) l = ne_eqb b spare_block (λ e. omega arith)
      go (Mark k) l = refl
      go (Number x) l = refl
      go Undetermined l = refl

  module _ (W1 : List ℕ) (em : Emptied W spare_block W1) where
    pub spare_begun : Begun W1 spare_block spare_block
    spare_begun = empty_begun W spare_block W1 mk.room em

    pub spare_held : PartsHeld W1 ps n
    spare_held = away_held W spare_block W1 em.outside ps n mk.held spare_away

    pub spare_above : dst ≤ spare_block
    spare_above = omega (arith, mk.under)

    pub spare_dst : block_size * dst + block_size ≤ length W1
    spare_dst = omega (arith, mk.under, mk.room, em.outside.same)

    pub spare_makeable : Makeable W1 ps n dst
    spare_makeable = kept_makeable W ps n dst mk W1 em.outside.same spare_held

    pub spare_made : (c : ℕ) (W2 : List ℕ) (o : RustOption ValueRef) → MadeIs W1 (make c (values_from W1 ps 0 n)) dst W2 o → MadeIs W (make c (values_from W ps 0 n)) dst W2 o
    spare_made c = away_made W spare_block W1 em.outside ps n mk.held spare_away c dst (omega (arith, mk.under))

    -- and tried
    module _ (c : ℕ) (W2 : List ℕ) (o : RustOption ValueRef) (to : TriedIs W1 (make c (values_from W1 ps 0 n)) spare_block dst W2 o) where
      anew_here : (v : ValueRef) → o ≡ Some v → MadeIs W (make c (values_from W ps 0 n)) dst W2 (Some v)
      anew_here v e = spare_made c W2 (Some v) (tried_here W1 ps n dst spare_makeable spare_block spare_above c W2 o to v e)

      module _ (t : o ≡ None) where
        made_whole : Whole (make c (values_from W1 ps 0 n))
        made_whole = subst Whole (sym (made_raw W1 c ps n spare_held)) (make-whole c (raws_from W1 ps 0 n) (raws_whole W1 c ps n spare_held))

        large : capacity < length (make c (values_from W1 ps 0 n)).nodes
        large = crowd_large _ made_whole (to.over t (λ y h. absurd (omega (arith, em.count))))

        anew_large : MadeIs W (make c (values_from W ps 0 n)) dst W2 None
        anew_large = spare_made c W2 None (record {
          held = tt;
          is = rw (lt-leb (length (make c (values_from W1 ps 0 n)).nodes) capacity large);
          place = tt;
          beneath = beneath_grown spare_block dst W1 W2 spare_above (to.none t);
        })

      pub anew_made : (q : RustOption ValueRef) → o ≡ q → MadeIs W (make c (values_from W ps 0 n)) dst W2 q
      anew_made (Some v) e = anew_here v e
      anew_made None e = anew_large e

pub larger_read : (W : List ℕ) (v : ValueRef) (x i : ℕ) → Holds W v → v ≡ Object i x → block_size * x + count_at < length W
larger_read W v x i h e = omega (arith, held_room W v x i h e)
