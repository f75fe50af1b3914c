-- The objects of a part decided one after another: the laws of `by_fields`, `settle`, `choose`, `spread` and `sort`.
-- Not here: the codes of one (SortCodes), an object looked for (Seeks).
use Rattle.std.proofs.Common.{ℕ, ◌+◌, ◌-◌, ◌*◌, ◌%◌, ◌≤◌, ◌<◌, arith, ◌≡◌, refl, sym, ap, ◌∙◌, subst, Bool, true, false, List, length, get_or, set, length-set, get_or-set_same, get_or-set_other}
use native.Mathlib.Decide.{ℕ_discrete}
use Rattle.std.proofs.Math.Bool.{false≢true}
use mathlib.Core.Logic.{inl, inr}
use Rattle.std.proofs.Math.Option.{some}
use Rattle.std.proofs.Math.ListN.{get_elem?}
use Rattle.cofj.specs.Values.{Ref, refs_at}
use Rattle.cofj.specs.Unfolding.{InRange}
use Rattle.canon.specs.Figures.{object_size, numbers_at, capacity, count_at, block_size}
use Rattle.canon.specs.Layout.{Packed, count_in, objects_in, Block, Inside}
use Rattle.canon.specs.Tables.{Eight}
use Rattle.canon.proofs.Nodes.{length_nodes, at_nodes}
use Rattle.maker.specs.Adding.{object_of, Found}
use Rattle.maker.specs.Merging.{CodeAs}
use Rattle.maker.specs.Sorting.{Fresh, Sorted, Decided, code_at, TurnedAs, Listed, Sorting, Further, Onward, Settling, ByFields, SortedFrom, OpenIs, LeadsNew, LeadsIs, CodesTurned, TurnedIs}
use Rattle.std.specs.declared.option.Option.{Option}
use Rattle.std.specs.declared.option.Option.TheVariants.{Some, None}
use Rattle.maker.specs.Seeking.{Sought}
use Rattle.maker.proofs.Fresh.{fresh_up}
use Rattle.maker.proofs.Turns.{field_ref, turned_packed, turned_same, turned_fresh}
use Rattle.maker.proofs.SortCodes.{turned_by}

-- ---- more is known
module _ (W : List ℕ) (src host : ℕ) (L : List ℕ) (m : ℕ) where
  pub onward_none : (T : List ℕ) (F : List Bool) → Sorting W src host L m T F → Onward W src host L m T F T F
  onward_none T F s = record { sorting = s; further = record { told = λ x d. d; fresh = λ x d. d } }

  pub onward_more : (T : List ℕ) (F : List Bool) (T1 : List ℕ) (F1 : List Bool) (T2 : List ℕ) (F2 : List Bool) → Onward W src host L m T F T1 F1 → Onward W src host L m T1 F1 T2 F2 → Onward W src host L m T F T2 F2
  onward_more T F T1 F1 T2 F2 a b = record {
    sorting = b.sorting;
    further = record { told = λ x d. b.further.told x (a.further.told x d); fresh = λ x d. b.further.fresh x (a.further.fresh x d) };
  }

  pub onward_sorting : (T : List ℕ) (F : List Bool) (T1 : List ℕ) (F1 : List Bool) → Onward W src host L m T F T1 F1 → Sorting W src host L m T1 F1
  onward_sorting T F T1 F1 o = o.sorting

  pub decided_still : (T : List ℕ) (F : List Bool) (T1 : List ℕ) (F1 : List Bool) → Further T F T1 F1 → (x : ℕ) → Decided T F x → Decided T1 F1 x
  decided_still T F T1 F1 f x (inl d) = inl (f.told x d)
  decided_still T F T1 F1 f x (inr d) = inr (f.fresh x d)

module _ (W : List ℕ) (src host : ℕ) (L : List ℕ) (m : ℕ) (T : List ℕ) (F : List Bool) (s : Sorting W src host L m T F) where
  pub place_inside : (q : ℕ) → q < m → Inside W src (get_or L q 0)
  place_inside q h = record { block = s.ground.source; low = s.ground.low q h }

  pub sorting_sorted : Sorted W src host T F
  sorting_sorted = s.sorted

  pub sorting_host : Block W host
  sorting_host = s.ground.target

  pub host_count : get_or W (block_size * host + count_at) 0 ≡ count_in W host
  unfolding count_in
  host_count = refl

  pub found_small : (S : List ℕ) (a : Option ℕ) → Found W host (get_or W (block_size * host + count_at) 0) S a → (k : ℕ) → a ≡ Some k → k + 1 < 256
  unfolding count_in
  found_small S a fd k e = omega (arith, s.ground.target.small, (fd.hit k e).low)

  pub sorting_told : length T ≡ capacity
  sorting_told = s.sorted.mapped.table

  pub sorting_marked : length F ≡ capacity
  sorting_marked = s.sorted.table

  module _ (x : ℕ) (li : Listed L m x) where
    pub listed_inside : Inside W src x
    listed_inside = subst (Inside W src) li.2 (place_inside li.0 li.1)

    pub listed_small : x < capacity
    listed_small = omega (arith, listed_inside.low, s.ground.source.small)

    pub listed_room : block_size * src + object_size * x < length W
    listed_room = omega (arith, listed_small, s.ground.source.room)

    pub listed_room_1 : block_size * src + object_size * x + 1 < length W
    listed_room_1 = omega (arith, listed_small, s.ground.source.room)

    pub listed_numbers : block_size * src + object_size * x + numbers_at + 8 ≤ length W
    listed_numbers = omega (arith, listed_small, s.ground.source.room)

    pub listed_told : x < length T
    listed_told = omega (arith, listed_small, s.sorted.mapped.table)

    pub listed_marked : x < length F
    listed_marked = omega (arith, listed_small, s.sorted.table)

    -- marked as new
    pub mark_new : Fresh (objects_in W src) (objects_in W host) (count_in W host) x → Onward W src host L m T F T (set F x true)
    mark_new fr = record {
      sorting = record {
        ground = s.ground;
        sorted = record {
          mapped = s.sorted.mapped;
          table = length-set F x true ∙ s.sorted.table;
          low = λ z d. low z d (ℕ_discrete z x);
          fresh = λ z d. fresh z d (ℕ_discrete z x);
        };
        listed = λ z d. listed z d (ℕ_discrete z x);
      };
      further = record { told = λ z d. d; fresh = λ z d. still z d (ℕ_discrete z x) };
    }
      where
        was : (z : ℕ) → ((z ≡ x) → ⊥) → get_or (set F x true) z false ≡ true → get_or F z false ≡ true
        was z n d = sym (get_or-set_other F x z true false n) ∙ d

        low : (z : ℕ) → get_or (set F x true) z false ≡ true → Dec (z ≡ x) → z < count_in W src
        low z d (yes e) = omega (arith, listed_inside.low)
        low z d (no n) = s.sorted.low z (was z n d)

        fresh : (z : ℕ) → get_or (set F x true) z false ≡ true → Dec (z ≡ x) → Fresh (objects_in W src) (objects_in W host) (count_in W host) z
        fresh z d (yes e) = subst (Fresh (objects_in W src) (objects_in W host) (count_in W host)) (sym e) fr
        fresh z d (no n) = s.sorted.fresh z (was z n d)

        listed : (z : ℕ) → get_or (set F x true) z false ≡ true → Dec (z ≡ x) → Listed L m z
        listed z d (yes e) = subst (Listed L m) (sym e) li
        listed z d (no n) = s.listed z (was z n d)

        still : (z : ℕ) → get_or F z false ≡ true → Dec (z ≡ x) → get_or (set F x true) z false ≡ true
        still z d (yes u) = ap (λ (k : ℕ). get_or (set F x true) k false) u ∙ get_or-set_same F x true false listed_marked
        still z d (no n) = get_or-set_other F x z true false n ∙ d

    pub mark_here : Decided T (set F x true) x
    mark_here = inr (get_or-set_same F x true false listed_marked)

    -- told
    module _ (k : ℕ) (ca : CodeAs W src x host k) where
      put : get_or (set T x (k + 1)) x 0 ≡ k + 1
      put = get_or-set_same T x (k + 1) 0 listed_told

      pub tell_one : Onward W src host L m T F (set T x (k + 1)) F
      tell_one = record {
        sorting = record {
          ground = s.ground;
          sorted = record {
            mapped = record { table = length-set T x (k + 1) ∙ s.sorted.mapped.table; each = λ z y e. each z y e (ℕ_discrete z x) };
            table = s.sorted.table;
            low = s.sorted.low;
            fresh = s.sorted.fresh;
          };
          listed = s.listed;
        };
        further = record { told = λ z d e. still z d e (ℕ_discrete z x); fresh = λ z d. d };
      }
        where
          each : (z y : ℕ) → get_or (set T x (k + 1)) z 0 ≡ y + 1 → Dec (z ≡ x) → CodeAs W src z host y
          each z y e (yes u) =
              let v : k + 1 ≡ y + 1 = sym put ∙ ap (λ (q : ℕ). get_or (set T x (k + 1)) q 0) (sym u) ∙ e in
              let w : k ≡ y = omega arith in
              rw (u, ← w) ca
          each z y e (no n) = s.sorted.mapped.each z y (sym (get_or-set_other T x z (k + 1) 0 n) ∙ e)

          still : (z : ℕ) → ((get_or T z 0 ≡ 0) → ⊥) → get_or (set T x (k + 1)) z 0 ≡ 0 → Dec (z ≡ x) → ⊥
          still z d e (yes u) = let w : get_or (set T x (k + 1)) x 0 ≡ 0 = ap (λ (q : ℕ). get_or (set T x (k + 1)) q 0) (sym u) ∙ e in omega (arith, put, w)
          still z d e (no n) = d (sym (get_or-set_other T x z (k + 1) 0 n) ∙ e)

      pub tell_here : Decided (set T x (k + 1)) F x
      tell_here = inl (λ e. omega (arith, put, e))

    -- ---- what its fields tell
    fresh_leads : LeadsNew W src x F → Fresh (objects_in W src) (objects_in W host) (count_in W host) x
    unfolding objects_in
    fresh_leads l =
        fresh_up (objects_in W src) (objects_in W host) (count_in W host) inner x l.field (code_at W src x l.field)
        (field_ref W src x listed_inside l.field l.low l.new.object) (s.sorted.fresh (code_at W src x l.field) l.new.marked)
      where
        inner : (y f : ℕ) (r : Ref) → y < count_in W host → get_elem? (refs_at (objects_in W host) y) f ≡ some r → InRange (count_in W host) r
        inner y f r h e = subst (λ (k : ℕ). InRange k r) (length_nodes W (block_size * host) (count_in W host)) (s.ground.target.whole.inner y f r e)

    module _ (b : Bool) (lb : LeadsIs W src x F b) (eb : b ≡ true) where
      pub lead_onward : Onward W src host L m T F T (set F x true)
      lead_onward = mark_new (fresh_leads (lb.yes eb))

      pub fields_new : ByFields W src host L m x T F T (set F x true) true
      fields_new = record { onward = lead_onward; here = λ _. mark_here }

    pub fields_silent : ByFields W src host L m x T F T F false
    fields_silent = record { onward = onward_none W src host L m T F s; here = λ e. absurd (false≢true e) }

    module _ (o : Option ℕ) (to : TurnedIs W src x T o) (w : ℕ) (eo : o ≡ Some w) where
      tu : CodesTurned W src x T 0 w
      tu = subst (TurnedIs W src x T) eo to

      module _ (v : ℕ) (g : Eight W (block_size * src + object_size * x + numbers_at) v) where
        abbrev turned : List ℕ
        turned = object_of (get_or W (block_size * src + object_size * x) 0) (get_or W (block_size * src + object_size * x + 1) 0) w v

        turned_as : TurnedAs W src x host turned
        turned_as = turned_by W src host T s.sorted.mapped x w v listed_inside tu g

        pub fields_packed : Packed (object_of (get_or W (block_size * src + object_size * x) 0) (get_or W (block_size * src + object_size * x + 1) 0) w v) 0
        fields_packed = turned_packed W src x host turned listed_inside s.ground.target turned_as

        module _ (a : Option ℕ) (fd : Found W host (get_or W (block_size * host + count_at) 0) turned a) where
          pub fields_found : (k : ℕ) → a ≡ Some k → ByFields W src host L m x T F (set T x (k + 1)) F true
          unfolding count_in objects_in
          fields_found k ea =
              let hit = fd.hit k ea in
              let ca : CodeAs W src x host k =
              turned_same W src x host turned listed_inside s.ground.target turned_as k
              (record { low = hit.low; is = at_nodes W (block_size * host) (get_or W (block_size * host + count_at) 0) k hit.low ∙ hit.is }) in
              record { onward = tell_one k ca; here = λ _. tell_here k ca }

          pub fields_missed : a ≡ None → ByFields W src host L m x T F T (set F x true) true
          unfolding count_in
          fields_missed h = record { onward = mark_new (turned_fresh W src x host turned listed_inside s.ground.target turned_as (fd.miss h)); here = λ _. mark_here }

    -- ---- looked for
    pub settling_none : (b : Bool) → OpenIs T F x b → b ≡ false → Settling W src host L m x T F T F
    settling_none b o e = record { onward = onward_none W src host L m T F s; here = o.no e }

    pub settling_sought : (T1 : List ℕ) (F1 : List Bool) → Sought W src x host T F T1 F1 → Settling W src host L m x T F T1 F1
    settling_sought T1 F1 so = record {
      onward = record {
        sorting = record { ground = s.ground; sorted = so.sorted; listed = λ z d. listed z d (ℕ_discrete z x) };
        further = so.further;
      };
      here = so.here;
    }
      where
        listed : (z : ℕ) → get_or F1 z false ≡ true → Dec (z ≡ x) → Listed L m z
        listed z d (yes e) = subst (Listed L m) (sym e) li
        listed z d (no n) = s.listed z (so.only z d n)

-- ---- one after another
module _ (W : List ℕ) (src host : ℕ) (L : List ℕ) (m : ℕ) (T : List ℕ) (F : List Bool) (T1 : List ℕ) (F1 : List Bool) where
  pub rare_told : (y : ℕ) → Settling W src host L m y T F T1 F1 → Onward W src host L m T F T1 F1
  rare_told y s = s.onward

  pub rare_marked : (y : ℕ) → Settling W src host L m y T F T1 F1 → Listed L m y → y < length F1
  rare_marked y s = listed_marked W src host L m T1 F1 s.onward.sorting y

  pub rare_onward : (y : ℕ) → Settling W src host L m y T F T1 F1 → (F2 : List Bool) → Onward W src host L m T1 F1 T1 F2 → Onward W src host L m T F T1 F2
  rare_onward y s F2 o = onward_more W src host L m T F T1 F1 T1 F2 s.onward o

  module _ (x : ℕ) (b : Bool) (f : ByFields W src host L m x T F T1 F1 b) where
    pub settled_fields : b ≡ true → Settling W src host L m x T F T1 F1
    settled_fields e = record { onward = f.onward; here = f.here e }

    pub settled_sought : (T2 : List ℕ) (F2 : List Bool) (T3 : List ℕ) (F3 : List Bool) → Onward W src host L m T1 F1 T2 F2 → Settling W src host L m x T2 F2 T3 F3 → Settling W src host L m x T F T3 F3
    settled_sought T2 F2 T3 F3 o s = record {
      onward = onward_more W src host L m T F T2 F2 T3 F3 (onward_more W src host L m T F T1 F1 T2 F2 f.onward o) s.onward;
      here = s.here;
    }

-- ---- the object at a place of the list, in a pass over it
module _ (W : List ℕ) (src host : ℕ) (L : List ℕ) (m : ℕ) (T : List ℕ) (F0 F : List Bool) (o : Onward W src host L m T F0 T F) (q : ℕ) (h : 0 < q) (le : q ≤ m) where
  pub onward_list : q - 1 < length L
  onward_list = omega (arith, o.sorting.ground.few, o.sorting.ground.long)

  at_place : Listed L m (get_or L (q - 1) 0)
  at_place = (q - 1, omega arith, refl)

  pub onward_told : get_or L (q - 1) 0 < length T
  onward_told = listed_told W src host L m T F o.sorting (get_or L (q - 1) 0) at_place

  pub onward-fits : get_or L (q - 1) 0 < 18446744073709551616
  onward-fits = omega (arith, listed_small W src host L m T F o.sorting (get_or L (q - 1) 0) at_place)

  pub onward_marked : get_or L (q - 1) 0 < length F
  onward_marked = listed_marked W src host L m T F o.sorting (get_or L (q - 1) 0) at_place

  pub onward_inside : Inside W src (get_or L (q - 1) 0)
  onward_inside = listed_inside W src host L m T F o.sorting (get_or L (q - 1) 0) at_place

  pub onward-table : length F ≡ capacity
  onward-table = o.sorting.sorted.table

  pub onward_lead : (b : Bool) → LeadsIs W src (get_or L (q - 1) 0) F b → b ≡ true → Onward W src host L m T F0 T (set F (get_or L (q - 1) 0) true)
  onward_lead b l e =
      onward_more W src host L m T F0 T F T (set F (get_or L (q - 1) 0) true) o
      (lead_onward W src host L m T F o.sorting (get_or L (q - 1) 0) at_place b l e)

-- ---- choosing
module _ (W : List ℕ) (src host : ℕ) (L : List ℕ) (m : ℕ) (T : List ℕ) (F : List Bool) (s : Sorting W src host L m T F) (q : ℕ) (h : 0 < q) (le : q ≤ m) where
  pub choose_list : q - 1 < length L
  choose_list = omega (arith, s.ground.few, s.ground.long)

  choose_place : Listed L m (get_or L (q - 1) 0)
  choose_place = (q - 1, omega arith, refl)

  pub choose_listed : Listed L m (get_or L (q - 1) 0)
  choose_listed = choose_place

  pub choose_fits : get_or L (q - 1) 0 < 18446744073709551616
  choose_fits = omega (arith, listed_small W src host L m T F s (get_or L (q - 1) 0) choose_place)

  pub choose_mul : object_size * get_or L (q - 1) 0 < 18446744073709551616
  choose_mul = omega (arith, listed_small W src host L m T F s (get_or L (q - 1) 0) choose_place)

  pub choose_add : src < 65536 → block_size * src + object_size * get_or L (q - 1) 0 < 18446744073709551616
  choose_add l = omega (arith, listed_small W src host L m T F s (get_or L (q - 1) 0) choose_place)

  pub choose_room : block_size * src + object_size * get_or L (q - 1) 0 < length W
  choose_room = listed_room W src host L m T F s (get_or L (q - 1) 0) choose_place

  pub choose_told : get_or L (q - 1) 0 < length T
  choose_told = listed_told W src host L m T F s (get_or L (q - 1) 0) choose_place

  pub choose_marked : get_or L (q - 1) 0 < length F
  choose_marked = listed_marked W src host L m T F s (get_or L (q - 1) 0) choose_place

-- ---- objects counted by their classes
pub count_small : (W : List ℕ) (host : ℕ) → Block W host → get_or W (block_size * host + count_at) 0 ≤ capacity
unfolding count_in
count_small W host bk = bk.small

pub count_none : (C : List ℕ) → ((k : ℕ) → get_or C k 0 ≡ 0) → (k : ℕ) → get_or C k 0 ≤ 0
count_none C z k = omega (arith, z k)

module _ (C : List ℕ) (y : ℕ) (most : (k : ℕ) → get_or C k 0 ≤ y) where
  pub count_room : (t k : ℕ) → y < t → t ≤ capacity → get_or C k 0 + 1 < 256
  count_room t k h l = omega (arith, most k)

  pub count_more : length C ≡ 64 → (W : List ℕ) (host j : ℕ)
      → get_or (set C (get_or W (block_size * host + object_size * y) 0 % 64) (get_or C (get_or W (block_size * host + object_size * y) 0 % 64) 0 + 1)) j 0 ≤ y + 1
  count_more l W host j = go (get_or W (block_size * host + object_size * y) 0 % 64) (omega arith) (ℕ_discrete j (get_or W (block_size * host + object_size * y) 0 % 64))
    where
      go : (k : ℕ) → k < length C → Dec (j ≡ k) → get_or (set C k (get_or C k 0 + 1)) j 0 ≤ y + 1
      go k h (yes e) = rw (e, get_or-set_same C k (get_or C k 0 + 1) 0 h) (omega (arith, most k))
      go k h (no n) = rw (get_or-set_other C k j (get_or C k 0 + 1) 0 n) (omega (arith, most j))

-- ---- the listed ones from the last on
module _ (W : List ℕ) (src host : ℕ) (L : List ℕ) (m q : ℕ) (T : List ℕ) (F : List Bool) (s : SortedFrom W src host L m q T F) (h : 0 < q) (le : q ≤ m) where
  pub sort_list : q - 1 < length L
  sort_list = choose_list W src host L m T F s.sorting q h le

  pub sort_told : get_or L (q - 1) 0 < length T
  sort_told = choose_told W src host L m T F s.sorting q h le

  pub sort_marked : get_or L (q - 1) 0 < length F
  sort_marked = choose_marked W src host L m T F s.sorting q h le

  pub sort_sorting : Sorting W src host L m T F
  sort_sorting = s.sorting

  pub sort_listed : Listed L m (get_or L (q - 1) 0)
  sort_listed = choose_listed W src host L m T F s.sorting q h le

pub sorted_none : (W : List ℕ) (src host : ℕ) (L : List ℕ) (m : ℕ) (T : List ℕ) (F : List Bool) → Sorting W src host L m T F → SortedFrom W src host L m m T F
sorted_none W src host L m T F s = record { sorting = s; above = λ k h l. absurd (omega arith) }

module _ (W : List ℕ) (src host : ℕ) (L : List ℕ) (m q : ℕ) (T : List ℕ) (F : List Bool) (s : SortedFrom W src host L m q T F) (h : 0 < q) where
  next : (T1 : List ℕ) (F1 : List Bool) → Onward W src host L m T F T1 F1 → Decided T1 F1 (get_or L (q - 1) 0) → SortedFrom W src host L m (q - 1) T1 F1
  next T1 F1 o d = record { sorting = o.sorting; above = λ k l u. go k l u (ℕ_discrete k (q - 1)) }
    where
      go : (k : ℕ) → q - 1 ≤ k → k < m → Dec (k ≡ q - 1) → Decided T1 F1 (get_or L k 0)
      go k l u (yes e) = subst (λ (y : ℕ). Decided T1 F1 (get_or L y 0)) (sym e) d
      go k l u (no n) = decided_still W src host L m T F T1 F1 o.further (get_or L k 0) (s.above k (omega (arith, n)) u)

  pub sorted_known : (b : Bool) → OpenIs T F (get_or L (q - 1) 0) b → b ≡ false → SortedFrom W src host L m (q - 1) T F
  sorted_known b o z = next T F (onward_none W src host L m T F s.sorting) (o.no z)

  pub sorted_more : (T1 : List ℕ) (F1 : List Bool) → Settling W src host L m (get_or L (q - 1) 0) T F T1 F1 → SortedFrom W src host L m (q - 1) T1 F1
  sorted_more T1 F1 st = next T1 F1 st.onward st.here

pub sorted_all : (W : List ℕ) (src host : ℕ) (L : List ℕ) (m q : ℕ) (T : List ℕ) (F : List Bool) → SortedFrom W src host L m q T F → q ≤ 0 → SortedFrom W src host L m 0 T F
sorted_all W src host L m q T F s h = let z : q ≡ 0 = omega arith in subst (λ (k : ℕ). SortedFrom W src host L m k T F) z s
