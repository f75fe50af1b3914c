-- Laws of selecting a field: one for each return of `select`. Not here: the value of a code (RefLaws).
use Rattle.std.proofs.Common.{ℕ, zero, suc, ◌+◌, ◌*◌, ◌<◌, ◌≤◌, arith, ◌≡◌, refl, sym, ap, ◌∙◌, List, [], ◌∷◌, length, get_or, take, length-take, get_or-take, Some, None}
use Rattle.std.proofs.Math.Option.{none, some}
use Rattle.std.proofs.Math.ListN.{get_elem?}
use Rattle.cofj.specs.Values.{Ref, leaf, undet, Node, graph, refs_at, canon, select, selected}
use Rattle.cofj.specs.Limits.{number_count}
use Rattle.cofj.specs.Unfolding.{Whole}
use Rattle.canon.specs.Figures.{object_size, head_size, code_count, numbers_at, block_size}
use Rattle.canon.specs.Layout.{ref_of, number_at, ref_in, four, node_in, objects_in, graph_at, Inside, count_in, Outside, Beneath}
use Rattle.canon.proofs.Nodes.{some_at, at_nodes, four_at_lem}
use Rattle.values.specs.declared.ValueRef.{ValueRef}
use Rattle.values.specs.declared.ValueRef.TheVariants.{Object}
use Rattle.values.specs.Layout.{Holds}
use Rattle.values.specs.Refs.{ref_from}
use Rattle.values.specs.Operations.{Chosen}
use Rattle.values.proofs.Blocks.{held_inside, inside_room, no_object, inner_in, whole_at}
use Rattle.values.proofs.Trees.{select-canon}
use Rattle.values.proofs.RefLaws.{from_low, from_held, from_value}

pub unchanged : (b : ℕ) (W : List ℕ) → Outside b W W
unchanged b W = record { same = refl; below = λ p h. refl; above = λ p h. refl }

pub under : (b : ℕ) (W W' : List ℕ) → Outside b W W' → Beneath b W W'
under b W W' o = record { same = o.same; below = o.below }

-- ---- an item of a list, if there is one
get_none : (l : List Ref) (f : ℕ) → length l ≤ f → get_elem? l f ≡ none
get_none [] f h = refl
get_none (x ∷ l) zero h = absurd (omega arith)
get_none (x ∷ l) (suc f) h = get_none l f (omega arith)

module _ (W : List ℕ) (b i f : ℕ) (ob : Inside W b i) where
  abbrev at : ℕ
  at = block_size * b + object_size * i

  count-four : get_or W (at + 1) 0 ≤ code_count
  count-four = (ob.block.packed i ob.low).count

  refs_at_lem : refs_at (objects_in W b) i ≡ take (get_or W (at + 1) 0) (four W at)
  unfolding objects_in node_in
  refs_at_lem = ap (λ (x : Node). x.refs) (at_nodes W (block_size * b) (count_in W b) i ob.low)

  length_refs : length (refs_at (objects_in W b) i) ≡ get_or W (at + 1) 0
  length_refs = ap length refs_at_lem ∙ omega (arith, count-four, length-take (get_or W (at + 1) 0) (four W at))

  whole : Whole (graph_at W b i)
  whole = whole_at W b ob.block i ob.low

  module _ (hf : f < get_or W (at + 1) 0) where
    -- the field's code, and the number beside it
    abbrev c : ℕ
    c = get_or W (at + head_size + f) 0

    abbrev x : ℕ
    x = number_at W (at + numbers_at + 2 * f)

    field_at : get_elem? (refs_at (objects_in W b) i) f ≡ some (ref_of c x)
    unfolding ref_in
    field_at =
        some_at (refs_at (objects_in W b) i) f (omega (arith, length_refs))
        ∙ ap some (ap (λ (l : List Ref). get_or l f (leaf undet)) refs_at_lem ∙ get_or-take (get_or W (at + 1) 0) (four W at) f (leaf undet) hf ∙ four_at_lem W at f (omega (arith, count-four)))

    chosen_is : select f (canon (graph_at W b i)) ≡ some (canon (graph (ref_of c x) (objects_in W b)))
    unfolding select
    chosen_is = select-canon (graph_at W b i) whole f ∙ ap (selected (objects_in W b)) field_at

    choose_code : c < 256 → x < number_count → Chosen W (Object i b) f (Some (ref_from b c x))
    choose_code l m = record {
      held = from_held b _ _ W ob.block l m (inner_in W b ob.block i f _ field_at);
      is = ap some (from_value b _ _ W) ∙ sym chosen_is;
      place = from_low b _ _;
    }

  choose_none : get_or W (at + 1) 0 ≤ f → Chosen W (Object i b) f None
  unfolding select
  choose_none h = record {
    held = tt;
    is = sym (select-canon (graph_at W b i) whole f ∙ ap (selected (objects_in W b)) (get_none (refs_at (objects_in W b) i) f (omega (arith, length_refs))));
    place = λ sp q. tt;
  }

-- ---- by what a value is
module _ (W : List ℕ) (v : ValueRef) (f : ℕ) where
  pub select_leaf : ((i b : ℕ) → v ≡ Object i b → ⊥) → Chosen W v f None
  unfolding select
  select_leaf = no_object (λ u. Chosen W u f None) (λ k. record { held = tt; is = refl; place = λ sp q. tt }) (λ n. record { held = tt; is = refl; place = λ sp q. tt }) (record { held = tt; is = refl; place = λ sp q. tt }) v

  module _ (b i : ℕ) (h : Holds W v) (e : v ≡ Object i b) where
    inside : Inside W b i
    inside = held_inside W v b i h e

    pub select_room : block_size * b + object_size * i + object_size ≤ length W
    select_room = inside_room W b i inside

    pub select-count : get_or W (block_size * b + object_size * i + 1) 0 ≤ 4
    select-count = count-four W b i f inside

    module _ (l : f < get_or W (block_size * b + object_size * i + 1) 0) where
      pub select_number : block_size * b + object_size * i + numbers_at + 2 * f + 2 ≤ length W
      select_number = omega (arith, select_room, select-count)

      pub select_read : block_size * b + object_size * i + head_size + f < length W
      select_read = omega (arith, select_room, select-count)

    pub select_past : get_or W (block_size * b + object_size * i + 1) 0 ≤ f → Chosen W v f None
    select_past l = rw e (choose_none W b i f inside l)

    pub select_code : f < get_or W (block_size * b + object_size * i + 1) 0 → ((k : ℕ) → get_or W k 0 < 256)
        → (n : ℕ) → n ≡ number_at W (block_size * b + object_size * i + numbers_at + 2 * f)
        → (u : ValueRef) → u ≡ ref_from b (get_or W (block_size * b + object_size * i + head_size + f) 0) n → Chosen W v f (Some u)
    select_code l byte n en u q =
        let p : ℕ = block_size * b + object_size * i + numbers_at + 2 * f in
        rw (e, q, en) (choose_code W b i f inside l (byte _) (omega (arith, byte p, byte (p + 1))))
