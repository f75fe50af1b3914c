-- Parts brought into the host: values in a block that has grown, and one law for each return of `bring_parts`.
-- Not here: one part (Imported), the new object over the parts (Tries).
use Rattle.std.proofs.Common.{ℕ, zero, suc, ◌+◌, ◌-◌, ◌*◌, ◌%◌, ◌<◌, ◌≤◌, arith, ◌≡◌, refl, sym, ap, ap₂, ◌∙◌, subst, cond, leb, List, [], ◌∷◌, map, length, get_or, take}
use native.Mathlib.Decide.{ℕ_discrete}
use Rattle.std.proofs.Math.Option.{none, some}
use Rattle.cofj.specs.Values.{obj, Node, Graph, make}
use Rattle.cofj.specs.Unfolding.{follow, Same, InRange}
use Rattle.cofj.proofs.Unique.{same_canon}
use Rattle.canon.specs.Figures.{code_count, undetermined_code, capacity, three_bytes}
use Rattle.canon.specs.Layout.{ref_of, count_in, objects_in, graph_at, Inside, Beneath}
use Rattle.values.specs.declared.ValueRef.{ValueRef}
use Rattle.values.specs.declared.ValueRef.TheVariants.{Object, Mark, Number, Undetermined}
use Rattle.values.specs.Layout.{value_of, raw_of, Holds}
use Rattle.values.proofs.Blocks.{size_in, whole_at}
use Rattle.values.proofs.Trees.{in_larger}
use Rattle.maker.specs.Figures.{unused_codes}
use Rattle.maker.proofs.Answers.{only, never_none, never_some}
use Rattle.std.specs.declared.option.Option.{Option as RustOption}
use Rattle.std.specs.declared.option.Option.TheVariants.{Some, None}
use Rattle.maker.specs.Laying.{values_from, PartsHeld, MadeIs}
use Rattle.maker.specs.Adding.{codes_of, beside_of, part_of}
use Rattle.maker.specs.Merging.{Grown, As, PartImported, Begun, AllWithin, RootBrought, PartsBrought}
use Rattle.maker.specs.Crowds.{Within}
use Rattle.maker.proofs.Crowds.{within_same}
use Rattle.maker.proofs.Codes.{spare_codes, first_code, next_code}
use Rattle.maker.proofs.Makes.{beneath_more}
use Rattle.maker.proofs.Enters.{grown_more, grown_none, other_block, other_inside}

-- ---- their values
pub same_values : (W W' : List ℕ) (n : ℕ) (ps : List ValueRef) → ((i : ℕ) → i < n → value_of W' (part_of ps i) ≡ value_of W (part_of ps i)) → map (value_of W') (take n ps) ≡ map (value_of W) (take n ps)
same_values W W' zero ps h = refl
same_values W W' (suc n) [] h = refl
same_values W W' (suc n) (s ∷ ps) h = ap₂ {A = Graph} {B = List Graph} {C = List Graph} ◌∷◌ (h 0 (omega arith)) (same_values W W' n ps (λ i l. h (suc i) (omega arith)))

-- ---- values in a block that has grown, and in the others
module _ (host : ℕ) (W W' : List ℕ) (g : Grown host W W') where
  pub part_held : (v : ValueRef) → Holds W v → Holds W' v
  part_held (Object i b) h = record { held = go (ℕ_discrete b host) }
    where
      go : Dec (b ≡ host) → Inside W' b i
      go (yes e) = subst (λ (x : ℕ). Inside W' x i) (sym e) (record { block = g.block; low = omega (arith, h.held.low, ap (count_in W) e, g.most) })
      go (no n) = other_inside host W W' g.outside b n i h.held
  part_held (Mark k) h = record { held = h.held }
  part_held (Number x) h = record { held = h.held }
  part_held Undetermined h = record { held = tt }

  part_tree : (v : ValueRef) → Holds W v → Same (raw_of W v).nodes (raw_of W v).root (raw_of W' v).nodes (raw_of W' v).root
  part_tree (Object i b) h p = go (ℕ_discrete b host)
    where
      go : Dec (b ≡ host) → follow (objects_in W b) (obj i) p ≡ follow (objects_in W' b) (obj i) p
      go (yes e) =
          ap (λ (x : ℕ). follow (objects_in W x) (obj i) p) e ∙ g.trees (obj i) (omega (arith, h.held.low, ap (count_in W) e)) p
          ∙ ap (λ (x : ℕ). follow (objects_in W' x) (obj i) p) (sym e)
      go (no n) = ap (λ (x : List Node). follow x (obj i) p) (sym (other_block host W W' g.outside b n h.held.block).0)
  part_tree (Mark k) h p = refl
  part_tree (Number x) h p = refl
  part_tree Undetermined h p = refl

  part_value : (v : ValueRef) → Holds W v → value_of W' v ≡ value_of W v
  part_value (Object i b) h =
      let h' : Holds W' (Object i b) = part_held (Object i b) h in
      same_canon (graph_at W' b i) (graph_at W b i) (whole_at W' b h'.held.block i h'.held.low) (whole_at W b h.held.block i h.held.low)
      (λ p. sym (part_tree (Object i b) h p))
  part_value (Mark k) h = refl
  part_value (Number x) h = refl
  part_value Undetermined h = refl

  pub parts_held : (ps : List ValueRef) (n : ℕ) → PartsHeld W ps n → PartsHeld W' ps n
  parts_held ps n h = record { full = h.full; part = λ i l. part_held (part_of ps i) (h.part i l) }

  pub parts_values : (ps : List ValueRef) (n : ℕ) → PartsHeld W ps n → values_from W' ps 0 n ≡ values_from W ps 0 n
  unfolding values_from
  parts_values ps n h = same_values W W' n ps (λ i l. part_value (part_of ps i) (h.part i l))

  pub begun_grown : (base : ℕ) → Begun W base host → Begun W' base host
  begun_grown base bg = go (ℕ_discrete base host)
    where
      go : Dec (base ≡ host) → Begun W' base host
      go (yes e) = subst (λ (x : ℕ). Begun W' x host) (sym e) (record { source = g.block; target = g.block; most = omega arith; trees = λ r l p. refl })
      go (no n) =
          let o = other_block host W W' g.outside base n bg.source in
          let same : count_in W' base ≡ count_in W base = sym (size_in W' base o.1) ∙ ap length o.0 ∙ size_in W base bg.source in
          record {
            source = o.1;
            target = g.block;
            most = omega (arith, same, bg.most, g.most);
            trees = λ r l p.
                let l' : InRange (count_in W base) r = subst (λ (m : ℕ). InRange m r) same l in
                ap (λ (x : List Node). follow x r p) o.0 ∙ bg.trees r l' p ∙ g.trees r (in_larger (count_in W base) (count_in W host) r bg.most l') p;
          }

  pub like_grown : (W₀ : List ℕ) (v : ValueRef) (r : ℕ) → As W₀ v W host r → As W₀ v W' host r
  like_grown W₀ v r a = record {
    low = in_larger (count_in W host) (count_in W' host) (ref_of r (beside_of v)) g.most a.low;
    plain = a.plain;
    same = λ p. a.same p ∙ g.trees (ref_of r (beside_of v)) a.low p;
  }

-- ---- the parts brought
first_byte : (w : ℕ) → get_or (codes_of w) 0 0 ≡ w % 256
unfolding codes_of
first_byte w = refl

pub brought_none : (W : List ℕ) (ps : List ValueRef) (n host : ℕ) → RootBrought W ps n n W host unused_codes
brought_none W ps n host = record { done = λ j l. absurd (omega arith); spare = λ j l h. spare_codes j h; stand = λ g old at. old }

module _ (W : List ℕ) (ps : List ValueRef) (n i : ℕ) (W1 : List ℕ) (host w : ℕ) (held : PartsHeld W ps n) (g : Grown host W W1) (b : RootBrought W ps n i W1 host w) (le : i ≤ n) where
  pub brought_held : 0 < i → (v : ValueRef) → v ≡ part_of ps (i - 1) → Holds W1 v
  brought_held h v e = part_held host W W1 g v (subst (Holds W) (sym e) (held.part (i - 1) (omega arith)))

  pub brought_all : i ≤ 0 → PartsBrought W ps n host W1 (Some w)
  brought_all h =
      let e : i ≡ 0 = omega arith in
      record { grown = g; done = only (RootBrought W ps n 0 W1 host) w (subst (λ (k : ℕ). RootBrought W ps n k W1 host w) e b); over = never_none w }

  module _ (h : 0 < i) (v : ValueRef) (e : v ≡ part_of ps (i - 1)) (W2 : List ℕ) (a : RustOption ℕ) (pi : PartImported W1 v host W2 a) where
    pub brought_grown : Grown host W W2
    brought_grown = grown_more host W W1 W2 g pi.grown

    part-held_in : Holds W v
    part-held_in = subst (Holds W) (sym e) (held.part (i - 1) (omega arith))

    part-within : (x : Graph) → AllWithin W ps n x → Within (raw_of W1 v) x
    part-within x ws = within_same (raw_of W v) (raw_of W1 v) x (part_tree host W W1 g v part-held_in) (subst (λ (u : ValueRef). Within (raw_of W u) x) (sym e) (ws (i - 1) (omega arith)))

    pub brought_fails : a ≡ None → PartsBrought W ps n host W2 None
    brought_fails z = record { grown = brought_grown; done = never_some _; over = λ _ x old ws. pi.over z x (b.stand x old ws) (part-within x ws) }

    pub brought_more : n ≤ code_count → (r : ℕ) → a ≡ Some r → r < 256 → RootBrought W ps n (i - 1) W2 host (r + 256 * (w % three_bytes))
    brought_more few r d lr = record { done = done; spare = spare; stand = λ x old ws. pi.stand r d x (b.stand x old ws) (part-within x ws) }
      where
        now_like : As W v W2 host r
        now_like = record {
          low = (pi.like r d).low;
          plain = (pi.like r d).plain;
          same = λ p. part_tree host W W1 g v part-held_in p ∙ (pi.like r d).same p;
        }

        done : (j : ℕ) → i - 1 + j < n → As W (part_of ps (i - 1 + j)) W2 host (get_or (codes_of (r + 256 * (w % three_bytes))) j 0)
        done zero l = let z : i - 1 + 0 ≡ i - 1 = omega arith in rw (z, first_code r w lr) (subst (λ (x : ValueRef). As W x W2 host r) e now_like)
        done (suc j) l =
            let z : i - 1 + suc j ≡ i + j = omega arith in
            rw (z, next_code r w lr j (omega arith)) (like_grown host W1 W2 pi.grown W (part_of ps (i + j)) _ (b.done j (omega arith)))

        spare : (j : ℕ) → n ≤ i - 1 + j → j < code_count → get_or (codes_of (r + 256 * (w % three_bytes))) j 0 ≡ undetermined_code
        spare zero l m = absurd (omega arith)
        spare (suc j) l m = next_code r w lr j (omega arith) ∙ b.spare j (omega arith) (omega arith)

pub brought_start : (W : List ℕ) (base host : ℕ) → Begun W base host → Grown host W W
brought_start W base host bg = grown_none host W bg.target

-- ---- the new object over them
pub beneath_grown : (host dst : ℕ) (W W' : List ℕ) → dst ≤ host → Grown host W W' → Beneath dst W W'
beneath_grown host dst W W' h g = record { same = g.outside.same; below = λ p l. g.outside.below p (omega arith) }

pub made_from : (W W1 : List ℕ) (c : ℕ) (ps : List ValueRef) (n dst : ℕ) (W2 : List ℕ) (o : RustOption ValueRef) → Beneath dst W W1 → values_from W1 ps 0 n ≡ values_from W ps 0 n
    → MadeIs W1 (make c (values_from W1 ps 0 n)) dst W2 o → MadeIs W (make c (values_from W ps 0 n)) dst W2 o
made_from W W1 c ps n dst W2 o b e m = record {
  held = m.held;
  is = m.is ∙ ap (λ (v : Graph). cond (leb (length v.nodes) capacity) (some v) none) (ap (make c) e);
  place = m.place;
  beneath = beneath_more dst W W1 W2 b m.beneath;
}
