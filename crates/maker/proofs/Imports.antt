-- Laws of an object of another block brought into the host, with what it leads to: found at once under its own number, or sorted out and joined.
-- Not here: what is known of single objects (Sorts), the bytes that are added (Joins).
use Rattle.std.proofs.Common.{ℕ, ◌+◌, ◌-◌, ◌*◌, ◌≤◌, ◌<◌, arith, ◌≡◌, refl, sym, ◌∙◌, subst, Bool, true, false, List, get_or, replicate}
use Rattle.std.proofs.Math.Bool.{false≢true}
use mathlib.Core.Logic.{⊎_elim}
use Rattle.std.proofs.Math.ListN.{length-replicate}
use Rattle.cofj.specs.Values.{Graph, obj}
use Rattle.canon.specs.Figures.{code_count, first_leaf, capacity, count_at, block_size}
use Rattle.canon.specs.Layout.{count_in, objects_in, graph_at, Block, Inside}
use Rattle.values.proofs.Blocks.{size_in}
use Rattle.std.specs.declared.option.Option.TheVariants.{Some, None}
use Rattle.maker.proofs.Answers.{only, never_none, never_some}
use Rattle.maker.specs.Crowds.{In, BlockIn, Crowd}
use Rattle.maker.specs.Merging.{CodeAs, Mapped, Imported}
use Rattle.maker.specs.Sorting.{Decided, code_at, Listed, Reached, Sorting, SortedFrom}
use Rattle.maker.specs.Seeking.{Telling, SameNumber}
use Rattle.maker.specs.Joining.{Joining, Joined}
use Rattle.canon.proofs.Zeros.{zero_at}
use Rattle.maker.proofs.Crowds.{in_same, in_within, crowd_joined}
use Rattle.maker.proofs.Enters.{grown_none}
use Rattle.canon.proofs.Zeros.{unseen_at}

-- ---- the same number
module _ (W : List ℕ) (src i host : ℕ) (T : List ℕ) where
  pub number_none : SameNumber W src i host T T false
  number_none = record { yes = λ e. absurd (false≢true e); no = λ _. refl }

  pub number_inside : Block W host → i < get_or W (block_size * host + count_at) 0 → Inside W host i
  unfolding count_in
  number_inside bk h = record { block = bk; low = h }

  pub number_told : (T' : List ℕ) (r : Bool) → Telling W src i host i T T' r → SameNumber W src i host T T' r
  number_told T' r t = record { yes = λ e. (t.yes e).each i i (t.here e); no = t.no }

-- ---- nothing is known at first
pub mapped_none : (W : List ℕ) (src host k : ℕ) → k ≡ capacity → Mapped W src host (replicate k 0)
mapped_none W src host k e = record { table = length-replicate k 0 ∙ e; each = λ x y z. absurd (omega (arith, zero_at k x, z)) }

-- ---- sorted out and joined
module _ (W : List ℕ) (src i host : ℕ) (ib : Inside W src i) (bk : Block W host) (apart : (src ≡ host) → ⊥) (L : List ℕ) (m : ℕ) (rc : Reached W src i L m) where
  pub bring_sorting : (T : List ℕ) → Mapped W src host T → (k : ℕ) → k ≡ capacity → Sorting W src host L m T (replicate k false)
  bring_sorting T mp k e = record {
    ground = record { source = ib.block; target = bk; few = rc.few; long = rc.long; low = rc.low };
    sorted = record { mapped = mp; table = length-replicate k false ∙ e; low = λ x d. absurd (none x d); fresh = λ x d. absurd (none x d) };
    listed = λ x d. absurd (none x d);
  }
    where
      none : (x : ℕ) → get_or (replicate k false) x false ≡ true → ⊥
      none x d = false≢true (sym (unseen_at k x) ∙ d)

  module _ (T : List ℕ) (F : List Bool) (s : SortedFrom W src host L m 0 T F) where
    pub bring_joining : Joining W src host T F
    bring_joining = record {
      source = ib.block;
      target = bk;
      apart = apart;
      sorted = s.sorting.sorted;
      settled = record {
        field = λ x f d h l. decided (code_at W src x f) (field x f (s.sorting.listed x d) h l);
      };
    }
      where
        decided : (x : ℕ) → Listed L m x → Decided T F x
        decided x p = subst (Decided T F) p.2 (s.above p.0 (omega arith) p.1)

        field : (x f : ℕ) → Listed L m x → f < code_count → code_at W src x f < first_leaf → Listed L m (code_at W src x f)
        field x f p h l = subst (λ (y : ℕ). code_at W src y f < first_leaf → Listed L m (code_at W src y f)) p.2 (rc.closed p.0 f p.1 h) l

    module _ (W' T' : List ℕ) (r : Bool) (j : Joined W src host T F W' T' r) where
      -- what is listed stands in any value in which object i stands
      led : (g : Graph) → In (objects_in W src) i g → (x : ℕ) → get_or F x false ≡ true → In (objects_in W src) x g
      led g at x d =
          let p = s.sorting.listed x d in
          in_within g (objects_in W src) (objects_in W src) i x at (subst (λ (y : ℕ). In (objects_in W src) y (graph_at W src i)) p.2 (rc.led p.0 p.1))

      too_many : r ≡ false → (g : Graph) → BlockIn W host g → In (objects_in W src) i g → Crowd g
      too_many e g old at =
          let o = j.over e in
          crowd_joined (objects_in W src) (objects_in W host) g (count_in W host) (size_in W host bk) bk.distinct old o.from
          (λ k h l. s.sorting.sorted.fresh (o.from k) (o.new k h l)) (λ k h l. led g at (o.from k) (o.new k h l))
          (λ k l hk lk hl ll z. o.one k l hk lk hl ll
          (ib.block.distinct.apart (o.from k) (o.from l) (omega (arith, o.low k hk lk, size_in W src ib.block)) (omega (arith, o.low l hl ll, size_in W src ib.block)) z))

      pub bring_full : r ≡ false → Imported W src i host W' None
      bring_full e = record { grown = j.grown; like = never_some _; stand = never_some _; over = λ _. too_many e }

      module _ (e : r ≡ true) where
        here : (get_or T' i 0 ≡ 0) → ⊥
        here = j.told e i (subst (Decided T F) rc.root.2 (s.above rc.root.0 (omega arith) rc.root.1))

        pub bring_some : 1 ≤ get_or T' i 0
        bring_some = omega (arith, here)

        is : CodeAs W' src i host (get_or T' i 0 - 1)
        is = (j.mapped e).each i (get_or T' i 0 - 1) (omega (arith, here))

        stand : (g : Graph) → BlockIn W host g → In (objects_in W src) i g → BlockIn W' host g
        stand g old at y h = ⊎_elim (λ l. in_same g (objects_in W host) (objects_in W' host) y y (old y l) (j.grown.trees (obj y) l))
            (λ n. in_same g (objects_in W src) (objects_in W' host) n.0 y (led g at n.0 n.1) n.2) (j.from e y h)

        pub bring_done : Imported W src i host W' (Some (get_or T' i 0 - 1))
        bring_done = record { grown = j.grown; like = only (CodeAs W' src i host) (get_or T' i 0 - 1) is; stand = λ _ _. stand; over = never_none (get_or T' i 0 - 1) }

-- ---- the whole
module _ (W : List ℕ) (src i host : ℕ) (bk : Block W host) (k : ℕ) (e : k ≡ capacity) (T : List ℕ) (r : Bool) (sn : SameNumber W src i host (replicate k 0) T r) where
  pub import_same : r ≡ true → Imported W src i host W (Some i)
  import_same z = record { grown = grown_none host W bk; like = only (CodeAs W src i host) i (sn.yes z); stand = λ _ _ g old at. old; over = never_none i }

  pub import_mapped : r ≡ false → Mapped W src host T
  import_mapped z = subst (Mapped W src host) (sym (sn.no z)) (mapped_none W src host k e)
