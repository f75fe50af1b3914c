-- A part in the host: one law for each return of `import_fieldless`, `import_object` and `import_part`.
-- Not here: an object entered (Enters), all parts of a new object (Brings).
use Rattle.std.proofs.Common.{ℕ, ◌+◌, ◌-◌, ◌*◌, ◌/◌, ◌<◌, ◌≤◌, arith, ◌≡◌, refl, sym, ap, ◌∙◌, subst, List, [], get_or}
use native.Mathlib.Decide.{dec_lt, ℕ_discrete}
use mathlib.Core.Logic.{⊎_elim}
use Rattle.cofj.specs.Values.{Leaf, mark, undet, num, Ref, obj, leaf, Node, Graph}
use Rattle.cofj.specs.Unfolding.{follow, Same, InRange}
use Rattle.canon.specs.Figures.{object_size, head_size, code_count, numbers_at, blank_at, first_leaf, undetermined_code, number_code, first_mark, mark_count, block_size}
use Rattle.canon.specs.Layout.{ref_of, number_at, Packed, count_in, objects_in, Block, Inside}
use Rattle.canon.proofs.Nodes.{ref_object, ref_undet, ref_number, ref_mark}
use Rattle.values.specs.declared.ValueRef.{ValueRef}
use Rattle.values.specs.declared.ValueRef.TheVariants.{Object, Mark, Number, Undetermined}
use Rattle.values.specs.Layout.{raw_of, Holds, HeldBy}
use Rattle.values.proofs.Blocks.{size_in}
use Rattle.values.proofs.Trees.{in_larger, leaf_same}
use Rattle.std.specs.declared.option.Option.{Option}
use Rattle.std.specs.declared.option.Option.TheVariants.{Some, None}
use Rattle.maker.specs.Figures.{unused_codes}
use Rattle.maker.proofs.Answers.{only, never_none}
use Rattle.maker.specs.Adding.{object_of, beside_of, Missed}
use Rattle.maker.specs.Merging.{As, Grown, Fits, Entered, CodeAs, Imported, PartImported, Begun}
use Rattle.maker.specs.Sorting.{code_at, TurnedAs}
use Rattle.maker.specs.Crowds.{In, BlockIn, Crowd}
use Rattle.maker.proofs.Crowds.{in_same, crowd_joined}
use Rattle.maker.proofs.Codes.{object_class, object_count, object_code, codes_packed, spare_codes, spare_numbers}
use Rattle.maker.proofs.Turns.{leaf_low, turned-fits, turned_same, turned_fresh}
use Rattle.maker.proofs.Enters.{grown_none, other_block, other_byte, other_inside}

-- ---- the same codes in a block that has grown
module _ (host : ℕ) (W W' : List ℕ) (g : Grown host W W') (src : ℕ) (apart : (src ≡ host) → ⊥) (sb : Block W src) where
  pub code_grown : (c r : ℕ) → CodeAs W src c host r → CodeAs W' src c host r
  code_grown c r t = record {
    low = λ y. in_larger (count_in W host) (count_in W' host) (ref_of r y) g.most (t.low y);
    leaf = t.leaf;
    same = λ y p. ap (λ (x : List Node). follow x (ref_of c y) p) (other_block host W W' g.outside src apart sb).0 ∙ t.same y p ∙ g.trees (ref_of r y) (t.low y) p;
  }

  -- an object turned
  pub turned_grown : (i : ℕ) (B : List ℕ) → i < count_in W src → TurnedAs W src i host B → TurnedAs W' src i host B
  turned_grown i B h t = record {
    cls = t.cls ∙ sym (byte (block_size * src + object_size * i) (omega arith) (omega (arith, sb.small)));
    count = t.count ∙ sym (byte (block_size * src + object_size * i + 1) (omega arith) (omega (arith, sb.small)));
    code = λ f l. subst (λ (c : ℕ). CodeAs W' src c host (get_or B (2 + f) 0)) (sym (byte (block_size * src + object_size * i + head_size + f) (omega arith) (omega (arith, sb.small)))) (code_grown _ _ (t.code f l));
    rest = λ k l m. t.rest k l m ∙ sym (byte (block_size * src + object_size * i + k) (omega arith) (omega (arith, sb.small)));
  }
    where
      byte : (p : ℕ) → block_size * src ≤ p → p < block_size * src + block_size → get_or W' p 0 ≡ get_or W p 0
      byte = other_byte host W W' g.outside src apart

-- ---- a part
object_beside : (i b : ℕ) → beside_of (Object i b) ≡ 0
unfolding beside_of
object_beside i b = refl

module _ (W : List ℕ) (b i base host : ℕ) (ib : Inside W b i) (bg : Begun W base host) where
  small_object : (y : ℕ) → ref_of i y ≡ obj i
  small_object y = ref_object i y (omega (arith, ib.low, ib.block.small))

  pub object_base : b ≡ base → PartImported W (Object i b) host W (Some i)
  object_base e =
      let l : i < count_in W base = omega (arith, ib.low, ap (count_in W) e) in
      record {
        grown = grown_none host W bg.target;
        like = only (As W (Object i b) W host) i (record {
          low = subst (InRange (count_in W host)) (sym (small_object _)) (omega (arith, bg.most));
          plain = λ _. object_beside i b;
          same = λ p. ap (λ (x : ℕ). follow (objects_in W x) (obj i) p) e ∙ bg.trees (obj i) l p ∙ ap (λ (x : Ref). follow (objects_in W host) x p) (sym (small_object _));
        });
        stand = λ _ _ g old at. old;
        over = never_none i;
      }

  pub object_host : b ≡ host → PartImported W (Object i b) host W (Some i)
  object_host e = record {
    grown = grown_none host W bg.target;
    like = only (As W (Object i b) W host) i (record {
      low = subst (InRange (count_in W host)) (sym (small_object _)) (omega (arith, ib.low, ap (count_in W) e));
      plain = λ _. object_beside i b;
      same = λ p. ap (λ (x : ℕ). follow (objects_in W x) (obj i) p) e ∙ ap (λ (x : Ref). follow (objects_in W host) x p) (sym (small_object _));
    });
    stand = λ _ _ g old at. old;
    over = never_none i;
  }

  module _ (apart : (b ≡ host) → ⊥) where
    pub object_other : (W' : List ℕ) (a : Option ℕ) → Imported W b i host W' a → PartImported W (Object i b) host W' a
    object_other W' a im = record {
      grown = im.grown;
      like = λ r d. record {
        low = (im.like r d).low _;
        plain = λ _. object_beside i b;
        same = λ p.
            ap (λ (x : Ref). follow (objects_in W b) x p) (sym (small_object _))
            ∙ ap (λ (x : List Node). follow x (ref_of i (beside_of (Object i b))) p) (sym (other_block host W W' im.grown.outside b apart ib.block).0) ∙ (im.like r d).same _ p;
      };
      stand = λ r d g old at. im.stand r d g old (record { path = at.path; tree = at.tree });
      over = λ z g old at. im.over z g old (record { path = at.path; tree = at.tree });
    }

-- ---- an object without fields
-- beside no code there is a number
empty_rest : (S : List ℕ) (at : ℕ) → Packed S at → get_or S (at + 1) 0 ≡ 0 → (k : ℕ) → numbers_at ≤ k → k < object_size → get_or S (at + k) 0 ≡ 0
empty_rest S at pk e k l h = go (dec_lt k blank_at) (ℕ_discrete (6 + 2 * f) k)
  where
    f : ℕ
    f = (k - 6) / 2

    number : k < blank_at → number_at S (at + numbers_at + 2 * f) ≡ 0
    number m =
        let z : at + head_size + f ≡ at + (head_size + f) = omega arith in
        pk.plain f (omega arith) (λ q. omega (arith, q, ap (λ (p : ℕ). get_or S p 0) z, pk.spare (head_size + f) (omega arith) (omega arith)))

    go : Dec (k < blank_at) → Dec (6 + 2 * f ≡ k) → get_or S (at + k) 0 ≡ 0
    go (yes m) (yes d) = let z : at + k ≡ at + numbers_at + 2 * f = omega arith in rw z (omega (arith, number m))
    go (yes m) (no d) = let z : at + k ≡ at + numbers_at + 2 * f + 1 = omega (arith, d) in rw z (omega (arith, number m))
    go (no m) d = pk.blank k (omega (arith, m)) h

module _ (W : List ℕ) (b i host : ℕ) (ib : Inside W b i) (bk : Block W host) (apart : (b ≡ host) → ⊥) (fieldless : get_or W (block_size * b + object_size * i + 1) 0 ≡ 0) where
  abbrev fieldless_object_lem : List ℕ
  fieldless_object_lem = object_of (get_or W (block_size * b + object_size * i) 0) 0 unused_codes 0

  fieldless_code : (k : ℕ) → k < code_count → (code_at W b i k ≡ undetermined_code) × (get_or fieldless_object_lem (2 + k) 0 ≡ undetermined_code)
  fieldless_code k l =
      let z : block_size * b + object_size * i + (2 + k) ≡ block_size * b + object_size * i + head_size + k = omega arith in
      (rw z at ((ib.block.packed i ib.low).spare (2 + k) (omega (arith, fieldless)) (omega arith)), object_code _ 0 unused_codes 0 k l ∙ spare_codes k l)

  fieldless_turned : TurnedAs W b i host fieldless_object_lem
  fieldless_turned = record {
    cls = object_class _ 0 unused_codes 0;
    count = object_count _ 0 unused_codes 0 ∙ sym fieldless;
    code = λ k l. rw ((fieldless_code k l).0, (fieldless_code k l).1) (record {
      low = λ y. leaf_low (count_in W host) undetermined_code y (omega arith);
      leaf = λ _. refl;
      same = λ y. leaf_same (objects_in W b) (objects_in W host) (ref_of undetermined_code y) (leaf_low 0 undetermined_code y (omega arith));
    });
    rest = λ k l h. let z : 0 + k ≡ k = omega arith in
        rw z at (empty_rest fieldless_object_lem 0 (codes_packed _ 0 unused_codes 0 (omega arith) (λ j a m. spare_codes j m) (λ j m d. spare_numbers j m)) (object_count _ 0 unused_codes 0) k l h)
        ∙ sym (empty_rest W (block_size * b + object_size * i) (ib.block.packed i ib.low) fieldless k l h);
  }

  pub fieldless_fits : Fits W host (object_of (get_or W (block_size * b + object_size * i) 0) 0 unused_codes 0)
  fieldless_fits = turned-fits W b i host fieldless_object_lem ib bk fieldless_turned

  begun : Begun W host host
  begun = record { source = bk; target = bk; most = omega arith; trees = λ r l p. refl }

  pub fieldless_imported : (W' : List ℕ) (a : Option ℕ) → Entered W host (object_of (get_or W (block_size * b + object_size * i) 0) 0 unused_codes 0) W' a → PartImported W (Object i b) host W' a
  fieldless_imported W' a en = object_other W b i host host ib begun apart W' a (record {
    grown = en.grown;
    like = like;
    stand = λ r d g old at y h. ⊎_elim (λ l. in_same g (objects_in W host) (objects_in W' host) y y (old y l) (en.grown.trees (obj y) l)) (λ e. here y e g at) (en.from y h);
    over = λ z g old at. full z g old at;
  })
    where
      like : (r : ℕ) → a ≡ Some r → CodeAs W' b i host r
      like r d =
          turned_same W' b i host fieldless_object_lem (other_inside host W W' en.grown.outside b apart i ib) en.grown.block
          (turned_grown host W W' en.grown b apart ib.block i fieldless_object_lem ib.low fieldless_turned) r (en.standing r d)

      here : (y : ℕ) → a ≡ Some y → (g : Graph) → In (objects_in W b) i g → In (objects_in W' host) y g
      here y e g at = in_same g (objects_in W b) (objects_in W' host) i y at (λ p.
          ap (λ (x : List Node). follow x (obj i) p) (sym (other_block host W W' en.grown.outside b apart ib.block).0)
          ∙ ap (λ (x : Ref). follow (objects_in W' b) x p) (sym (ref_object i 0 (omega (arith, ib.low, ib.block.small)))) ∙ (like y e).same 0 p
          ∙ ap (λ (x : Ref). follow (objects_in W' host) x p) (ref_object y 0 (omega (arith, (en.standing y e).low, en.grown.block.small))))

      -- the host is full, and does not have it
      full : a ≡ None → (g : Graph) → BlockIn W host g → In (objects_in W b) i g → Crowd g
      full z g old at =
          let f = en.full z in
          crowd_joined (objects_in W b) (objects_in W host) g (count_in W host) (size_in W host bk) bk.distinct old (λ _. i)
          (λ k h l. turned_fresh W b i host fieldless_object_lem ib bk fieldless_turned (subst (Missed W host fieldless_object_lem) (sym f.0) f.1))
          (λ k h l. at) (λ k l hk lk hl ll e. omega (arith, f.0))

module _ (W : List ℕ) (v : ValueRef) (base host : ℕ) (h : Holds W v) (bg : Begun W base host) where
  pub part_object : (b i : ℕ) (W' : List ℕ) (r : Option ℕ) → v ≡ Object i b → PartImported W (Object i b) host W' r → PartImported W v host W' r
  part_object b i W' r e p = subst (λ (x : ValueRef). PartImported W x host W' r) (sym e) p

  pub part_small : (k : ℕ) → v ≡ Mark k → k < mark_count
  part_small k e = let z : k < mark_count = subst (HeldBy W) e h.held in z

  -- a code that is no object's
  leaf_part : (u : ValueRef) (r : ℕ) (l : Leaf) → first_leaf ≤ r → ref_of r (beside_of u) ≡ leaf l → (((r ≡ number_code) → ⊥) → beside_of u ≡ 0) → Same (raw_of W u).nodes (raw_of W u).root [] (leaf l)
      → PartImported W u host W (Some r)
  leaf_part u r l h e plain t = record {
    grown = grown_none host W bg.target;
    like = only (As W u W host) r (record {
      low = leaf_low (count_in W host) r (beside_of u) h;
      plain = plain;
      same = λ p. t p ∙ leaf_same [] (objects_in W host) (leaf l) tt p ∙ ap (λ (x : Ref). follow (objects_in W host) x p) (sym e);
    });
    stand = λ _ _ g old at. old;
    over = never_none r;
  }

  pub part_mark : (k : ℕ) → v ≡ Mark k → PartImported W v host W (Some (first_mark + k))
  unfolding beside_of
  part_mark k e = rw e (leaf_part (Mark k) (first_mark + k) (mark k) (omega arith) (ref_mark k 0) (λ _. refl) (λ p. refl))

  pub part_number : (x : ℕ) → v ≡ Number x → PartImported W v host W (Some number_code)
  unfolding beside_of
  part_number x e = rw e (leaf_part (Number x) number_code (num x) (omega arith) (ref_number x) (λ d. absurd (d refl)) (λ p. refl))

  pub part_undet : v ≡ Undetermined → PartImported W v host W (Some undetermined_code)
  unfolding beside_of
  part_undet e = rw e (leaf_part Undetermined undetermined_code undet (omega arith) (ref_undet 0) (λ _. refl) (λ p. refl))
