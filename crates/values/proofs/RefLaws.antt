-- References: one law for each return of `pack`, `unpack` and `ref_of`, and what the value of a code is. Not here: a field selected (Selecting).
use Rattle.std.proofs.Common.{ℕ, ◌+◌, ◌-◌, ◌*◌, ◌/◌, ◌%◌, ◌≤◌, ◌<◌, arith, ◌≡◌, sym, ap, ap₂, refl, ◌∙◌, subst, Bool, true, false, cond, List, eqb, ltb, lt-ltb, le-ltb, eq-eqb, ne_eqb}
use Rattle.cofj.specs.Values.{obj, leaf, Leaf, mark, undet, num, Node, graph, canon, canon_by, visit, leaf_of}
use Rattle.cofj.specs.Limits.{number_count}
use Rattle.cofj.specs.Unfolding.{InRange}
use Rattle.canon.specs.Figures.{first_leaf, undetermined_code, number_code, first_mark}
use Rattle.canon.specs.Layout.{leaf_from, ref_of, Block, count_in, objects_in}
use Rattle.values.specs.declared.ValueRef.{ValueRef}
use Rattle.values.specs.declared.ValueRef.TheVariants.{Object, Mark, Number, Undetermined}
use Rattle.values.specs.Layout.{value_of, Holds, Low}
use Rattle.values.specs.Refs.{ref_from, other_from, ref_in, OtherPacked}

-- ---- a number read
module _ (k i b : ℕ) where
  pub other_from_mark : k ≡ 1 → Mark i ≡ other_from k i b
  unfolding other_from
  other_from_mark e = rw (eq-eqb k 1 e)

  pub other_from_number : k ≡ 3 → Number b ≡ other_from k i b
  unfolding other_from
  other_from_number e = rw (ne_eqb k 1 (λ z. omega arith), eq-eqb k 3 e)

  pub other_from_none : (k ≡ 1 → ⊥) → (k ≡ 3 → ⊥) → Undetermined ≡ other_from k i b
  unfolding other_from
  other_from_none m n = rw (ne_eqb k 1 m, ne_eqb k 3 n)

module _ (x : ℕ) where
  pub other_in : (v : ValueRef) → v ≡ other_from (x % 256) (x / 256 % 256) (x / 65536) → (x % 256 ≡ 0 → ⊥) → v ≡ ref_in x
  unfolding ref_in
  other_in v e n = rw (ne_eqb (x % 256) 0 n) e

  pub object_in : x % 256 ≡ 0 → Object (x / 256 % 256) (x / 65536) ≡ ref_in x
  unfolding ref_in
  object_in e = rw (eq-eqb (x % 256) 0 e)

  mark_in_lem : x % 256 ≡ 1 → Mark (x / 256 % 256) ≡ ref_in x
  mark_in_lem e = other_in _ (other_from_mark _ _ _ e) (λ z. omega arith)

  number_in_lem : x % 256 ≡ 3 → Number (x / 65536) ≡ ref_in x
  number_in_lem e = other_in _ (other_from_number _ _ _ e) (λ z. omega arith)

  undetermined_in : 1 < x % 256 → (x % 256 ≡ 3 → ⊥) → Undetermined ≡ ref_in x
  undetermined_in l n = other_in _ (other_from_none _ _ _ (λ z. omega arith) n) (λ z. omega arith)

-- ---- a number made
pub undetermined_is : ref_in 2 ≡ Undetermined
undetermined_is = sym (undetermined_in 2 (omega arith) (λ z. omega arith))

module _ (v : ValueRef) where
  pub pack_object : (i b : ℕ) → i < 256 → v ≡ Object i b → ref_in (256 * i + 65536 * b) ≡ v
  pack_object i b l e =
      let ei : (256 * i + 65536 * b) / 256 % 256 ≡ i = omega arith in
      let eb : (256 * i + 65536 * b) / 65536 ≡ b = omega arith in
      sym (object_in (256 * i + 65536 * b) (omega arith)) ∙ ap₂ Object ei eb ∙ sym e

  pub other_object : (i b : ℕ) → v ≡ Object i b → OtherPacked v 2
  other_object i b e = subst (λ (w : ValueRef). OtherPacked w 2) (sym e) (record { is = tt; small = omega arith })

  pub other_mark : (k : ℕ) → k < 256 → v ≡ Mark k → OtherPacked v (1 + 256 * k)
  other_mark k l e =
      let ek : (1 + 256 * k) / 256 % 256 ≡ k = omega arith in
      subst (λ (w : ValueRef). OtherPacked w (1 + 256 * k)) (sym e) (record {
        is = sym (mark_in_lem (1 + 256 * k) (omega arith)) ∙ ap Mark ek;
        small = omega arith;
      })

  pub other_number : (n : ℕ) → n < number_count → v ≡ Number n → OtherPacked v (3 + 65536 * n)
  other_number n l e =
      let en : (3 + 65536 * n) / 65536 ≡ n = omega arith in
      subst (λ (w : ValueRef). OtherPacked w (3 + 65536 * n)) (sym e) (record { is = sym (number_in_lem (3 + 65536 * n) (omega arith)) ∙ ap Number en; small = omega arith })

  pub other_undetermined : v ≡ Undetermined → OtherPacked v 2
  other_undetermined e = subst (λ (w : ValueRef). OtherPacked w 2) (sym e) (record { is = undetermined_is; small = omega arith })

  module _ (x : ℕ) (p : OtherPacked v x) where
    pub pack_mark : (k : ℕ) → v ≡ Mark k → ref_in x ≡ v
    pack_mark k e = (subst (λ (w : ValueRef). OtherPacked w x) e p).is ∙ sym e

    pub pack_number : (n : ℕ) → v ≡ Number n → ref_in x ≡ v
    pack_number n e = (subst (λ (w : ValueRef). OtherPacked w x) e p).is ∙ sym e

    pub pack_none : v ≡ Undetermined → ref_in x ≡ v
    pack_none e = (subst (λ (w : ValueRef). OtherPacked w x) e p).is ∙ sym e

-- ---- a graph whose root is no object
canon_leaf : (l : Leaf) (ns : List Node) → canon (graph (leaf l) ns) ≡ leaf_of l
unfolding canon canon_by visit
canon_leaf l ns = refl

-- ---- a code, and the number beside it
module _ (b c n : ℕ) where
  pub from_object : c < first_leaf → Object c b ≡ ref_from b c n
  unfolding ref_from
  from_object h = rw (lt-ltb c first_leaf h)

  module _ (h : first_leaf ≤ c) where
    pub from_undetermined : c ≡ undetermined_code → Undetermined ≡ ref_from b c n
    unfolding ref_from
    from_undetermined e = rw (le-ltb c first_leaf h, eq-eqb c undetermined_code e)

    module _ (u : c ≡ undetermined_code → ⊥) where
      pub from_number : c ≡ number_code → Number n ≡ ref_from b c n
      unfolding ref_from
      from_number e = rw (le-ltb c first_leaf h, ne_eqb c undetermined_code u, eq-eqb c number_code e)

      pub from_mark : (c ≡ number_code → ⊥) → Mark (c - first_mark) ≡ ref_from b c n
      unfolding ref_from
      from_mark d = rw (le-ltb c first_leaf h, ne_eqb c undetermined_code u, ne_eqb c number_code d)

  pub from_low : (sp : ℕ) → b < sp → Low sp (ref_from b c n)
  unfolding ref_from
  from_low sp h = go (ltb c first_leaf) (eqb c undetermined_code) (eqb c number_code)
    where
      go : (p q r : Bool) → Low sp (cond p (Object c b) (cond q Undetermined (cond r (Number n) (Mark (c - first_mark)))))
      go true q r = h
      go false true r = tt
      go false false true = tt
      go false false false = tt

  module _ (W : List ℕ) where
    pub from_held : Block W b → c < 256 → n < number_count → InRange (count_in W b) (ref_of c n) → Holds W (ref_from b c n)
    unfolding ref_from ref_of
    from_held bk l m h = go (ltb c first_leaf) (eqb c undetermined_code) (eqb c number_code) h
      where
        go : (p q r : Bool) → InRange (count_in W b) (cond p (obj c) (leaf (leaf_from c n))) → Holds W (cond p (Object c b) (cond q Undetermined (cond r (Number n) (Mark (c - first_mark)))))
        go true q r i = record { held = record { block = bk; low = i } }
        go false true r i = record { held = tt }
        go false false true i = record { held = m }
        go false false false i = record { held = omega arith }

    pub from_value : value_of W (ref_from b c n) ≡ canon (graph (ref_of c n) (objects_in W b))
    unfolding ref_from ref_of leaf_from
    from_value = go (ltb c first_leaf) (eqb c undetermined_code) (eqb c number_code)
      where
        go : (p q r : Bool) → value_of W (cond p (Object c b) (cond q Undetermined (cond r (Number n) (Mark (c - first_mark)))))
            ≡ canon (graph (cond p (obj c) (leaf (cond q undet (cond r (num n) (mark (c - first_mark)))))) (objects_in W b))
        go true q r = refl
        go false true r = sym (canon_leaf undet (objects_in W b))
        go false false true = sym (canon_leaf (num n) (objects_in W b))
        go false false false = sym (canon_leaf (mark (c - first_mark)) (objects_in W b))
