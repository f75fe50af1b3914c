-- An object of one block with its codes turned to codes of another, the host: if the host has it, they unfold to the same tree; if not, none of the host's does.
-- Not here: which codes they are (Sorts), objects added (Merges, Joins).
use Rattle.std.proofs.Common.{ℕ, zero, suc, ◌+◌, ◌-◌, ◌*◌, ◌<◌, ◌≤◌, arith, ◌≡◌, refl, sym, ap, ap₂, ◌∙◌, subst, List, [], ◌∷◌, length, get_or, take, length-take, get_or-take}
use native.Mathlib.Decide.{dec_lt}
use Rattle.std.proofs.Math.Option.{some, none-ne-some}
use Rattle.std.proofs.Math.ListN.{get_elem?, get_or-eq_default}
use Rattle.cofj.specs.Partial.{◌>>=◌}
use Rattle.cofj.specs.Values.{Ref, obj, leaf, mark, undet, num, Node, node, node_at, refs_at}
use Rattle.cofj.specs.Unfolding.{object, follow, Same, InRange}
use Rattle.cofj.proofs.Trees.{Pointwise, same_cls, same_count, same_child}
use Rattle.canon.specs.Figures.{object_size, head_size, code_count, numbers_at, first_leaf, undetermined_code, block_size}
use Rattle.canon.specs.Layout.{ref_of, code_of, number_at, ref_in, four, node_in, Packed, count_in, objects_in, Block, Inside}
use Rattle.canon.proofs.Nodes.{ref_object, ref_leaf, some_at, at_some, four_at_lem, length_nodes, at_nodes, code_is, count_is}
use Rattle.maker.specs.Adding.{Missed}
use Rattle.maker.specs.Merging.{Fits, Standing, CodeAs}
use Rattle.maker.specs.Sorting.{Fresh, code_at, TurnedAs}
use Rattle.maker.proofs.Adding.{refs_equal}

-- ---- codes that are no objects
pub leaf_low : (n c x : ℕ) → first_leaf ≤ c → InRange n (ref_of c x)
leaf_low n c x h = subst (InRange n) (sym (ref_leaf c x h)) tt

-- ---- an object with the same codes unfolds to the same tree
refs_follow : (ns ms : List Node) (rs ss : List Ref) → Pointwise (λ r s. Same ns r ms s) rs ss → (f : ℕ) (p : List ℕ) → get_elem? rs f >>= (λ s. follow ns s p) ≡ get_elem? ss f >>= (λ s. follow ms s p)
refs_follow ns ms [] [] a f p = refl
refs_follow ns ms [] (s ∷ ss) a f p = absurd a
refs_follow ns ms (r ∷ rs) [] a f p = absurd a
refs_follow ns ms (r ∷ rs) (s ∷ ss) a zero p = a.0 p
refs_follow ns ms (r ∷ rs) (s ∷ ss) a (suc f) p = refs_follow ns ms rs ss a.1 f p

refs_length : (R : Ref → Ref → Type 0) (rs ss : List Ref) → Pointwise R rs ss → length rs ≡ length ss
refs_length R [] [] a = refl
refs_length R [] (s ∷ ss) a = absurd a
refs_length R (r ∷ rs) [] a = absurd a
refs_length R (r ∷ rs) (s ∷ ss) a = ap suc (refs_length R rs ss a.1)

pub refs_take : (R : Ref → Ref → Type 0) (n : ℕ) (rs ss : List Ref) → Pointwise R rs ss → Pointwise R (take n rs) (take n ss)
refs_take R zero rs ss a = tt
refs_take R (suc n) [] [] a = tt
refs_take R (suc n) [] (s ∷ ss) a = absurd a
refs_take R (suc n) (r ∷ rs) [] a = absurd a
refs_take R (suc n) (r ∷ rs) (s ∷ ss) a = (a.0, refs_take R n rs ss a.1)

pub object_tree : (ns ms : List Node) (i k a : ℕ) (rs ss : List Ref) → node_at ns i ≡ node a rs → node_at ms k ≡ node a ss → Pointwise (λ r s. Same ns r ms s) rs ss → Same ns (obj i) ms (obj k)
object_tree ns ms i k a rs ss ei ek w [] =
    ap (λ (x : Node). some (object x.cls (length x.refs))) ei ∙ ap (λ (l : ℕ). some (object a l)) (refs_length (λ r s. Same ns r ms s) rs ss w)
    ∙ sym (ap (λ (x : Node). some (object x.cls (length x.refs))) ek)
object_tree ns ms i k a rs ss ei ek w (f ∷ p) =
    ap (λ (x : Node). get_elem? x.refs f >>= (λ s. follow ns s p)) ei ∙ refs_follow ns ms rs ss w f p
    ∙ sym (ap (λ (x : Node). get_elem? x.refs f >>= (λ s. follow ms s p)) ek)

pub take_all : (P : Ref → Type 0) (n : ℕ) (rs : List Ref) → ((f : ℕ) (r : Ref) → get_elem? rs f ≡ some r → P r) → (f : ℕ) (r : Ref) → get_elem? (take n rs) f ≡ some r → P r
take_all P zero rs h f r e = absurd (none-ne-some r e)
take_all P (suc n) [] h f r e = absurd (none-ne-some r e)
take_all P (suc n) (x ∷ rs) h zero r e = h 0 r e
take_all P (suc n) (x ∷ rs) h (suc f) r e = take_all P n rs (λ g. h (suc g)) f r e

four_all : (P : Ref → Type 0) (a b c d : Ref) → P a → P b → P c → P d → (f : ℕ) (r : Ref) → get_elem? (a ∷ b ∷ c ∷ d ∷ []) f ≡ some r → P r
four_all P a b c d pa pb pc pd zero r e = subst P (let z : a ≡ r = cc in z) pa
four_all P a b c d pa pb pc pd (suc zero) r e = subst P (let z : b ≡ r = cc in z) pb
four_all P a b c d pa pb pc pd (suc (suc zero)) r e = subst P (let z : c ≡ r = cc in z) pc
four_all P a b c d pa pb pc pd (suc (suc (suc zero))) r e = subst P (let z : d ≡ r = cc in z) pd
four_all P a b c d pa pb pc pd (suc (suc (suc (suc f)))) r e = absurd (none-ne-some r e)

pub low_refs : (T : List ℕ) (n : ℕ) → ((j : ℕ) → j < code_count → InRange n (ref_in T 0 j)) → (f : ℕ) (r : Ref) → get_elem? (node_in T 0).refs f ≡ some r → InRange n r
unfolding node_in
low_refs T n h = take_all (InRange n) (get_or T 1 0) _ (four_all (InRange n) _ _ _ _ (h 0 (omega arith)) (h 1 (omega arith)) (h 2 (omega arith)) (h 3 (omega arith)))

-- ---- the codes of an object, as references
module _ (W : List ℕ) (src x : ℕ) (ib : Inside W src x) where
  code_of_ref : (f : ℕ) → f < code_count → code_at W src x f ≡ code_of (get_or (refs_at (objects_in W src) x) f (leaf undet))
  unfolding objects_in
  code_of_ref f h = code_is W (block_size * src) (count_in W src) ib.block.packed x ib.low f h

  count_of : get_or W (block_size * src + object_size * x + 1) 0 ≡ length (refs_at (objects_in W src) x)
  unfolding objects_in
  count_of = count_is W (block_size * src) (count_in W src) ib.block.packed x ib.low

  -- a code that is an object's
  pub field_ref : (f : ℕ) → f < code_count → code_at W src x f < first_leaf → get_elem? (refs_at (objects_in W src) x) f ≡ some (obj (code_at W src x f))
  field_ref f h l = go (dec_lt f (length (refs_at (objects_in W src) x)))
    where
      is : (r : Ref) → code_of r < first_leaf → r ≡ obj (code_of r)
      is (obj i) u = refl
      is (leaf (mark k)) u = absurd (omega arith)
      is (leaf undet) u = absurd (omega arith)
      is (leaf (num n)) u = absurd (omega arith)

      go : Dec (f < length (refs_at (objects_in W src) x)) → get_elem? (refs_at (objects_in W src) x) f ≡ some (obj (code_at W src x f))
      go (yes u) =
          some_at (refs_at (objects_in W src) x) f u
          ∙ ap some (is (get_or (refs_at (objects_in W src) x) f (leaf undet)) (omega (arith, code_of_ref f h)) ∙ ap obj (sym (code_of_ref f h)))
      go (no u) =
          let z : code_at W src x f ≡ undetermined_code = code_of_ref f h ∙ ap code_of (get_or-eq_default (refs_at (objects_in W src) x) (leaf undet) {n = f} (omega (arith, u))) in
          absurd (omega arith)

  node_of : node_at (objects_in W src) x ≡ node (get_or W (block_size * src + object_size * x) 0) (take (get_or W (block_size * src + object_size * x + 1) 0) (four W (block_size * src + object_size * x)))
  unfolding objects_in node_in
  node_of = at_nodes W (block_size * src) (count_in W src) x ib.low

  ref_of_lem : (f : ℕ) (r : Ref) → f < code_count → get_elem? (refs_at (objects_in W src) x) f ≡ some r → r ≡ ref_in W (block_size * src + object_size * x) f
  ref_of_lem f r h e =
      let l : f < get_or W (block_size * src + object_size * x + 1) 0 = omega (arith, (at_some (refs_at (objects_in W src) x) f r e).1, count_of) in
      sym (at_some (refs_at (objects_in W src) x) f r e).0
      ∙ ap (λ (n : Node). get_or n.refs f (leaf undet)) node_of
      ∙ get_or-take (get_or W (block_size * src + object_size * x + 1) 0) (four W (block_size * src + object_size * x)) f (leaf undet) l ∙ four_at_lem W (block_size * src + object_size * x) f h

-- ---- an object turned
module _ (W : List ℕ) (src x host : ℕ) (B : List ℕ) (ib : Inside W src x) (bk : Block W host) (tu : TurnedAs W src x host B) where
  -- the numbers beside the codes are the same
  beside : (f : ℕ) → f < code_count → number_at B (0 + numbers_at + 2 * f) ≡ number_at W (block_size * src + object_size * x + numbers_at + 2 * f)
  beside f h =
      let za : 0 + numbers_at + 2 * f ≡ numbers_at + 2 * f = omega arith in
      let zb : block_size * src + object_size * x + numbers_at + 2 * f ≡ block_size * src + object_size * x + (numbers_at + 2 * f) = omega arith in
      let zc : numbers_at + 2 * f + 1 ≡ numbers_at + (2 * f + 1) = omega arith in
      let zd : block_size * src + object_size * x + (numbers_at + 2 * f) + 1 ≡ block_size * src + object_size * x + (numbers_at + (2 * f + 1)) = omega arith in
      rw (za, zb, zc, zd) (ap₂ {A = ℕ} {B = ℕ} (λ a b. a + 256 * b) (tu.rest (numbers_at + 2 * f) (omega arith) (omega arith)) (tu.rest (numbers_at + (2 * f + 1)) (omega arith) (omega arith)))

  pub turned_packed : Packed B 0
  turned_packed = record {
    count = omega (arith, tu.count, pk.count);
    spare = spare;
    plain = λ f h d. beside f h ∙ pk.plain f h (λ e. d ((tu.code f h).leaf (omega arith) ∙ e));
    low = λ f h.
        let za : 0 + numbers_at + 2 * f ≡ numbers_at + 2 * f = omega arith in
        let zb : block_size * src + object_size * x + numbers_at + 2 * f ≡ block_size * src + object_size * x + (numbers_at + 2 * f) = omega arith in
        omega (arith, ap (λ (q : ℕ). get_or B q 0) za, tu.rest (numbers_at + 2 * f) (omega arith) (omega arith), ap (λ (q : ℕ). get_or W q 0) zb, pk.low f h);
    blank = λ k l m. let z : 0 + k ≡ k = omega arith in rw z (tu.rest k (omega arith) m ∙ pk.blank k l m);
  }
    where
      pk : Packed W (block_size * src + object_size * x)
      pk = ib.block.packed x ib.low

      spare : (k : ℕ) → 2 + get_or B (0 + 1) 0 ≤ k → k < numbers_at → get_or B (0 + k) 0 ≡ undetermined_code
      spare k l m =
          let z : 2 + (k - 2) ≡ k = omega arith in
          let y : 0 + k ≡ k = omega arith in
          let v : block_size * src + object_size * x + head_size + (k - 2) ≡ block_size * src + object_size * x + k = omega arith in
          let s : code_at W src x (k - 2) ≡ undetermined_code = ap (λ (q : ℕ). get_or W q 0) v ∙ pk.spare k (omega (arith, tu.count)) m in
          ap (λ (q : ℕ). get_or B q 0) (y ∙ sym z) ∙ (tu.code (k - 2) (omega arith)).leaf (omega arith) ∙ s

  pub turned-fits : Fits W host B
  unfolding ref_in
  turned-fits = record { packed = turned_packed; low = low_refs B (count_in W host) (λ j l. (tu.code j l).low _) }

  -- its fields in the host
  ref_same : (f : ℕ) → f < code_count → Same (objects_in W src) (ref_in W (block_size * src + object_size * x) f) (objects_in W host) (ref_in B 0 f)
  unfolding ref_in
  ref_same f h p = (tu.code f h).same _ p ∙ ap (λ (y : ℕ). follow (objects_in W host) (ref_of (get_or B (2 + f) 0) y) p) (sym (beside f h))

  -- the host has it
  pub turned_same : (r : ℕ) → Standing W host B r → CodeAs W src x host r
  unfolding node_in objects_in
  turned_same r st =
      let ro : (y : ℕ) → ref_of r y ≡ obj r = λ y. ref_object r y (omega (arith, st.low, bk.small)) in
      let xo : (y : ℕ) → ref_of x y ≡ obj x = λ y. ref_object x y (omega (arith, ib.low, ib.block.small)) in
      record {
        low = λ y. subst (InRange (count_in W host)) (sym (ro y)) st.low;
        leaf = λ l. absurd (omega (arith, ib.low, ib.block.small));
        same = λ y p. ap (λ (q : Ref). follow (objects_in W src) q p) (xo y)
            ∙ object_tree (objects_in W src) (objects_in W host) x r (get_or B 0 0) _ _
            (node_of W src x ib ∙ ap₂ {A = ℕ} {B = ℕ} (λ c n. node c (take n (four W (block_size * src + object_size * x)))) (sym tu.cls) (sym tu.count))
            st.is
            (refs_take (λ q s. Same (objects_in W src) q (objects_in W host) s) (get_or B 1 0) _ _
            (ref_same 0 (omega arith), (ref_same 1 (omega arith), (ref_same 2 (omega arith), (ref_same 3 (omega arith), tt))))) p
            ∙ ap (λ (q : Ref). follow (objects_in W host) q p) (sym (ro y));
      }

  -- the host has it not
  abbrev ps : List Node
  ps = objects_in W src

  abbrev ns : List Node
  ns = objects_in W host

  size : length ns ≡ count_in W host
  unfolding objects_in
  size = length_nodes W (block_size * host) (count_in W host)

  count_low : get_or B 1 0 ≤ code_count
  count_low = turned_packed.count

  fields : length (node_in B 0).refs ≡ get_or B 1 0
  unfolding node_in
  fields = omega (arith, count_low, length-take (get_or B 1 0) (four B 0))

  ref_turned : (f : ℕ) (r : Ref) → get_elem? (node_in B 0).refs f ≡ some r → (f < get_or B 1 0) × (r ≡ ref_in B 0 f)
  unfolding node_in
  ref_turned f r e =
      let l : f < get_or B 1 0 = omega (arith, (at_some (take (get_or B 1 0) (four B 0)) f r e).1, count_low, length-take (get_or B 1 0) (four B 0)) in
      (l, sym (at_some (take (get_or B 1 0) (four B 0)) f r e).0 ∙ get_or-take (get_or B 1 0) (four B 0) f (leaf undet) l ∙ four_at_lem B 0 f (omega (arith, count_low)))

  module _ (y : ℕ) (l : y < count_in W host) (e : Same ps (obj x) ns (obj y)) where
    child : (f : ℕ) (r s : Ref) → get_elem? (node_in B 0).refs f ≡ some r → get_elem? (refs_at ns y) f ≡ some s → Same ns r ns s
    child f r s er es p =
        let h : f < code_count = omega (arith, (ref_turned f r er).0, count_low) in
        let q : Ref = get_or (refs_at ps x) f (leaf undet) in
        let eq : get_elem? (refs_at ps x) f ≡ some q = some_at (refs_at ps x) f (omega (arith, (ref_turned f r er).0, tu.count, count_of W src x ib)) in
        ap (λ (u : Ref). follow ns u p) (ref_turned f r er).1 ∙ sym (ref_same f h p) ∙ ap (λ (u : Ref). follow ps u p) (sym (ref_of_lem W src x ib f q h eq))
        ∙ same_child ps ns (obj x) (obj y) e f q s eq es p

    refs : refs_at ns y ≡ (node_in B 0).refs
    refs =
        sym (refs_equal ns bk.distinct (node_in B 0).refs (refs_at ns y)
        (λ f r er. subst (λ (m : ℕ). InRange m r) (sym size) (turned-fits.low f r er)) (bk.whole.inner y)
        (fields ∙ tu.count ∙ count_of W src x ib ∙ same_count ps ns x y e) child)

    class : (node_at ns y).cls ≡ (node_in B 0).cls
    unfolding node_in
    class = sym (same_cls ps ns x y e) ∙ ap (λ (n : Node). n.cls) (node_of W src x ib) ∙ sym tu.cls

    is : node_in W (block_size * host + object_size * y) ≡ node_in B 0
    unfolding objects_in
    is = sym (at_nodes W (block_size * host) (count_in W host) y l) ∙ ap₂ node class refs

  pub turned_fresh : Missed W host B (count_in W host) → Fresh (objects_in W src) (objects_in W host) (count_in W host) x
  turned_fresh ms = record { none = λ y l e. ms.none y l (is y l e) }
