-- The fields of an object's line and the references that they list: a field has one byte or three, and bytes read back in one way.
-- Not here: whole lines (ReportLines).
use Prim.Native.Nat.{ℕ, zero, suc, ◌+◌, ◌*◌, ◌/◌, ◌%◌, ◌≤◌}
use native.Mathlib.Nat.{not-suc-le-zero}
use native.Mathlib.Omega.{arith}
use mathlib.Core.Path.{◌≡◌, refl, sym, ap, ap₂, ◌∙◌, subst}
use mathlib.Core.Bool.{Bool, true, false}
use mathlib.Core.List.{List, [], ◌∷◌, ◌++◌, append_assoc}
use mathlib.Core.Option.{Option, none, some, none-ne-some}
use lib.Dec.{eqb, ltb}
use lib.ListN.{length}
use borrow.Author.Tests.{eqb-true, ne_eqb, ltb-true, lt-ltb}
use Rattle.cofj.specs.Limits.{part_count, number_class}
use Rattle.cofj.specs.Partial.{◌>>=◌}
use Rattle.cofj.specs.Frames.{Got, got, two_bytes}
use Rattle.cofj.specs.Values.{Ref, obj, leaf, mark, undet, num}
use Rattle.cofj.specs.Unfolding.{InRange}
use Rattle.cofj.specs.Formed.{AllIn, RefBelow}
use Rattle.cofj.specs.Report.{ref_bytes, field_bytes}
use Rattle.cofj.specs.ReportForm.{ref_of, ref_at, refs_of}
use Rattle.cofj.proofs.Steps.{pair}
use Rattle.cofj.proofs.TextRound.{Bytes}
use Rattle.cofj.proofs.Partial.{opt_bind}

-- every reference of a node is in range
abbrev pub RefsIn : ℕ → List Ref → Type 0
RefsIn n rs = AllIn (InRange n) rs

-- ---- from references to their bytes and back
module _ (n : ℕ) (small : n ≤ part_count) where
  one_round : (b : ℕ) (r : Ref) (bs : List ℕ) → (b ≡ number_class → ⊥) → ref_of n b ≡ some r → ref_at n (b ∷ bs) ≡ got r bs
  unfolding ref_at
  one_round b r bs h e =
      ap (λ (x : Bool). elim x as (λ _. Option (Got Ref)) [ true ↦ two_bytes bs >>= (λ x. got (leaf (num x.item)) x.rest) | false ↦ ref_of n b >>= (λ r. got r bs) ])
      (ne_eqb b number_class h)
      ∙ ap (λ (o : Option Ref). o >>= λ r. got r bs) e

  ref_round : (r : Ref) (bs : List ℕ) → InRange n r → RefBelow 0 r → ref_at n (ref_bytes r ++ bs) ≡ got r bs
  unfolding ref_at two_bytes
  ref_round (obj i) bs h m = one_round i (obj i) bs (λ e. omega arith) (rw (lt-ltb i n h, ref_of))
  ref_round (leaf (mark x)) bs h m = absurd (not-suc-le-zero m)
  ref_round (leaf undet) bs h m = one_round 0xFF (leaf undet) bs (λ e. omega arith) (go (ltb 0xFF n) refl)
    where
      go : (b : Bool) → ltb 0xFF n ≡ b → ◌≡◌ {A = Option Ref} (elim b [ true ↦ some (obj 0xFF) | false ↦ elim (eqb 0xFF 0xFF) [ true ↦ some (leaf undet) | false ↦ none ] ]) (some (leaf undet))
      go true e = let z = ltb-true 0xFF n e in absurd (omega arith)
      go false e = refl
  ref_round (leaf (num k)) bs h m = ap (λ (x : ℕ). got (leaf (num x)) bs) (let z : 256 * (k / 256) + k % 256 ≡ k = omega arith in z)

  pub refs_round : (rs : List Ref) (bs : List ℕ) → RefsIn n rs → AllIn (RefBelow 0) rs → refs_of n (length rs) (field_bytes rs ++ bs) ≡ got rs bs
  unfolding refs_of
  refs_round [] bs h m = refl
  refs_round (r ∷ rs) bs h m =
      ap (λ (l : List ℕ). ref_at n l >>= λ x. refs_of n (length rs) x.rest >>= λ xs. got (x.item ∷ xs.item) xs.rest) (append_assoc (ref_bytes r) (field_bytes rs) bs)
      ∙ ap (λ (o : Option (Got Ref)). o >>= λ x. refs_of n (length rs) x.rest >>= λ xs. got (x.item ∷ xs.item) xs.rest) (ref_round r (field_bytes rs ++ bs) h.0 m.0)
      ∙ ap (λ (o : Option (Got (List Ref))). o >>= λ xs. got (r ∷ xs.item) xs.rest) (refs_round rs bs h.1 m.1)

-- ---- from bytes to the references and back
-- a reference that was read from the front of these bytes, and the bytes after it
record ReadRef (n : ℕ) (bs : List ℕ) (g : Got Ref) : Type 0 where
  ranged : InRange n g.item
  below : RefBelow 0 g.item
  line : ref_bytes g.item ++ g.rest ≡ bs
  rest : Bytes g.rest

one_back : (n b : ℕ) (bs : List ℕ) (r : Ref) → Bytes bs → ref_of n b ≡ some r → ReadRef n (b ∷ bs) (pair r bs)
one_back n b bs r h e = go (ltb b n) refl (eqb b 0xFF) refl e
  where
    go : (x : Bool) → ltb b n ≡ x → (y : Bool) → eqb b 0xFF ≡ y → ◌≡◌ {A = Option Ref} (elim x [ true ↦ some (obj b) | false ↦ elim y [ true ↦ some (leaf undet) | false ↦ none ] ]) (some r)
        → ReadRef n (b ∷ bs) (pair r bs)
    go true p y q z = subst (λ (s : Ref). ReadRef n (b ∷ bs) (pair s bs)) (let w : obj b ≡ r = cc in w) (record { ranged = ltb-true b n p; below = tt; line = refl; rest = h })
    go false p true q z =
        subst (λ (s : Ref). ReadRef n (b ∷ bs) (pair s bs)) (let w : leaf undet ≡ r = cc in w)
        (record { ranged = tt; below = tt; line = ap (λ (x : ℕ). x ∷ bs) (sym (eqb-true b 0xFF q)); rest = h })
    go false p false q z = absurd (none-ne-some r z)

number_back : (n : ℕ) (bs : List ℕ) (g : Got ℕ) → Bytes bs → two_bytes bs ≡ some g → ReadRef n (number_class ∷ bs) (pair (leaf (num g.item)) g.rest)
unfolding two_bytes
number_back n [] g h e = absurd (none-ne-some g e)
number_back n (a ∷ []) g h e = absurd (none-ne-some g e)
number_back n (a ∷ b ∷ bs) g h e =
    let p = h.0 in
    let q = h.1.0 in
    subst (λ (x : Got ℕ). ReadRef n (number_class ∷ a ∷ b ∷ bs) (pair (leaf (num x.item)) x.rest)) (let w : pair (256 * a + b) bs ≡ g = cc in w)
    (record {
      ranged = tt;
      below = omega arith;
      line = ap₂ (λ (x y : ℕ). number_class ∷ x ∷ y ∷ bs) (let z : (256 * a + b) / 256 ≡ a = omega arith in z) (let z : (256 * a + b) % 256 ≡ b = omega arith in z);
      rest = h.1.1;
    })

ref_back : (n : ℕ) (bs : List ℕ) (g : Got Ref) → Bytes bs → ref_at n bs ≡ some g → ReadRef n bs g
unfolding ref_at
ref_back n [] g h e = absurd (none-ne-some g e)
ref_back n (b ∷ bs) g h e = go (eqb b number_class) refl e
  where
    go : (x : Bool) → eqb b number_class ≡ x
        → ◌≡◌ {A = Option (Got Ref)} (elim x [ true ↦ two_bytes bs >>= (λ x. got (leaf (num x.item)) x.rest) | false ↦ ref_of n b >>= (λ r. got r bs) ]) (some g) → ReadRef n (b ∷ bs) g
    go true p z =
        let a = opt_bind (two_bytes bs) _ g z in
        let y : some (pair (leaf (num a.0.item)) a.0.rest) ≡ some g = a.2 in
        subst (λ (c : ℕ). ReadRef n (c ∷ bs) g) (sym (eqb-true b number_class p))
        (subst (ReadRef n (number_class ∷ bs)) (let w : pair (leaf (num a.0.item)) a.0.rest ≡ g = cc in w) (number_back n bs a.0 h.1 a.1))
    go false p z =
        let a = opt_bind (ref_of n b) _ g z in
        let y : some (pair a.0 bs) ≡ some g = a.2 in
        subst (ReadRef n (b ∷ bs)) (let w : pair a.0 bs ≡ g = cc in w) (one_back n b bs a.0 h.1 a.1)

-- so many of them
pub record ReadRefs (n m : ℕ) (bs : List ℕ) (g : Got (List Ref)) : Type 0 where
  pub ranged : RefsIn n g.item
  pub below : AllIn (RefBelow 0) g.item
  pub count : length g.item ≡ m
  pub line : field_bytes g.item ++ g.rest ≡ bs

pub refs_back : (n m : ℕ) (bs : List ℕ) (g : Got (List Ref)) → Bytes bs → refs_of n m bs ≡ some g → ReadRefs n m bs g
unfolding refs_of
refs_back n zero bs g h e = subst (ReadRefs n zero bs) (let w : pair [] bs ≡ g = cc in w) (record { ranged = tt; below = tt; count = refl; line = refl })
refs_back n (suc m) bs g h e =
    let a = opt_bind (ref_at n bs) _ g e in
    let c = opt_bind (refs_of n m a.0.rest) _ g a.2 in
    let r = ref_back n bs a.0 h a.1 in
    let rs = refs_back n m a.0.rest c.0 r.rest c.1 in
    let y : some (pair (a.0.item ∷ c.0.item) c.0.rest) ≡ some g = c.2 in
    subst (ReadRefs n (suc m) bs) (let w : pair (a.0.item ∷ c.0.item) c.0.rest ≡ g = cc in w)
    (record {
      ranged = (r.ranged, rs.ranged);
      below = (r.below, rs.below);
      count = ap suc rs.count;
      line = append_assoc (ref_bytes a.0.item) (field_bytes c.0.item) c.0.rest ∙ ap (λ (l : List ℕ). ref_bytes a.0.item ++ l) rs.line ∙ r.line;
    })
