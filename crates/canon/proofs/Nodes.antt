-- Objects and their bytes: each gives the other. Passes on the laws of codes (Codes) and of the last bytes of a block (Ends). Not here: bytes read as numbers (Digits).
use Rattle.std.proofs.Common.{ℕ, zero, suc, ◌+◌, ◌-◌, ◌*◌, ◌/◌, ◌%◌, ◌<◌, ◌≤◌, not-suc-le-zero, le_of_suc-le-suc, arith, ◌≡◌, refl, sym, ap, ap₂, ◌∙◌, subst, Bool, true, false, cond, List, [], ◌∷◌, ◌++◌, eqb, ltb, length, get_or, drop, length-take, length-drop, get_or-take, get_or-drop, length-take-le, ext_get_or, lt-ltb, le-ltb, eq-eqb, ne_eqb, eqb-true}
use native.Mathlib.Decide.{dec_lt, ℕ_discrete}
use Rattle.std.proofs.Math.Bool.{false≢true}
use Rattle.std.proofs.Math.Option.{some}
use Rattle.std.proofs.Math.ListN.{get_elem?, get_or-eq_default}
use Rattle.cofj.specs.Values.{Ref, leaf, undet, Node, graph, node_at, refs_at, eq_nats, eq_node}
use Rattle.cofj.specs.Unfolding.{InRange, Whole}
use Rattle.cofj.proofs.Basics.{eq_nats_true, eq_node_true, eq_node_refl}
use Rattle.canon.specs.Figures.{object_size, head_size, code_count, numbers_at, first_leaf, undetermined_code}
use Rattle.canon.specs.Layout.{ref_of, code_of, number_beside, number_at, ref_in, four, node_in, nodes_in, Packed, Alike, alike_at, part}
use Rattle.canon.proofs.Runs.{eq_nats_same, tests_same}
pub use Rattle.canon.proofs.Codes.{ref_object, ref_leaf, ref_undet, ref_number, ref_mark, Code, is_object, is_undet, is_number, is_mark, code_view, code_ref, number_ref, object_low, some_at, at_some, four_at_lem}
pub use Rattle.canon.proofs.Ends.{ended_size, ended_below, ended-above, ended-count, ended_level, ended_reach}

-- ---- an object's bytes
-- byte k of the numbers of references
unfoldable pub digit_of : List Ref → ℕ → ℕ
digit_of rs k = cond (eqb (k % 2) 0) (number_beside (get_or rs (k / 2) (leaf undet)) % 256) (number_beside (get_or rs (k / 2) (leaf undet)) / 256)

unfoldable pub byte_of : Node → ℕ → ℕ
byte_of x zero = x.cls
byte_of x (suc zero) = length x.refs
byte_of x (suc (suc f)) = cond (ltb f code_count) (code_of (get_or x.refs f (leaf undet))) (digit_of x.refs (f - code_count))

module _ (S : List ℕ) (at : ℕ) (pk : Packed S at) where
  refs_count : length (node_in S at).refs ≡ get_or S (at + 1) 0
  unfolding node_in
  refs_count = omega (arith, pk.count, length-take (get_or S (at + 1) 0) (four S at))

  -- a field that there is, and one that there is not
  ref_is : (f : ℕ) → f < get_or S (at + 1) 0 → get_or (node_in S at).refs f (leaf undet) ≡ ref_in S at f
  unfolding node_in
  ref_is f h = get_or-take (get_or S (at + 1) 0) (four S at) f (leaf undet) h ∙ four_at_lem S at f (omega (arith, pk.count))

  ref_not : (f : ℕ) → get_or S (at + 1) 0 ≤ f → get_or (node_in S at).refs f (leaf undet) ≡ leaf undet
  ref_not f h = get_or-eq_default (node_in S at).refs (leaf undet) {n = f} (omega (arith, refs_count))

  spare_code : (f : ℕ) → get_or S (at + 1) 0 ≤ f → f < code_count → get_or S (at + head_size + f) 0 ≡ undetermined_code
  spare_code f h k = let z : at + head_size + f ≡ at + (head_size + f) = omega arith in rw z (pk.spare (head_size + f) (omega arith) (omega arith))

  pub slot_code : (f : ℕ) → f < code_count → code_of (get_or (node_in S at).refs f (leaf undet)) ≡ get_or S (at + head_size + f) 0
  unfolding ref_in
  slot_code f h = go (dec_lt f (get_or S (at + 1) 0))
    where
      go : Dec (f < get_or S (at + 1) 0) → code_of (get_or (node_in S at).refs f (leaf undet)) ≡ get_or S (at + head_size + f) 0
      go (yes k) = ap code_of (ref_is f k) ∙ code_ref (get_or S (at + head_size + f) 0) (number_at S (at + numbers_at + 2 * f))
      go (no k) = ap code_of (ref_not f (omega (arith, k))) ∙ sym (spare_code f (omega (arith, k)) h)

  pub slot_number : (f : ℕ) → f < code_count → number_beside (get_or (node_in S at).refs f (leaf undet)) ≡ number_at S (at + numbers_at + 2 * f)
  unfolding ref_in
  slot_number f h = go (dec_lt f (get_or S (at + 1) 0))
    where
      go : Dec (f < get_or S (at + 1) 0) → number_beside (get_or (node_in S at).refs f (leaf undet)) ≡ number_at S (at + numbers_at + 2 * f)
      go (yes k) = ap number_beside (ref_is f k) ∙ number_ref (get_or S (at + head_size + f) 0) (number_at S (at + numbers_at + 2 * f)) (pk.plain f h)
      go (no k) = ap number_beside (ref_not f (omega (arith, k))) ∙ sym (pk.plain f h (λ z. omega (arith, spare_code f (omega (arith, k)) h)))

  -- byte k of the numbers
  digit : (k : ℕ) → k < object_size - numbers_at → get_or S (at + (numbers_at + k)) 0 ≡ digit_of (node_in S at).refs k
  unfolding digit_of
  digit k h = go (dec_lt (k / 2) code_count) (ℕ_discrete (k % 2) 0)
    where
      go : Dec (k / 2 < code_count) → Dec (k % 2 ≡ 0) → get_or S (at + (numbers_at + k)) 0 ≡ digit_of (node_in S at).refs k
      go (yes l) (yes e) =
          let z : at + (numbers_at + k) ≡ at + numbers_at + 2 * (k / 2) = omega arith in
          rw (eq-eqb (k % 2) 0 e, slot_number (k / 2) l, z) (omega (arith, pk.low (k / 2) l))
      go (yes l) (no e) =
          let z : at + (numbers_at + k) ≡ at + numbers_at + 2 * (k / 2) + 1 = omega (arith, e) in
          rw (ne_eqb (k % 2) 0 e, slot_number (k / 2) l, z) (omega (arith, pk.low (k / 2) l))
      go (no l) (yes e) = rw (eq-eqb (k % 2) 0 e, ref_not (k / 2) (omega (arith, l, pk.count))) (pk.blank (numbers_at + k) (omega (arith, l)) (omega arith))
      go (no l) (no e) = rw (ne_eqb (k % 2) 0 e, ref_not (k / 2) (omega (arith, l, pk.count))) (pk.blank (numbers_at + k) (omega (arith, l)) (omega arith))

  pub packed_byte : (k : ℕ) → k < object_size → get_or S (at + k) 0 ≡ byte_of (node_in S at) k
  unfolding byte_of node_in
  packed_byte zero h = let e : at + 0 ≡ at = omega arith in rw e
  packed_byte (suc zero) h = sym refs_count
  packed_byte (suc (suc f)) h = go (dec_lt f code_count)
    where
      go : Dec (f < code_count) → get_or S (at + suc (suc f)) 0 ≡ byte_of (node_in S at) (suc (suc f))
      go (yes l) = let z : at + suc (suc f) ≡ at + head_size + f = omega arith in rw (z, lt-ltb f code_count l) (sym (slot_code f l))
      go (no l) = let z : at + suc (suc f) ≡ at + (numbers_at + (f - code_count)) = omega (arith, l) in rw (z, le-ltb f code_count (omega (arith, l))) (digit (f - code_count) (omega (arith, l)))

  -- an object whose references are below n has no code of another object
  pub field_low : (n : ℕ) → ((f : ℕ) (r : Ref) → get_elem? (node_in S at).refs f ≡ some r → InRange n r) → (f : ℕ) → f < code_count → get_or S (at + head_size + f) 0 < first_leaf → get_or S (at + head_size + f) 0 < n
  field_low n inner f h l = go (get_or (node_in S at).refs f (leaf undet)) refl (dec_lt f (length (node_in S at).refs))
    where
      go : (r : Ref) → get_or (node_in S at).refs f (leaf undet) ≡ r → Dec (f < length (node_in S at).refs) → get_or S (at + head_size + f) 0 < n
      go r e (yes k) = omega (arith, slot_code f h, ap code_of e, object_low n r (inner f r (some_at (node_in S at).refs f k ∙ ap some e)) (omega (arith, slot_code f h, ap code_of e)))
      go r e (no k) = absurd (omega (arith, slot_code f h, ap code_of (get_or-eq_default (node_in S at).refs (leaf undet) {n = f} (omega (arith, k)))))

module _ (A B : List ℕ) where
  -- the bytes of two objects
  abbrev SameObject : ℕ → ℕ → Type 0
  SameObject a b = (k : ℕ) → k < object_size → get_or A (a + k) 0 ≡ get_or B (b + k) 0

  same_code : (a b : ℕ) → SameObject a b → (f : ℕ) → f < code_count → get_or A (a + head_size + f) 0 ≡ get_or B (b + head_size + f) 0
  same_code a b h f l =
      let za : a + head_size + f ≡ a + (head_size + f) = omega arith in
      let zb : b + head_size + f ≡ b + (head_size + f) = omega arith in
      rw (za, zb) (h (head_size + f) (omega arith))

  same_low : (a b : ℕ) → SameObject a b → (f : ℕ) → f < code_count → get_or A (a + numbers_at + 2 * f) 0 ≡ get_or B (b + numbers_at + 2 * f) 0
  same_low a b h f l =
      let za : a + numbers_at + 2 * f ≡ a + (numbers_at + 2 * f) = omega arith in
      let zb : b + numbers_at + 2 * f ≡ b + (numbers_at + 2 * f) = omega arith in
      rw (za, zb) (h (numbers_at + 2 * f) (omega arith))

  same_number : (a b : ℕ) → SameObject a b → (f : ℕ) → f < code_count → number_at A (a + numbers_at + 2 * f) ≡ number_at B (b + numbers_at + 2 * f)
  same_number a b h f l =
      let za : a + numbers_at + 2 * f + 1 ≡ a + (numbers_at + 2 * f + 1) = omega arith in
      let zb : b + numbers_at + 2 * f + 1 ≡ b + (numbers_at + 2 * f + 1) = omega arith in
      rw (same_low a b h f l, za, zb, h (numbers_at + 2 * f + 1) (omega arith))

  same_ref : (a b : ℕ) → SameObject a b → (f : ℕ) → f < code_count → ref_in A a f ≡ ref_in B b f
  unfolding ref_in
  same_ref a b h f l = ap₂ ref_of (same_code a b h f l) (same_number a b h f l)

  pub node_same : (a b : ℕ) → SameObject a b → node_in A a ≡ node_in B b
  unfolding node_in
  node_same a b h =
      let za : a + 0 ≡ a = omega arith in
      let zb : b + 0 ≡ b = omega arith in
      let e0 : get_or A a 0 ≡ get_or B b 0 = rw (za, zb) at (h 0 (omega arith)) in
      rw (e0, h 1 (omega arith), same_ref a b h 0 (omega arith), same_ref a b h 1 (omega arith), same_ref a b h 2 (omega arith), same_ref a b h 3 (omega arith))

  pub packed_same : (a b : ℕ) → SameObject a b → Packed B b → Packed A a
  packed_same a b h p = record {
    count = rw (h 1 (omega arith)) p.count;
    spare = λ k l m. h k (omega arith) ∙ p.spare k (omega (arith, h 1 (omega arith))) m;
    plain = λ f l d. same_number a b h f l ∙ p.plain f l (λ z. d (same_code a b h f l ∙ z));
    low = λ f l. rw (same_low a b h f l) (p.low f l);
    blank = λ k l m. h k m ∙ p.blank k l m;
  }

  pub nodes_same : (n a b : ℕ) → ((p : ℕ) → p < object_size * n → get_or A (a + p) 0 ≡ get_or B (b + p) 0) → nodes_in A a n ≡ nodes_in B b n
  unfolding nodes_in
  nodes_same zero a b h = refl
  nodes_same (suc n) a b h =
      ap₂ {C = List Node} ◌∷◌ (node_same a b (λ k l. h k (omega arith)))
      (nodes_same n (a + object_size) (b + object_size) (λ p l.
      let ea : a + object_size + p ≡ a + (object_size + p) = omega arith in
      let eb : b + object_size + p ≡ b + (object_size + p) = omega arith in
      rw (ea, eb) (h (object_size + p) (omega arith))))

pub length_nodes : (S : List ℕ) (a n : ℕ) → length (nodes_in S a n) ≡ n
unfolding nodes_in
length_nodes S a zero = refl
length_nodes S a (suc n) = ap suc (length_nodes S (a + object_size) n)

pub more_nodes : (S : List ℕ) (n a m : ℕ) → nodes_in S a (n + m) ≡ nodes_in S a n ++ nodes_in S (a + object_size * n) m
unfolding nodes_in
more_nodes S zero a m = let e : a + object_size * 0 ≡ a = omega arith in let z : 0 + m ≡ m = omega arith in rw (e, z)
more_nodes S (suc n) a m =
    let e : a + object_size * suc n ≡ a + object_size + object_size * n = omega arith in
    let z : suc n + m ≡ suc (n + m) = omega arith in
    rw (e, z, more_nodes S n (a + object_size) m)

pub at_nodes : (S : List ℕ) (a n i : ℕ) → i < n → node_at (nodes_in S a n) i ≡ node_in S (a + object_size * i)
unfolding nodes_in
at_nodes S a zero i h = absurd (not-suc-le-zero h)
at_nodes S a (suc n) zero h = let e : a + object_size * 0 ≡ a = omega arith in rw e
at_nodes S a (suc n) (suc i) h =
    let e : a + object_size * suc i ≡ a + object_size + object_size * i = omega arith in
    rw e (at_nodes S (a + object_size) n i (le_of_suc-le-suc h))

-- n packed objects from a place on
abbrev pub AllPacked : List ℕ → ℕ → ℕ → Type 0
AllPacked S a n = (i : ℕ) → i < n → Packed S (a + object_size * i)

pub bytes_same : (A B : List ℕ) (n a b : ℕ) → AllPacked A a n → AllPacked B b n → nodes_in A a n ≡ nodes_in B b n
    → (p : ℕ) → p < object_size * n → get_or A (a + p) 0 ≡ get_or B (b + p) 0
bytes_same A B n a b pa pb e p h =
    let i : p / object_size < n = omega arith in
    let ea : a + p ≡ a + object_size * (p / object_size) + p % object_size = omega arith in
    let eb : b + p ≡ b + object_size * (p / object_size) + p % object_size = omega arith in
    let en : node_in A (a + object_size * (p / object_size)) ≡ node_in B (b + object_size * (p / object_size)) = sym (at_nodes A a n (p / object_size) i) ∙ ap (λ (l : List Node). node_at l (p / object_size)) e ∙ at_nodes B b n (p / object_size) i in
    rw (ea, eb, packed_byte A (a + object_size * (p / object_size)) (pa (p / object_size) i) (p % object_size) (omega arith), packed_byte B (b + object_size * (p / object_size)) (pb (p / object_size) i) (p % object_size) (omega arith), en)

-- an object of them by its bytes
module _ (S : List ℕ) (base n : ℕ) (pk : AllPacked S base n) (x : ℕ) (hx : x < n) where
  byte : (k : ℕ) → k < object_size → get_or S (base + object_size * x + k) 0 ≡ byte_of (node_at (nodes_in S base n) x) k
  byte k h = packed_byte S (base + object_size * x) (pk x hx) k h ∙ ap (λ (o : Node). byte_of o k) (sym (at_nodes S base n x hx))

  pub class_is : get_or S (base + object_size * x) 0 ≡ (node_at (nodes_in S base n) x).cls
  unfolding byte_of
  class_is = let z : base + object_size * x + 0 ≡ base + object_size * x = omega arith in rw z at (byte 0 (omega arith))

  pub count_is : get_or S (base + object_size * x + 1) 0 ≡ length (refs_at (nodes_in S base n) x)
  unfolding byte_of
  count_is = byte 1 (omega arith)

  at_node : node_in S (base + object_size * x) ≡ node_at (nodes_in S base n) x
  at_node = sym (at_nodes S base n x hx)

  pub code_is : (f : ℕ) → f < code_count → get_or S (base + object_size * x + head_size + f) 0 ≡ code_of (get_or (refs_at (nodes_in S base n) x) f (leaf undet))
  code_is f h = sym (slot_code S (base + object_size * x) (pk x hx) f h) ∙ ap (λ (o : Node). code_of (get_or o.refs f (leaf undet))) at_node

  pub number_is : (f : ℕ) → f < code_count → number_at S (base + object_size * x + numbers_at + 2 * f) ≡ number_beside (get_or (refs_at (nodes_in S base n) x) f (leaf undet))
  number_is f h = sym (slot_number S (base + object_size * x) (pk x hx) f h) ∙ ap (λ (o : Node). number_beside (get_or o.refs f (leaf undet))) at_node

  pub four_fields : length (refs_at (nodes_in S base n) x) ≤ 4
  four_fields = omega (arith, count_is, (pk x hx).count)

  -- objects that refer to one another only refer to none from n on
  pub code_low : Whole (graph (leaf undet) (nodes_in S base n)) → (f : ℕ) → f < code_count → get_or S (base + object_size * x + head_size + f) 0 < first_leaf → get_or S (base + object_size * x + head_size + f) 0 < n
  code_low w = field_low S (base + object_size * x) (pk x hx) n (λ f r e. subst (λ (k : ℕ). InRange k r) (length_nodes S base n) (w.inner x f r (ap (λ (o : Node). get_elem? o.refs f) (at_nodes S base n x hx) ∙ e)))

-- ---- two objects side by side
module _ (S : List ℕ) (p q : ℕ) where
  pub alike_not : ((get_or S p 0 ≡ get_or S q 0) → ⊥) → false ≡ alike_at S p q
  unfolding alike_at
  alike_not d = rw (ne_eqb _ _ d)

  pub alike_by_count : get_or S p 0 ≡ get_or S q 0 → eqb (get_or S (p + 1) 0) (get_or S (q + 1) 0) ≡ alike_at S p q
  unfolding alike_at
  alike_by_count e = rw (eq-eqb _ _ e)

  module _ (r : Bool) (er : r ≡ alike_at S p q) where
    pub alike_yes : r ≡ true → Alike S p q
    unfolding alike_at
    alike_yes e = go (eqb (get_or S p 0) (get_or S q 0)) refl (sym er ∙ e)
      where
        go : (t : Bool) → eqb (get_or S p 0) (get_or S q 0) ≡ t → cond t (eqb (get_or S (p + 1) 0) (get_or S (q + 1) 0)) false ≡ true → Alike S p q
        go true z h = record { cls = eqb-true _ _ z; count = eqb-true _ _ h }
        go false z h = absurd (false≢true h)

    pub alike_no : r ≡ false → Alike S p q → ⊥
    unfolding alike_at
    alike_no e a = false≢true (sym e ∙ er ∙ rw (eq-eqb _ _ a.cls) (eq-eqb _ _ a.count))

-- ---- runs of bytes
module _ (A : List ℕ) (a n : ℕ) (h : a + n ≤ length A) where
  length_part : length (part A a n) ≡ n
  length_part = length-take-le n (drop a A) (omega (arith, length-drop a A))

  pub at_part : (p : ℕ) → p < n → get_or (part A a n) p 0 ≡ get_or A (a + p) 0
  at_part p l = get_or-take n (drop a A) p 0 l ∙ get_or-drop a A p 0

pub parts_same : (A B : List ℕ) (a b n : ℕ) → a + n ≤ length A → b + n ≤ length B → ((p : ℕ) → p < n → get_or A (a + p) 0 ≡ get_or B (b + p) 0) → part A a n ≡ part B b n
parts_same A B a b n ha hb h =
    ext_get_or 0 (part A a n) (part B b n) (length_part A a n ha ∙ sym (length_part B b n hb))
    (λ p l. let l' : p < n = omega (arith, length_part A a n ha) in at_part A a n ha p l' ∙ h p l' ∙ sym (at_part B b n hb p l'))

module _ (A B : List ℕ) (n a b : ℕ) (ha : a + object_size * n ≤ length A) (hb : b + object_size * n ≤ length B) where
  pub nodes_of_parts : part A a (object_size * n) ≡ part B b (object_size * n) → nodes_in A a n ≡ nodes_in B b n
  nodes_of_parts e = nodes_same A B n a b (λ p l. sym (at_part A a (object_size * n) ha p l) ∙ ap (λ (x : List ℕ). get_or x p 0) e ∙ at_part B b (object_size * n) hb p l)

  pub parts_of_nodes : AllPacked A a n → AllPacked B b n → nodes_in A a n ≡ nodes_in B b n → part A a (object_size * n) ≡ part B b (object_size * n)
  parts_of_nodes pa pb e = parts_same A B a b (object_size * n) ha hb (bytes_same A B n a b pa pb e)

-- one object
one : (S : List ℕ) (a : ℕ) → Packed S a → AllPacked S a 1
one S a p i h = let e : a + object_size * i ≡ a = omega arith in rw e p

pub eq_node_lem : (A B : List ℕ) (a b : ℕ) → a + object_size ≤ length A → b + object_size ≤ length B → Packed A a → Packed B b
    → eq_node (node_in A a) (node_in B b) ≡ eq_nats (part A a object_size) (part B b object_size)
unfolding nodes_in
eq_node_lem A B a b ha hb pa pb =
    tests_same (eq_node (node_in A a) (node_in B b)) (eq_nats (part A a object_size) (part B b object_size))
    (λ e. eq_nats_same _ _ (parts_of_nodes A B 1 a b ha hb (one A a pa) (one B b pb) (ap (λ (x : Node). x ∷ []) (eq_node_true _ _ e))))
    (λ e. let z : node_in A a ∷ [] ≡ node_in B b ∷ [] = nodes_of_parts A B 1 a b ha hb (eq_nats_true _ _ e) in
    let y : node_in A a ≡ node_in B b = cc in
    rw y (eq_node_refl (node_in B b)))
