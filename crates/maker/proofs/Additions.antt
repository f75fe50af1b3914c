-- The new objects of a part written to the host: the laws of `put_object`, `put_new` and `extend`.
-- Not here: their numbers (Numberings), what the host then stands for (Joins).
use Rattle.std.proofs.Common.{ℕ, ◌+◌, ◌-◌, ◌*◌, ◌%◌, ◌<◌, ◌≤◌, arith, ◌≡◌, refl, sym, ap, ◌∙◌, subst, Bool, true, false, List, length, get_or}
use native.Mathlib.Decide.{dec_lt, ℕ_discrete}
use Rattle.std.proofs.Math.Bool.{false≢true}
use Rattle.canon.specs.Figures.{object_size, head_size, code_count, numbers_at, first_leaf, first_mark, capacity, count_at, level_at, block_size, three_bytes}
use Rattle.canon.specs.Layout.{Packed, count_in, level_in, objects_in, Inside, Outside, ended}
use Rattle.canon.specs.Tables.{Eight, Carried, turned, copied, Lifted}
use Rattle.canon.specs.Numbers.{Levels}
use Rattle.canon.proofs.Nodes.{code_low, ended_size, ended_below, ended-above, ended-count, ended_level, ended_reach}
use Rattle.canon.proofs.Lifts.{copy_plain, copy_rest, copy_turned}
use Rattle.maker.specs.Adding.{object_of}
use Rattle.maker.specs.Sorting.{turn_in}
use Rattle.maker.specs.Joining.{numbers_of, New, NewAmong, Placing, Laid, Extended}
use Rattle.maker.proofs.Codes.{object_class, object_count, object_code, codes_join}
use Rattle.maker.proofs.Bytes.{object_rest}
use Rattle.maker.proofs.Enters.{other_byte, other_inside}
use Rattle.maker.proofs.Numberings.{turn_is}

-- ---- one object
-- its codes are in reach of the table
pub put_code : (W : List ℕ) (src x n : ℕ) → Inside W src x → n ≡ capacity → (k : ℕ) → 2 ≤ k → k < numbers_at → get_or W (block_size * src + object_size * x + k) 0 < first_leaf → get_or W (block_size * src + object_size * x + k) 0 < n
unfolding objects_in
put_code W src x n ib long k l h c =
    let z : block_size * src + object_size * x + k ≡ block_size * src + object_size * x + head_size + (k - 2) = omega arith in
    let e : get_or W (block_size * src + object_size * x + k) 0 < count_in W src =
    rw z (code_low W (block_size * src) (count_in W src) ib.block.packed x ib.low ib.block.whole (k - 2) (omega arith) (rw z at c)) in
    omega (arith, ib.block.small)

module _ (W : List ℕ) (src x host y : ℕ) (T : List ℕ) (ib : Inside W src x) (long : length T ≡ capacity) (p q : ℕ) (ep : p ≡ block_size * src + object_size * x) (eq : q ≡ block_size * host + object_size * y) where
  pub put_done : (a b c d w : ℕ) → a ≡ turn_in T (get_or W (p + 2) 0) → b ≡ turn_in T (get_or W (p + 3) 0) → c ≡ turn_in T (get_or W (p + 4) 0) → d ≡ turn_in T (get_or W (p + 5) 0)
      → a < 256 → b < 256 → c < 256 → w ≡ a + 256 * b + 65536 * c + three_bytes * d → (v : ℕ) → Eight W (p + numbers_at) v → (D : List ℕ) → Carried (object_of (get_or W p 0) (get_or W (p + 1) 0) w v) 0 W q object_size D
      → Lifted W (block_size * src + object_size * x) object_size (numbers_of T) W (block_size * host + object_size * y) D
  put_done a b c d w ea eb ec ed la lb lc ew v g D put =
      subst (λ (i : ℕ). Lifted W i object_size (numbers_of T) W (block_size * host + object_size * y) D) ep (subst (λ (i : ℕ). Lifted W p object_size (numbers_of T) W i D) eq
      (record { same = put.same; here = here; below = put.below; above = put.above }))
    where
      code : (k : ℕ) → 2 ≤ k → k < numbers_at → (r : ℕ) → r ≡ turn_in T (get_or W (p + k) 0) → r ≡ copied (numbers_of T) k (get_or W (p + k) 0)
      code k h l r e = copy_turned (turned (numbers_of T)) (get_or W (p + k) 0) k r h l (e ∙ turn_is T (get_or W (p + k) 0) (rw (← ep) at (put_code W src x (length T) ib long k h l)))

      byte : (k : ℕ) → k < object_size → Dec (k < 1) → Dec (k < 2) → Dec (k < numbers_at) → get_or (object_of (get_or W p 0) (get_or W (p + 1) 0) w v) k 0 ≡ copied (numbers_of T) k (get_or W (p + k) 0)
      byte k h (yes l) m n =
          let z : k ≡ 0 = omega arith in
          let u : p + 0 ≡ p = omega arith in
          rw (z, u) (object_class (get_or W p 0) (get_or W (p + 1) 0) w v ∙ copy_plain (turned (numbers_of T)) (get_or W p 0) 0 (omega arith))
      byte k h (no l) (yes m) n =
          let z : k ≡ 1 = omega (arith, l) in
          rw z (object_count (get_or W p 0) (get_or W (p + 1) 0) w v ∙ copy_plain (turned (numbers_of T)) (get_or W (p + 1) 0) 1 (omega arith))
      byte k h (no l) (no m) (yes n) =
          let z : 2 + (k - 2) ≡ k = omega (arith, m) in
          subst (λ (i : ℕ). get_or (object_of (get_or W p 0) (get_or W (p + 1) 0) w v) i 0 ≡ copied (numbers_of T) i (get_or W (p + i) 0)) z
          (object_code (get_or W p 0) (get_or W (p + 1) 0) w v (k - 2) (omega (arith, m))
          ∙ codes_join a b c d w la lb lc ew (λ j r. r ≡ copied (numbers_of T) (2 + j) (get_or W (p + (2 + j)) 0))
          (code 2 (omega arith) (omega arith) a ea) (code 3 (omega arith) (omega arith) b eb) (code 4 (omega arith) (omega arith) c ec) (code 5 (omega arith) (omega arith) d ed) (k - 2) (omega (arith, m)))
      byte k h (no l) (no m) (no n) =
          object_rest W p v g (subst (Packed W) (sym ep) (ib.block.packed x ib.low)) (get_or W p 0) (get_or W (p + 1) 0) w k (omega (arith, n)) h
          ∙ copy_rest (turned (numbers_of T)) (get_or W (p + k) 0) k (omega (arith, n))

      here : (k : ℕ) → k < object_size → get_or D (q + k) 0 ≡ copied (numbers_of T) (k % object_size) (get_or W (p + k) 0)
      here k h =
          let z : k % object_size ≡ k = omega arith in
          let u : 0 + k ≡ k = omega arith in
          rw z (rw u at (put.here k h) ∙ byte k h (dec_lt k 1) (dec_lt k 2) (dec_lt k numbers_at))

-- ---- all new objects
pub laid_none : (W : List ℕ) (src host : ℕ) (T : List ℕ) (F : List Bool) → Laid W src host T F 0 W
laid_none W src host T F = record { same = refl; here = λ x k h. absurd (omega arith); below = λ p h. refl; above = λ p h. refl }

module _ (W : List ℕ) (src host : ℕ) (T : List ℕ) (F : List Bool) (pl : Placing W src host T F) where
  module _ (x : ℕ) (D : List ℕ) (ld : Laid W src host T F x D) where
    laid_outside : Outside host W D
    laid_outside = record { same = ld.same; below = λ p l. ld.below p (omega arith); above = λ p l. ld.above p (omega arith) }

    pub laid_end : (n : ℕ) → x ≤ n → n ≤ x → Laid W src host T F n D
    laid_end n h l = let e : x ≡ n = omega arith in rw e at ld

    -- where all new ones are among the first
    laid_all : NewAmong (count_in W src) F x → Laid W src host T F (count_in W src) D
    laid_all na = record { same = ld.same; here = λ y k l w. ld.here y k (na.low y l w) w; below = ld.below; above = ld.above }

    module _ (top : ℕ) (few : top ≤ count_in W src) (under : x < top) where
      h : x < count_in W src
      h = omega (arith, few, under)

      pub laid_inside : Inside D src x
      laid_inside = other_inside host W D laid_outside src pl.apart x (record { block = pl.source; low = h })

      pub laid_room : block_size * host + block_size ≤ length D
      laid_room = omega (arith, ld.same, pl.target.room)

      laid_same : get_or F x false ≡ false → Laid W src host T F (x + 1) D
      laid_same z = record { same = ld.same; here = λ y k l n. ld.here y k (less y l n (ℕ_discrete y x)) n; below = ld.below; above = ld.above }
        where
          less : (y : ℕ) → y < x + 1 → New F y → Dec (y ≡ x) → y < x
          less y l n (yes e) = absurd (false≢true (sym (ap (λ (i : ℕ). get_or F i false) e ∙ z) ∙ n))
          less y l n (no d) = omega (arith, d)

      module _ (new : New F x) where
        pub new_some : 1 ≤ get_or T x 0
        new_some = omega (arith, pl.numbered.low x h new)

        pub new_few : get_or T x 0 - 1 < capacity
        new_few = omega (arith, pl.numbered.low x h new, pl.numbered.high x h new)

        laid_new : (D2 : List ℕ) → Lifted D (block_size * src + object_size * x) object_size (numbers_of T) D (block_size * host + object_size * (get_or T x 0 - 1)) D2 → Laid W src host T F (x + 1) D2
        laid_new D2 f = record {
          same = f.same ∙ ld.same;
          here = λ y k l n m. go y k l n m (ℕ_discrete y x);
          below = λ p l. f.below p (omega (arith, pl.numbered.low x h new)) ∙ ld.below p l;
          above = λ p l. f.above p (omega (arith, new_some, new_few)) ∙ ld.above p l;
        }
          where
            -- two places
            clear : (y k : ℕ) → y < x → New F y → k < object_size → Dec (get_or T y 0 < get_or T x 0) → get_or D2 (block_size * host + object_size * (get_or T y 0 - 1) + k) 0 ≡ get_or D (block_size * host + object_size * (get_or T y 0 - 1) + k) 0
            clear y k l n m (yes z) = f.below (block_size * host + object_size * (get_or T y 0 - 1) + k) (omega (arith, pl.numbered.low y (omega arith) n))
            clear y k l n m (no z) =
                let d : (get_or T y 0 ≡ get_or T x 0) → ⊥ = λ e. let w : y ≡ x = pl.numbered.one y x (omega arith) h n new e in omega arith in
                f.above (block_size * host + object_size * (get_or T y 0 - 1) + k) (omega (arith, z, d, new_some))

            go : (y k : ℕ) → y < x + 1 → New F y → k < object_size → Dec (y ≡ x) → get_or D2 (block_size * host + object_size * (get_or T y 0 - 1) + k) 0 ≡ copied (numbers_of T) k (get_or W (block_size * src + object_size * y + k) 0)
            go y k l n m (yes e) =
                let z : k % object_size ≡ k = omega arith in
                rw e (rw z at (f.here k m) ∙ ap (copied (numbers_of T) k) (other_byte host W D laid_outside src pl.apart (block_size * src + object_size * x + k) (omega arith) (omega (arith, pl.source.small))))
            go y k l n m (no d) = clear y k (omega (arith, d)) n m (dec_lt (get_or T y 0) (get_or T x 0)) ∙ ld.here y k (omega (arith, d)) n m

  -- what the loop has
  pub laid_few : (n : ℕ) → n ≤ count_in W src → n ≤ capacity
  laid_few n few = omega (arith, pl.source.small)

  module _ (x : ℕ) (D : List ℕ) (ld : Laid W src host T F x D) (top : ℕ) (few : top ≤ count_in W src) (under : x < top) (D' : List ℕ) where
    pub laid_kept : get_or F x false ≡ false → D' ≡ D → Laid W src host T F (x + 1) D'
    laid_kept z e = rw e (laid_same x D ld top few under z)

    pub laid_more : get_or F x false ≡ true → (D2 : List ℕ) → Lifted D (block_size * src + object_size * x) object_size (numbers_of T) D (block_size * host + object_size * (get_or T x 0 - 1)) D2 → D' ≡ D2 → Laid W src host T F (x + 1) D'
    laid_more new D2 f e = rw e (laid_new x D ld top few under new D2 f)

  -- counted
  module _ (top : ℕ) (na : NewAmong (count_in W src) F top) (m : ℕ) (tm : count_in W host ≤ m) (few : m ≤ capacity) (D : List ℕ) (ld : Laid W src host T F top D)
      (k : ℕ) (lv : Levels D (block_size * host + object_size * get_or W (block_size * host + count_at) 0) (m - get_or W (block_size * host + count_at) 0) k) (h : ℕ) (lh : get_or W (block_size * host + level_at) 0 ≤ h) (kh : k ≤ h) where
    long : block_size * host + block_size ≤ length D
    long = omega (arith, ld.same, pl.target.room)

    byte : (p : ℕ) → p < block_size * host + count_at → get_or (ended D host m h m) p 0 ≡ get_or D p 0
    byte = ended_below D host m h m long

    level : (i f : ℕ) → i < m → f < code_count → Dec (i < get_or W (block_size * host + count_at) 0) → get_or D (block_size * host + object_size * i + head_size + f) 0 < first_mark + h
    unfolding count_in level_in
    level i f l u (yes z) = omega (arith, ld.below (block_size * host + object_size * i + head_size + f) (omega arith), pl.target.level i f z u)
    level i f l u (no z) =
        let e : block_size * host + object_size * i + head_size + f ≡ block_size * host + object_size * get_or W (block_size * host + count_at) 0 + object_size * (i - get_or W (block_size * host + count_at) 0) + head_size + f = omega (arith, z) in
        omega (arith, ap (λ (p : ℕ). get_or D p 0) e, lv.below (i - get_or W (block_size * host + count_at) 0) f (omega (arith, z)) u)

    pub extend_done : Extended W src host T F m (ended D host m h m)
    extend_done = record {
      count = ended-count D host m h m long;
      reach = ended_reach D host m h m long;
      level = λ i f l u. omega (arith, byte (block_size * host + object_size * i + head_size + f) (omega arith), ended_level D host m h m long, level i f l u (dec_lt i (get_or W (block_size * host + count_at) 0)));
      here = λ x j l n i. byte _ (omega (arith, pl.numbered.low x l n, pl.numbered.high x l n)) ∙ (laid_all _ D ld na).here x j l n i;
      old = λ q l. byte _ (omega arith) ∙ ld.below _ (omega arith);
      outside = record {
        same = ended_size D host m h m long ∙ ld.same;
        below = λ p l. byte p (omega arith) ∙ ld.below p (omega arith);
        above = λ p l. ended-above D host m h m long p (omega arith) ∙ ld.above p (omega arith);
      };
    }
