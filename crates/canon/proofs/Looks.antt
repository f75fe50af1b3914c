-- Laws of rows hung up by their looks: two objects that look alike, one looked for, all rows.
use Rattle.std.proofs.Common.{ℕ, ◌+◌, ◌-◌, ◌*◌, ◌%◌, ◌<◌, ◌≤◌, arith, ◌≡◌, refl, sym, ap, ◌∙◌, subst, Bool, true, false, true≢false, List, length, get_or, set, get_or-set_same, get_or-set_other, lt-ltb, le-ltb}
use native.Mathlib.Decide.{dec_lt, ℕ_discrete}
use Rattle.std.proofs.Math.Bool.{false≢true}
use Rattle.canon.specs.Figures.{object_size, head_size, numbers_at, first_leaf, hash_count, hashed_by}
use Rattle.canon.specs.declared.rows.Row.{Row}
use Rattle.canon.specs.declared.rows.Link.{Link}
use Rattle.canon.specs.Rows.{blank, row_at, link_at}
use Rattle.canon.specs.Layout.{Codes}
use Rattle.canon.specs.Tables.{four_at, Eight, Plain, PlainTest, on_codes}
use Rattle.canon.specs.Links.{Last, Hung, looked, shown, AlikeTo, AlikeTest, hash_plain, hash_of, HungOn, Chained, Grouped, Sought, LikeBefore}
use Rattle.canon.proofs.Lifts.{copy_plain, copy_rest, copy_turned}
use Rattle.canon.proofs.Written.{field_here, field_other}
use Rattle.canon.proofs.Notes.{put_note}

-- ---- looks
module _ (b : ℕ) where
  pub show_object : b < first_leaf → 0 ≡ looked b
  unfolding looked
  show_object l = rw (lt-ltb b first_leaf l)

  pub show_leaf : first_leaf ≤ b → b ≡ looked b
  unfolding looked
  show_leaf l = rw (le-ltb b first_leaf l)

module _ (F : ℕ → ℕ → ℕ) (N : List ℕ) (i j : ℕ) where
  module _ (k a b : ℕ) (t : AlikeTo F N i j k) (ea : a ≡ F k (get_or N (object_size * i + k) 0)) (eb : b ≡ F k (get_or N (object_size * j + k) 0)) where
    pub alike_more : a ≡ b → AlikeTo F N i j (k + 1)
    alike_more e = record { all = λ f h. go f h (ℕ_discrete f k) }
      where
        go : (f : ℕ) → f < k + 1 → Dec (f ≡ k) → F f (get_or N (object_size * i + f) 0) ≡ F f (get_or N (object_size * j + f) 0)
        go f h (yes z) = rw z (sym ea ∙ e ∙ eb)
        go f h (no z) = t.all f (omega (arith, z))

    pub alike_not : k < object_size → ((a ≡ b) → ⊥) → AlikeTest F N i j false
    alike_not h d = record { yes = λ z. absurd (false≢true z); not = λ _ w. d (ea ∙ w.all k h ∙ sym eb) }

  pub alike_all : (k : ℕ) → AlikeTo F N i j k → object_size ≤ k → AlikeTest F N i j true
  alike_all k t h = record { yes = λ _. record { all = λ f l. t.all f (omega arith) }; not = λ z. absurd (true≢false z) }

-- with the codes read by G, where the other bytes are compared first
module _ (G : ℕ → ℕ) (N : List ℕ) (i j : ℕ) where
  pub plain_not : (r : Bool) → PlainTest N (object_size * i) (object_size * j) r → r ≡ false → AlikeTest (on_codes G) N i j false
  plain_not r t e = record {
    yes = λ z. absurd (false≢true z);
    not = λ _ w. t.not e (record {
      head = λ k l. copy_plain G _ k l ∙ w.all k (omega arith) ∙ sym (copy_plain G _ k l);
      rest = λ k a l. copy_rest G _ k a ∙ w.all k l ∙ sym (copy_rest G _ k a);
    });
  }

  module _ (p : Plain N (object_size * i) (object_size * j)) where
    pub codes_none : AlikeTo (on_codes G) N i j head_size
    codes_none = record { all = λ f h. sym (copy_plain G _ f h) ∙ p.head f h ∙ copy_plain G _ f h }

    pub codes_all : (k : ℕ) → AlikeTo (on_codes G) N i j k → numbers_at ≤ k → AlikeTest (on_codes G) N i j true
    codes_all k t h = alike_all (on_codes G) N i j object_size (record { all = λ f l. go f l (dec_lt f k) }) (omega arith)
      where
        go : (f : ℕ) → f < object_size → Dec (f < k) → on_codes G f (get_or N (object_size * i + f) 0) ≡ on_codes G f (get_or N (object_size * j + f) 0)
        go f l (yes m) = t.all f m
        go f l (no m) = let a : numbers_at ≤ f = omega (arith, m) in sym (copy_rest G _ f a) ∙ p.rest f a l ∙ copy_rest G _ f a

  module _ (k a b : ℕ) (t : AlikeTo (on_codes G) N i j k) (low : head_size ≤ k) (h : k < numbers_at) (ea : a ≡ G (get_or N (object_size * i + k) 0)) (eb : b ≡ G (get_or N (object_size * j + k) 0)) where
    pub codes_more : a ≡ b → AlikeTo (on_codes G) N i j (k + 1)
    codes_more e = alike_more (on_codes G) N i j k a b t (copy_turned G _ k a low h ea) (copy_turned G _ k b low h eb) e

    pub codes_not : ((a ≡ b) → ⊥) → AlikeTest (on_codes G) N i j false
    codes_not d = alike_not (on_codes G) N i j k a b t (copy_turned G _ k a low h ea) (copy_turned G _ k b low h eb) (omega arith) d

module _ (N : List ℕ) (i j : ℕ) where
  pub alike_hash : AlikeTo shown N i j object_size → hash_of N i ≡ hash_of N j
  unfolding hash_of hash_plain
  alike_hash t =
      let zi : object_size * i + 0 ≡ object_size * i = omega arith in
      let zj : object_size * j + 0 ≡ object_size * j = omega arith in
      let e0 : get_or N (object_size * i) 0 ≡ get_or N (object_size * j) 0 = rw (zi, zj) at (copy_plain looked _ 0 (omega arith) ∙ t.all 0 (omega arith) ∙ sym (copy_plain looked _ 0 (omega arith))) in
      rw (e0, code 2 (omega arith) (omega arith), code 3 (omega arith) (omega arith), code 4 (omega arith) (omega arith), code 5 (omega arith) (omega arith), fours numbers_at (omega arith) (omega arith), last)
    where
      code : (k : ℕ) → head_size ≤ k → k < numbers_at → looked (get_or N (object_size * i + k) 0) ≡ looked (get_or N (object_size * j + k) 0)
      code k a b = copy_turned looked _ k _ a b refl ∙ t.all k (omega arith) ∙ sym (copy_turned looked _ k _ a b refl)

      rest : (k : ℕ) → numbers_at ≤ k → k < object_size → get_or N (object_size * i + k) 0 ≡ get_or N (object_size * j + k) 0
      rest k a b = copy_rest looked _ k a ∙ t.all k b ∙ sym (copy_rest looked _ k a)

      fours : (k : ℕ) → numbers_at ≤ k → k + 4 ≤ object_size → four_at N (object_size * i + k) ≡ four_at N (object_size * j + k)
      fours k a b =
          let next : (m : ℕ) → m < 4 → get_or N (object_size * i + k + m) 0 ≡ get_or N (object_size * j + k + m) 0 = λ m l.
          let zi : object_size * i + k + m ≡ object_size * i + (k + m) = omega arith in
          let zj : object_size * j + k + m ≡ object_size * j + (k + m) = omega arith in
          rw (zi, zj) (rest (k + m) (omega arith) (omega arith)) in
          rw (rest k a (omega arith), next 1 (omega arith), next 2 (omega arith), next 3 (omega arith))

      last : four_at N (object_size * i + numbers_at + 4) ≡ four_at N (object_size * j + numbers_at + 4)
      last =
          let zi : object_size * i + numbers_at + 4 ≡ object_size * i + (numbers_at + 4) = omega arith in
          let zj : object_size * j + numbers_at + 4 ≡ object_size * j + (numbers_at + 4) = omega arith in
          rw (zi, zj) (fours (numbers_at + 4) (omega arith) (omega arith))

  pub alike_back : AlikeTo shown N i j object_size → AlikeTo shown N j i object_size
  alike_back t = record { all = λ f h. sym (t.all f h) }

pub alike_then : (N : List ℕ) (i j k : ℕ) → AlikeTo shown N i j object_size → AlikeTo shown N j k object_size → AlikeTo shown N i k object_size
alike_then N i j k a b = record { all = λ f h. a.all f h ∙ b.all f h }

pub plain_is : (N : List ℕ) (p x : ℕ) → Eight N (p + numbers_at) x → get_or N p 0 % hash_count + x % hashed_by ≡ hash_plain N p
unfolding hash_plain
plain_is N p x e = rw (e.is, e.first.is, e.last.is)

pub hash_is : (N : List ℕ) (i a b c d e : ℕ) → a ≡ looked (get_or N (object_size * i + 2) 0) → b ≡ looked (get_or N (object_size * i + 3) 0) → c ≡ looked (get_or N (object_size * i + 4) 0)
    → d ≡ looked (get_or N (object_size * i + 5) 0) → e ≡ hash_plain N (object_size * i) → (7 * a + 13 * b + 29 * c + 5 * d + e) % hash_count ≡ hash_of N i
unfolding hash_of
hash_is N i a b c d e ea eb ec ed ee = rw (ea, eb, ec, ed, ee)

pub hash_low : (N : List ℕ) (i : ℕ) → hash_of N i < hash_count
unfolding hash_of
hash_low N i = omega arith

-- ---- one that looks alike looked for
pub record Searching (N : List ℕ) (x h z : ℕ) : Type 0 where
  pub low : z < x
  pub on : 0 < z → hash_of N (z - 1) ≡ h
  pub none : (y : ℕ) → z < y → y < x → AlikeTo shown N (x - 1) (y - 1) object_size → ⊥

module _ (N : List ℕ) (T : List Row) (K : List Link) (n x h from : ℕ) (s : Sought N T K n x h from) where
  pub search_start : Searching N x h from
  search_start = record {
    low = s.start.low;
    on = s.start.is;
    none = λ y a b t. s.start.none y a b (sym (alike_hash N (x - 1) (y - 1) t) ∙ sym s.is);
  }

  module _ (z : ℕ) (r : Searching N x h z) (pos : 0 < z) where
    next_last : Last (λ y. hash_of N (y - 1)) h z (row_at T z).note
    next_last = subst (λ (u : ℕ). Last (λ y. hash_of N (y - 1)) u z (row_at T z).note) (r.on pos) (s.nexts z pos r.low)

    module _ (b : Bool) (t : AlikeTest shown N (x - 1) (z - 1) b) where
      pub search_more : b ≡ false → Searching N x h (row_at T z).note
      search_more f = record {
        low = omega (arith, next_last.low, r.low);
        on = next_last.is;
        none = λ u p q w. go u p q w (ℕ_discrete u z) (dec_lt z u);
      }
        where
          go : (u : ℕ) → (row_at T z).note < u → u < x → AlikeTo shown N (x - 1) (u - 1) object_size → Dec (u ≡ z) → Dec (z < u) → ⊥
          go u p q w (yes g) l = t.not f (subst (λ (v : ℕ). AlikeTo shown N (x - 1) (v - 1) object_size) g w)
          go u p q w (no g) (yes l) = r.none u l q w
          go u p q w (no g) (no l) = next_last.none u p (omega (arith, g, l)) (sym (alike_hash N (x - 1) (u - 1) w) ∙ sym s.is)

      pub like_found : b ≡ true → LikeBefore N n x K (link_at K z).target
      like_found f = record {
        low = s.low z pos r.low;
        is = λ u p q w. s.grouped.same u z p q pos r.low (alike_then N (u - 1) (x - 1) (z - 1) (alike_back N (x - 1) (u - 1) w) (t.yes f));
      }

-- ---- all rows by their looks
last_skip : (E : ℕ → ℕ) (v x h : ℕ) → Last E v x h → ((E x ≡ v) → ⊥) → Last E v (x + 1) h
last_skip E v x h l d = record { low = omega (arith, l.low); is = l.is; none = λ z a b e. go z a b e (ℕ_discrete z x) }
  where
    go : (z : ℕ) → h < z → z < x + 1 → E z ≡ v → Dec (z ≡ x) → ⊥
    go z a b e (yes q) = d (ap E (sym q) ∙ e)
    go z a b e (no q) = l.none z a (omega (arith, q)) e

pub chain_more : (N H : List ℕ) (T : List Row) (n x h l : ℕ) → Chained N x H T → 0 < x → x < n → n ≤ length T → hash_count ≤ length H → h ≡ hash_of N (x - 1) → l ≡ get_or H h 0
    → Chained N (x + 1) (set H h x) (put_note T x l)
chain_more N H T n x h l c pos hx room_t roomH eh el = record {
  heads = λ u hu. head u hu (ℕ_discrete u h);
  nexts = λ y p q. next y p q (ℕ_discrete y x);
}
  where
    low : h < hash_count
    low = omega (arith, hash_low N (x - 1))

    head : (u : ℕ) → u < hash_count → Dec (u ≡ h) → Last (λ y. hash_of N (y - 1)) u (x + 1) (get_or (set H h x) u 0)
    head u hu (yes e) = rw (e, get_or-set_same H h x 0 (omega (arith, low))) (record { low = omega arith; is = λ p. sym eh; none = λ z a b q. omega arith })
    head u hu (no e) = rw (get_or-set_other H h u x 0 e) (last_skip (λ y. hash_of N (y - 1)) u x (get_or H u 0) (c.heads u hu) (λ q. e (sym q ∙ sym eh)))

    next : (y : ℕ) → 0 < y → y < x + 1 → Dec (y ≡ x) → Last (λ z. hash_of N (z - 1)) (hash_of N (y - 1)) y (row_at (put_note T x l) y).note
    next y p q (yes e) =
        rw (e, field_here (λ r. r.note) T x _ blank (omega arith), el) (subst (λ (v : ℕ). Last (λ z. hash_of N (z - 1)) v x (get_or H h 0)) eh (c.heads h low))
    next y p q (no e) = rw (field_other (λ r. r.note) T x _ blank y e) (c.nexts y p (omega (arith, e)))

pub group_more : (N : List ℕ) (K K' : List Link) (n x r : ℕ) → Grouped N x K → LikeBefore N n x K r → HungOn n x r K K' → Grouped N (x + 1) K'
group_more N K K' n x r g b h = record { same = λ y z a l d e t. go y z a l d e t (ℕ_discrete y x) (ℕ_discrete z x) }
  where
    at : (y : ℕ) → y ≡ x → (link_at K' y).target ≡ r
    at y e = ap (λ (u : ℕ). (link_at K' u).target) e ∙ h.here

    old : (y : ℕ) → 0 < y → y < x + 1 → ((y ≡ x) → ⊥) → AlikeTo shown N (x - 1) (y - 1) object_size → (link_at K' y).target ≡ r
    old y p q d t = h.rest y d ∙ b.is y p (omega (arith, d)) t

    go : (y z : ℕ) → 0 < y → y < x + 1 → 0 < z → z < x + 1 → AlikeTo shown N (y - 1) (z - 1) object_size → Dec (y ≡ x) → Dec (z ≡ x) → (link_at K' y).target ≡ (link_at K' z).target
    go y z a l d e t (yes p) (yes q) = at y p ∙ sym (at z q)
    go y z a l d e t (yes p) (no q) = at y p ∙ sym (old z d e q (subst (λ (u : ℕ). AlikeTo shown N (u - 1) (z - 1) object_size) p t))
    go y z a l d e t (no p) (yes q) = old y a l p (subst (λ (u : ℕ). AlikeTo shown N (u - 1) (y - 1) object_size) q (alike_back N (y - 1) (z - 1) t)) ∙ sym (at z q)
    go y z a l d e t (no p) (no q) = h.rest y p ∙ g.same y z a (omega (arith, p)) d (omega (arith, q)) t ∙ sym (h.rest z q)

-- ---- as the code has them
pub hash_small : (N : List ℕ) (i h : ℕ) → h ≡ hash_of N i → h < hash_count
hash_small N i h e = omega (arith, hash_low N i)

pub group_sought : (N : List ℕ) (T : List Row) (K : List Link) (H : List ℕ) (n x h : ℕ) → Codes N (n - 1) → Hung n x K → 0 < x → x < n → n ≤ length T → Chained N x H T → Grouped N x K → h ≡ hash_of N (x - 1) → Sought N T K n x h (get_or H h 0)
group_sought N T K H n x h c k pos hx room ch g e = record {
  codes = c;
  room_t = room;
  room_k = k.room;
  pos = pos;
  small = hx;
  is = e;
  nexts = ch.nexts;
  start = ch.heads h (hash_small N (x - 1) h e);
  low = k.low;
  grouped = g;
}
