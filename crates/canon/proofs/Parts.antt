-- Laws of parting: no step sets two objects apart that D takes to one number, whatever D is that goes with the fields.
use Rattle.std.proofs.Common.{ℕ, ◌+◌, ◌<◌, ◌≤◌, arith, ◌≡◌, refl, sym, ap, ◌∙◌, List, length}
use native.Mathlib.Decide.{dec_lt, ℕ_discrete}
use Rattle.canon.specs.declared.rows.Row.{Row}
use Rattle.canon.specs.declared.rows.Link.{Link}
use Rattle.canon.specs.Figures.{code_count}
use Rattle.canon.specs.Rows.{row_at, link_at, field_at}
use Rattle.canon.specs.Links.{Lists, AllLists}
use Rattle.canon.specs.Parting.{Standing, Classes, Front, Brought, Into, Relabelled, LaidOut, Kept, Split, Goes, PartedLooks, PartedFields, Begun}
use Rattle.canon.proofs.Splits.{split_parts}

-- ---- the two ways to part a class
module _ (n m d : ℕ) (T T1 T2 T3 : List Row) (k : Classes n m T) (hd : d < m) (hm : m < n)
    (low : (row_at T d).begin < (row_at T d).middle) (high : (row_at T d).middle < (row_at T d).end) where
  mid_of : (x : ℕ) → (row_at T x).class ≡ d → (row_at T (row_at T x).class).middle ≡ (row_at T d).middle
  mid_of x q = ap (λ (y : ℕ). (row_at T y).middle) q

  in_front_lem : (x : ℕ) → (row_at T x).class ≡ d → (row_at T x).place < (row_at T d).middle → Front T x
  in_front_lem x q h = record { at = omega (arith, mid_of x q) }

  pub split_low : LaidOut T d (row_at T d).middle (row_at T d).end T1 → LaidOut T1 m (row_at T d).begin (row_at T d).middle T2
      → Relabelled n T2 (row_at T d).begin (row_at T d).middle m T3 → Split n T T3 m (m + 1)
  split_low l1 l2 r =
      split_parts n m T k d hd hm T1 T2 T3 (row_at T d).middle (row_at T d).end (row_at T d).begin (row_at T d).middle l1 l2 r
      (omega arith, omega arith) (omega arith, omega arith)
      (λ p a b w. (above p a w, b))
      (λ p a b w. omega (arith, w.1))
      (λ x y cx cy f g w a b. (a, omega (arith, (f (in_front_lem x cx w.1)).at, mid_of y cy)))
    where
      above : (p : ℕ) → (row_at T d).begin ≤ p → (((row_at T d).begin ≤ p) × (p < (row_at T d).middle) → ⊥) → (row_at T d).middle ≤ p
      above p a w = go (dec_lt p (row_at T d).middle)
        where
          go : Dec (p < (row_at T d).middle) → (row_at T d).middle ≤ p
          go (yes q) = absurd (w (a, q))
          go (no q) = omega (arith, q)

  pub split_high : LaidOut T d (row_at T d).begin (row_at T d).middle T1 → LaidOut T1 m (row_at T d).middle (row_at T d).end T2
      → Relabelled n T2 (row_at T d).middle (row_at T d).end m T3 → Split n T T3 m (m + 1)
  split_high l1 l2 r =
      split_parts n m T k d hd hm T1 T2 T3 (row_at T d).begin (row_at T d).middle (row_at T d).middle (row_at T d).end l1 l2 r
      (omega arith, omega arith) (omega arith, omega arith)
      (λ p a b w. (a, below p b w))
      (λ p a b w. omega (arith, w.0))
      (λ x y cx cy f g w a b. (back x y cx cy g w (dec_lt (row_at T y).place (row_at T d).middle), b))
    where
      below : (p : ℕ) → p < (row_at T d).end → (((row_at T d).middle ≤ p) × (p < (row_at T d).end) → ⊥) → p < (row_at T d).middle
      below p b w = go (dec_lt p (row_at T d).middle)
        where
          go : Dec (p < (row_at T d).middle) → p < (row_at T d).middle
          go (yes q) = q
          go (no q) = absurd (w (omega (arith, q), b))

      back : (x y : ℕ) → (row_at T x).class ≡ d → (row_at T y).class ≡ d → (Front T y → Front T x)
          → ((row_at T d).middle ≤ (row_at T x).place) × ((row_at T x).place < (row_at T d).end) → Dec ((row_at T y).place < (row_at T d).middle) → (row_at T d).middle ≤ (row_at T y).place
      back x y cx cy g w (yes q) = absurd (omega (arith, (g (in_front_lem y cy q)).at, mid_of x cx, w.0))
      back x y cx cy g w (no q) = omega (arith, q)

pub split_then : (n m r q : ℕ) (T T1 T2 : List Row) → Split n T T1 m r → Split n T1 T2 r q → Split n T T2 m q
split_then n m r q T T1 T2 a b = record { classes = b.classes; more = omega (arith, a.more, b.more); same = b.same ∙ a.same; kept = λ D t. b.kept D (a.kept D t) }

-- ---- what is brought to the front goes with D
pub kept_brought : (n m : ℕ) (T T1 : List Row) (P : ℕ → Type 0) (D : ℕ → ℕ) → Brought n m T T1 P → Kept D n T → ((x y : ℕ) → x < n → y < n → D x ≡ D y → P x → P y) → Kept D n T1
kept_brought n m T T1 P D b t closed = record {
  cls = λ x y hx hy e. b.cls x hx ∙ t.cls x y hx hy e ∙ sym (b.cls y hy);
  front = λ x y hx hy e f. go x y hx hy e f (dec_lt (row_at T x).place (row_at T (row_at T x).class).middle);
}
  where
    go : (x y : ℕ) → x < n → y < n → D x ≡ D y → Front T1 x → Dec ((row_at T x).place < (row_at T (row_at T x).class).middle) → Front T1 y
    go x y hx hy e f (yes l) = b.keep y hy (t.front x y hx hy e (record { at = l }))
    go x y hx hy e f (no l) = b.all y hy (closed x y hx hy e (b.only x hx f (λ w. l w.at)))

target_low : (n : ℕ) (K : List Link) → Lists n K → (x : ℕ) → x < n → 0 < (link_at K x).target → (link_at K x).target < n
target_low n K ls x h l = go (ℕ_discrete x 0)
  where
    go : Dec (x ≡ 0) → (link_at K x).target < n
    go (yes q) = absurd (omega (arith, ls.all.null x q))
    go (no q) = ls.all.low x (omega (arith, q)) h

into_goes : (n s : ℕ) (K : List Link) (T : List Row) (D : ℕ → ℕ) → Lists n K → Goes D n K → Kept D n T → (x y : ℕ) → x < n → y < n → D x ≡ D y → Into K T s x → Into K T s y
into_goes n s K T D ls g t x y hx hy e w =
    let p = g.some x y hx hy e w.some in
    record {
      some = p;
      cls = sym (t.cls (link_at K x).target (link_at K y).target (target_low n K ls x hx w.some) (target_low n K ls y hy p) (g.same x y hx hy e w.some)) ∙ w.cls;
    }

-- ---- by looks
pub looks_more : (n m r v : ℕ) (K : List Link) (T T1 T2 T3 : List Row) → PartedLooks n K T T1 m → Brought n m T1 T2 (λ x. (link_at K x).target ≡ v) → Split n T2 T3 m r → PartedLooks n K T T3 r
looks_more n m r v K T T1 T2 T3 p b s = record {
  classes = s.classes;
  same = s.same ∙ b.same ∙ p.same;
  kept = λ D g t. s.kept D (kept_brought n m T1 T2 (λ x. (link_at K x).target ≡ v) D b (p.kept D g t) (λ x y hx hy e w. sym (g.same x y hx hy e) ∙ w));
}

-- ---- by fields
pub fields_start : (n m : ℕ) (F : List (List Link)) (T : List Row) → Classes n m T → PartedFields n F T T m m
fields_start n m F T k = record { classes = k; more = omega arith; same = refl; kept = λ D g t. t }

pub fields_more : (n m r q f w s : ℕ) (F : List (List Link)) (T T1 T2 T3 : List Row) → AllLists n F → f < w → w ≤ code_count → PartedFields n F T T1 m r → Brought n r T1 T2 (Into (field_at F f) T1 s) → Split n T2 T3 r q → PartedFields n F T T3 m q
fields_more n m r q f w s F T T1 T2 T3 ls hf hw p b u = record {
  classes = u.classes;
  more = omega (arith, p.more, u.more);
  same = u.same ∙ b.same ∙ p.same;
  kept = λ D g t. u.kept D (kept_brought n r T1 T2 (Into (field_at F f) T1 s) D b (p.kept D g t) (into_goes n s (field_at F f) T1 D (ls.each f (omega arith)) (g f (omega arith)) (p.kept D g t)));
}

-- ---- one class
pub record Started (i : ℕ) (T : List Row) : Type 0 where
  pub cls : (x : ℕ) → x < i → (row_at T x).class ≡ 0
  pub place : (x : ℕ) → x < i → (row_at T x).place ≡ x
  pub object : (x : ℕ) → x < i → (row_at T x).object_at ≡ x

module _ (n i : ℕ) (T T1 : List Row) (s : Started i T) (h : n ≤ i) (pos : 0 < n) (room : n ≤ length T) (l : LaidOut T 0 0 n T1) where
  cls : (x : ℕ) → x < n → (row_at T1 x).class ≡ 0
  cls x u = l.cls x ∙ s.cls x (omega arith)

  place : (x : ℕ) → x < n → (row_at T1 x).place ≡ x
  place x u = l.place x ∙ s.place x (omega arith)

  object : (x : ℕ) → x < n → (row_at T1 x).object_at ≡ x
  object x u = l.object x ∙ s.object x (omega arith)

  first : (x : ℕ) → x ≡ 0 → (row_at T1 x).begin ≡ 0
  first x q = rw q l.first

  mid : (x : ℕ) → x ≡ 0 → (row_at T1 x).middle ≡ 0
  mid x q = rw q l.mid

  end : (x : ℕ) → x ≡ 0 → (row_at T1 x).end ≡ n
  end x q = rw q l.end

  pub begun : Begun n T1
  begun = record {
    classes = record {
      placed = record {
        room = omega (arith, l.same);
        place = λ x u. omega (arith, place x u);
        holds = λ x u. ap (λ (y : ℕ). (row_at T1 y).object_at) (place x u) ∙ object x u;
        object = λ x u. omega (arith, object x u);
        stands = λ x u. ap (λ (y : ℕ). (row_at T1 y).place) (object x u) ∙ place x u;
      };
      few = omega arith;
      low = λ x u. omega (arith, cls x u);
      from = λ x u. omega (arith, first (row_at T1 x).class (cls x u));
      to = λ x u. omega (arith, end (row_at T1 x).class (cls x u), place x u);
      only = λ x c u w a b. omega (arith, cls x u);
      ends = λ c u. omega (arith, end c (omega arith));
      mids = λ c u. omega (arith, first c (omega arith));
    };
    kept = λ D. record {
      cls = λ x y hx hy e. cls x hx ∙ sym (cls y hy);
      front = λ x y hx hy e f. absurd (omega (arith, f.at, mid (row_at T1 x).class (cls x hx)));
    };
  }

-- ---- as the code has them
laid_placed : (n : ℕ) (T T1 : List Row) (c a e : ℕ) → Standing n T → LaidOut T c a e T1 → Standing n T1
laid_placed n T T1 c a e k l = record {
  room = rw l.same k.room;
  place = λ x h. rw (l.place x) (k.place x h);
  holds = λ x h. rw (l.place x, l.object (row_at T x).place) (k.holds x h);
  object = λ x h. rw (l.object x) (k.object x h);
  stands = λ x h. rw (l.object x, l.place (row_at T x).object_at) (k.stands x h);
}

pub parts_placed : (n m d b u v w : ℕ) (T T1 T2 : List Row) → Classes n m T → LaidOut T d b u T1 → LaidOut T1 m v w T2 → Standing n T2
parts_placed n m d b u v w T T1 T2 k l1 l2 = laid_placed n T1 T2 m v w (laid_placed n T T1 d b u k.placed l1) l2
