-- Laws of parting a class: class d keeps the places from a1 to e1, the new class has those from a2 to e2. Not here: a class that is not parted (Backs).
use Rattle.std.proofs.Common.{ℕ, ◌+◌, ◌<◌, ◌≤◌, arith, ◌≡◌, sym, ap, ◌∙◌, List, length}
use native.Mathlib.Decide.{dec_lt, ℕ_discrete}
use Rattle.canon.specs.declared.rows.Row.{Row}
use Rattle.canon.specs.Rows.{row_at}
use Rattle.canon.specs.Parting.{Classes, Front, Relabelled, LaidOut, Kept, Split}

module _ (n m : ℕ) (T : List Row) (k : Classes n m T) where
  module _ (d : ℕ) (hd : d < m) (hm : m < n) (T1 T2 T3 : List Row) (a1 e1 a2 e2 : ℕ) (l1 : LaidOut T d a1 e1 T1) (l2 : LaidOut T1 m a2 e2 T2) (r : Relabelled n T2 a2 e2 m T3)
      (within1 : ((row_at T d).begin ≤ a1) × (e1 ≤ (row_at T d).end)) (within2 : ((row_at T d).begin ≤ a2) × (e2 ≤ (row_at T d).end))
      (side : (p : ℕ) → (row_at T d).begin ≤ p → p < (row_at T d).end → ((a2 ≤ p) × (p < e2) → ⊥) → (a1 ≤ p) × (p < e1))
      (apart : (p : ℕ) → a1 ≤ p → p < e1 → (a2 ≤ p) × (p < e2) → ⊥)
      (goes : (x y : ℕ) → (row_at T x).class ≡ d → (row_at T y).class ≡ d → (Front T x → Front T y) → (Front T y → Front T x)
      → (a2 ≤ (row_at T x).place) × ((row_at T x).place < e2) → (row_at T d).begin ≤ (row_at T y).place → (row_at T y).place < (row_at T d).end → (a2 ≤ (row_at T y).place) × ((row_at T y).place < e2)) where
    abbrev New : ℕ → Type 0
    New x = (a2 ≤ (row_at T x).place) × ((row_at T x).place < e2)

    new? : (x : ℕ) → Dec (New x)
    new? x = go (dec_lt (row_at T x).place a2) (dec_lt (row_at T x).place e2)
      where
        go : Dec ((row_at T x).place < a2) → Dec ((row_at T x).place < e2) → Dec (New x)
        go (yes p) q = no (λ w. omega (arith, w.0))
        go (no p) (yes q) = yes (omega (arith, p), q)
        go (no p) (no q) = no (λ w. q w.1)

    place' : (x : ℕ) → (row_at T2 x).place ≡ (row_at T x).place
    place' x = l2.place x ∙ l1.place x

    place3 : (x : ℕ) → (row_at T3 x).place ≡ (row_at T x).place
    place3 x = r.place x ∙ place' x

    object3 : (x : ℕ) → (row_at T3 x).object_at ≡ (row_at T x).object_at
    object3 x = r.object x ∙ l2.object x ∙ l1.object x

    cls' : (x : ℕ) → (row_at T2 x).class ≡ (row_at T x).class
    cls' x = l2.cls x ∙ l1.cls x

    cls_new : (x : ℕ) → x < n → New x → (row_at T3 x).class ≡ m
    cls_new x h w = r.new x h (omega (arith, place' x, w.0)) (omega (arith, place' x, w.1))

    cls_old : (x : ℕ) → x < n → (New x → ⊥) → (row_at T3 x).class ≡ (row_at T x).class
    cls_old x h w = go (dec_lt (row_at T x).place a2)
      where
        go : Dec ((row_at T x).place < a2) → (row_at T3 x).class ≡ (row_at T x).class
        go (yes p) = r.below x h (omega (arith, place' x)) ∙ cls' x
        go (no p) = go2 (dec_lt (row_at T x).place e2)
          where
            go2 : Dec ((row_at T x).place < e2) → (row_at T3 x).class ≡ (row_at T x).class
            go2 (yes q) = absurd (w (omega (arith, p), q))
            go2 (no q) = r.above x h (omega (arith, place' x, q)) ∙ cls' x

    -- the rows of the two classes, and of the others
    row_d : row_at T2 d ≡ row_at T1 d
    row_d = l2.others d (λ z. omega arith)

    first_d : (row_at T3 d).begin ≡ a1
    first_d = r.first d ∙ ap (λ y. y.begin) row_d ∙ l1.first

    mid_d : (row_at T3 d).middle ≡ a1
    mid_d = r.mid d ∙ ap (λ y. y.middle) row_d ∙ l1.mid

    end_d : (row_at T3 d).end ≡ e1
    end_d = r.end d ∙ ap (λ y. y.end) row_d ∙ l1.end

    first_m : (row_at T3 m).begin ≡ a2
    first_m = r.first m ∙ l2.first

    mid_m : (row_at T3 m).middle ≡ a2
    mid_m = r.mid m ∙ l2.mid

    end_m : (row_at T3 m).end ≡ e2
    end_m = r.end m ∙ l2.end

    module _ (c : ℕ) (nd : (c ≡ d) → ⊥) (nm : (c ≡ m) → ⊥) where
      row_c : row_at T2 c ≡ row_at T c
      row_c = l2.others c nm ∙ l1.others c nd

      first_c : (row_at T3 c).begin ≡ (row_at T c).begin
      first_c = r.first c ∙ ap (λ y. y.begin) row_c

      mid_c : (row_at T3 c).middle ≡ (row_at T c).middle
      mid_c = r.mid c ∙ ap (λ y. y.middle) row_c

      end_c : (row_at T3 c).end ≡ (row_at T c).end
      end_c = r.end c ∙ ap (λ y. y.end) row_c

    row : (x c : ℕ) → (row_at T3 x).class ≡ c → row_at T3 (row_at T3 x).class ≡ row_at T3 c
    row x c q = ap (row_at T3) q

    first_of : (x : ℕ) → (row_at T x).class ≡ d → (row_at T (row_at T x).class).begin ≡ (row_at T d).begin
    first_of x q = ap (λ (y : ℕ). (row_at T y).begin) q

    end_of : (x : ℕ) → (row_at T x).class ≡ d → (row_at T (row_at T x).class).end ≡ (row_at T d).end
    end_of x q = ap (λ (y : ℕ). (row_at T y).end) q

    new_d : (x : ℕ) → x < n → New x → (row_at T x).class ≡ d
    new_d x h w = k.only x d h hd (omega (arith, w.0, within2.0)) (omega (arith, w.1, within2.1))

    -- an object is in the new class, or in what class d keeps, or elsewhere
    data Lies (x : ℕ) : Type 0 where
      new : New x → (row_at T3 x).class ≡ m → Lies x
      rest : (New x → ⊥) → (row_at T x).class ≡ d → (row_at T3 x).class ≡ d → (a1 ≤ (row_at T x).place) × ((row_at T x).place < e1) → Lies x
      other : (New x → ⊥) → (((row_at T x).class ≡ d) → ⊥) → (((row_at T x).class ≡ m) → ⊥) → (row_at T3 x).class ≡ (row_at T x).class → Lies x

    lies : (x : ℕ) → x < n → Lies x
    lies x h = go (new? x) (ℕ_discrete (row_at T x).class d)
      where
        go : Dec (New x) → Dec ((row_at T x).class ≡ d) → Lies x
        go (yes w) q = new w (cls_new x h w)
        go (no w) (yes q) = rest w q (cls_old x h w ∙ q) (side (row_at T x).place (omega (arith, k.from x h, first_of x q)) (omega (arith, k.to x h, end_of x q)) w)
        go (no w) (no q) = other w q (λ z. omega (arith, k.low x h)) (cls_old x h w)

    from : (x : ℕ) → x < n → Lies x → (row_at T3 (row_at T3 x).class).begin ≤ (row_at T3 x).place
    from x h (new w q) = omega (arith, ap (λ y. y.begin) (row x m q), first_m, place3 x, w.0)
    from x h (rest w u q s) = omega (arith, ap (λ y. y.begin) (row x d q), first_d, place3 x, s.0)
    from x h (other w u v q) = omega (arith, ap (λ y. y.begin) (row x (row_at T x).class q), first_c (row_at T x).class u v, place3 x, k.from x h)

    to : (x : ℕ) → x < n → Lies x → (row_at T3 x).place < (row_at T3 (row_at T3 x).class).end
    to x h (new w q) = omega (arith, ap (λ y. y.end) (row x m q), end_m, place3 x, w.1)
    to x h (rest w u q s) = omega (arith, ap (λ y. y.end) (row x d q), end_d, place3 x, s.1)
    to x h (other w u v q) = omega (arith, ap (λ y. y.end) (row x (row_at T x).class q), end_c (row_at T x).class u v, place3 x, k.to x h)

    low : (x : ℕ) → x < n → Lies x → (row_at T3 x).class < m + 1
    low x h (new w q) = omega (arith, q)
    low x h (rest w u q s) = omega (arith, q)
    low x h (other w u v q) = omega (arith, q, k.low x h)

    only : (x c : ℕ) → x < n → c < m + 1 → (row_at T3 c).begin ≤ (row_at T3 x).place → (row_at T3 x).place < (row_at T3 c).end → Dec (c ≡ m) → Dec (c ≡ d) → (row_at T3 x).class ≡ c
    only x c h l a b (yes q) w =
        cls_new x h (omega (arith, place3 x, ap (λ (y : ℕ). (row_at T3 y).begin) q, first_m), omega (arith, place3 x, ap (λ (y : ℕ). (row_at T3 y).end) q, end_m)) ∙ sym q
    only x c h l a b (no q) (yes w) =
        let p1 : a1 ≤ (row_at T x).place = omega (arith, place3 x, ap (λ (y : ℕ). (row_at T3 y).begin) w, first_d) in
        let p2 : (row_at T x).place < e1 = omega (arith, place3 x, ap (λ (y : ℕ). (row_at T3 y).end) w, end_d) in
        cls_old x h (apart (row_at T x).place p1 p2) ∙ k.only x d h hd (omega (arith, within1.0)) (omega (arith, within1.1)) ∙ sym w
    only x c h l a b (no q) (no w) =
        let e : (row_at T x).class ≡ c = k.only x c h (omega (arith, q)) (omega (arith, place3 x, first_c c w q)) (omega (arith, place3 x, end_c c w q)) in
        cls_old x h (λ z. w (sym e ∙ new_d x h z)) ∙ e

    ends : (c : ℕ) → c < m + 1 → Dec (c ≡ m) → Dec (c ≡ d) → (row_at T3 c).end ≤ n
    ends c h (yes q) w = omega (arith, ap (λ (y : ℕ). (row_at T3 y).end) q, end_m, within2.1, k.ends d hd)
    ends c h (no q) (yes w) = omega (arith, ap (λ (y : ℕ). (row_at T3 y).end) w, end_d, within1.1, k.ends d hd)
    ends c h (no q) (no w) = omega (arith, end_c c w q, k.ends c (omega (arith, q)))

    mids : (c : ℕ) → c < m + 1 → Dec (c ≡ m) → Dec (c ≡ d) → (row_at T3 c).begin ≤ (row_at T3 c).middle
    mids c h (yes q) w = omega (arith, ap (λ (y : ℕ). (row_at T3 y).begin) q, ap (λ (y : ℕ). (row_at T3 y).middle) q, first_m, mid_m)
    mids c h (no q) (yes w) = omega (arith, ap (λ (y : ℕ). (row_at T3 y).begin) w, ap (λ (y : ℕ). (row_at T3 y).middle) w, first_d, mid_d)
    mids c h (no q) (no w) = omega (arith, first_c c w q, mid_c c w q, k.mids c (omega (arith, q)))

    size3 : length T3 ≡ length T
    size3 = r.same ∙ l2.same ∙ l1.same

    parted_classes : Classes n (m + 1) T3
    parted_classes = record {
      placed = record {
        room = rw size3 k.placed.room;
        place = λ x h. rw (place3 x) (k.placed.place x h);
        holds = λ x h. rw (place3 x, object3 (row_at T x).place) (k.placed.holds x h);
        object = λ x h. rw (object3 x) (k.placed.object x h);
        stands = λ x h. rw (object3 x, place3 (row_at T x).object_at) (k.placed.stands x h);
      };
      few = omega arith;
      low = λ x h. low x h (lies x h);
      from = λ x h. from x h (lies x h);
      to = λ x h. to x h (lies x h);
      only = λ x c h l a b. only x c h l a b (ℕ_discrete c m) (ℕ_discrete c d);
      ends = λ c h. ends c h (ℕ_discrete c m) (ℕ_discrete c d);
      mids = λ c h. mids c h (ℕ_discrete c m) (ℕ_discrete c d);
    }

    module _ (D : ℕ → ℕ) (t : Kept D n T) where
      new_goes : (x y : ℕ) → x < n → y < n → D x ≡ D y → New x → New y
      new_goes x y hx hy e w =
          let cx = new_d x hx w in
          let cy : (row_at T y).class ≡ d = sym (t.cls x y hx hy e) ∙ cx in
          goes x y cx cy (t.front x y hx hy e) (t.front y x hy hx (sym e)) w (omega (arith, k.from y hy, first_of y cy)) (omega (arith, k.to y hy, end_of y cy))

      kept_cls : (x y : ℕ) → x < n → y < n → D x ≡ D y → Dec (New x) → (row_at T3 x).class ≡ (row_at T3 y).class
      kept_cls x y hx hy e (yes w) = cls_new x hx w ∙ sym (cls_new y hy (new_goes x y hx hy e w))
      kept_cls x y hx hy e (no w) = cls_old x hx w ∙ t.cls x y hx hy e ∙ sym (cls_old y hy (λ z. w (new_goes y x hy hx (sym e) z)))

      front_old : (x : ℕ) → x < n → Lies x → Front T3 x → (New x → ⊥) × (((row_at T x).class ≡ d) → ⊥) × Front T x
      front_old x h (new w q) f = absurd (omega (arith, f.at, ap (λ y. y.middle) (row x m q), mid_m, place3 x, w.0))
      front_old x h (rest w u q s) f = absurd (omega (arith, f.at, ap (λ y. y.middle) (row x d q), mid_d, place3 x, s.0))
      front_old x h (other w u v q) f = (w, u, record { at = omega (arith, f.at, ap (λ y. y.middle) (row x (row_at T x).class q), mid_c (row_at T x).class u v, place3 x) })

      kept_front : (x y : ℕ) → x < n → y < n → D x ≡ D y → Front T3 x → Front T3 y
      kept_front x y hx hy e f =
          let w = front_old x hx (lies x hx) f in
          let u : ((row_at T y).class ≡ d) → ⊥ = λ z. w.1 (t.cls x y hx hy e ∙ z) in
          let g = t.front x y hx hy e w.2 in
          let q = cls_old y hy (λ z. u (new_d y hy z)) in
          record { at = omega (arith, g.at, place3 y, ap (λ y. y.middle) (row y (row_at T y).class q), mid_c (row_at T y).class u (λ z. omega (arith, k.low y hy))) }

    pub split_parts : Split n T T3 m (m + 1)
    split_parts = record {
      classes = parted_classes;
      more = omega arith;
      same = size3;
      kept = λ D t. record { cls = λ x y hx hy e. kept_cls D t x y hx hy e (new? x); front = kept_front D t };
    }
