-- Laws of a class that is not parted: it is left as it is, or its middle is taken back.
use Rattle.std.proofs.Common.{ℕ, ◌<◌, ◌≤◌, arith, ◌≡◌, sym, ap, ◌∙◌, List}
use native.Mathlib.Decide.{ℕ_discrete}
use Rattle.canon.specs.declared.rows.Row.{Row}
use Rattle.canon.specs.Rows.{row_at}
use Rattle.canon.specs.Parting.{Classes, Front, LaidOut, Split}

module _ (n m : ℕ) (T : List Row) (k : Classes n m T) where
  module _ (d : ℕ) (hd : d < m) (T1 : List Row) (l : LaidOut T d (row_at T d).begin (row_at T d).end T1) where
    first : (x : ℕ) → (row_at T1 x).begin ≡ (row_at T x).begin
    first x = go (ℕ_discrete x d)
      where
        go : Dec (x ≡ d) → (row_at T1 x).begin ≡ (row_at T x).begin
        go (yes q) = rw q l.first
        go (no q) = ap (λ r. r.begin) (l.others x q)

    end : (x : ℕ) → (row_at T1 x).end ≡ (row_at T x).end
    end x = go (ℕ_discrete x d)
      where
        go : Dec (x ≡ d) → (row_at T1 x).end ≡ (row_at T x).end
        go (yes q) = rw q l.end
        go (no q) = ap (λ r. r.end) (l.others x q)

    mid : (x : ℕ) → ((x ≡ d) → ⊥) → (row_at T1 x).middle ≡ (row_at T x).middle
    mid x q = ap (λ r. r.middle) (l.others x q)

    back_classes : Classes n m T1
    back_classes = record {
      placed = record {
        room = rw l.same k.placed.room;
        place = λ x h. rw (l.place x) (k.placed.place x h);
        holds = λ x h. rw (l.place x, l.object (row_at T x).place) (k.placed.holds x h);
        object = λ x h. rw (l.object x) (k.placed.object x h);
        stands = λ x h. rw (l.object x, l.place (row_at T x).object_at) (k.placed.stands x h);
      };
      few = k.few;
      low = λ x h. rw (l.cls x) (k.low x h);
      from = λ x h. rw (l.cls x, first (row_at T x).class, l.place x) (k.from x h);
      to = λ x h. rw (l.cls x, end (row_at T x).class, l.place x) (k.to x h);
      only = λ x c h u a b. l.cls x ∙ k.only x c h u (omega (arith, first c, l.place x)) (omega (arith, end c, l.place x));
      ends = λ c h. rw (end c) (k.ends c h);
      mids = λ c h. rw (first c) (mids c h (ℕ_discrete c d));
    }
      where
        mids : (c : ℕ) → c < m → Dec (c ≡ d) → (row_at T c).begin ≤ (row_at T1 c).middle
        mids c h (yes q) = omega (arith, ap (λ (y : ℕ). (row_at T y).begin) q, ap (λ (y : ℕ). (row_at T1 y).middle) q, l.mid)
        mids c h (no q) = omega (arith, mid c q, k.mids c h)

    -- nobody of class d is in front, the others as before
    back_front : (x : ℕ) → x < n → Front T1 x → (((row_at T x).class ≡ d) → ⊥) × Front T x
    back_front x h f = go (ℕ_discrete (row_at T x).class d)
      where
        go : Dec ((row_at T x).class ≡ d) → (((row_at T x).class ≡ d) → ⊥) × Front T x
        go (yes q) = absurd (omega (arith, f.at, l.place x, ap (λ (y : ℕ). (row_at T1 y).middle) (l.cls x ∙ q), l.mid, k.from x h, ap (λ (y : ℕ). (row_at T y).begin) q))
        go (no q) = (q, record { at = omega (arith, f.at, l.place x, ap (λ (y : ℕ). (row_at T1 y).middle) (l.cls x), mid (row_at T x).class q) })

    front_back : (x : ℕ) → (((row_at T x).class ≡ d) → ⊥) → Front T x → Front T1 x
    front_back x q f = record { at = omega (arith, f.at, l.place x, ap (λ (y : ℕ). (row_at T1 y).middle) (l.cls x), mid (row_at T x).class q) }

    pub split_back : Split n T T1 m m
    split_back = record {
      classes = back_classes;
      more = omega arith;
      same = l.same;
      kept = λ D t. record {
        cls = λ x y hx hy e. l.cls x ∙ t.cls x y hx hy e ∙ sym (l.cls y);
        front = λ x y hx hy e f. let w = back_front x hx f in front_back y (λ z. w.0 (t.cls x y hx hy e ∙ z)) (t.front x y hx hy e w.1);
      };
    }
