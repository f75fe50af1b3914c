-- Laws of one object brought to the front of its class. Not here: one after another (Marks).
use Rattle.std.proofs.Common.{ℕ, ◌+◌, ◌<◌, ◌≤◌, arith, ◌≡◌, refl, sym, ap, ◌∙◌, subst, List, length, set, length-set}
use native.Mathlib.Decide.{ℕ_discrete}
use Rattle.canon.specs.declared.rows.Row.{Row}
use Rattle.canon.specs.Rows.{blank, row_at}
use Rattle.canon.specs.Parting.{Stood, Standing, Classes, Front, Found, Brought, SameNotes}
use Rattle.canon.proofs.Written.{field_here, field_other, field_kept}

module _ (n m z : ℕ) (T : List Row) (k : Classes n m T) (hz : z < n) where
  module _ (T1 T2 : List Row) (c a l : ℕ) (fd : Found n m T z c a l) (s1 : Stood T (row_at T a).object_at l T1) (s2 : Stood T1 z a T2) where
    abbrev e : ℕ
    e = (row_at T a).object_at

    ec : (row_at T z).class ≡ c
    ec = sym fd.cls

    ea : (row_at T c).middle ≡ a
    ea = sym fd.mid

    el : (row_at T z).place ≡ l
    el = sym fd.place

    h : a ≤ l
    h = fd.behind

    abbrev N : List Row
    N = set T2 c (record (row_at T2 c) { middle = a + 1 })

    hl : l < n
    hl = omega (arith, el, k.placed.place z hz)

    ha : a < n
    ha = omega (arith, hl)

    hc : c < m
    hc = rw ec at (k.low z hz)

    he : e < n
    he = k.placed.object a ha

    le : (row_at T e).place ≡ a
    le = k.placed.stands a ha

    first_mid : (row_at T c).begin ≤ a
    first_mid = rw ea at (k.mids c hc)

    last : l < (row_at T c).end
    last = rw (ec, el) at (k.to z hz)

    ce : (row_at T e).class ≡ c
    ce = k.only e c he hc (omega (arith, le, first_mid)) (omega (arith, le, last))

    pl : (row_at T l).object_at ≡ z
    pl = rw el at (k.placed.holds z hz)

    size2 : length T2 ≡ length T
    size2 = s2.same ∙ s1.same

    cls' : (x : ℕ) → (row_at N x).class ≡ (row_at T x).class
    cls' x = field_kept (λ r. r.class) T2 c _ blank refl x ∙ s2.cls x ∙ s1.cls x

    first' : (x : ℕ) → (row_at N x).begin ≡ (row_at T x).begin
    first' x = field_kept (λ r. r.begin) T2 c _ blank refl x ∙ s2.first x ∙ s1.first x

    end' : (x : ℕ) → (row_at N x).end ≡ (row_at T x).end
    end' x = field_kept (λ r. r.end) T2 c _ blank refl x ∙ s2.end x ∙ s1.end x

    note' : (x : ℕ) → (row_at N x).note ≡ (row_at T x).note
    note' x = field_kept (λ r. r.note) T2 c _ blank refl x ∙ s2.note x ∙ s1.note x

    place2 : (x : ℕ) → (row_at N x).place ≡ (row_at T2 x).place
    place2 = field_kept (λ r. r.place) T2 c _ blank refl

    object2 : (p : ℕ) → (row_at N p).object_at ≡ (row_at T2 p).object_at
    object2 = field_kept (λ r. r.object_at) T2 c _ blank refl

    mid_here : (row_at N c).middle ≡ a + 1
    mid_here = field_here (λ r. r.middle) T2 c _ blank (omega (arith, size2, k.placed.room, hc, k.few))

    mid_there : (x : ℕ) → ((x ≡ c) → ⊥) → (row_at N x).middle ≡ (row_at T x).middle
    mid_there x d = field_other (λ r. r.middle) T2 c _ blank x d ∙ s2.mid x ∙ s1.mid x

    place_z : (row_at N z).place ≡ a
    place_z = place2 z ∙ s2.at

    place_e : ((e ≡ z) → ⊥) → (row_at N e).place ≡ l
    place_e d = place2 e ∙ s2.place e d ∙ s1.at

    place_other : (x : ℕ) → ((x ≡ z) → ⊥) → ((x ≡ e) → ⊥) → (row_at N x).place ≡ (row_at T x).place
    place_other x d d' = place2 x ∙ s2.place x d ∙ s1.place x d'

    object_a : (row_at N a).object_at ≡ z
    object_a = object2 a ∙ s2.here

    object_l : ((l ≡ a) → ⊥) → (row_at N l).object_at ≡ e
    object_l d = object2 l ∙ s2.object l d ∙ s1.here

    object_other : (p : ℕ) → ((p ≡ a) → ⊥) → ((p ≡ l) → ⊥) → (row_at N p).object_at ≡ (row_at T p).object_at
    object_other p d d' = object2 p ∙ s2.object p d ∙ s1.object p d'

    -- e is z exactly where l is a
    e_l : (e ≡ z) → l ≡ a
    e_l q = sym el ∙ ap (λ (y : ℕ). (row_at T y).place) (sym q) ∙ le

    l_e : (l ≡ a) → e ≡ z
    l_e q = ap (λ (y : ℕ). (row_at T y).object_at) (sym q) ∙ pl

    holds_back : (x : ℕ) → x < n → (p : ℕ) → (row_at T x).place ≡ p → (row_at T p).object_at ≡ x
    holds_back x hx p q = ap (λ (y : ℕ). (row_at T y).object_at) (sym q) ∙ k.placed.holds x hx

    stands_back : (p : ℕ) → p < n → (x : ℕ) → (row_at T p).object_at ≡ x → (row_at T x).place ≡ p
    stands_back p hp x q = ap (λ (y : ℕ). (row_at T y).place) (sym q) ∙ k.placed.stands p hp

    -- where x stands now: by cases
    data Where (x : ℕ) : Type 0 where
      moved : x ≡ z → Where x
      other_way : ((x ≡ z) → ⊥) → x ≡ e → Where x
      still : ((x ≡ z) → ⊥) → ((x ≡ e) → ⊥) → Where x

    where_is : (x : ℕ) → Where x
    where_is x = go (ℕ_discrete x z) (ℕ_discrete x e)
      where
        go : Dec (x ≡ z) → Dec (x ≡ e) → Where x
        go (yes q) r = moved q
        go (no q) (yes r) = other_way q r
        go (no q) (no r) = still q r

    place_moved : (x : ℕ) → x ≡ z → (row_at N x).place ≡ a
    place_moved x q = ap (λ (y : ℕ). (row_at N y).place) q ∙ place_z

    place_way : (x : ℕ) → ((x ≡ z) → ⊥) → x ≡ e → (row_at N x).place ≡ l
    place_way x d q = ap (λ (y : ℕ). (row_at N y).place) q ∙ place_e (λ r. d (q ∙ r))

    moved_placed : Standing n N
    moved_placed = record {
      room = omega (arith, length-set T2 c (record (row_at T2 c) { middle = a + 1 }), size2, k.placed.room);
      place = λ x hx. place x hx (where_is x);
      holds = λ x hx. holds x hx (where_is x);
      object = λ p hp. object p hp (ℕ_discrete p a) (ℕ_discrete p l);
      stands = λ p hp. stands p hp (ℕ_discrete p a) (ℕ_discrete p l);
    }
      where
        place : (x : ℕ) → x < n → Where x → (row_at N x).place < n
        place x hx (moved q) = omega (arith, place_moved x q, ha)
        place x hx (other_way d q) = omega (arith, place_way x d q, hl)
        place x hx (still d d') = omega (arith, place_other x d d', k.placed.place x hx)

        holds : (x : ℕ) → x < n → Where x → (row_at N (row_at N x).place).object_at ≡ x
        holds x hx (moved q) = ap (λ (y : ℕ). (row_at N y).object_at) (place_moved x q) ∙ object_a ∙ sym q
        holds x hx (other_way d q) = ap (λ (y : ℕ). (row_at N y).object_at) (place_way x d q) ∙ object_l (λ r. d (q ∙ l_e r)) ∙ sym q
        holds x hx (still d d') =
            ap (λ (y : ℕ). (row_at N y).object_at) (place_other x d d')
            ∙ object_other (row_at T x).place (λ r. d' (sym (holds_back x hx a r))) (λ r. d (sym (holds_back x hx l r) ∙ pl))
            ∙ k.placed.holds x hx

        object : (p : ℕ) → p < n → Dec (p ≡ a) → Dec (p ≡ l) → (row_at N p).object_at < n
        object p hp (yes q) r = omega (arith, ap (λ (y : ℕ). (row_at N y).object_at) q, object_a, hz)
        object p hp (no q) (yes r) = omega (arith, ap (λ (y : ℕ). (row_at N y).object_at) r, object_l (λ s. q (r ∙ s)), he)
        object p hp (no q) (no r) = omega (arith, object_other p q r, k.placed.object p hp)

        stands : (p : ℕ) → p < n → Dec (p ≡ a) → Dec (p ≡ l) → (row_at N (row_at N p).object_at).place ≡ p
        stands p hp (yes q) r = ap (λ (y : ℕ). (row_at N y).place) (ap (λ (y : ℕ). (row_at N y).object_at) q ∙ object_a) ∙ place_z ∙ sym q
        stands p hp (no q) (yes r) =
            ap (λ (y : ℕ). (row_at N y).place) (ap (λ (y : ℕ). (row_at N y).object_at) r ∙ object_l (λ s. q (r ∙ s))) ∙ place_e (λ s. q (r ∙ e_l s)) ∙ sym r
        stands p hp (no q) (no r) =
            ap (λ (y : ℕ). (row_at N y).place) (object_other p q r)
            ∙ place_other (row_at T p).object_at (λ s. r (sym (stands_back p hp z s) ∙ el)) (λ s. q (sym (stands_back p hp e s) ∙ le))
            ∙ k.placed.stands p hp

    moved_classes : Classes n m N
    moved_classes = record {
      placed = moved_placed;
      few = k.few;
      low = λ x hx. rw (cls' x) (k.low x hx);
      from = λ x hx. rw (cls' x, first' (row_at T x).class) (from x hx (where_is x));
      to = λ x hx. rw (cls' x, end' (row_at T x).class) (to x hx (where_is x));
      only = λ x d hx hd p q. cls' x ∙ only x d hx hd (rw (first' d) at p) (rw (end' d) at q) (where_is x);
      ends = λ d hd. rw (end' d) (k.ends d hd);
      mids = λ d hd. rw (first' d) (mids d hd (ℕ_discrete d c));
    }
      where
        from : (x : ℕ) → x < n → Where x → (row_at T (row_at T x).class).begin ≤ (row_at N x).place
        from x hx (moved q) = omega (arith, place_moved x q, first_mid, ap (λ (y : ℕ). (row_at T y).begin) (ap (λ (y : ℕ). (row_at T y).class) q ∙ ec))
        from x hx (other_way d q) = omega (arith, place_way x d q, first_mid, h, ap (λ (y : ℕ). (row_at T y).begin) (ap (λ (y : ℕ). (row_at T y).class) q ∙ ce))
        from x hx (still d d') = omega (arith, place_other x d d', k.from x hx)

        to : (x : ℕ) → x < n → Where x → (row_at N x).place < (row_at T (row_at T x).class).end
        to x hx (moved q) = omega (arith, place_moved x q, last, h, ap (λ (y : ℕ). (row_at T y).end) (ap (λ (y : ℕ). (row_at T y).class) q ∙ ec))
        to x hx (other_way d q) = omega (arith, place_way x d q, last, ap (λ (y : ℕ). (row_at T y).end) (ap (λ (y : ℕ). (row_at T y).class) q ∙ ce))
        to x hx (still d d') = omega (arith, place_other x d d', k.to x hx)

        only : (x d : ℕ) → x < n → d < m → (row_at T d).begin ≤ (row_at N x).place → (row_at N x).place < (row_at T d).end → Where x → (row_at T x).class ≡ d
        only x d hx hd p q (moved r) = ap (λ (y : ℕ). (row_at T y).class) r ∙ ec ∙ sym ce ∙ k.only e d he hd (omega (arith, place_moved x r, le)) (omega (arith, place_moved x r, le))
        only x d hx hd p q (other_way u r) = ap (λ (y : ℕ). (row_at T y).class) r ∙ ce ∙ sym ec ∙ k.only z d hz hd (omega (arith, place_way x u r, el)) (omega (arith, place_way x u r, el))
        only x d hx hd p q (still u u') = k.only x d hx hd (omega (arith, place_other x u u')) (omega (arith, place_other x u u'))

        mids : (d : ℕ) → d < m → Dec (d ≡ c) → (row_at T d).begin ≤ (row_at N d).middle
        mids d hd (yes q) = omega (arith, ap (λ (y : ℕ). (row_at T y).begin) q, ap (λ (y : ℕ). (row_at N y).middle) q, mid_here, first_mid)
        mids d hd (no q) = omega (arith, mid_there d q, k.mids d hd)

    -- the middle of x's class, now and before
    mid_up : (x : ℕ) → (row_at T (row_at T x).class).middle ≤ (row_at N (row_at T x).class).middle
    mid_up x = go (ℕ_discrete (row_at T x).class c)
      where
        go : Dec ((row_at T x).class ≡ c) → (row_at T (row_at T x).class).middle ≤ (row_at N (row_at T x).class).middle
        go (yes q) = omega (arith, ap (λ (y : ℕ). (row_at T y).middle) q, ea, ap (λ (y : ℕ). (row_at N y).middle) q, mid_here)
        go (no q) = omega (arith, mid_there (row_at T x).class q)

    mid_of_z : (x : ℕ) → (row_at T x).class ≡ c → (row_at N (row_at N x).class).middle ≡ a + 1
    mid_of_z x q = ap (λ (y : ℕ). (row_at N y).middle) (cls' x ∙ q) ∙ mid_here

    keep' : (x : ℕ) → x < n → Where x → Front T x → Front N x
    keep' x hx (moved q) f = absurd (omega (arith, (subst (Front T) q f).at, el, ap (λ (y : ℕ). (row_at T y).middle) ec, ea, h))
    keep' x hx (other_way d q) f = absurd (omega (arith, (subst (Front T) q f).at, le, ap (λ (y : ℕ). (row_at T y).middle) ce, ea))
    keep' x hx (still d d') f = record { at = rw (cls' x) (omega (arith, place_other x d d', f.at, mid_up x)) }

    only' : (x : ℕ) → x < n → Where x → Front N x → (Front T x → ⊥) → x ≡ z
    only' x hx (moved q) f d = q
    only' x hx (other_way u q) f d =
        absurd (u (q ∙ l_e (omega (arith, f.at, place_way x u q, mid_of_z x (ap (λ (y : ℕ). (row_at T y).class) q ∙ ce), h))))
    only' x hx (still u u') f d = go (ℕ_discrete (row_at T x).class c)
      where
        go : Dec ((row_at T x).class ≡ c) → x ≡ z
        go (yes q) = absurd (d (record { at = rw q (omega (arith, ea, low)) }))
          where
            up : (row_at T x).place < a + 1
            up = omega (arith, f.at, mid_of_z x q, place_other x u u')

            apart : ((row_at T x).place ≡ a) → ⊥
            apart r = u' (sym (holds_back x hx a r))

            low : (row_at T x).place < a
            low = omega (arith, up, apart)
        go (no q) = absurd (d (record { at = omega (arith, f.at, place_other x u u', ap (λ (y : ℕ). (row_at N y).middle) (cls' x), mid_there (row_at T x).class q) }))

    pub mark_moved : Brought n m T N (λ x. x ≡ z)
    mark_moved = record {
      classes = moved_classes;
      same = length-set T2 c (record (row_at T2 c) { middle = a + 1 }) ∙ size2;
      cls = λ x hx. cls' x;
      keep = λ x hx f. keep' x hx (where_is x) f;
      only = λ x hx f d. only' x hx (where_is x) f d;
      all = λ x hx q. record { at = omega (arith, place_moved x q, mid_of_z x (ap (λ (y : ℕ). (row_at T y).class) q ∙ ec)) };
    }

    pub mark_notes : SameNotes n T N
    mark_notes = record { note = λ x hx. note' x }
