-- Laws of bringing objects to the fronts of their classes, one after another: all that refer to one object, all that refer into a class. Not here: one of them (Fronts).
use Rattle.std.proofs.Common.{ℕ, ◌+◌, ◌<◌, ◌≤◌, arith, ◌≡◌, refl, sym, ap, ◌∙◌, subst, List}
use native.Mathlib.Decide.{dec_lt, ℕ_discrete}
use mathlib.Core.Logic.{◌⊎◌, inl, inr, ⊎_elim}
use Rattle.canon.specs.declared.rows.Row.{Row}
use Rattle.canon.specs.declared.rows.Link.{Link}
use Rattle.canon.specs.Rows.{row_at, link_at}
use Rattle.canon.specs.Links.{Last, Lists}
use Rattle.canon.specs.Parting.{Classes, Front, Brought, SameNotes, Into, Noted}
use Rattle.canon.proofs.Notes.{like_classes, like_front, front_like, notes_then}

-- ---- one after another
pub brought_then : (n m : ℕ) (T T1 T2 : List Row) (P Q R : ℕ → Type 0) → Brought n m T T1 P → Brought n m T1 T2 Q
    → ((x : ℕ) → x < n → P x → R x) → ((x : ℕ) → x < n → Q x → R x) → ((x : ℕ) → x < n → R x → P x ⊎ Q x) → Brought n m T T2 R
brought_then n m T T1 T2 P Q R a b p q r = record {
  classes = b.classes;
  same = b.same ∙ a.same;
  cls = λ x h. b.cls x h ∙ a.cls x h;
  keep = λ x h f. b.keep x h (a.keep x h f);
  only = λ x h f d. go x h f d (dec_lt (row_at T1 x).place (row_at T1 (row_at T1 x).class).middle);
  all = λ x h t. ⊎_elim (λ w. b.keep x h (a.all x h w)) (λ w. b.all x h w) (r x h t);
}
  where
    go : (x : ℕ) → x < n → Front T2 x → (Front T x → ⊥) → Dec ((row_at T1 x).place < (row_at T1 (row_at T1 x).class).middle) → R x
    go x h f d (yes l) = p x h (a.only x h (record { at = l }) d)
    go x h f d (no l) = q x h (b.only x h f (λ w. l w.at))

pub brought_as : (n m : ℕ) (T T1 : List Row) (P R : ℕ → Type 0) → Brought n m T T1 P → ((x : ℕ) → x < n → P x → R x) → ((x : ℕ) → x < n → R x → P x) → Brought n m T T1 R
brought_as n m T T1 P R a p r = record {
  classes = a.classes;
  same = a.same;
  cls = a.cls;
  keep = a.keep;
  only = λ x h f d. p x h (a.only x h f d);
  all = λ x h t. a.all x h (r x h t);
}

pub brought_none : (n m : ℕ) (T : List Row) (P : ℕ → Type 0) → Classes n m T → ((x : ℕ) → x < n → P x → ⊥) → Brought n m T T P
brought_none n m T P k never = record {
  classes = k;
  same = refl;
  cls = λ x h. refl;
  keep = λ x h f. f;
  only = λ x h f d. absurd (d f);
  all = λ x h p. absurd (never x h p);
}

-- ---- a list gone through
pub record Passed (K : List Link) (v z x : ℕ) : Type 0 where
  pub is : (link_at K x).target ≡ v
  pub past : z < x

pub record Walking (n m : ℕ) (K : List Link) (v : ℕ) (T₀ T : List Row) (z : ℕ) : Type 0 where
  pub brought : Brought n m T₀ T (Passed K v z)
  pub notes : SameNotes n T₀ T
  pub low : z < n
  pub on : 0 < z → (link_at K z).target ≡ v

module _ (n m : ℕ) (K : List Link) (v : ℕ) (ls : Lists n K) (pos : 0 < v) (low : v < n) where
  module _ (T₀ T : List Row) (z : ℕ) (w : Walking n m K v T₀ T z) (hz : 0 < z) where
    next_last : Last (λ y. (link_at K y).target) v z (link_at K z).before
    next_last = subst (λ (u : ℕ). Last (λ y. (link_at K y).target) u z (link_at K z).before) (w.on hz) (ls.all.nexts z hz w.low (omega (arith, w.on hz)))

    pub walk_less : (link_at K z).before < z
    walk_less = next_last.low

    pub walk_more : (T2 : List Row) → Brought n m T T2 (λ x. x ≡ z) → SameNotes n T T2 → Walking n m K v T₀ T2 (link_at K z).before
    walk_more T2 b s = record {
      brought = brought_then n m T₀ T T2 (Passed K v z) (λ x. x ≡ z) (Passed K v (link_at K z).before) w.brought b
          (λ x h p. record { is = p.is; past = omega (arith, p.past, walk_less) })
          (λ x h p. record { is = ap (λ (y : ℕ). (link_at K y).target) p ∙ w.on hz; past = omega (arith, p, walk_less) })
          (λ x h p. go x p (ℕ_discrete x z) (dec_lt z x));
      notes = notes_then n T₀ T T2 w.notes s;
      low = omega (arith, walk_less, w.low);
      on = next_last.is;
    }
      where
        go : (x : ℕ) → Passed K v (link_at K z).before x → Dec (x ≡ z) → Dec (z < x) → Passed K v z x ⊎ (x ≡ z)
        go x p (yes q) l = inr q
        go x p (no q) (yes l) = inl (record { is = p.is; past = l })
        go x p (no q) (no l) = absurd (next_last.none x p.past (omega (arith, q, l)) p.is)

-- ---- a class gone through
pub record Seen (K : List Link) (T : List Row) (s p x : ℕ) : Type 0 where
  pub some : 0 < (link_at K x).target
  pub cls : (row_at T (link_at K x).target).class ≡ s
  pub place : (row_at T (link_at K x).target).place < p

module _ (n m : ℕ) (K : List Link) (s : ℕ) (T₀ T : List Row) (ls : Lists n K) (k : Classes n m T₀) (hs : s < m) (nt : Noted T₀ s (row_at T₀ s).end T) where
  target_low : (x : ℕ) → x < n → 0 < (link_at K x).target → (link_at K x).target < n
  target_low x h l = go (ℕ_discrete x 0)
    where
      go : Dec (x ≡ 0) → (link_at K x).target < n
      go (yes q) = absurd (omega (arith, ls.all.null x q))
      go (no q) = ls.all.low x (omega (arith, q)) h

  kt : Classes n m T
  kt = like_classes T₀ T nt.like n m k

  first_is : (row_at T s).begin ≡ (row_at T₀ s).begin
  first_is = nt.like.first s

  end_is : (row_at T s).end ≡ (row_at T₀ s).end
  end_is = nt.like.end s

  -- who stands at a place of the class
  at_place : (p : ℕ) → (row_at T s).begin ≤ p → p < (row_at T s).end → (row_at T p).note ≡ (row_at T p).object_at
  at_place p a b = nt.note p (omega (arith, first_is)) (omega (arith, end_is)) ∙ sym (nt.like.object p)

  pub class_start : Brought n m T T (Seen K T s (row_at T s).begin)
  class_start =
      brought_none n m T (Seen K T s (row_at T s).begin) kt
      (λ x h w. omega (arith, w.place, kt.from (link_at K x).target (target_low x h w.some), ap (λ (c : ℕ). (row_at T c).begin) w.cls))

  module _ (T1 : List Row) (p : ℕ) (b : Brought n m T T1 (Seen K T s p)) (sn : SameNotes n T T1) (a : (row_at T s).begin ≤ p) (e : p < (row_at T s).end) where
    place_low : p < n
    place_low = omega (arith, kt.ends s hs)

    pub noted_is : (row_at T1 p).note ≡ (row_at T p).object_at
    noted_is = sn.note p place_low ∙ at_place p a e

    pub noted_low : (row_at T1 p).note < n
    noted_low = omega (arith, noted_is, kt.placed.object p place_low)

    at_it : (x : ℕ) → x < n → 0 < (link_at K x).target → (row_at T (link_at K x).target).place ≡ p → (link_at K x).target ≡ (row_at T1 p).note
    at_it x h l q = sym (kt.placed.holds (link_at K x).target (target_low x h l)) ∙ ap (λ (y : ℕ). (row_at T y).object_at) q ∙ sym noted_is

    pub class_skip : (row_at T1 p).note ≤ 0 → Brought n m T T1 (Seen K T s (p + 1))
    class_skip z =
        brought_as n m T T1 (Seen K T s p) (Seen K T s (p + 1)) b
        (λ x h w. record { some = w.some; cls = w.cls; place = omega (arith, w.place) })
        (λ x h w. record { some = w.some; cls = w.cls; place = go x h w (ℕ_discrete (row_at T (link_at K x).target).place p) })
      where
        go : (x : ℕ) → x < n → Seen K T s (p + 1) x → Dec ((row_at T (link_at K x).target).place ≡ p) → (row_at T (link_at K x).target).place < p
        go x h w (yes q) = absurd (omega (arith, at_it x h w.some q, w.some))
        go x h w (no q) = omega (arith, w.place, q)

    pub class_more : (T2 : List Row) → 0 < (row_at T1 p).note → Brought n m T1 T2 (λ x. (link_at K x).target ≡ (row_at T1 p).note) → Brought n m T T2 (Seen K T s (p + 1))
    class_more T2 pos b2 =
        brought_then n m T T1 T2 (Seen K T s p) (λ x. (link_at K x).target ≡ (row_at T1 p).note) (Seen K T s (p + 1)) b b2
        (λ x h w. record { some = w.some; cls = w.cls; place = omega (arith, w.place) })
        (λ x h w. hit x h w)
        (λ x h w. go x h w (ℕ_discrete (row_at T (link_at K x).target).place p))
      where
        stood : (x : ℕ) → (link_at K x).target ≡ (row_at T1 p).note → (row_at T (link_at K x).target).place ≡ p
        stood x w = ap (λ (y : ℕ). (row_at T y).place) (w ∙ noted_is) ∙ kt.placed.stands p place_low

        hit : (x : ℕ) → x < n → (link_at K x).target ≡ (row_at T1 p).note → Seen K T s (p + 1) x
        hit x h w = record {
          some = omega (arith, w);
          cls = kt.only (link_at K x).target s (omega (arith, w, noted_low)) hs (omega (arith, stood x w)) (omega (arith, stood x w));
          place = omega (arith, stood x w);
        }

        go : (x : ℕ) → x < n → Seen K T s (p + 1) x → Dec ((row_at T (link_at K x).target).place ≡ p) → Seen K T s p x ⊎ ((link_at K x).target ≡ (row_at T1 p).note)
        go x h w (yes q) = inr (at_it x h w.some q)
        go x h w (no q) = inl (record { some = w.some; cls = w.cls; place = omega (arith, w.place, q) })

  pub class_done : (T1 : List Row) (p : ℕ) → Brought n m T T1 (Seen K T s p) → (row_at T s).end ≤ p → Brought n m T₀ T1 (Into K T₀ s)
  class_done T1 p b h = record {
    classes = b.classes;
    same = b.same ∙ nt.like.same;
    cls = λ x l. b.cls x l ∙ nt.like.cls x;
    keep = λ x l w. b.keep x l (like_front T₀ T nt.like x w);
    only = λ x l w d. seen_into x (b.only x l w (λ u. d (front_like T₀ T nt.like x u)));
    all = λ x l w. b.all x l (into_seen x l w);
  }
    where
      seen_into : (x : ℕ) → Seen K T s p x → Into K T₀ s x
      seen_into x w = record { some = w.some; cls = sym (nt.like.cls (link_at K x).target) ∙ w.cls }

      into_seen : (x : ℕ) → x < n → Into K T₀ s x → Seen K T s p x
      into_seen x l w =
          let c : (row_at T (link_at K x).target).class ≡ s = nt.like.cls (link_at K x).target ∙ w.cls in
          record { some = w.some; cls = c; place = omega (arith, kt.to (link_at K x).target (target_low x l w.some), ap (λ (y : ℕ). (row_at T y).end) c) }
