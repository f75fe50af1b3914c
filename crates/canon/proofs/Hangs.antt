-- Laws of the lists of who leads to whom: one row hung up, nothing hung up yet. Not here: which row is hung up where (Looks, Refers).
use Rattle.std.proofs.Common.{ℕ, ◌+◌, ◌<◌, ◌≤◌, arith, ◌≡◌, refl, sym, ap, ◌∙◌, List, length, set, replicate, length-set}
use native.Mathlib.Decide.{ℕ_discrete}
use Rattle.std.proofs.lemmas.List.{length-replicate, get_or-replicate}
use Rattle.canon.specs.declared.rows.Link.{Link}
use Rattle.canon.specs.Rows.{free, link_at}
use Rattle.canon.specs.Links.{Last, Hung, HungOn, Free}
use Rattle.canon.proofs.Written.{field_here, field_other, field_kept}

last_same : (E F : ℕ → ℕ) (v b h : ℕ) → ((z : ℕ) → 0 < z → z < b → F z ≡ E z) → Last E v b h → Last F v b h
last_same E F v b h s l = record {
  low = l.low;
  is = λ p. s h p l.low ∙ l.is p;
  none = λ z p q e. l.none z p q (sym (s z (omega arith) q) ∙ e);
}

-- ---- one row hung up
module _ (n x v : ℕ) (K K' : List Link) (k : Hung n x K) (hx : 0 < x) (hn : x < n) (hv : v < n) (size : length K' ≡ length K)
    (here : (link_at K' x).target ≡ v) (rest : (y : ℕ) → ((y ≡ x) → ⊥) → (link_at K' y).target ≡ (link_at K y).target) where
  below : (b : ℕ) → b ≤ x → (z : ℕ) → 0 < z → z < b → (link_at K' z).target ≡ (link_at K z).target
  below b h z p q = rest z (λ e. omega arith)

  -- a row that x is not hung up on
  keep_head : (u : ℕ) → 0 < u → u < n → ((v ≡ u) → ⊥) → Last (λ y. (link_at K' y).target) u (x + 1) (link_at K u).last
  keep_head u p q d =
      let l = last_same (λ y. (link_at K y).target) (λ y. (link_at K' y).target) u x (link_at K u).last (below x (omega arith)) (k.heads u p q) in
      record {
        low = omega (arith, l.low);
        is = l.is;
        none = λ z a b e. go z a b e l (ℕ_discrete z x);
      }
    where
      go : (z : ℕ) → (link_at K u).last < z → z < x + 1 → (link_at K' z).target ≡ u → Last (λ y. (link_at K' y).target) u x (link_at K u).last → Dec (z ≡ x) → ⊥
      go z a b e l (yes r) = d (sym here ∙ ap (λ (y : ℕ). (link_at K' y).target) (sym r) ∙ e)
      go z a b e l (no r) = l.none z a (omega (arith, r)) e

  pub new_head : Last (λ y. (link_at K' y).target) v (x + 1) x
  new_head = record { low = omega arith; is = λ p. here; none = λ z a b e. omega arith }

  keep_next : (y : ℕ) → 0 < y → y < x → 0 < (link_at K' y).target → Last (λ z. (link_at K' z).target) (link_at K' y).target y (link_at K y).before
  keep_next y p q t =
      let e : (link_at K' y).target ≡ (link_at K y).target = rest y (λ z. omega arith) in
      rw e (last_same (λ z. (link_at K z).target) (λ z. (link_at K' z).target) (link_at K y).target y (link_at K y).before (below y (omega arith)) (k.nexts y p q (omega arith)))

  new_next : 0 < v → Last (λ z. (link_at K' z).target) v x (link_at K v).last
  new_next p = last_same (λ z. (link_at K z).target) (λ z. (link_at K' z).target) v x (link_at K v).last (below x (omega arith)) (k.heads v p hv)

  null' : (y : ℕ) → y ≡ 0 → (link_at K' y).target ≡ 0
  null' y e = rest y (λ z. omega arith) ∙ k.null y e

  low' : (y : ℕ) → 0 < y → y < x + 1 → Dec (y ≡ x) → (link_at K' y).target < n
  low' y p q (yes e) = omega (arith, ap (λ (z : ℕ). (link_at K' z).target) e, here)
  low' y p q (no e) = omega (arith, rest y e, k.low y p (omega (arith, e)))

  pub hung_object : 0 < v → (link_at K' v).last ≡ x → (link_at K' x).before ≡ (link_at K v).last
      → ((u : ℕ) → ((u ≡ v) → ⊥) → (link_at K' u).last ≡ (link_at K u).last) → ((y : ℕ) → ((y ≡ x) → ⊥) → (link_at K' y).before ≡ (link_at K y).before) → Hung n (x + 1) K'
  hung_object p eh en oh on = record {
    room = omega (arith, size, k.room);
    null = null';
    low = λ y a b. low' y a b (ℕ_discrete y x);
    heads = λ u a b. head u a b (ℕ_discrete u v);
    nexts = λ y a b t. next y a b t (ℕ_discrete y x);
  }
    where
      head : (u : ℕ) → 0 < u → u < n → Dec (u ≡ v) → Last (λ y. (link_at K' y).target) u (x + 1) (link_at K' u).last
      head u a b (yes e) = rw (e, eh) new_head
      head u a b (no e) = rw (oh u e) (keep_head u a b (λ z. e (sym z)))

      next : (y : ℕ) → 0 < y → y < x + 1 → 0 < (link_at K' y).target → Dec (y ≡ x) → Last (λ u. (link_at K' u).target) (link_at K' y).target y (link_at K' y).before
      next y a b t (yes e) = rw (e, here, en) (new_next p)
      next y a b t (no e) = rw (on y e) (keep_next y a (omega (arith, e)) t)

-- the three writes, and the rows that they write
abbrev pub put_target : List Link → ℕ → ℕ → List Link
put_target K x v = set K x (record (link_at K x) { target = v })

abbrev pub put_before : List Link → ℕ → ℕ → List Link
put_before K x l = set K x (record (link_at K x) { before = l })

abbrev pub put_last : List Link → ℕ → ℕ → List Link
put_last K v x = set K v (record (link_at K v) { last = x })

abbrev last_of : Link → ℕ
last_of r = r.last

abbrev before_of : Link → ℕ
before_of r = r.before

abbrev target_of : Link → ℕ
target_of r = r.target

module _ (n x v : ℕ) (K : List Link) (k : Hung n x K) (hx : 0 < x) (hn : x < n) (hv : v < n) where
  abbrev K1 : List Link
  K1 = put_target K x v

  size1 : length K1 ≡ length K
  size1 = length-set K x _

  h1 : (link_at K1 x).target ≡ v
  h1 = field_here target_of K x _ free (omega (arith, k.room))

  r1 : (y : ℕ) → ((y ≡ x) → ⊥) → (link_at K1 y).target ≡ (link_at K y).target
  r1 y d = field_other target_of K x _ free y d

  l1 : (y : ℕ) → (link_at K1 y).last ≡ (link_at K y).last
  l1 = field_kept last_of K x _ free refl

  b1 : (y : ℕ) → (link_at K1 y).before ≡ (link_at K y).before
  b1 = field_kept before_of K x _ free refl

  module _ (pos : (v ≡ 0) → ⊥) where
    abbrev l : ℕ
    l = (link_at K1 v).last

    abbrev K2 : List Link
    K2 = put_before K1 x l

    abbrev K3 : List Link
    K3 = put_last K2 v x

    size2 : length K2 ≡ length K
    size2 = length-set K1 x _ ∙ size1

    size3 : length K3 ≡ length K
    size3 = length-set K2 v _ ∙ size2

    target3 : (y : ℕ) → (link_at K3 y).target ≡ (link_at K1 y).target
    target3 y = field_kept target_of K2 v _ free refl y ∙ field_kept target_of K1 x _ free refl y

    before3 : (y : ℕ) → (link_at K3 y).before ≡ (link_at K2 y).before
    before3 = field_kept before_of K2 v _ free refl

    h3 : (link_at K3 x).target ≡ v
    h3 = target3 x ∙ h1

    r3 : (y : ℕ) → ((y ≡ x) → ⊥) → (link_at K3 y).target ≡ (link_at K y).target
    r3 y d = target3 y ∙ r1 y d

    pub hang_object : HungOn n x v K K3
    hang_object = record {
      hung = hung_object n x v K K3 k hx hn hv size3 h3 r3 (omega (arith, pos))
          (field_here last_of K2 v _ free (omega (arith, k.room, size2)))
          (before3 x ∙ field_here before_of K1 x _ free (omega (arith, k.room, size1)) ∙ l1 v)
          (λ u d. field_other last_of K2 v _ free u d ∙ field_kept last_of K1 x _ free refl u ∙ l1 u)
          (λ y d. before3 y ∙ field_other before_of K1 x _ free y d ∙ b1 y);
      size = size3;
      here = h3;
      rest = r3;
    }

-- ---- nothing hung up yet
pub free_new : (k n : ℕ) → n ≤ k → Free n (replicate k free)
free_new k n h = record { room = omega (arith, length-replicate k free); none = λ x p. get_or-replicate k x free free (omega arith) }

pub free_hung : (n : ℕ) (K : List Link) → Free n K → 0 < n → Hung n 1 K
free_hung n K z pos = record {
  room = z.room;
  null = λ x e. ap target_of (z.none x (omega arith));
  low = λ x p q. absurd (omega arith);
  heads = λ v p q. rw (z.none v q) (record { low = omega arith; is = λ r. absurd (omega arith); none = λ y a b e. omega arith });
  nexts = λ x p q t. absurd (omega arith);
}
