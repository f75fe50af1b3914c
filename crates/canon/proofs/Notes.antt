-- Laws of notes, which change no class.
use Rattle.std.proofs.Common.{ℕ, ◌+◌, ◌<◌, ◌≤◌, arith, ◌≡◌, refl, ◌∙◌, List, length, set, length-set}
use native.Mathlib.Decide.{ℕ_discrete}
use Rattle.canon.specs.declared.rows.Row.{Row}
use Rattle.canon.specs.Rows.{blank, row_at}
use Rattle.canon.proofs.Written.{field_here, field_other, field_kept}
use Rattle.canon.specs.Parting.{Like, Standing, Classes, Front, Brought, SameNotes, Noted}

-- ---- what is written
abbrev pub put_note : List Row → ℕ → ℕ → List Row
put_note T x v = set T x (record (row_at T x) { note = v })

abbrev pub put_mark : List Row → ℕ → ℕ → List Row
put_mark T x v = set T x (record (row_at T x) { marked = v })

-- ---- notes change nothing else
module _ (T T' : List Row) (k : Like T T') where
  like_placed : (n : ℕ) → Standing n T → Standing n T'
  like_placed n p = record {
    room = rw k.same p.room;
    place = λ x h. rw (k.place x) (p.place x h);
    holds = λ x h. rw (k.place x, k.object (row_at T x).place) (p.holds x h);
    object = λ x h. rw (k.object x) (p.object x h);
    stands = λ x h. rw (k.object x, k.place (row_at T x).object_at) (p.stands x h);
  }

  pub like_classes : (n m : ℕ) → Classes n m T → Classes n m T'
  like_classes n m c = record {
    placed = like_placed n c.placed;
    few = c.few;
    low = λ x h. rw (k.cls x) (c.low x h);
    from = λ x h. rw (k.cls x, k.first (row_at T x).class, k.place x) (c.from x h);
    to = λ x h. rw (k.cls x, k.end (row_at T x).class, k.place x) (c.to x h);
    only = λ x d h l a b. k.cls x ∙ c.only x d h l (omega (arith, k.first d, k.place x)) (omega (arith, k.end d, k.place x));
    ends = λ d h. rw (k.end d) (c.ends d h);
    mids = λ d h. rw (k.first d, k.mid d) (c.mids d h);
  }

  pub like_front : (x : ℕ) → Front T x → Front T' x
  like_front x f = record { at = rw (k.cls x, k.place x, k.mid (row_at T x).class) f.at }

  pub front_like : (x : ℕ) → Front T' x → Front T x
  front_like x f = record { at = rw (k.cls x, k.place x, k.mid (row_at T x).class) at f.at }

like_put : (T : List Row) (p v w : ℕ) → Like T (set T p (record (row_at T p) { note = v; marked = w }))
like_put T p v w = record {
  same = length-set T p _;
  cls = field_kept (λ r. r.class) T p _ blank refl;
  place = field_kept (λ r. r.place) T p _ blank refl;
  object = field_kept (λ r. r.object_at) T p _ blank refl;
  first = field_kept (λ r. r.begin) T p _ blank refl;
  mid = field_kept (λ r. r.middle) T p _ blank refl;
  end = field_kept (λ r. r.end) T p _ blank refl;
}

pub set_note : (T : List Row) (p v : ℕ) → Like T (put_note T p v)
set_note T p v = like_put T p v (row_at T p).marked

pub set_mark : (T : List Row) (p v : ℕ) → Like T (put_mark T p v)
set_mark T p v = like_put T p (row_at T p).note v

-- ---- a class noted besides
pub brought_noted : (n m : ℕ) (T T' : List Row) (P : ℕ → Type 0) (j c : ℕ) → Brought n m T T' P → Brought n m T (put_mark T' j c) P
brought_noted n m T T' P j c b =
    let k = set_mark T' j c in
    record {
      classes = like_classes T' _ k n m b.classes;
      same = k.same ∙ b.same;
      cls = λ x h. k.cls x ∙ b.cls x h;
      keep = λ x h f. like_front T' _ k x (b.keep x h f);
      only = λ x h f d. b.only x h (front_like T' _ k x f) d;
      all = λ x h p. like_front T' _ k x (b.all x h p);
    }

pub notes_noted : (n : ℕ) (T T' : List Row) (j c : ℕ) → SameNotes n T T' → SameNotes n T (put_mark T' j c)
notes_noted n T T' j c b = record { note = λ x h. field_kept (λ r. r.note) T' j _ blank refl x ∙ b.note x h }

pub notes_refl : (n : ℕ) (T : List Row) → SameNotes n T T
notes_refl n T = record { note = λ x h. refl }

pub notes_then : (n : ℕ) (T T1 T2 : List Row) → SameNotes n T T1 → SameNotes n T1 T2 → SameNotes n T T2
notes_then n T T1 T2 a b = record { note = λ x h. b.note x h ∙ a.note x h }

-- ---- a class noted
like_then : (T T1 T2 : List Row) → Like T T1 → Like T1 T2 → Like T T2
like_then T T1 T2 a b = record {
  same = b.same ∙ a.same;
  cls = λ x. b.cls x ∙ a.cls x;
  place = λ x. b.place x ∙ a.place x;
  object = λ x. b.object x ∙ a.object x;
  first = λ x. b.first x ∙ a.first x;
  mid = λ x. b.mid x ∙ a.mid x;
  end = λ x. b.end x ∙ a.end x;
}

pub note_more : (T T1 : List Row) (s p : ℕ) → Noted T s p T1 → p < length T → Noted T s (p + 1) (put_note T1 p (row_at T1 p).object_at)
note_more T T1 s p k room = record {
  like = like_then T T1 _ k.like (set_note T1 p (row_at T1 p).object_at);
  note = λ q a b. go q a b (ℕ_discrete q p);
}
  where
    go : (q : ℕ) → (row_at T s).begin ≤ q → q < p + 1 → Dec (q ≡ p) → (row_at (put_note T1 p (row_at T1 p).object_at) q).note ≡ (row_at T q).object_at
    go q a b (yes r) = rw r (field_here (λ x. x.note) T1 p _ blank (omega (arith, k.like.same)) ∙ k.like.object p)
    go q a b (no r) = field_other (λ x. x.note) T1 p _ blank q r ∙ k.note q a (omega (arith, r))

pub place_in : (n m s p : ℕ) (T : List Row) → Classes n m T → s < m → p < (row_at T s).end → p < length T
place_in n m s p T k hs h = omega (arith, k.placed.room, k.ends s hs)
