-- Laws of a field of a line, read into bytes, as `field_good` and `read_field` cite them. Not here: so many of them (ReadFields), how bytes are put (PutFields).
use Rattle.std.proofs.Common.{ℕ, suc, ◌+◌, ◌*◌, ◌-◌, ◌<◌, ◌≤◌, arith, Some, None, ◌≡◌, refl, sym, ap, ◌∙◌, subst, Bool, true, false, not, List, [], ◌∷◌, eqb, ltb, length, get_or, drop, length-drop, drop_of_length-le, drop-cons, eqb-true, ne_eqb, ltb-true, lt-ltb, le-ltb}
use Rattle.std.proofs.Math.Bool.{false≢true}
use Rattle.std.proofs.Math.Option.{Option, none, some, none-ne-some}
use borrow.Author.Tests.{not-true, not-false}
use Rattle.cofj.specs.Limits.{number_class}
use Rattle.cofj.specs.Partial.{◌>>=◌}
use Rattle.cofj.specs.Frames.{Got, got, two_bytes}
use Rattle.cofj.specs.Values.{Ref, obj, leaf, undet, num}
use Rattle.cofj.specs.Unfolding.{InRange}
use Rattle.cofj.specs.Formed.{RefBelow}
use Rattle.cofj.specs.ReportForm.{ref_of, ref_at}
use Rattle.lineform.specs.Answers.{is_some}
use Rattle.canon.specs.Layout.{number_beside}
use Rattle.batch.specs.Figures.{field_room, number_field, no_part}
use Rattle.batch.specs.Layout.{held_byte, FieldPut}
use Rattle.batch.specs.Reading.{field_good, FieldTaken, FieldRead}
use Rattle.batch.proofs.PutFields.{put_below, put_other}

-- ---- a field of one byte
pub field_part : (n b : ℕ) → b < n → true ≡ field_good n b
unfolding field_good
field_part n b h = rw (lt-ltb b n h, ref_of, is_some) refl

pub field_none : (n b : ℕ) → n ≤ b → eqb b no_part ≡ field_good n b
unfolding field_good
field_none n b h = rw (le-ltb b n h, ref_of) (go (eqb b no_part))
  where
    go : (x : Bool) → x ≡ is_some {A = Ref} (elim x as (λ _. Option Ref) [ true ↦ some (leaf undet) | false ↦ none ])
    go true = refl
    go false = refl

-- what it holds
record Held (n b : ℕ) (r : Ref) : Type 0 where
  inner : InRange n r
  below : RefBelow 0 r
  byte : b ≡ held_byte r
  number : number_beside r ≡ 0

ref_held : (n b : ℕ) (r : Ref) → ref_of n b ≡ some r → Held n b r
ref_held n b r e = go (ltb b n) refl (eqb b no_part) refl e
  where
    go : (x : Bool) → ltb b n ≡ x → (y : Bool) → eqb b no_part ≡ y
        → ◌≡◌ {A = Option Ref} (elim x [ true ↦ some (obj b) | false ↦ elim y [ true ↦ some (leaf undet) | false ↦ none ] ]) (some r) → Held n b r
    go true p y q z = subst (Held n b) (let w : obj b ≡ r = cc in w) (record { inner = ltb-true b n p; below = tt; byte = refl; number = refl })
    go false p true q z = subst (Held n b) (let w : leaf undet ≡ r = cc in w) (record { inner = tt; below = tt; byte = eqb-true b no_part q; number = refl })
    go false p false q z = absurd (none-ne-some r z)

-- ---- a field, by what stands in front of the bytes
module _ (n b : ℕ) (bs : List ℕ) where
  -- one byte
  front_one : ((b ≡ number_field) → ⊥) → ref_at n (b ∷ bs) ≡ ref_of n b >>= λ r. got r bs
  unfolding ref_at
  front_one d =
      ap (λ (x : Bool). elim x as (λ _. Option (Got Ref)) [ true ↦ two_bytes bs >>= (λ x. got (leaf (num x.item)) x.rest) | false ↦ ref_of n b >>= (λ r. got r bs) ])
      (ne_eqb b number_class d)

  front_number : b ≡ number_field → ref_at n (b ∷ bs) ≡ two_bytes bs >>= λ x. got (leaf (num x.item)) x.rest
  unfolding ref_at
  front_number e = ap (λ (c : ℕ). ref_at n (c ∷ bs)) e

-- a number needs its two bytes
two_none : (bs : List ℕ) → length bs < 2 → two_bytes bs ≡ none
unfolding two_bytes
two_none [] h = refl
two_none (a ∷ []) h = refl
two_none (a ∷ b ∷ bs) h = absurd (omega arith)

two_some : (a b : ℕ) (bs : List ℕ) → two_bytes (a ∷ b ∷ bs) ≡ got (256 * a + b) bs
unfolding two_bytes
two_some a b bs = refl

-- ---- `read_field`
no_field : (l : List ℕ) (q n : ℕ) (P₀ : List ℕ) (at f : ℕ) (P : List ℕ) → ref_at n (drop q l) ≡ none → FieldRead l q n P₀ at f P None
no_field l q n P₀ at f P e = record { bad = λ _. e; good = λ r z. absurd (cc) }

pub field_past : (l : List ℕ) (q n : ℕ) (P : List ℕ) (at f : ℕ) → length l ≤ q → FieldRead l q n P at f P None
unfolding ref_at
field_past l q n P at f h = no_field l q n P at f P (ap (ref_at n) (drop_of_length-le l h))

module _ (l : List ℕ) (q n : ℕ) (P₀ : List ℕ) (at f : ℕ) (b : ℕ) (eb : b ≡ get_or l q 0) (here : q < length l) where
  -- the bytes from q on
  front : drop q l ≡ b ∷ drop (suc q) l
  front = drop-cons l q 0 here ∙ ap (λ (x : ℕ). x ∷ drop (suc q) l) (sym eb)

  module _ (one : (b ≡ number_field) → ⊥) (r : Bool) (er : r ≡ field_good n b) where
    at_front : ref_at n (drop q l) ≡ ref_of n b >>= λ x. got x (drop (suc q) l)
    at_front = ap (ref_at n) front ∙ front_one n b (drop (suc q) l) one

    pub field_bad : not r ≡ true → FieldRead l q n P₀ at f P₀ None
    unfolding field_good
    field_bad t = no_field l q n P₀ at f P₀ (at_front ∙ go (ref_of n b) (sym er ∙ not-true r t))
      where
        go : (o : Option Ref) → is_some o ≡ false → (o >>= λ x. got x (drop (suc q) l)) ≡ none
        go none z = refl
        go (some x) z = absurd (false≢true (sym z))

    pub field_one : not r ≡ false → (P : List ℕ) → FieldPut P₀ at f b 0 0 P → f < field_room → FieldRead l q n P₀ at f P (Some (q + 1))
    unfolding field_good
    field_one t P p few = record { bad = λ z. absurd (cc); good = λ u z. let w : q + 1 ≡ u = cc in rw w at (go (ref_of n b) refl (sym er ∙ not-false r t)) }
      where
        next : drop (suc q) l ≡ drop (q + 1) l
        next = ap (λ (k : ℕ). drop k l) (let z : suc q ≡ q + 1 = omega arith in z)

        go : (o : Option Ref) → ref_of n b ≡ o → is_some o ≡ true → FieldTaken l q n P₀ at f P (q + 1)
        go none e z = absurd (false≢true z)
        go (some x) e z =
            let h = ref_held n b x e in
            let w = h.number in
            record {
              ref = x;
              is = at_front ∙ ap (λ (o : Option Ref). o >>= λ y. got y (drop (suc q) l)) e ∙ ap (got x) next;
              more = omega arith;
              within = omega arith;
              entered = record {
                inner = h.inner;
                below = h.below;
                lies = record { byte = p.byte ∙ h.byte; low = p.first ∙ omega arith; high = p.second ∙ omega arith };
              };
              fields = λ g c y k. put_other P₀ at f b 0 0 P p few g c y (omega arith) (λ z. omega arith);
              below = put_below P₀ at f b 0 0 P p;
            }

  module _ (number : b ≡ number_field) where
    at_number : ref_at n (drop q l) ≡ two_bytes (drop (suc q) l) >>= λ x. got (leaf (num x.item)) x.rest
    at_number = ap (ref_at n) front ∙ front_number n b (drop (suc q) l) number

    pub number_short : length l - q < 3 → FieldRead l q n P₀ at f P₀ None
    number_short h =
        no_field l q n P₀ at f P₀
        (at_number ∙ ap (λ (o : Option (Got ℕ)). o >>= λ x. got (leaf (num x.item)) x.rest) (two_none (drop (suc q) l) (omega (arith, length-drop (suc q) l))))

    pub field_number : 3 ≤ length l - q → (high low : ℕ) → high ≡ get_or l (q + 1) 0 → low ≡ get_or l (q + 2) 0 → high < 256 → low < 256
        → (P : List ℕ) → FieldPut P₀ at f b low high P → f < field_room → FieldRead l q n P₀ at f P (Some (q + 3))
    field_number h high low eh el fh fl P p few = record { bad = λ z. absurd (cc); good = λ u z. let w : q + 3 ≡ u = cc in rw w at taken }
      where
        first : drop (suc q) l ≡ high ∷ drop (suc (suc q)) l
        first =
            drop-cons l (suc q) 0 (omega arith)
            ∙ ap (λ (x : ℕ). x ∷ drop (suc (suc q)) l) (ap (λ (k : ℕ). get_or l k 0) (let z : suc q ≡ q + 1 = omega arith in z) ∙ sym eh)

        second : drop (suc (suc q)) l ≡ low ∷ drop (q + 3) l
        second =
            drop-cons l (suc (suc q)) 0 (omega arith)
            ∙ ap (λ (x : ℕ). x ∷ drop (suc (suc (suc q))) l) (ap (λ (k : ℕ). get_or l k 0) (let z : suc (suc q) ≡ q + 2 = omega arith in z) ∙ sym el)
            ∙ ap (λ (k : ℕ). low ∷ drop k l) (let z : suc (suc (suc q)) ≡ q + 3 = omega arith in z)

        two : two_bytes (drop (suc q) l) ≡ got (256 * high + low) (drop (q + 3) l)
        two = ap two_bytes (first ∙ ap (λ (x : List ℕ). high ∷ x) second) ∙ two_some high low (drop (q + 3) l)

        taken : FieldTaken l q n P₀ at f P (q + 3)
        taken = record {
          ref = leaf (num (256 * high + low));
          is = at_number ∙ ap (λ (o : Option (Got ℕ)). o >>= λ x. got (leaf (num x.item)) x.rest) two;
          more = omega arith;
          within = omega arith;
          entered = record {
            inner = tt;
            below = omega arith;
            lies = record { byte = p.byte ∙ number; low = p.first ∙ omega arith; high = p.second ∙ omega arith };
          };
          fields = λ g c y k. put_other P₀ at f b low high P p few g c y (omega arith) (λ z. omega arith);
          below = put_below P₀ at f b low high P p;
        }
