-- The answer at each return of `read`, and what each step establishes for the next.
use Rattle.std.proofs.Common.{ℕ, zero, suc, ◌≤◌, ◌<◌, arith, ◌≡◌, refl, sym, ap, ◌∙◌, subst, Bool, true, false, List, [], ◌∷◌, ◌++◌, length, get_or, take, replicate, Ok, Err, is_ok}
use Rattle.std.proofs.Math.Option.{Option, none, some}
use Rattle.std.specs.declared.result.Result.{Result}
use Rattle.cofj.specs.declared.Refusal.{Refusal}
use Rattle.cofj.specs.declared.Refusal.TheVariants.{NoLineForm, BadFrame, BadOrder, BadTable, BadOverride, UntypedMethod, UntypedMain, UnreadableTable, ShortText, ClosedSession, ShortReport, ShortWork, BadParts, UnfitParts}
use Rattle.cofj.specs.Refusals.{refusal_number}
use Rattle.cofj.specs.Limits.{class_count, method_count}
use Rattle.cofj.specs.Partial.{◌>>=◌, guard}
use Rattle.cofj.specs.Syntax.{Table}
use Rattle.cofj.specs.Text.{lines}
use Rattle.cofj.specs.Frames.{TextFrame, frames}
use Rattle.cofj.specs.Tables.{Raw, ordered, few, table, overridden, overrides_good}
use Rattle.cofj.specs.Reading.{read, ◌else◌next◌, read_text}
use Rattle.cofj.proofs.Passed.{few_inv}
use Rattle.cofj.proofs.TextRound.{Bytes, Lines, lines-bytes}
use Rattle.lineform.specs.declared.lines.Counts.{Counts}
use Rattle.lineform.specs.Packed.{packed, unpack, FramedLines}
use Rattle.lineform.specs.Answers.{Roomy, Decodes, framing_of, Framing, counts_of, order_of}
use Rattle.lineform.proofs.PackedLaws.{unpack-packed}
use Rattle.lineform.proofs.Established.{decoded_lines, decoded_none, decoded_packed, good_framed}
use Rattle.classes.specs.Layout.{layout}
use Rattle.classes.specs.Placing.{Placed, placed}
use Rattle.classes.specs.Made.{Zeros, passed, Built, Overrides, answer}
use Rattle.classes.proofs.TableLines.{zeros_new}
use Rattle.tables.specs.declared.read.Reading.{Reading}
use Rattle.tables.specs.Readings.{zero_table, no_table, the_table, after_overriding, after_table, after_order, after_frames, after_lines, answered, reading_of, Into, ByteLines, Counted}

-- ---- the answer for a text is the answer of the steps
by_overriding : (t : Table) (b : Bool) → answered ((guard b >>= λ _. some t) else 5 next λ u. read u) ≡ after_overriding t b
by_overriding t true = refl
by_overriding t false = refl

by_table : (o : Option Table) → answered (o else 4 next λ t. overridden t else 5 next λ u. read u) ≡ after_table o
by_table none = refl
by_table (some t) = by_overriding t (overrides_good t t.methods)

by_order : (o : Option Raw) → answered (o else 3 next λ r. table r else 4 next λ t. overridden t else 5 next λ u. read u) ≡ after_order o
by_order none = refl
by_order (some r) = by_table (table r)

by_frames : (o : Option (List TextFrame)) → answered (o else 2 next λ fs. (ordered fs >>= few) else 3 next λ r. table r else 4 next λ t. overridden t else 5 next λ u. read u) ≡ after_frames o
by_frames none = refl
by_frames (some fs) = by_order (ordered fs >>= few)

by_lines : (o : Option (List (List ℕ)))
    → answered (o else 1 next λ ls. frames ls else 2 next λ fs. (ordered fs >>= few) else 3 next λ r. table r else 4 next λ t. overridden t else 5 next λ u. read u) ≡ after_lines o
by_lines none = refl
by_lines (some ls) = by_frames (frames ls)

pub reading_steps : (s : List ℕ) → reading_of s ≡ after_lines (lines s)
unfolding reading_of read_text
reading_steps s = by_lines (lines s)

-- ---- a table of zeros
pub zeros : Zeros (replicate 25616 0)
zeros = zeros_new 25616 refl

pub refused_is : (r : Refusal) (k : ℕ) → k ≡ refusal_number r → ◌≡◌ {A = Reading} (record { refusal = k; table = record { bytes = replicate 25616 0 } }) (no_table (refusal_number r))
unfolding zero_table
refused_is r k e = λ i. record { refusal = e i; table = record { bytes = replicate 25616 0 } }

-- ---- read: refusal 1, or lines of bytes
-- no refusal's number is 0
pub some_number : (k : Refusal) → 1 ≤ refusal_number k
some_number NoLineForm = omega arith
some_number BadFrame = omega arith
some_number BadOrder = omega arith
some_number BadTable = omega arith
some_number BadOverride = omega arith
some_number UntypedMethod = omega arith
some_number UntypedMain = omega arith
some_number UnreadableTable = omega arith
some_number ShortText = omega arith
some_number ClosedSession = omega arith
some_number ShortReport = omega arith
some_number ShortWork = omega arith
some_number BadParts = omega arith
some_number UnfitParts = omega arith

into_refused : (r : Reading) (k : Refusal) (B : List ℕ) → r ≡ no_table (refusal_number k) → Into r (Err k) B
into_refused r k B e = record { number = sym (ap (λ (x : Reading). x.refusal) e); table = λ z. cc }

pub no_lines : (text out₀ out : List ℕ) (d : Result ℕ Refusal) (B : List ℕ) → Decodes text out₀ out d → (k : Refusal) → d ≡ Err k → Into (reading_of text) (Err k) B
no_lines text out₀ out d B h k e =
    let p = decoded_none text out₀ out d h k e in
    into_refused (reading_of text) k B (reading_steps text ∙ ap after_lines p.1 ∙ ap (λ (x : Refusal). no_table (refusal_number x)) (sym p.0))

bytes-append : (xs ys : List ℕ) → Bytes xs → Bytes ys → Bytes (xs ++ ys)
bytes-append [] ys a b = b
bytes-append (x ∷ xs) ys a b = (a.0, bytes-append xs ys a.1 b)

packed-bytes : (ls : List (List ℕ)) → Lines ls → Bytes (packed ls)
unfolding packed
packed-bytes [] h = tt
packed-bytes (l ∷ ls) h = (let a = h.1 in omega arith, bytes-append l (packed ls) h.2 (packed-bytes ls h.3))

at_byte : (bs : List ℕ) → Bytes bs → (i : ℕ) → get_or bs i 0 < 256
at_byte [] h i = omega arith
at_byte (b ∷ bs) h zero = h.0
at_byte (b ∷ bs) h (suc i) = at_byte bs h.1 i

module _ (text out₀ out : List ℕ) (d : Result ℕ Refusal) (w : ℕ) (h : Decodes text out₀ out d) (e : d ≡ Ok w) where
  pub byte-lines : ByteLines (take w out)
  byte-lines =
      let p = decoded_packed text out₀ out d w h e in
      let u : unpack (take w out) ≡ p.lines = ap unpack p.is ∙ unpack-packed p.lines in
      let l = lines-bytes text p.lines (decoded_lines text out₀ out d w h e ∙ ap {B = Option (List (List ℕ))} some u) in
      record { whole = p; bytes = at_byte (take w out) (subst Bytes (sym p.is) (packed-bytes p.lines l)) }

  pub of_lines : (k : Result (Unit {0}) Refusal) (B : List ℕ) → Into (after_frames (frames (unpack (take w out)))) k B → Into (reading_of text) k B
  of_lines k B q = subst (λ (r : Reading). Into r k B) (sym (reading_steps text ∙ ap after_lines (decoded_lines text out₀ out d w h e))) q

-- ---- lines_into: refusals 2 and 3, or the counts
module _ (S R : List ℕ) (c : ByteLines S) (b : Result (Unit {0}) Refusal) (fr : Framing S b R) where
  pub no_frames : (B : List ℕ) (k : Refusal) → b ≡ Err k → Into (after_frames (frames (unpack S))) (Err k) B
  no_frames B k f = into_refused (after_frames (frames (unpack S))) k B (sym (go (frames (unpack S)) (sym f ∙ fr.answer)))
    where
      go : (o : Option (List TextFrame)) → Err k ≡ framing_of o → no_table (refusal_number k) ≡ after_frames o
      go none z = ap (λ (x : Refusal). no_table (refusal_number x)) (let y : k ≡ BadFrame = cc in y)
      go (some fs) z = cc

  module _ (f : b ≡ Ok tt) where
    pub framed : FramedLines S
    framed = good_framed S b c.whole fr.answer f

    module _ (o : Result Counts Refusal) (eo : o ≡ order_of (frames (unpack S))) where
      counts : (p : Option Raw) → ordered framed.found >>= few ≡ p → o ≡ counts_of p
      unfolding order_of
      counts p q = eo ∙ ap order_of framed.read ∙ ap counts_of q

      pub no_order : (B : List ℕ) (k : Refusal) → o ≡ Err k → Into (after_frames (frames (unpack S))) (Err k) B
      no_order B k z = into_refused (after_frames (frames (unpack S))) k B (sym (go (ordered framed.found >>= few) refl ∙ sym (ap after_frames framed.read)))
        where
          go : (p : Option Raw) → ordered framed.found >>= few ≡ p → no_table (refusal_number k) ≡ after_order (ordered framed.found >>= few)
          go none y =
              let x : o ≡ counts_of none = counts none y in
              let w : k ≡ BadOrder = cc in
              ap (λ (x : Refusal). no_table (refusal_number x)) w ∙ ap after_order (sym y)
          go (some x) y = let q : o ≡ counts_of (some x) = counts (some x) y in cc

      pub counted : (u : Counts) → o ≡ Ok u → Counted S R u.classes u.methods
      counted u z = go (ordered framed.found >>= few) refl
        where
          go : (p : Option Raw) → ordered framed.found >>= few ≡ p → Counted S R u.classes u.methods
          go none y = let k : o ≡ counts_of none = counts none y in let w : ◌≡◌ {A = ℕ} 0 1 = cc in absurd (omega arith)
          go (some x) y =
              let k : o ≡ counts_of (some x) = counts (some x) y in
              let e : u ≡ record { classes = length x.classes; methods = length x.methods } = cc in
              record {
                raw = x;
                lined = record { whole = c.whole; bytes = c.bytes; found = framed.found; read = framed.read; order = y; rights = fr.rights framed.found f framed.read };
                classes = ap (λ (v : Counts). v.classes) e;
                methods = ap (λ (v : Counts). v.methods) e;
              }

-- ---- refusals 4 and 5, or the table
module _ (S R : List ℕ) (n m : ℕ) (c : Counted S R n m) where
  within : (length c.raw.classes ≤ class_count) × (length c.raw.methods ≤ method_count)
  within = let x = few_inv (ordered c.lined.found) c.raw c.lined.order in (x.1, x.2)

  pub few_classes_lem : n ≤ 32
  few_classes_lem = subst (λ (k : ℕ). k ≤ class_count) (sym c.classes) within.0

  pub few_methods_lem : m ≤ 64
  few_methods_lem = subst (λ (k : ℕ). k ≤ method_count) (sym c.methods) within.1

  of_raw : after_table (table c.raw) ≡ after_frames (frames (unpack S))
  of_raw = sym (ap after_frames c.lined.read ∙ ap after_order c.lined.order)

  module _ (Z B : List ℕ) (g : Result (Unit {0}) Refusal) (built : Built S R n m Z g B) (z : Zeros Z) where
    pub no_table_lem : (C : List ℕ) (k : Refusal) → g ≡ Err k → Into (after_frames (frames (unpack S))) (Err k) C
    no_table_lem C k f = into_refused (after_frames (frames (unpack S))) k C (sym (go (table c.raw) refl ∙ of_raw))
      where
        four : k ≡ BadTable
        four = let x = built.refusal in let y = ap is_ok f in let w : g ≡ passed BadTable false = x ∙ ap (passed BadTable) y in cc

        go : (o : Option Table) → table c.raw ≡ o → no_table (refusal_number k) ≡ after_table (table c.raw)
        go none y = ap (λ (x : Refusal). no_table (refusal_number x)) four ∙ ap after_table (sym y)
        go (some t) y =
            let q = (built.makes c.raw c.lined c.classes c.methods z).made t y in
            let w : is_ok g ≡ true = ap answer q in
            let v : is_ok g ≡ false = ap is_ok f in
            let x : ◌≡◌ {A = ℕ} 0 1 = cc in
            absurd (omega arith)

    module _ (f : g ≡ Ok tt) where
      made : (t : Table) × (table c.raw ≡ some t) × (B ≡ layout t)
      made = go (table c.raw) refl
        where
          bytes : Placed → List ℕ
          bytes (placed x C) = C

          go : (o : Option Table) → table c.raw ≡ o → (t : Table) × (table c.raw ≡ some t) × (B ≡ layout t)
          go none y =
              let k : is_ok g ≡ false = (built.makes c.raw c.lined c.classes c.methods z).refused y in
              let v : is_ok g ≡ true = ap is_ok f in
              let x : ◌≡◌ {A = ℕ} 0 1 = cc in
              absurd (omega arith)
          go (some t) y = (t, y, ap bytes ((built.makes c.raw c.lined c.classes c.methods z).made t y))

      pub by_overrides : (x : Result (Unit {0}) Refusal) → Overrides B x → Into (after_frames (frames (unpack S))) x B
      by_overrides x over = subst (λ (r : Reading). Into r x B) (ap after_table (sym k.1) ∙ of_raw) (go (overrides_good k.0 k.0.methods) (over.says S R c.raw k.0 c.lined k.1 k.2))
        where
          k : (t : Table) × (table c.raw ≡ some t) × (B ≡ layout t)
          k = made

          go : (b : Bool) → x ≡ passed BadOverride b → Into (after_overriding k.0 b) x B
          go true e = subst (λ (y : Result (Unit {0}) Refusal). Into (the_table k.0) y B) (sym e) (record { number = refl; table = λ w. k.2 })
          go false e = subst (λ (y : Result (Unit {0}) Refusal). Into (no_table 5) y B) (sym e) (into_refused (no_table 5) BadOverride B refl)

-- ---- read_into: room enough
pub short_room : (text room : List ℕ) → length text ≤ 1500 → length room ≡ 1024 → Roomy text room
short_room text room h e = record { room = λ k. omega arith }

pub usual_room : (text room : List ℕ) → length text ≤ 34015 → length room ≡ 22688 → Roomy text room
usual_room text room h e = record { room = λ k. omega arith }

pub long_room : (text room : List ℕ) → length room ≡ 33048 → Roomy text room
long_room text room e = record { room = λ k. omega arith }
