-- Laws of what the second text of a run gives main.
use Rattle.std.proofs.Common.{ℕ, arith, ◌≡◌, refl, sym, ap, ◌∙◌, List, [], ◌∷◌, length, true, false, Some, None, Ok, Err}
use Rattle.std.proofs.Math.Option.{Option, none, some}
use Rattle.std.specs.declared.option.Option.{Option as RustOption}
use Rattle.std.specs.declared.result.Result.{Result}
use Rattle.cofj.specs.declared.Refusal.{Refusal}
use Rattle.cofj.specs.declared.Refusal.TheVariants.{BadParts}
use Rattle.cofj.specs.Refusals.{refusal_number}
use Rattle.cofj.specs.Limits.{standard}
use Rattle.cofj.specs.Syntax.{Ty, ty, Table}
use Rattle.cofj.specs.Values.{Graph}
use Rattle.cofj.specs.Batch as language
use Rattle.cofj.specs.Batch.{input_of}
use Rattle.cofj.specs.Calls.{Admitted, declined, admitted, without_input, with_input, feed}
use Rattle.cofj.proofs.Batch.{given_good}
use Rattle.classes.specs.declared.chain.FieldType.{FieldType}
use Rattle.classes.specs.Layout.{Tabled, bytes_of, found_type}
use Rattle.classes.specs.Machine.{input_type}
use Rattle.classes.proofs.Zones.{input_at}
use Rattle.canon.specs.Numbers.{Has}
use Rattle.batch.specs.Inputs.{SomeTable, Answered, TextGiven}
use Rattle.evaluator.proofs.Promise.{has_input}
use Rattle.engine.specs.Feeding.{TextFed}

-- what is fed, by main's row
abbrev fed_by : Table → List ℕ → Option Ty → Admitted
fed_by t i o = elim o [ none ↦ without_input t i | some u ↦ with_input t (input_of standard.objects t.classes u i) ]

feed_by : (t : Table) (i : List ℕ) (o : Option Ty) → t.input ≡ o → feed t i ≡ fed_by t i o
unfolding feed
feed_by t i o e = ap (fed_by t i) e

found_is : (T : List ℕ) (t : Table) (w : RustOption FieldType) → Tabled T t → w ≡ input_type T → w ≡ found_type t.input
found_is T t w k e = e ∙ ap input_type k.bytes ∙ input_at t

-- ---- an `03` main
module _ (T i B : List ℕ) (w : RustOption FieldType) (e : w ≡ input_type T) (q : w ≡ None) where
  without : (t : Table) → Tabled T t → t.input ≡ none
  without t k = go t.input (sym q ∙ found_is T t w k e)
    where
      go : (o : Option Ty) → None ≡ found_type o → o ≡ none
      go none z = refl
      go (some u) z = cc

  pub text_unwanted : (length i ≡ 0 → ⊥) → TextFed T i B (Err BadParts)
  text_unwanted n = record { is = λ t k. feed_by t i none (without t k) ∙ go t i n; inside = λ z. cc }
    where
      go : (t : Table) (s : List ℕ) → (length s ≡ 0 → ⊥) → without_input t s ≡ declined 14
      go t [] n = absurd (n refl)
      go t (c ∷ s) n = refl

  pub nothing_fed : length i ≡ 0 → TextFed T i B (Ok false)
  nothing_fed l = record { is = λ t k. feed_by t i none (without t k) ∙ go t i l; inside = λ z. cc }
    where
      go : (t : Table) (s : List ℕ) → length s ≡ 0 → without_input t s ≡ admitted t none
      go t [] l = refl
      go t (c ∷ s) l = absurd (omega arith)

-- ---- an `04` main
module _ (T i B : List ℕ) (w : RustOption FieldType) (u : FieldType) (e : w ≡ input_type T) (q : w ≡ Some u) (r : Result (Unit {0}) Refusal) (g : TextGiven T i u.class standard.objects B r) where
  -- the type of its parameter
  with_type : (t : Table) → Tabled T t → t.input ≡ some (ty u.class 0)
  with_type t k = go t.input refl (sym q ∙ found_is T t w k e)
    where
      go : (o : Option Ty) → t.input ≡ o → Some u ≡ found_type o → o ≡ some (ty u.class 0)
      go none p z = cc
      go (some v) p z =
          let c : v.cls ≡ u.class = sym (ap (λ (x : FieldType). x.class) (let y : u ≡ bytes_of v = cc in y)) in
          let d : v.tag ≡ 0 = k.formed.input_tag v p in
          λ j. some (ty (c j) (d j))

  feed_given : (t : Table) → Tabled T t → (x : language.Input) → input_of standard.objects t.classes (ty u.class 0) i ≡ x → feed t i ≡ with_input t x
  feed_given t k x p = feed_by t i (some (ty u.class 0)) (with_type t k) ∙ ap (with_input t) p

  pub text_refused : (n : Refusal) → r ≡ Err n → TextFed T i B (Err n)
  text_refused n p = record {
    is = λ t k. go t k (input_of standard.objects t.classes (ty u.class 0) i) refl (g.of t k);
    inside = λ z. cc;
  }
    where
      go : (t : Table) → Tabled T t → (x : language.Input) → input_of standard.objects t.classes (ty u.class 0) i ≡ x → Answered x B r → feed t i ≡ declined (refusal_number n)
      go t k (language.refused m) z a =
          let y : n ≡ a.0 = cc (sym p ∙ a.1) in
          feed_given t k (language.refused m) z ∙ ap declined (sym a.2 ∙ ap refusal_number (sym y))
      go t k (language.given v) z a = let y : Ok tt ≡ Err n = sym a.0 ∙ p in cc

  -- the value that stands in the block
  module _ (p : r ≡ Ok tt) where
    value_there : (t : Table) → Tabled T t → (v : Graph) × (input_of standard.objects t.classes (ty u.class 0) i ≡ language.given v) × Has B 0 v
    value_there t k = go (input_of standard.objects t.classes (ty u.class 0) i) refl (g.of t k)
      where
        go : (x : language.Input) → input_of standard.objects t.classes (ty u.class 0) i ≡ x → Answered x B r
            → (v : Graph) × (input_of standard.objects t.classes (ty u.class 0) i ≡ language.given v) × Has B 0 v
        go (language.refused m) z a = let y : Ok tt ≡ Err a.0 = sym p ∙ a.1 in cc
        go (language.given v) z a = (v, z, a.1)

    pub value_fed : SomeTable T → TextFed T i B (Ok true)
    value_fed s = record {
      is = λ t k.
          let a = value_there t k in
          let good = given_good t k.formed standard.objects (ty u.class 0) i a.0 a.1 in
          feed_given t k (language.given a.0) a.1 ∙ ap (admitted t) (sym (has_input B a.0 a.2 good.own));
      inside = λ z. (value_there s.table s.bytes).2.inside;
    }
