-- Laws of `input`: what the merged and judged parts give is what the language says of the parts.
use Rattle.std.proofs.Common.{ℕ, ◌≤◌, ◌<◌, arith, Some, None, Ok, Err, ◌≡◌, refl, sym, ap, ◌∙◌, subst, Bool, true, false, ◌&&◌, not, List, length, le-leb}
use Rattle.std.specs.declared.option.Option.{Option as RustOption}
use Rattle.std.specs.declared.result.Result.{Result}
use Rattle.std.proofs.Math.Option.{Option, none, some}
use borrow.Author.Tests.{not-true, not-false}
use Rattle.cofj.specs.declared.Refusal.{Refusal}
use Rattle.cofj.specs.declared.Refusal.TheVariants.{BadParts, UnfitParts}
use Rattle.cofj.specs.Refusals.{refusal_number}
use Rattle.cofj.specs.Syntax.{Ty, ty, Table}
use Rattle.cofj.specs.Values.{obj, Node, Graph, graph, canon}
use Rattle.cofj.specs.Unfolding.{Whole}
use Rattle.cofj.specs.Formed.{AllIn, Formed}
use Rattle.cofj.specs.Batch as language
use Rattle.cofj.specs.Batch.{given, holds, objects_hold, value_fits, started, fitting, parts_of, input_of}
use Rattle.cofj.proofs.Batch.{parts_back, input_none, input_some, fits_parts}
use Rattle.cofj.proofs.BatchFits.{apart_few}
use Rattle.cofj.proofs.Unique.{same_canon}
use Rattle.cofj.proofs.GoodValues.{canon_formed}
use Rattle.classes.specs.Layout.{Tabled}
use Rattle.canon.specs.Figures.{capacity}
use Rattle.canon.specs.Layout.{graph_at, Inside}
use Rattle.canon.specs.Numbers.{graph_in, Has, Placed}
use Rattle.canon.proofs.Nodes.{length_nodes}
use Rattle.batch.specs.Layout.{Lies}
use Rattle.batch.specs.Reading.{Answered as Read, TextRead}
use Rattle.batch.specs.Merging.{Merged}
use Rattle.batch.specs.Judging.{ValueTest}
use Rattle.batch.specs.Inputs.{SomeTable, SomeParts, Room, Objects, Answered, PartsGiven, TextGiven}

-- ---- what the test of 15 decides
-- by its answer
by_test : (objects : ℕ) (t : Table) (u : Ty) (v : Graph) (b : Bool) → value_fits objects t.classes u v ≡ b
    → fitting objects t.classes u v ≡ (elim b as (λ _. language.Input) [ true ↦ given v | false ↦ language.refused 15 ])
by_test objects t u v b e = ap (λ (x : Bool). elim x as (λ _. language.Input) [ true ↦ given v | false ↦ language.refused 15 ]) e

never_true : (b : Bool) → (b ≡ true → ⊥) → b ≡ false
never_true true h = absurd (h refl)
never_true false h = refl

gives_15 : (objects : ℕ) (t : Table) (u : Ty) (v : Graph) (W : List ℕ) → value_fits objects t.classes u v ≡ false → Answered (fitting objects t.classes u v) W (Err UnfitParts)
gives_15 objects t u v W e = subst (λ (g : language.Input). Answered g W (Err UnfitParts)) (sym (by_test objects t u v false e)) (UnfitParts, refl, refl)

gives : (objects : ℕ) (t : Table) (u : Ty) (v : Graph) (W : List ℕ) → value_fits objects t.classes u v ≡ true → Has W 0 v → Answered (fitting objects t.classes u v) W (Ok tt)
gives objects t u v W e h = subst (λ (g : language.Input). Answered g W (Ok tt)) (sym (by_test objects t u v true e)) (refl, h)

-- a value with more objects than it may have does not fit
too_large : (objects : ℕ) (t : Table) (u : Ty) (v : Graph) → objects < length v.nodes → value_fits objects t.classes u v ≡ false
too_large objects t u v l = never_true (value_fits objects t.classes u v) (λ e. let m = (fits_parts objects t.classes u v e).0 in omega arith)

-- ---- too many parts
pub many_given : (T P R W : List ℕ) (class objects : ℕ) (o : RustOption ℕ) → Room objects W → Merged P R o → o ≡ None → PartsGiven T P class objects W (Err UnfitParts)
many_given T P R W class objects o r m e =
    record {
      of = λ t tb ns l f.
          let x = m.many ns l e in
          let a = apart_few ns l.whole x.ones x.reached x.apart in
          gives_15 objects t (ty class 0) (started ns) W (too_large objects t (ty class 0) (started ns) (let c = x.count in let s = r.few in omega arith));
    }

-- ---- few
module _ (P R : List ℕ) (o : RustOption ℕ) (m : Merged P R o) (k : ℕ) (e : o ≡ Some k) where
  few : k ≤ capacity
  few = m.least k e

  pub objects_ready : (objects : ℕ) (W : List ℕ) → SomeParts P → Room objects W → Objects R k W
  objects_ready objects W p r =
      let q = m.few p.nodes p.lie k e in
      record { raw = q.raw; some_object = q.some_object; block = r.block }

  -- the objects' value is that of the parts
  merged_value : (ns : List Node) → Lies P ns → canon (graph_in R k 0) ≡ started ns
  merged_value ns l =
      let q = m.few ns l k e in
      let w : Whole (graph_in R k 0) = record { top = subst (λ (n : ℕ). 0 < n) (sym (length_nodes R 0 k)) q.some_object; inner = q.raw.whole.inner } in
      same_canon (graph_in R k 0) (graph (obj 0) ns) w l.whole q.tree

  module _ (T W₀ W : List ℕ) (class objects n : ℕ) (r : Room objects W₀) (p : Placed (graph_in R k 0) W₀ 0 W n) where
    -- how many objects it has
    counts : (ns : List Node) → Lies P ns → n ≡ length (started ns).nodes
    counts ns l = p.count ∙ ap (λ (v : Graph). length v.nodes) (merged_value ns l)

    pub large_given : objects < n → PartsGiven T P class objects W (Err UnfitParts)
    large_given g =
        record {
          of = λ t tb ns l f. gives_15 objects t (ty class 0) (started ns) W (too_large objects t (ty class 0) (started ns) (subst (λ (x : ℕ). objects < x) (counts ns l) g));
        }

    module _ (g : n ≤ objects) where
      has : Has W 0 (canon (graph_in R k 0))
      has = p.has

      pub laid_inside : Inside W 0 0
      laid_inside = has.inside

      -- what the test of the block says of the value
      tested : (t : Table) → Tabled T t → (ns : List Node) → Lies P ns → AllIn (Formed t 0) ns → (b : Bool) → ValueTest T W class b → value_fits objects t.classes (ty class 0) (started ns) ≡ b
      unfolding value_fits
      tested t tb ns l f b x =
          let v = started ns in
          let is : graph_at W 0 0 ≡ v = has.is ∙ merged_value ns l in
          let formed = subst (AllIn (Formed t 0)) (sym (ap (λ (y : Graph). y.nodes) is)) (canon_formed t 0 (graph (obj 0) ns) f) in
          ap (λ (y : Bool). y && holds t.classes v.nodes (ty class 0) v.root && objects_hold t.classes v.nodes v.nodes)
          (le-leb (length v.nodes) objects (subst (λ (y : ℕ). y ≤ objects) (counts ns l) g))
          ∙ ap (λ (y : Graph). holds t.classes y.nodes (ty class 0) y.root && objects_hold t.classes y.nodes y.nodes) (sym is)
          ∙ sym (x.is t (record { table = tb; formed = formed }))

      pub unfit_given : (b : Bool) → ValueTest T W class b → not b ≡ true → PartsGiven T P class objects W (Err UnfitParts)
      unfit_given b x z =
          record { of = λ t tb ns l f. gives_15 objects t (ty class 0) (started ns) W (tested t tb ns l f b x ∙ not-true b z) }

      pub fit_given : (b : Bool) → ValueTest T W class b → not b ≡ false → PartsGiven T P class objects W (Ok tt)
      fit_given b x z =
          record { of = λ t tb ns l f. gives objects t (ty class 0) (started ns) W (tested t tb ns l f b x ∙ not-false b z) (subst (Has W 0) (merged_value ns l) has) }

-- ---- the text
pub not_listed : (T S P W : List ℕ) (class objects : ℕ) (r : Result ℕ Refusal) → TextRead T S P r → (k : Refusal) → r ≡ Err k → TextGiven T S class objects W (Err k)
not_listed T S P W class objects r h k e = record { of = λ t tb. go t (parts_of t.classes S) refl (h.of t tb) }
  where
    go : (t : Table) (o : Option (List Node)) → parts_of t.classes S ≡ o → Read o P r → Answered (input_of objects t.classes (ty class 0) S) W (Err k)
    go t none q a =
        let z : k ≡ BadParts = cc in
        subst (λ (g : language.Input). Answered g W (Err k)) (sym (input_none objects t.classes (ty class 0) S q)) (k, refl, ap refusal_number z)
    go t (some ns) q a = let z : Err k ≡ Ok (length ns) = sym e ∙ a.0 in absurd (cc)

module _ (T S P : List ℕ) (r : Result ℕ Refusal) (n : ℕ) (h : TextRead T S P r) (e : r ≡ Ok n) where
  -- the parts that are there
  listed : (t : Table) → Tabled T t → (ns : List Node) × (parts_of t.classes S ≡ some ns) × Lies P ns
  listed t tb = go (parts_of t.classes S) refl (h.of t tb)
    where
      go : (o : Option (List Node)) → parts_of t.classes S ≡ o → Read o P r → (ns : List Node) × (parts_of t.classes S ≡ some ns) × Lies P ns
      go none q a = let z : Ok n ≡ Err BadParts = sym e ∙ a in absurd (cc)
      go (some ns) q a = (ns, q, a.1)

  pub parts_there : SomeTable T → SomeParts P
  parts_there s = let a = listed s.table s.bytes in record { nodes = a.0; lie = a.2 }

  pub text_given : (W : List ℕ) (class objects : ℕ) (x : Result (Unit {0}) Refusal) → PartsGiven T P class objects W x → TextGiven T S class objects W x
  text_given W class objects x k =
      record {
        of = λ t tb.
            let a = listed t tb in
            subst (λ (g : language.Input). Answered g W x) (sym (input_some objects t.classes (ty class 0) S a.0 a.1)) (k.of t tb a.0 a.2 (parts_back t S a.0 a.1).parts);
      }
