-- The second text of a run: what it gives and what it is refused for, as specs/Promises says it, is what the definition (`feed`) answers;
-- and what it gives belongs to the table. Not here: the calls (RunCalls), parts and their value (Batch, BatchFits).
use Prim.Native.Nat.{ℕ, ◌≤◌}
use native.Mathlib.Omega.{arith}
use mathlib.Core.Path.{◌≡◌, refl, sym, ap, ◌∙◌}
use mathlib.Core.Bool.{Bool, true, false}
use mathlib.Core.List.{List, [], ◌∷◌}
use mathlib.Core.Option.{Option, none, some, none-ne-some}
use lib.ListN.{length}
use Rattle.cofj.specs.Limits.{standard}
use Rattle.cofj.specs.Syntax.{Ty, Class, Table}
use Rattle.cofj.specs.Values.{obj, Node, Graph, graph}
use Rattle.cofj.specs.Unfolding.{SameTree}
use Rattle.cofj.specs.WellFormed.{WellFormed}
use Rattle.cofj.specs.Batch.{Input, refused, given, parts_of, started, value_fits, fitting, input_of, ListsParts, Fitting}
use Rattle.cofj.specs.Soundness.{Fed, unfed, fed}
use Rattle.cofj.specs.Calls.{Admitted, declined, admitted, without_input, with_input, feed}
use Rattle.cofj.specs.Promises.{Feeds, NOTHING, PARTS}
use Rattle.cofj.proofs.Places.{sits}
use Rattle.cofj.proofs.Batch.{parts_round, given_good, given_has, recut}
use Rattle.cofj.proofs.BatchFits.{gives}

-- ---- the numbers of a text's refusals
module _ (objects : ℕ) (cs : List Class) (u : Ty) where
  number_fitting : (ns : List Node) (k : ℕ) (b : Bool) → (elim b as (λ _. Input) [ true ↦ given (started ns) | false ↦ refused 15 ]) ≡ refused k → (14 ≤ k) × (k ≤ 15)
  number_fitting ns k true e = absurd (let z : ◌≡◌ {A = ℕ} 0 1 = cc in omega arith)
  number_fitting ns k false e = let z : 15 ≡ k = cc in (omega arith, omega arith)

  number_listed : (k : ℕ) (o : Option (List Node)) → (elim o as (λ _. Input) [ none ↦ refused 14 | some ns ↦ fitting objects cs u (started ns) ]) ≡ refused k → (14 ≤ k) × (k ≤ 15)
  number_listed k none e = let z : 14 ≡ k = cc in (omega arith, omega arith)
  number_listed k (some ns) e = number_fitting ns k (value_fits objects cs u (started ns)) e

  input_number : (s : List ℕ) (k : ℕ) → input_of objects cs u s ≡ refused k → (14 ≤ k) × (k ≤ 15)
  unfolding input_of
  input_number s k e = number_listed k (parts_of cs s) e

-- ---- a table and a second text
module _ (t : Table) (wf : WellFormed t) (s : List ℕ) where
  abbrev by_main : Option Ty → Admitted
  by_main o = elim o [ none ↦ without_input t s | some u ↦ with_input t (input_of standard.objects t.classes u s) ]

  -- an `03` main takes nothing
  feed_none : t.input ≡ none → s ≡ [] → feed t s ≡ admitted t none
  unfolding feed
  feed_none e q = ap by_main e ∙ ap (without_input t) q

  pub feed_some : t.input ≡ none → 1 ≤ length s → feed t s ≡ declined 14
  unfolding feed
  feed_some e l = ap by_main e ∙ go s l
    where
      go : (x : List ℕ) → 1 ≤ length x → without_input t x ≡ declined 14
      go [] l = absurd (omega arith)
      go (c ∷ x) l = refl

  -- an `04` main is given what the text lists
  feed_main : (u : Ty) (x : Input) → t.input ≡ some u → input_of standard.objects t.classes u s ≡ x → feed t s ≡ with_input t x
  unfolding feed
  feed_main u x e q = ap by_main e ∙ ap (with_input t) q

  pub feed_unlisted : (u : Ty) → t.input ≡ some u → ((ns : List Node) → ListsParts t s ns → ⊥) → feed t s ≡ declined 14
  feed_unlisted u e h = feed_main u (refused 14) e ((gives t wf standard.objects u s).fourteen.1 h)

  pub feed_unfitting : (u : Ty) (ns : List Node) → t.input ≡ some u → ListsParts t s ns → (Fitting standard.objects t.classes u ns → ⊥) → feed t s ≡ declined 15
  feed_unfitting u ns e l h = feed_main u (refused 15) e ((gives t wf standard.objects u s).fifteen.1 (ns, l, h))

  pub feeds_feed : (i : Option Graph) → Feeds t s i → feed t s ≡ admitted t i
  feeds_feed i (NOTHING e q) = feed_none e q
  feeds_feed i (PARTS {u = u} {ns = ns} e l h) = feed_main u (given (started ns)) e (((gives t wf standard.objects u s).value (started ns)).1 (ns, l, h, refl))

  -- an empty text lists nothing
  pub empty_unlisted : s ≡ [] → (ns : List Node) → ListsParts t s ns → ⊥
  unfolding parts_of
  empty_unlisted e ns h = none-ne-some ns (sym (ap (parts_of t.classes) e) ∙ parts_round t wf s ns h)

  -- a second text is refused with 14 or 15, or feeds the table
  pub data Fate : Type 0 where
    refuses : (k : ℕ) → 14 ≤ k → k ≤ 15 → feed t s ≡ declined k → Fate
    feeds : (i : Option Graph) → Feeds t s i → Fate

  pub fate : Fate
  fate = by_table t.input refl
    where
      by_empty : (x : List ℕ) → s ≡ x → t.input ≡ none → Fate
      by_empty [] q e = feeds none (NOTHING e q)
      by_empty (c ∷ x) q e = refuses 14 (omega arith) (omega arith) (feed_some e (omega (arith, ap length q)))

      by_text : (u : Ty) → t.input ≡ some u → (x : Input) → input_of standard.objects t.classes u s ≡ x → Fate
      by_text u e (refused k) q = let n = input_number standard.objects t.classes u s k q in refuses k n.0 n.1 (feed_main u (refused k) e q)
      by_text u e (given v) q = let g = ((gives t wf standard.objects u s).value v).0 q in feeds (some (started g.0)) (PARTS e g.1 g.2)

      by_table : (o : Option Ty) → t.input ≡ o → Fate
      by_table none e = by_empty s refl e
      by_table (some u) e = by_text u e (input_of standard.objects t.classes u s) refl

  -- what it gives belongs to the table
  pub feeds_fed : (i : Option Graph) → Feeds t s i → Fed standard.objects t i
  feeds_fed i (NOTHING e q) = unfed e
  feeds_fed i (PARTS {u = u} {ns = ns} e l h) =
      let z = ((gives t wf standard.objects u s).value (started ns)).1 (ns, l, h, refl) in
      fed u (started ns) e (sits t wf u (started ns) (given_has t wf standard.objects u s (started ns) z (omega (arith, wf.input_tag u e))))
      (given_good t wf standard.objects u s (started ns) z)

-- ---- one tree, however it is cut
module _ (t : Table) (wf : WellFormed t) where
  nothing_fed : t.input ≡ none → (s : List ℕ) (i : Option Graph) → Feeds t s i → i ≡ none
  nothing_fed e s i (NOTHING f q) = refl
  nothing_fed e s i (PARTS {u = u} f l h) = absurd (none-ne-some u (sym e ∙ f))

  pub recut_feeds : (s s' : List ℕ) (ns ms : List Node) (i j : Option Graph) → ListsParts t s ns → ListsParts t s' ms
      → SameTree (graph (obj 0) ns) (graph (obj 0) ms) → Feeds t s i → Feeds t s' j → i ≡ j
  recut_feeds s s' ns ms i j p q h a b = go t.input refl
    where
      go : (o : Option Ty) → t.input ≡ o → i ≡ j
      go none e = nothing_fed e s i a ∙ sym (nothing_fed e s' j b)
      go (some u) e =
          let r = recut standard.objects t u s s' ns ms (parts_round t wf s ns p) (parts_round t wf s' ms q) h in
          let f : admitted t i ≡ admitted t j = sym (feeds_feed t wf s i a) ∙ feed_main t wf s u _ e r ∙ sym (feed_main t wf s' u _ e refl) ∙ feeds_feed t wf s' j b in
          cc
