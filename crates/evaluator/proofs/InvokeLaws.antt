-- A call whose receiver and arguments are known, as the language has it: fuel, depth and the side that runs, one law for each return of `invoke`.
-- Not here: the receiver and the arguments (CallLaws), the sides (BodyLaws).
use Rattle.std.proofs.Common.{ℕ, zero, suc, ◌-◌, arith, sub-one, ◌≡◌, refl, sym, ap, ◌∙◌, List, length}
use Rattle.std.proofs.Math.Option.{Option, none, some}
use Rattle.cofj.specs.Syntax.{Method, Table}
use Rattle.cofj.specs.Values.{Graph, mark_of, close}
use Rattle.cofj.specs.Running as language
use Rattle.cofj.specs.Running.{Outcome, value, stopped, ◌then◌, Deeper, open_mark, invoke, frame_of, opened}
use Rattle.values.specs.declared.ValueRef.{ValueRef}
use Rattle.values.specs.declared.ValueRef.TheVariants.{Mark, Undetermined}
use Rattle.values.specs.Layout.{value_of}
use Rattle.maker.specs.Laying.{values_from}
use Rattle.evaluator.specs.Answers.{Out, Halt}
use Rattle.evaluator.specs.declared.Stop.TheVariants.{NoFuel, TooDeep}
use Rattle.std.specs.declared.option.Option.{Option as RustOption}
use Rattle.std.specs.declared.option.Option.TheVariants.{Some, None}
use Rattle.evaluator.specs.declared.trace.Trace.{Trace}
use Rattle.evaluator.specs.State.{trace_in, met_of}
use Rattle.evaluator.specs.Evaluation.{deeper}
use Rattle.evaluator.specs.Calling.{Invokes, RunsRight, RunsLeft}
use Rattle.evaluator.specs.Steps.{mark_in}
use Rattle.evaluator.proofs.Keeping.{kept_none}

abbrev present : RustOption ValueRef → ℕ
present (Some r) = 1
present None = 0

abbrev held : RustOption ValueRef → ValueRef
held (Some r) = r
held None = Undetermined

-- what meeting a call gave, taken apart
module _ (o : Option ℕ) (h : RustOption ValueRef) (e : h ≡ met_of o) where
  pub met_mark : (y : ValueRef) → h ≡ Some y → y ≡ Mark (mark_in y)
  met_mark y q = go o (sym q ∙ e)
    where
      go : (o' : Option ℕ) → Some y ≡ met_of o' → y ≡ Mark (mark_in y)
      go none z = absurd (let w : 1 ≡ 0 = ap present z in omega arith)
      go (some x) z = let w : y ≡ Mark x = ap held z in w ∙ ap (λ (r : ValueRef). Mark (mark_in r)) (sym w)

  pub met_some : (y : ValueRef) → h ≡ Some y → o ≡ some (mark_in y)
  met_some y q = go o (sym q ∙ e)
    where
      go : (o' : Option ℕ) → Some y ≡ met_of o' → o' ≡ some (mark_in y)
      go none z = absurd (let w : 1 ≡ 0 = ap present z in omega arith)
      go (some x) z = let w : y ≡ Mark x = ap held z in ap (λ (r : ValueRef). some (mark_in r)) (sym w)

  met_none : h ≡ None → o ≡ none
  met_none q = go o (sym q ∙ e)
    where
      go : (o' : Option ℕ) → None ≡ met_of o' → o' ≡ none
      go none z = refl
      go (some x) z = absurd (let w : 0 ≡ 1 = ap present z in omega arith)

module _ (t : Table) (os : List language.OpenCall) (v : Graph) (m : ℕ) (vs : List Graph) (k : Method) where
  spent : (d : Option Deeper) (fuel : ℕ) → fuel ≡ 0 → stopped language.no_fuel fuel ≡ invoke d os v m vs k fuel
  unfolding invoke
  spent d zero z = refl
  spent d (suc n) z = absurd (omega arith)

  too_deep_lem : (objects d fuel : ℕ) → (fuel ≡ 0 → ⊥) → d ≡ 0 → stopped language.too_deep (fuel - 1) ≡ invoke (deeper objects d t) os v m vs k fuel
  unfolding deeper invoke
  too_deep_lem objects zero zero nz z = absurd (nz refl)
  too_deep_lem objects zero (suc n) nz z = rw sub-one
  too_deep_lem objects (suc d) fuel nz z = absurd (omega arith)

  -- what a call gives whose bodies are evaluated by `body`, by the mark that it is open under
  abbrev sides : Deeper → ℕ → Option ℕ → Outcome Graph
  sides body n o = elim o as (λ _. Outcome Graph) [
    | some x ↦ body (frame_of v (some (mark_of x)) vs) os k.right n
    | none ↦ body (frame_of v none vs) (opened os v m vs) k.left n then λ u n'. value (close (length os) u) n'
  ]

  side_is : (objects d fuel : ℕ) → (d ≡ 0 → ⊥) → (fuel ≡ 0 → ⊥) → (o : Option ℕ) → open_mark os v m vs ≡ o
      → sides (λ p xs e n. language.eval_to objects (d - 1) t p xs e n) (fuel - 1) o ≡ invoke (deeper objects d t) os v m vs k fuel
  unfolding deeper invoke
  side_is objects zero fuel nd nz o q = absurd (nd refl)
  side_is objects (suc d) zero nd nz o q = absurd (nz refl)
  side_is objects (suc d) (suc n) nd nz o q = rw (sub-one, sub-one) (ap (sides (λ p xs e n. language.eval_to objects d t p xs e n) n) (sym q))

module _ (T W : List ℕ) (tr : Trace) (top : ℕ) (v : ValueRef) (ps : List ValueRef) (n i next objects d sp fuel m : ℕ) where
  pub invoke_fuel : fuel ≡ 0 → Invokes T W tr top v ps n i next objects d sp fuel m W (Halt NoFuel fuel)
  invoke_fuel z = record {
    kept = kept_none sp W;
    older = tt;
    is = λ t k tb ek. record { is = spent t (trace_in W tr top) (value_of W v) m (values_from W ps 0 n) k (deeper objects d t) fuel z; next = tt };
  }

  module _ (nf : fuel ≡ 0 → ⊥) where
    pub invoke_deep : d ≡ 0 → Invokes T W tr top v ps n i next objects d sp fuel m W (Halt TooDeep (fuel - 1))
    invoke_deep z = record {
      kept = kept_none sp W;
      older = tt;
      is = λ t k tb ek. record { is = too_deep_lem t (trace_in W tr top) (value_of W v) m (values_from W ps 0 n) k objects d fuel nf z; next = tt };
    }

    module _ (nd : d ≡ 0 → ⊥) (h : RustOption ValueRef) (eh : h ≡ met_of (open_mark (trace_in W tr top) (value_of W v) m (values_from W ps 0 n))) (W' : List ℕ) (o : Out) where
      pub invoke_right : (y : ValueRef) → h ≡ Some y → RunsRight T W tr top v ps n i next objects (d - 1) sp (fuel - 1) (mark_in y) W' o → Invokes T W tr top v ps n i next objects d sp fuel m W' o
      unfolding trace_in
      invoke_right y ey r = record {
        kept = r.kept;
        older = r.older;
        is = λ t k tb ek. let z = r.is t k tb ek in record {
          is = z.is
              ∙ side_is t (trace_in W tr top) (value_of W v) m (values_from W ps 0 n) k objects d fuel nd nf (some (mark_in y)) (met_some (open_mark (trace_in W tr top) (value_of W v) m (values_from W ps 0 n)) h eh y ey);
          next = z.next;
        };
      }

      pub invoke_left : h ≡ None → RunsLeft T W tr top v ps n i next objects (d - 1) sp (fuel - 1) m W' o → Invokes T W tr top v ps n i next objects d sp fuel m W' o
      unfolding trace_in
      invoke_left ey r = record {
        kept = r.kept;
        older = r.older;
        is = λ t k tb ek. let z = r.is t k tb ek in record {
          is = z.is
              ∙ side_is t (trace_in W tr top) (value_of W v) m (values_from W ps 0 n) k objects d fuel nd nf none (met_none (open_mark (trace_in W tr top) (value_of W v) m (values_from W ps 0 n)) h eh ey);
          next = z.next;
        };
      }
