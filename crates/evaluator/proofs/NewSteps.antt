-- New objects: what the functions ask of one another, and one law for each of their returns.
-- Not here: what a new object means (ListLaws), the other expressions (StepLaws).
use Rattle.std.proofs.Common.{ℕ, ◌+◌, ◌≤◌, ◌<◌, arith, ◌≡◌, refl, sym, ap, ◌∙◌, subst, Bool, true, false, cond, List, [], ◌∷◌, leb, length, lt-ltb, le-ltb, leb-true, leb-false}
use Rattle.std.proofs.Math.Option.{none, some, none-ne-some}
use Rattle.cofj.specs.Values.{Graph, make}
use Rattle.cofj.specs.Running as language
use Rattle.cofj.specs.Running.{value, stopped, sized}
use Rattle.classes.specs.Machine.{total_of}
use Rattle.classes.specs.declared.shape.Shape.{Shape}
use Rattle.classes.specs.declared.shape.Shape.TheVariants as shape
use Rattle.classes.specs.Shapes.{shape_at}
use Rattle.values.specs.declared.ValueRef.{ValueRef}
use Rattle.values.specs.declared.ValueRef.TheVariants.{Object}
use Rattle.values.specs.Layout.{value_of}
use Rattle.std.specs.declared.option.Option.{Option as RustOption}
use Rattle.std.specs.declared.option.Option.TheVariants as rust
use Rattle.canon.specs.Figures.{capacity, spare_block}
use Rattle.maker.specs.Laying.{values_from, Makeable, MadeIs, MadeWithin}
use Rattle.maker.proofs.Limits.{fieldless_within}
use Rattle.maker.proofs.FieldlessLaws.{fieldless_made}
use Rattle.std.specs.declared.result.Result.TheVariants.{Ok, Err}
use Rattle.evaluator.specs.declared.Stop.{Stop}
use Rattle.evaluator.specs.declared.Stop.TheVariants.{Stuck, TooLarge}
use Rattle.evaluator.specs.declared.frame.Frame.{Frame}
use Rattle.evaluator.specs.declared.spot.Spot.{Spot}
use Rattle.evaluator.specs.declared.trace.Trace.{Trace}
use Rattle.evaluator.specs.State.{PartsOlder, slot_at}
use Rattle.evaluator.specs.Answers.{Done, Walked, Halt, value_at, Stops, slots_of, out_with, list_from, stops_as}
use Rattle.evaluator.specs.Spots.{inner_spot}
use Rattle.evaluator.specs.Preset.{is_preset}
use Rattle.evaluator.specs.Evaluation.{Limited}
use Rattle.evaluator.specs.Steps.{Runnable, PartRunnable, PartsReady, EvalStep, ListStep, FinishStep, NewStep}
use Rattle.evaluator.proofs.Keeping.{kept_none, older_up, parts_held}
use Rattle.evaluator.proofs.PresetLaws.{Told, told}
use Rattle.evaluator.proofs.TraceLaws.{traced_none}
use Rattle.evaluator.proofs.ListLaws.{list_zero, new_other, new_many, new_is}
use Rattle.evaluator.proofs.StepLaws.{next_new, run-part, step_new}

sized_none : (objects : ℕ) (g : Graph) (fuel : ℕ) → cond (leb (length g.nodes) objects) (some g) none ≡ none → sized objects g fuel ≡ stopped language.too_large fuel
unfolding sized
sized_none objects g fuel h = go (leb (length g.nodes) objects) refl h
  where
    go : (b : Bool) → leb (length g.nodes) objects ≡ b → cond b (some g) none ≡ none → sized objects g fuel ≡ stopped language.too_large fuel
    go true q z = absurd (none-ne-some g (sym z))
    go false q z = rw (lt-ltb objects (length g.nodes) (leb-false (length g.nodes) objects q), sized)

sized_some : (objects : ℕ) (g v : Graph) (fuel : ℕ) → cond (leb (length g.nodes) objects) (some g) none ≡ some v → sized objects g fuel ≡ value v fuel
unfolding sized
sized_some objects g v fuel h = go (leb (length g.nodes) objects) refl h
  where
    go : (b : Bool) → leb (length g.nodes) objects ≡ b → cond b (some g) none ≡ some v → sized objects g fuel ≡ value v fuel
    go true q z =
        let y : some g ≡ some v = z in
        let w : g ≡ v = cc in
        rw (le-ltb objects (length g.nodes) (leb-true (length g.nodes) objects q), sized) (ap (λ (x : Graph). value x fuel) w)
    go false q z = absurd (none-ne-some v z)

four_slots : (A : List ValueRef) → length A ≡ 4 → slots_of (slot_at A 0) (slot_at A 1) (slot_at A 2) (slot_at A 3) ≡ A
four_slots [] h = absurd (omega arith)
four_slots (a ∷ []) h = absurd (omega arith)
four_slots (a ∷ b ∷ []) h = absurd (omega arith)
four_slots (a ∷ b ∷ c ∷ []) h = absurd (omega arith)
four_slots (a ∷ b ∷ c ∷ d ∷ []) h = refl
four_slots (a ∷ b ∷ c ∷ d ∷ e ∷ A) h = absurd (omega arith)

module _ (W : List ℕ) (c n : ℕ) (A : List ValueRef) (objects dst next : ℕ) where
  pub finish_parts : PartsReady W A n dst → Makeable W A n dst
  finish_parts h = let l = h.few in let u = h.under in record {
    held = parts_held W (dst + n) A n h.older;
    few = l;
    below = λ i i<. (older_up W (dst + n) spare_block (omega arith) (slot_at A i) (h.older.part i i<)).low;
    under = omega arith;
    room = h.room;
  }

  module _ (full : length A ≡ 4) (W' : List ℕ) (m : RustOption ValueRef) (mk : MadeWithin objects W (make c (values_from W A 0 n)) dst W' m) where
    listed : values_from W (slots_of (slot_at A 0) (slot_at A 1) (slot_at A 2) (slot_at A 3)) 0 n ≡ values_from W A 0 n
    listed = ap (λ (ps : List ValueRef). values_from W ps 0 n) (four_slots A full)

    pub finish_large : m ≡ rust.None → FinishStep W c n A objects dst next W' (Err TooLarge)
    finish_large e = let k = subst (MadeWithin objects W (make c (values_from W A 0 n)) dst W') e mk in record {
      runs = λ fuel. record {
        kept = k.beneath;
        older = tt;
        is = rw listed (sym (sized_none objects (make c (values_from W A 0 n)) fuel (sym k.is)));
        next = λ p h. tt;
      };
    }

    pub finish_value : (v : ValueRef) → m ≡ rust.Some v → FinishStep W c n A objects dst next W' (value_at v next)
    finish_value v e = let k = subst (MadeWithin objects W (make c (values_from W A 0 n)) dst W') e mk in record {
      runs = λ fuel. record {
        kept = k.beneath;
        older = record { held = k.held; low = k.place };
        is = rw listed (sym (sized_some objects (make c (values_from W A 0 n)) (value_of W' v) fuel (sym k.is)));
        next = λ p h. h;
      };
    }

  pub finish_limit : Limited objects → objects ≤ capacity
  finish_limit h = h.room

  pub finish_fieldless : length A ≡ 4 → n ≡ 0 → Limited objects → (W' : List ℕ) (v : ValueRef) → MadeIs W (make c []) dst W' (rust.Some v) → FinishStep W c n A objects dst next W' (value_at v next)
  unfolding values_from
  finish_fieldless full z h W' v mk =
      finish_value full W' (rust.Some v) (subst (λ (gs : List Graph). MadeWithin objects W (make c gs) dst W' (rust.Some v)) (let e : [] ≡ values_from W A 0 n = rw z in e)
      (fieldless_within objects h.some W c dst W' v mk)) v refl

pub new_limit : (W : List ℕ) (f : Frame) (S : Trace) (p : Spot) → PartRunnable W f S p → Limited p.objects
new_limit W f S p run = run.fits.limit

module _ (T W : List ℕ) (f : Frame) (S : Trace) (p : Spot) (c n : ℕ) (run : PartRunnable W f S p) where
  module _ (x : ℕ) (ex : x ≡ total_of T c) where
    pub new_unlike : (x ≡ n → ⊥) → NewStep T W f S p c n W S (Err Stuck)
    new_unlike h = record { trace = traced_none p.opened S; runs = new_other T W f S p.opened p.at p.nesting p.objects p.calls p.block S.fuel c n x ex h }

    module _ (h : x ≡ n) where
      pub new_over : 4 < n → NewStep T W f S p c n W S (Err Stuck)
      new_over m = record { trace = traced_none p.opened S; runs = new_many T W f S p.opened p.at p.nesting p.objects p.calls p.block S.fuel c n x ex h m }

      module _ (W1 : List ℕ) (S1 : Trace) (A : List ValueRef) (w : Walked) (li : ListStep T W f S p n W1 S1 A w) where
        pub new_stops : (s : Stop) (o : Done) → w ≡ Err s → o ≡ stops_as w → NewStep T W f S p c n W1 S1 o
        new_stops s o ew eo =
            let l = subst (ListStep T W f S p n W1 S1 A) ew li in
            subst (NewStep T W f S p c n W1 S1) (sym (eo ∙ ap stops_as ew)) (record {
              trace = l.trace;
              runs = new_is T W f S p.opened p.at p.nesting p.objects p.calls p.block S.fuel c n x ex h W1 (Stops s S1.fuel) W1 (Halt s S1.fuel) l.runs
                  (record { kept = kept_none p.block W1; older = tt; is = refl; next = λ q k. tt });
            })

        module _ (next : ℕ) (ew : w ≡ Ok next) where
          walk_after : ListStep T W f S p n W1 S1 A (Ok next)
          walk_after = subst (ListStep T W f S p n W1 S1 A) ew li

          pub parts_ready : n ≤ 4 → PartsReady W1 A n p.block
          parts_ready l = let r = run.fits.room in record {
            older = subst (λ (ps : List ValueRef). PartsOlder W1 (p.block + n) ps n) (four_slots A walk_after.full) walk_after.runs.older;
            few = l;
            full = walk_after.full;
            under = omega arith;
            room = omega (arith, run.fits.long, li.runs.kept.same);
          }

          pub new_made : (W2 : List ℕ) (o : Done) → FinishStep W1 c n A p.objects p.block next W2 o → NewStep T W f S p c n W2 S1 o
          new_made W2 o fi = record {
            trace = li.trace;
            runs = new_is T W f S p.opened p.at p.nesting p.objects p.calls p.block S.fuel c n x ex h W1 (list_from S1.fuel A 0 (Ok next)) W2 (out_with S1.fuel o) walk_after.runs (fi.runs S1.fuel);
          }

  -- one that stands in block 0
  module _ (b : Bool) (eb : b ≡ is_preset T c n) (is : b ≡ true) where
    preset_told : Told T c n
    preset_told = told T c n (sym eb ∙ is)

    -- no values were evaluated
    none_walked : ListStep T W f S p n W S (Object 0 0 ∷ Object 0 0 ∷ Object 0 0 ∷ Object 0 0 ∷ []) (Ok p.at)
    none_walked = record {
      trace = traced_none p.opened S;
      full = refl;
      runs = list_zero T W f S p.opened p.at p.nesting p.objects p.calls p.block S.fuel n (Object 0 0) (Object 0 0) (Object 0 0) (Object 0 0) preset_told.none;
    }

    pub new_preset : NewStep T W f S p c n W S (value_at (Object c 0) p.at)
    new_preset =
        let h = preset_told.total ∙ sym preset_told.none in
        new_made (total_of T c) refl h W S (Object 0 0 ∷ Object 0 0 ∷ Object 0 0 ∷ Object 0 0 ∷ []) (Ok p.at) none_walked p.at refl W (value_at (Object c 0) p.at)
        (finish_fieldless W c n (Object 0 0 ∷ Object 0 0 ∷ Object 0 0 ∷ Object 0 0 ∷ []) p.objects p.block p.at refl preset_told.none run.fits.limit W (Object c 0) (fieldless_made W run.based.fieldless c p.block preset_told.low))

pub step_preset : (T W : List ℕ) (f : Frame) (S : Trace) (p : Spot) (s : Shape) → s ≡ shape_at T p.at → Runnable W f S p → (p.nesting ≡ 0 → ⊥) → (c n next : ℕ) → s ≡ shape.New c n next
    → (b : Bool) → b ≡ is_preset T c n → b ≡ true → EvalStep T W f S p W S (value_at (Object c 0) next)
step_preset T W f S p s es run nz c n next z b eb is =
    step_new T W f S p s es nz next (inner_spot p next) refl W S (value_at (Object c 0) next) (value_at (Object c 0) next) refl c n z
    (new_preset T W f S (inner_spot p next) c n (run-part W f S p run nz next (next_new T p.at s es c n next z) (inner_spot p next) refl) b eb is)
