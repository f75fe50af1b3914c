-- Laws of values brought down and closed: one for each return of `bring` and `close`. Not here: the block copied (Copies), the mark bound (Bindings).
use Rattle.std.proofs.Common.{ℕ, ◌+◌, ◌*◌, ◌≤◌, arith, ◌≡◌, refl, sym, ap, ◌∙◌, Bool, true, false, List, [], eqb, get_or, eq-eqb, ne_eqb}
use Rattle.cofj.specs.Values.{Ref, obj, leaf, mark, undet, Node, graph, canon, close, mark_of}
use Rattle.canon.specs.Figures.{level_at, block_size}
use Rattle.canon.specs.Layout.{Inside, objects_in, graph_at, level_in}
use Rattle.values.specs.declared.ValueRef.{ValueRef}
use Rattle.values.specs.declared.ValueRef.TheVariants.{Object, Mark, Number, Undetermined}
use Rattle.values.specs.Layout.{value_of, Holds, Low}
use Rattle.values.specs.Operations.{Gives}
use Rattle.values.proofs.Blocks.{held_inside, no_object, whole_at}
use Rattle.values.proofs.Trees.{close-canon}
use Rattle.values.proofs.Copies.{unbound}
use Rattle.values.proofs.Selecting.{unchanged}

module _ (W : List ℕ) (v : ValueRef) (dst : ℕ) (h : Holds W v) where
  -- ---- where it lies
  stays : (u : ValueRef) → v ≡ u → Low (dst + 1) u → Gives W dst W u (value_of W v)
  stays u e l = record { held = rw e at h; is = ap (value_of W) (sym e); place = l; outside = unchanged dst W }

  pub bring_leaf : ((i b : ℕ) → v ≡ Object i b → ⊥) → Gives W dst W v (value_of W v)
  bring_leaf o = stays v refl (no_object (Low (dst + 1)) (λ k. tt) (λ n. tt) tt v o)

  pub bring_here : (b i : ℕ) → v ≡ Object i b → b ≤ dst → Gives W dst W (Object i b) (value_of W v)
  bring_here b i e l = stays (Object i b) e (omega arith)

  module _ (x : ℕ) where
    closes : (W' : List ℕ) (r : ValueRef) → Gives W dst W' r (value_of W v) → value_of W v ≡ close x (value_of W v) → Gives W dst W' r (close x (value_of W v))
    closes W' r g e = record { held = g.held; is = g.is ∙ e; place = g.place; outside = g.outside }

    -- ---- an object closed
    module _ (b i : ℕ) (e : v ≡ Object i b) (W' : List ℕ) (r : ValueRef) where
      pub close_free : get_or W (block_size * b + level_at) 0 ≤ x → Gives W dst W' r (canon (graph_at W b i)) → Gives W dst W' r (close x (value_of W v))
      unfolding close level_in
      close_free l g =
          let ob : Inside W b i = held_inside W v b i h e in
          closes W' r (rw e g) (rw e (sym (close-canon i (objects_in W b) (whole_at W b ob.block i ob.low) x ∙ ap (λ (ns : List Node). canon (graph (obj i) ns)) (unbound W b x i ob.block l))))

      pub close_bound : Gives W dst W' r (close x (canon (graph_at W b i))) → Gives W dst W' r (close x (value_of W v))
      close_bound g = rw e g

    -- ---- a leaf closed
    bound : (k : ℕ) (t : Bool) → eqb k x ≡ t → close x (mark_of k) ≡ graph (elim t as (λ _. Ref) [ true ↦ leaf undet | false ↦ leaf (mark k) ]) []
    unfolding close
    bound k t q = ap (λ (u : Bool). graph (elim u as (λ _. Ref) [ true ↦ leaf undet | false ↦ leaf (mark k) ]) []) q

    pub close_this : (k : ℕ) → v ≡ Mark k → k ≡ x → Gives W dst W Undetermined (close x (value_of W v))
    unfolding close
    close_this k e q = record { held = record { held = tt }; is = rw e (sym (bound k true (eq-eqb k x q))); place = tt; outside = unchanged dst W }

    pub close_other : (k : ℕ) → v ≡ Mark k → (k ≡ x → ⊥) → Gives W dst W (Mark k) (close x (value_of W v))
    unfolding close
    close_other k e n = closes W (Mark k) (stays (Mark k) e tt) (rw e (sym (bound k false (ne_eqb k x n))))

    pub close_number : (n : ℕ) → v ≡ Number n → Gives W dst W v (close x (value_of W v))
    unfolding close
    close_number n e = closes W v (stays v refl (rw e tt)) (rw e)

    pub close-undetermined : v ≡ Undetermined → Gives W dst W v (close x (value_of W v))
    unfolding close
    close-undetermined e = closes W v (stays v refl (rw e tt)) (rw e)
