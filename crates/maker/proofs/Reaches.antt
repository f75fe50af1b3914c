-- Laws of what an object of a block leads to, listed. The room in the list is by counting what is not listed yet.
-- Not here: which of the listed objects are new to another block (Seeks).
use Rattle.std.proofs.Common.{ℕ, ◌+◌, ◌*◌, ◌<◌, ◌≤◌, arith, ◌≡◌, refl, sym, ap, ◌∙◌, subst, Bool, true, false, cond, List, [], ◌∷◌, ◌++◌, append_assoc, map, length, get_or, set, replicate, length-set, get_or-set_same, get_or-set_other}
use native.Mathlib.Decide.{dec_lt, ℕ_discrete}
use Rattle.std.proofs.Math.Bool.{false≢true}
use Rattle.std.proofs.Math.Option.{Option, some}
use Rattle.std.proofs.Math.ListN.{get_elem?, length-replicate}
use Rattle.cofj.specs.Partial.{◌>>=◌}
use Rattle.cofj.specs.Values.{Ref, obj, Node, Graph, graph, refs_at}
use Rattle.cofj.specs.Unfolding.{follow}
use Rattle.canon.specs.Figures.{object_size, head_size, code_count, first_leaf, capacity, block_size}
use Rattle.canon.specs.Layout.{count_in, objects_in, graph_at, Inside}
use Rattle.canon.proofs.Nodes.{code_low}
use Rattle.canon.proofs.Zeros.{unseen_at, zeros-few, zeros-mark}
use Rattle.maker.specs.Sorting.{code_at, Listed, Reached}
use Rattle.maker.specs.Reaching.{Noted, Met, FieldOf, FieldsMet, ReachedTo}
use Rattle.maker.specs.Crowds.{In}
use Rattle.maker.proofs.Turns.{field_ref}

-- ---- a path leads to a listed object
led_root : (ns : List Node) (i : ℕ) → In ns i (graph (obj i) ns)
led_root ns i = record { path = []; tree = λ q. refl }

-- one field further
led_step : (ns : List Node) (g : Graph) (y f z : ℕ) → In ns y g → get_elem? (refs_at ns y) f ≡ some (obj z) → In ns z g
led_step ns g y f z a e = record {
  path = a.path ++ (f ∷ []);
  tree = λ q.
      sym (ap (λ (o : Option Ref). o >>= (λ s. follow ns s q)) e) ∙ a.tree (f ∷ q)
      ∙ ap (follow g.nodes g.root) (sym (append_assoc a.path (f ∷ []) q));
}

-- what is listed stays so while the list grows
listed_kept : (L L' : List ℕ) (t r x : ℕ) → t ≤ r → ((q : ℕ) → q < t → get_or L' q 0 ≡ get_or L q 0) → Listed L t x → Listed L' r x
listed_kept L L' t r x h front o = let l : o.0 < t = o.1 in (o.0, omega arith, front o.0 l ∙ o.2)

-- ---- a code met
module _ (S : List Bool) (L : List ℕ) (t c : ℕ) (nd : Noted S L t) where
  unchanged : (c < first_leaf → Listed L t c) → Met L t c S L t
  unchanged h = record { noted = nd; more = omega arith; front = λ q l. refl; new = λ q a b. absurd (omega arith); object = λ l. absurd (omega arith); here = h }

  pub met_leaf : first_leaf ≤ c → Met L t c S L t
  met_leaf h = unchanged (λ l. absurd (omega arith))

  pub met_known : get_or S c false ≡ true → Met L t c S L t
  met_known d = unchanged (λ _. nd.listed c d)

  module _ (lc : c < first_leaf → c < capacity) (h : c < first_leaf) where
    pub met_entry : c < length S
    met_entry = omega (arith, lc h, nd.seen)

    module _ (e : get_or S c false ≡ false) where
      pub met_few : t < capacity
      met_few = omega (arith, nd.free, zeros-mark capacity c S (lc h) met_entry e)

      pub met_room : t < length L
      met_room = omega (arith, met_few, nd.list)

      end : get_or (set L t c) t 0 ≡ c
      end = get_or-set_same L t c 0 met_room

      pub met_new : Met L t c (set S c true) (set L t c) (t + 1)
      met_new = record {
        noted = record {
          seen = length-set S c true ∙ nd.seen;
          list = length-set L t c ∙ nd.list;
          free = omega (arith, nd.free, zeros-mark capacity c S (lc h) met_entry e);
          listed = λ x d. listed x d (ℕ_discrete x c);
        };
        more = omega arith;
        front = front;
        new = λ q a b. let z : q ≡ t = omega arith in ap (λ (k : ℕ). get_or (set L t c) k 0) z ∙ end;
        object = λ _. h;
        here = λ _. (t, omega arith, end);
      }
        where
          front : (q : ℕ) → q < t → get_or (set L t c) q 0 ≡ get_or L q 0
          front q l = get_or-set_other L t q c 0 (λ z. omega arith)

          listed : (x : ℕ) → get_or (set S c true) x false ≡ true → Dec (x ≡ c) → Listed (set L t c) (t + 1) x
          listed x d (yes z) = (t, omega arith, end ∙ sym z)
          listed x d (no z) = listed_kept L (set L t c) t (t + 1) x (omega arith) front (nd.listed x (sym (get_or-set_other S c x true false z) ∙ d))

-- ---- the codes of an object met
module _ (W : List ℕ) (src x : ℕ) (ib : Inside W src x) where
  low : (k : ℕ) → k < code_count → code_at W src x k < first_leaf → code_at W src x k < count_in W src
  unfolding objects_in
  low = code_low W (block_size * src) (count_in W src) ib.block.packed x ib.low ib.block.whole

  -- code k of the object is at the place p
  pub field_low : (k p : ℕ) → k < code_count → p ≡ block_size * src + object_size * x + head_size + k → get_or W p 0 < first_leaf → get_or W p 0 < capacity
  field_low k p h e l = rw e (omega (arith, low k h (rw e at l), ib.block.small))

  module _ (L₀ : List ℕ) (t : ℕ) where
    next : (S : List Bool) (L : List ℕ) (r k p : ℕ) (S' : List Bool) (L' : List ℕ) (r' : ℕ) → k < code_count → p ≡ block_size * src + object_size * x + head_size + k → FieldsMet W src x k L₀ t S L r → Met L r (get_or W p 0) S' L' r'
        → FieldsMet W src x (k + 1) L₀ t S' L' r'
    next S L r k p S' L' r' h e so m = record {
      noted = m.noted;
      more = omega (arith, so.more, m.more);
      front = λ q l. m.front q (omega (arith, so.more)) ∙ so.front q l;
      low = λ q a b. lows q a b (dec_lt q r);
      here = λ f l c. heres f l c (ℕ_discrete f k);
      new = λ q a b. news q a b (dec_lt q r);
    }
      where
        code : get_or W p 0 ≡ code_at W src x k
        code = ap (λ (i : ℕ). get_or W i 0) e

        lows : (q : ℕ) → t ≤ q → q < r' → Dec (q < r) → get_or L' q 0 < count_in W src
        lows q a b (yes l) = rw (m.front q l) (so.low q a l)
        lows q a b (no l) = rw (m.new q (omega (arith, l)) b, code) (low k h (rw code at (m.object (omega (arith, l)))))

        heres : (f : ℕ) → f < k + 1 → code_at W src x f < first_leaf → Dec (f ≡ k) → Listed L' r' (code_at W src x f)
        heres f l c (yes z) =
            let u : get_or W p 0 ≡ code_at W src x f = code ∙ ap (code_at W src x) (sym z) in
            subst (Listed L' r') u (m.here (rw u c))
        heres f l c (no z) = listed_kept L L' r r' _ m.more m.front (so.here f (omega (arith, z)) c)

        news : (q : ℕ) → t ≤ q → q < r' → Dec (q < r) → FieldOf W src x (get_or L' q 0)
        news q a b (yes l) = subst (FieldOf W src x) (sym (m.front q l)) (so.new q a l)
        news q a b (no l) = record { field = k; low = h; object = rw code at (m.object (omega (arith, l))); is = m.new q (omega (arith, l)) b ∙ code }

    pub fields_met : (S₀ S1 : List Bool) (L1 : List ℕ) (r1 : ℕ) (S2 : List Bool) (L2 : List ℕ) (r2 : ℕ) (S3 : List Bool) (L3 : List ℕ) (r3 : ℕ) (S : List Bool) (L : List ℕ) (r : ℕ) → Noted S₀ L₀ t
        → Met L₀ t (get_or W (block_size * src + object_size * x + 2) 0) S1 L1 r1
        → Met L1 r1 (get_or W (block_size * src + object_size * x + 3) 0) S2 L2 r2
        → Met L2 r2 (get_or W (block_size * src + object_size * x + 4) 0) S3 L3 r3
        → Met L3 r3 (get_or W (block_size * src + object_size * x + 5) 0) S L r
        → FieldsMet W src x 4 L₀ t S L r
    fields_met S₀ S1 L1 r1 S2 L2 r2 S3 L3 r3 S L r nd a b c d =
        next S3 L3 r3 3 _ S L r (omega arith) (omega arith)
        (next S2 L2 r2 2 _ S3 L3 r3 (omega arith) (omega arith)
        (next S1 L1 r1 1 _ S2 L2 r2 (omega arith) (omega arith)
        (next S₀ L₀ t 0 _ S1 L1 r1 (omega arith) (omega arith) none a) b) c) d
      where
        none : FieldsMet W src x 0 L₀ t S₀ L₀ t
        none = record { noted = nd; more = omega arith; front = λ q l. refl; low = λ q l m. absurd (omega arith); here = λ f l. absurd (omega arith); new = λ q l m. absurd (omega arith) }

-- ---- the list gone over
module _ (W : List ℕ) (src i : ℕ) where
  -- object i is the first; `seen` begins with k times false
  module _ (ib : Inside W src i) (L : List ℕ) (ll : length L ≡ capacity) (k : ℕ) (ek : k ≡ capacity) where
    pub reach_start : ReachedTo W src i (set (replicate k false) i true) (set L 0 i) 1 0
    reach_start = record {
      inside = ib;
      noted = m.noted;
      low = λ q l. rw (m.new q (omega arith) l) ib.low;
      root = m.here (omega (arith, small));
      closed = λ q f l. absurd (omega arith);
      led = λ q l. subst (λ (y : ℕ). In (objects_in W src) y (graph_at W src i)) (sym (m.new q (omega arith) l)) (led_root (objects_in W src) i);
    }
      where
        small : i < capacity
        small = omega (arith, ib.low, ib.block.small)

        nothing : Noted (replicate k false) L 0
        nothing = record { seen = length-replicate k false ∙ ek; list = ll; free = omega (arith, zeros-few capacity (map (λ b. cond b 1 0) (replicate k false))); listed = λ x d. absurd (false≢true (sym (unseen_at k x) ∙ d)) }

        m : Met L 0 i (set (replicate k false) i true) (set L 0 i) 1
        m = met_new (replicate k false) L 0 i nothing (λ _. small) (omega (arith, small)) (unseen_at k i)

  module _ (S : List Bool) (L : List ℕ) (t h : ℕ) (so : ReachedTo W src i S L t h) where
    module _ (hh : h < t) where
      pub head_read : h < length L
      head_read = omega (arith, so.noted.list, so.noted.free)

      pub head_inside : Inside W src (get_or L h 0)
      head_inside = record { block = so.inside.block; low = so.low h hh }

      module _ (S2 : List Bool) (L2 : List ℕ) (r : ℕ) (o : FieldsMet W src (get_or L h 0) 4 L t S2 L2 r) where
        pub reach_few : r ≤ capacity
        reach_few = omega (arith, o.noted.free)

        pub reach_more : ReachedTo W src i S2 L2 r (h + 1)
        reach_more = record {
          inside = so.inside;
          noted = o.noted;
          low = λ q l. lows q l (dec_lt q t);
          root = kept i so.root;
          closed = λ q f l b c.
              let e : get_or L2 q 0 ≡ get_or L q 0 = o.front q (omega arith) in
              subst (λ (y : ℕ). Listed L2 r (code_at W src y f)) (sym e) (closed q f l b (rw e at c) (ℕ_discrete q h));
          led = λ q l. leds q l (dec_lt q t);
        }
          where
            kept : (y : ℕ) → Listed L t y → Listed L2 r y
            kept y = listed_kept L L2 t r y o.more o.front

            lows : (q : ℕ) → q < r → Dec (q < t) → get_or L2 q 0 < count_in W src
            lows q l (yes b) = rw (o.front q b) (so.low q b)
            lows q l (no b) = o.low q (omega (arith, b)) l

            closed : (q f : ℕ) → q < h + 1 → f < code_count → code_at W src (get_or L q 0) f < first_leaf → Dec (q ≡ h) → Listed L2 r (code_at W src (get_or L q 0) f)
            closed q f l b c (yes z) = rw z (o.here f b (rw z at c))
            closed q f l b c (no z) = kept _ (so.closed q f (omega (arith, z)) b c)

            leds : (q : ℕ) → q < r → Dec (q < t) → In (objects_in W src) (get_or L2 q 0) (graph_at W src i)
            leds q l (yes b) = subst (λ (y : ℕ). In (objects_in W src) y (graph_at W src i)) (sym (o.front q b)) (so.led q b)
            leds q l (no b) =
                let n = o.new q (omega (arith, b)) l in
                subst (λ (y : ℕ). In (objects_in W src) y (graph_at W src i)) (sym n.is)
                (led_step (objects_in W src) (graph_at W src i) (get_or L h 0) n.field _ (so.led h hh) (field_ref W src (get_or L h 0) head_inside n.field n.low n.object))

    pub reach_done : t ≤ h → Reached W src i L t
    reach_done l = record { few = omega (arith, so.noted.free); long = so.noted.list; low = so.low; root = so.root; closed = λ q f b. so.closed q f (omega arith); led = so.led }
