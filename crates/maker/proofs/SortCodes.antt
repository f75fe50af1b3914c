-- What is known of an object, and its codes in the host: the laws of `is_open`, `is_new`, `leads_new`, `turn` and `turn_fields`.
-- Not here: the objects decided (Sorts).
use Rattle.std.proofs.Common.{ℕ, zero, suc, ◌+◌, ◌-◌, ◌*◌, ◌%◌, ◌≤◌, ◌<◌, arith, ◌≡◌, refl, sym, ◌∙◌, subst, Bool, true, false, not, List, length, get_or, lt-ltb, le-ltb}
use native.Mathlib.Decide.{dec_lt, ℕ_discrete}
use Rattle.std.proofs.Math.Bool.{false≢true}
use mathlib.Core.Logic.{inl, inr}
use Rattle.canon.specs.Figures.{object_size, head_size, code_count, numbers_at, first_leaf, capacity, block_size, three_bytes}
use Rattle.canon.specs.Layout.{ref_of, count_in, objects_in, Inside}
use Rattle.canon.specs.Tables.{Eight}
use Rattle.canon.proofs.Numbers.{number_met, number_not}
use Rattle.canon.proofs.Nodes.{code_low}
use Rattle.values.proofs.Trees.{leaf_same}
use Rattle.maker.specs.Figures.{not_told}
use Rattle.maker.specs.Adding.{codes_of, object_of}
use Rattle.maker.specs.Merging.{CodeAs, Mapped}
use Rattle.maker.specs.Sorting.{code_at, turn_in, TurnedAs, OpenIs, NewIs, LeadsIs, CodesTurned}
use Rattle.maker.proofs.Codes.{object_class, object_count, object_code, first_code, next_code}
use Rattle.maker.proofs.Bytes.{object_rest}
use Rattle.values.proofs.Tests.{not_true, not_false}
use Rattle.maker.proofs.Turns.{leaf_low}

-- ---- whether something is known of an object
module _ (T : List ℕ) (F : List Bool) (x : ℕ) where
  pub open_told : ((get_or T x 0 ≡ 0) → ⊥) → OpenIs T F x false
  open_told d = record { yes = λ e. absurd (false≢true e); no = λ _. inl d }

  pub open_marked : get_or T x 0 ≡ 0 → OpenIs T F x (not (get_or F x false))
  open_marked e = record { yes = λ b. (e, not_true _ b); no = λ b. inr (not_false _ b) }

-- ---- a code of a new object
module _ (F : List Bool) (c : ℕ) where
  pub new_leaf : first_leaf ≤ c → NewIs F c false
  new_leaf h = record { yes = λ e. absurd (false≢true e) }

  pub new_marked : c < first_leaf → NewIs F c (get_or F c false)
  new_marked h = record { yes = λ e. record { object = h; marked = e } }

module _ (W : List ℕ) (src x : ℕ) (ib : Inside W src x) where
  -- a code that is an object's has a place in the tables
  pub code_small : {A : Type 0} (M : List A) → length M ≡ capacity → (k : ℕ) → k < code_count → get_or W (block_size * src + object_size * x + head_size + k) 0 < first_leaf → get_or W (block_size * src + object_size * x + head_size + k) 0 < length M
  unfolding objects_in
  code_small M e k h l = omega (arith, code_low W (block_size * src) (count_in W src) ib.block.packed x ib.low ib.block.whole k h l, ib.block.small)

  pub code_small_before : (M : List ℕ) → length M ≡ capacity → (k : ℕ) → 0 < k → k ≤ code_count → get_or W (block_size * src + object_size * x + head_size + (k - 1)) 0 < first_leaf → get_or W (block_size * src + object_size * x + head_size + (k - 1)) 0 < length M
  code_small_before M e k h u = code_small M e (k - 1) (omega arith)

module _ (W : List ℕ) (src x : ℕ) (F : List Bool) where
  pub leads_yes : (k : ℕ) (b : Bool) → k < code_count → NewIs F (code_at W src x k) b → b ≡ true → LeadsIs W src x F true
  leads_yes k b h n e = record { yes = λ _. record { field = k; low = h; new = n.yes e } }

  pub leads_no : LeadsIs W src x F false
  leads_no = record { yes = λ e. absurd (false≢true e) }

-- ---- codes turned
module _ (T : List ℕ) (c : ℕ) where
  pub turn_leaf : first_leaf ≤ c → c ≡ turn_in T c
  unfolding turn_in
  turn_leaf h = rw (le-ltb c first_leaf h)

  pub turn_none : c < first_leaf → get_or T c 0 ≡ 0 → not_told ≡ turn_in T c
  unfolding turn_in
  turn_none h e = rw (lt-ltb c first_leaf h) (number_not T not_told c e)

  pub turn_told : c < first_leaf → ((get_or T c 0 ≡ 0) → ⊥) → get_or T c 0 - 1 ≡ turn_in T c
  unfolding turn_in
  turn_told h d = rw (lt-ltb c first_leaf h) (number_met T not_told c d)

module _ (W : List ℕ) (src host : ℕ) (T : List ℕ) (mp : Mapped W src host T) where
  turn_code : (c : ℕ) → ((turn_in T c ≡ not_told) → ⊥) → CodeAs W src c host (turn_in T c)
  turn_code c d = go (dec_lt c first_leaf) (ℕ_discrete (get_or T c 0) 0)
    where
      go : Dec (c < first_leaf) → Dec (get_or T c 0 ≡ 0) → CodeAs W src c host (turn_in T c)
      go (yes h) (yes z) = absurd (d (sym (turn_none T c h z)))
      go (yes h) (no n) = rw (← turn_told T c h n) (mp.each c (get_or T c 0 - 1) (omega (arith, n)))
      go (no h) z =
          rw (← turn_leaf T c (omega (arith, h))) (record {
            low = λ y. leaf_low (count_in W host) c y (omega (arith, h));
            leaf = λ _. refl;
            same = λ y. leaf_same (objects_in W src) (objects_in W host) (ref_of c y) (leaf_low 0 c y (omega (arith, h)));
          })

  pub turned_by : (x w v : ℕ) → Inside W src x → CodesTurned W src x T 0 w → Eight W (block_size * src + object_size * x + numbers_at) v
      → TurnedAs W src x host (object_of (get_or W (block_size * src + object_size * x) 0) (get_or W (block_size * src + object_size * x + 1) 0) w v)
  turned_by x w v ib t g = record {
    cls = object_class _ _ w v;
    count = object_count _ _ w v;
    code = λ f h.
        let z : 0 + f ≡ f = omega arith in
        subst (CodeAs W src (code_at W src x f) host) (sym (object_code _ _ w v f h ∙ rw z at (t.code f (omega arith)))) (turn_code (code_at W src x f) (rw z at (t.told f (omega arith))));
    rest = λ k l h. object_rest W (block_size * src + object_size * x) v g (ib.block.packed x ib.low) _ _ w k l h;
  }

-- the codes one after another, from the last to the first
module _ (W : List ℕ) (src x : ℕ) (T : List ℕ) where
  pub codes_all : (k w : ℕ) → CodesTurned W src x T k w → k ≤ 0 → CodesTurned W src x T 0 w
  codes_all k w c h = let z : k ≡ 0 = omega arith in subst (λ (j : ℕ). CodesTurned W src x T j w) z c

  pub codes_none : CodesTurned W src x T 4 0
  codes_none = record { code = λ j h. absurd (omega arith); told = λ j h. absurd (omega arith) }

  pub codes_more : (k w r : ℕ) → CodesTurned W src x T k w → 0 < k → r < 256 → r ≡ turn_in T (code_at W src x (k - 1)) → ((r ≡ not_told) → ⊥) → CodesTurned W src x T (k - 1) (r + 256 * (w % three_bytes))
  codes_more k w r c h l e d = record { code = code; told = told }
    where
      code : (j : ℕ) → k - 1 + j < code_count → get_or (codes_of (r + 256 * (w % three_bytes))) j 0 ≡ turn_in T (code_at W src x (k - 1 + j))
      code zero u = let z : k - 1 + 0 ≡ k - 1 = omega arith in rw z (first_code r w l ∙ e)
      code (suc j) u = let z : k - 1 + suc j ≡ k + j = omega arith in rw z (next_code r w l j (omega arith) ∙ c.code j (omega arith))

      told : (j : ℕ) → k - 1 + j < code_count → (turn_in T (code_at W src x (k - 1 + j)) ≡ not_told) → ⊥
      told zero u = let z : k - 1 + 0 ≡ k - 1 = omega arith in rw (z, ← e) d
      told (suc j) u = let z : k - 1 + suc j ≡ k + j = omega arith in rw z (c.told j (omega arith))
