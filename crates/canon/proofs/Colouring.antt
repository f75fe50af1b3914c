-- Colours known by what they must be, without rounds.
use Rattle.std.proofs.Common.{ℕ, zero, suc, ◌+◌, ◌≤◌, ◌<◌, arith, ◌≡◌, refl, sym, ap, ◌∙◌, subst, List, length, get_or, ext_get_or}
use Rattle.std.proofs.Math.Option.{some}
use Rattle.cofj.specs.Values.{Ref, obj, leaf, Graph, rename_node, node_at, colour_of, colours, canon}
use Rattle.cofj.specs.Unfolding.{child, Same, InRange, Whole}
use Rattle.cofj.proofs.Trees.{renamed_same}
use Rattle.cofj.specs.ReportForm.{up_from}
use Rattle.cofj.proofs.Basics.{eq_nats_true}
use Rattle.cofj.proofs.Numbering.{canonical_distinct}
use Rattle.cofj.proofs.Colours.{colour, colour_low, colour_full, colour_same, colour_first, colour_size}
use Rattle.canon.specs.Layout.{Distinct}

pub length_up : (k n : ℕ) → length (up_from k n) ≡ n
unfolding up_from
length_up k zero = refl
length_up k (suc n) = ap suc (length_up (suc k) n)

pub at_up : (k n i : ℕ) → i < n → get_or (up_from k n) i 0 ≡ k + i
unfolding up_from
at_up k zero i l = absurd (omega arith)
at_up k (suc n) zero l = omega arith
at_up k (suc n) (suc i) l = at_up (suc k) n i (omega arith) ∙ omega arith

-- a table that gives each object the first that unfolds to its tree
module _ (g : Graph) (w : Whole g) (cs : List ℕ) (size : length cs ≡ length g.nodes)
    (low : (i : ℕ) → i < length g.nodes → colour_of cs i ≤ i)
    (first : (i : ℕ) → i < length g.nodes → colour_of cs (colour_of cs i) ≡ colour_of cs i)
    (same : (i j : ℕ) → i < length g.nodes → j < length g.nodes → colour_of cs i ≡ colour_of cs j → Same g.nodes (obj i) g.nodes (obj j))
    (full : (i j : ℕ) → i < length g.nodes → j < length g.nodes → Same g.nodes (obj i) g.nodes (obj j) → colour_of cs i ≡ colour_of cs j) where
  entry : (i : ℕ) → i < length g.nodes → colour_of cs i ≡ colour g w i
  entry i h =
      let a = low i h in
      let b = colour_low g w i h in
      let ha : colour_of cs i < length g.nodes = omega arith in
      let hb : colour g w i < length g.nodes = omega arith in
      let x : colour_of cs (colour g w i) ≡ colour_of cs i = full (colour g w i) i hb h (colour_same g w (colour g w i) i hb h (colour_first g w i h)) in
      let y : colour g w (colour_of cs i) ≡ colour g w i = colour_full g w (colour_of cs i) i ha h (same (colour_of cs i) i ha h (first i h)) in
      omega (arith, low (colour g w i) hb, colour_low g w (colour_of cs i) ha)

  pub colours_are : cs ≡ colours g.nodes
  colours_are = ext_get_or 0 cs (colours g.nodes) (size ∙ sym (colour_size g w)) (λ i h. entry i (subst (λ (k : ℕ). i < k) size h))

-- the same, where objects of one colour look alike under the colours
module _ (g : Graph) (w : Whole g) (cs : List ℕ) (size : length cs ≡ length g.nodes)
    (low : (i : ℕ) → i < length g.nodes → colour_of cs i ≤ i)
    (first : (i : ℕ) → i < length g.nodes → colour_of cs (colour_of cs i) ≡ colour_of cs i)
    (looks : (i j : ℕ) → i < length g.nodes → j < length g.nodes → colour_of cs i ≡ colour_of cs j → rename_node (colour_of cs) (node_at g.nodes i) ≡ rename_node (colour_of cs) (node_at g.nodes j))
    (full : (i j : ℕ) → i < length g.nodes → j < length g.nodes → Same g.nodes (obj i) g.nodes (obj j) → colour_of cs i ≡ colour_of cs j) where
  child_in : (r : Ref) → InRange (length g.nodes) r → (k : ℕ) (q : Ref) → child g.nodes r k ≡ some q → InRange (length g.nodes) q
  child_in (obj i) p k q e = w.inner i k q e
  child_in (leaf l) p k q e = absurd (let z : ◌≡◌ {A = ℕ} 0 1 = cc in omega arith)

  pub looks_colours : cs ≡ colours g.nodes
  looks_colours =
      colours_are g w cs size low first
      (λ i j h l e p. renamed_same g.nodes g.nodes (colour_of cs) (colour_of cs) (InRange (length g.nodes)) (InRange (length g.nodes)) child_in child_in looks p (obj i) (obj j) h l (ap obj e))
      full

-- objects that unfold to trees of their own have themselves for colours
pub distinct_colours : (g : Graph) → Whole g → Distinct g.nodes → colours g.nodes ≡ up_from 0 (length g.nodes)
distinct_colours g w d =
    let n : ℕ = length g.nodes in
    let at : (i : ℕ) → i < n → colour_of (up_from 0 n) i ≡ i = λ i h. at_up 0 n i h ∙ omega arith in
    sym (colours_are g w (up_from 0 n) (length_up 0 n)
    (λ i h. omega (arith, at i h))
    (λ i h. ap (colour_of (up_from 0 n)) (at i h))
    (λ i j h h' e. let z : i ≡ j = omega (arith, at i h, at j h') in subst (λ (k : ℕ). Same g.nodes (obj i) g.nodes (obj k)) z (λ p. refl))
    (λ i j h h' e. ap (colour_of (up_from 0 n)) (d.apart i j h h' e)))

-- a value's objects do
pub value_distinct : (v : Graph) → Whole v → canon v ≡ v → Distinct v.nodes
value_distinct v w own = record {
  apart = λ i j h h' e.
      let cs = eq_nats_true _ _ (canonical_distinct v w own) in
      let at : (k : ℕ) → k < length v.nodes → colour v w k ≡ k = λ k l. ap (λ (s : List ℕ). colour_of s k) cs ∙ at_up 0 (length v.nodes) k l ∙ omega arith in
      sym (at i h) ∙ colour_full v w i j h h' e ∙ at j h';
}
