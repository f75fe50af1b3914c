-- Objects copied with their codes turned: what they then are.
use Rattle.std.proofs.Common.{ℕ, zero, suc, ◌+◌, ◌*◌, ◌%◌, ◌<◌, ◌≤◌, arith, ◌≡◌, refl, sym, ap, ap₂, ◌∙◌, List, [], ◌∷◌, map, get_or, take}
use Rattle.std.proofs.Math.Option.{some}
use Rattle.std.proofs.Math.ListN.{get_elem?}
use Rattle.cofj.specs.Values.{Ref, obj, leaf, mark, undet, num, Node, node, rename, refs_at}
use Rattle.cofj.specs.Unfolding.{InRange}
use Rattle.canon.specs.Figures.{object_size, head_size, code_count, numbers_at, first_leaf, undetermined_code, number_code, first_mark}
use Rattle.canon.specs.Layout.{ref_of, code_of, number_beside, number_at, ref_in, node_in, nodes_in, Packed}
use Rattle.canon.specs.Tables.{turned, on_codes, Lifted}
use Rattle.canon.proofs.Nodes.{code_ref, number_ref, ref_object, ref_undet, ref_number, ref_mark, AllPacked}
use Rattle.canon.proofs.Lifts.{turn_object, turn_other, copy_plain, copy_rest, copy_turned}

abbrev pub turn_ref : List ℕ → Ref → Ref
turn_ref T r = ref_of (turned T (code_of r)) (number_beside r)

-- a node with its references changed
abbrev pub changed : (Ref → Ref) → Node → Node
changed f x = node x.cls (map f x.refs)

pub map-take : (f : Ref → Ref) (n : ℕ) (l : List Ref) → map f (take n l) ≡ take n (map f l)
map-take f zero l = refl
map-take f (suc n) [] = refl
map-take f (suc n) (x ∷ l) = ap (λ (t : List Ref). f x ∷ t) (map-take f n l)

-- objects with their codes changed by F: their bytes
module _ (S D : List ℕ) (F : ℕ → ℕ) where
  abbrev pub Here : ℕ → ℕ → ℕ → Type 0
  Here from to n = (p : ℕ) → p < n → get_or D (to + p) 0 ≡ on_codes F (p % object_size) (get_or S (from + p) 0)

  module _ (from to : ℕ) (h : Here from to object_size) where
    head_kept : (k : ℕ) → k < head_size → get_or D (to + k) 0 ≡ get_or S (from + k) 0
    head_kept k l = let e : k % object_size ≡ k = omega arith in h k (omega arith) ∙ rw e (sym (copy_plain F (get_or S (from + k) 0) k l))

    rest_kept : (k : ℕ) → numbers_at ≤ k → k < object_size → get_or D (to + k) 0 ≡ get_or S (from + k) 0
    rest_kept k l m = let e : k % object_size ≡ k = omega arith in h k m ∙ rw e (sym (copy_rest F (get_or S (from + k) 0) k l))

    code_changed : (f : ℕ) → f < code_count → get_or D (to + head_size + f) 0 ≡ F (get_or S (from + head_size + f) 0)
    code_changed f l =
        let zt : to + head_size + f ≡ to + (head_size + f) = omega arith in
        let zf : from + head_size + f ≡ from + (head_size + f) = omega arith in
        let e : (head_size + f) % object_size ≡ head_size + f = omega arith in
        rw (zt, zf) (h (head_size + f) (omega arith) ∙ rw e (sym (copy_turned F (get_or S (from + (head_size + f)) 0) (head_size + f) _ (omega arith) (omega arith) refl)))

    low_kept : (f : ℕ) → f < code_count → get_or D (to + numbers_at + 2 * f) 0 ≡ get_or S (from + numbers_at + 2 * f) 0
    low_kept f l =
        let zt : to + numbers_at + 2 * f ≡ to + (numbers_at + 2 * f) = omega arith in
        let zf : from + numbers_at + 2 * f ≡ from + (numbers_at + 2 * f) = omega arith in
        rw (zt, zf) (rest_kept (numbers_at + 2 * f) (omega arith) (omega arith))

    number_kept : (f : ℕ) → f < code_count → number_at D (to + numbers_at + 2 * f) ≡ number_at S (from + numbers_at + 2 * f)
    number_kept f l =
        let zt : to + numbers_at + 2 * f + 1 ≡ to + (numbers_at + 2 * f + 1) = omega arith in
        let zf : from + numbers_at + 2 * f + 1 ≡ from + (numbers_at + 2 * f + 1) = omega arith in
        rw (low_kept f l, zt, zf, rest_kept (numbers_at + 2 * f + 1) (omega arith) (omega arith))

    -- an object whose codes stand for the references that f turns those of another to, by the codes
    pub node_changed : (f : Ref → Ref) → Packed S from → ((b x : ℕ) → (((b ≡ number_code) → ⊥) → x ≡ 0) → ref_of (F b) x ≡ f (ref_of b x)) → node_in D to ≡ changed f (node_in S from)
    unfolding node_in ref_in
    node_changed f pk turn = rw (e0, head_kept 1 (omega arith), map-take, ref 0 (omega arith), ref 1 (omega arith), ref 2 (omega arith), ref 3 (omega arith))
      where
        e0 : get_or D to 0 ≡ get_or S from 0
        e0 = let zt : to + 0 ≡ to = omega arith in let zf : from + 0 ≡ from = omega arith in rw (zt, zf) at (head_kept 0 (omega arith))

        ref : (g : ℕ) → g < code_count → ref_in D to g ≡ f (ref_in S from g)
        ref g l = ap₂ ref_of (code_changed g l) (number_kept g l) ∙ turn (get_or S (from + head_size + g) 0) (number_at S (from + numbers_at + 2 * g)) (pk.plain g l)

    -- it is packed where no code but a number's becomes a number's, and undetermined stays
    pub packed_changed : F undetermined_code ≡ undetermined_code → F number_code ≡ number_code → Packed S from → Packed D to
    packed_changed eu en pk = record {
      count = rw (head_kept 1 (omega arith)) pk.count;
      spare = λ k a b. spare k a b;
      plain = λ f l d. number_kept f l ∙ pk.plain f l (λ z. d (code_changed f l ∙ ap F z ∙ en));
      low = λ f l. rw (low_kept f l) (pk.low f l);
      blank = λ k a b. rest_kept k (omega arith) b ∙ pk.blank k a b;
    }
      where
        spare : (k : ℕ) → head_size + get_or D (to + 1) 0 ≤ k → k < numbers_at → get_or D (to + k) 0 ≡ undetermined_code
        spare k a b =
            let e1 : get_or D (to + 1) 0 ≡ get_or S (from + 1) 0 = head_kept 1 (omega arith) in
            let e : k % object_size ≡ k = omega arith in
            h k (omega arith) ∙ rw (pk.spare k (omega arith) b, e) (sym (copy_turned F undetermined_code k undetermined_code (omega arith) b (sym eu)))

-- a code turned, with the number beside it
pub turn_plain : (T : List ℕ) (b x : ℕ) → (((b ≡ number_code) → ⊥) → x ≡ 0) → ref_of (turned T b) x ≡ turn_ref T (ref_of b x)
turn_plain T b x plain = ap₂ (λ (c y : ℕ). ref_of (turned T c) y) (sym (code_ref b x)) (sym (number_ref b x plain))

-- many objects with their codes turned
module _ (S D T : List ℕ) where
  abbrev Turning : ℕ → ℕ → ℕ → Type 0
  Turning from to n = Here S D (turned T) from to n

  later : (from to n : ℕ) → Turning from to (object_size * suc n) → Turning (from + object_size) (to + object_size) (object_size * n)
  later from to n h p l =
      let ea : to + object_size + p ≡ to + (object_size + p) = omega arith in
      let eb : from + object_size + p ≡ from + (object_size + p) = omega arith in
      let ec : p % object_size ≡ (object_size + p) % object_size = omega arith in
      rw (ea, eb, ec) (h (object_size + p) (omega arith))

  part_turned : (n i from to : ℕ) → i < n → Turning from to (object_size * n) → Turning (from + object_size * i) (to + object_size * i) object_size
  part_turned n i from to l h p k =
      let ea : to + object_size * i + p ≡ to + (object_size * i + p) = omega arith in
      let eb : from + object_size * i + p ≡ from + (object_size * i + p) = omega arith in
      let ec : p % object_size ≡ (object_size * i + p) % object_size = omega arith in
      rw (ea, eb, ec) (h (object_size * i + p) (omega arith))

  node-turned : (from to : ℕ) → Turning from to object_size → Packed S from → node_in D to ≡ changed (turn_ref T) (node_in S from)
  node-turned from to h pk = node_changed S D (turned T) from to h (turn_ref T) pk (turn_plain T)

  nodes_turned : (n from to : ℕ) → Turning from to (object_size * n) → AllPacked S from n → nodes_in D to n ≡ map (changed (turn_ref T)) (nodes_in S from n)
  unfolding nodes_in
  nodes_turned zero from to h pk = refl
  nodes_turned (suc n) from to h pk =
      ap₂ {C = List Node} ◌∷◌ (node-turned from to (λ p l. h p (omega arith)) (let z : from + object_size * 0 ≡ from = omega arith in rw z at (pk 0 (omega arith))))
      (nodes_turned n (from + object_size) (to + object_size) (later from to n h) (λ i l.
      let z : from + object_size + object_size * i ≡ from + object_size * suc i = omega arith in rw z (pk (suc i) (omega arith))))

pub lifted_nodes : (S : List ℕ) (from : ℕ) (T D₀ : List ℕ) (to : ℕ) (D : List ℕ) (n : ℕ)
    → Lifted S from (object_size * n) T D₀ to D → AllPacked S from n → nodes_in D to n ≡ map (changed (turn_ref T)) (nodes_in S from n)
lifted_nodes S from T D₀ to D n f pk = nodes_turned S D T n from to f.here pk

pub lifted_packed : (S : List ℕ) (from : ℕ) (T D₀ : List ℕ) (to : ℕ) (D : List ℕ) (n : ℕ)
    → Lifted S from (object_size * n) T D₀ to D → AllPacked S from n → AllPacked D to n
lifted_packed S from T D₀ to D n f pk i l =
    packed_changed S D (turned T) (from + object_size * i) (to + object_size * i) (part_turned S D T n i from to l f.here)
    (sym (turn_other T undetermined_code (omega arith))) (sym (turn_other T number_code (omega arith))) (pk i l)

-- ---- a table renames
pub turn_rename : (T : List ℕ) (n : ℕ) (f : ℕ → ℕ) → n ≤ first_leaf → ((i : ℕ) → i < n → get_or T i 0 ≡ f i) → ((i : ℕ) → i < n → f i < first_leaf)
    → (r : Ref) → InRange n r → turn_ref T r ≡ rename f r
turn_rename T n f few e small (obj i) h = ap (λ (c : ℕ). ref_of c 0) (sym (turn_object T i (omega arith)) ∙ e i h) ∙ ref_object (f i) 0 (small i h)
turn_rename T n f few e small (leaf (mark k)) h = ap (λ (c : ℕ). ref_of c 0) (sym (turn_other T (first_mark + k) (omega arith))) ∙ ref_mark k 0
turn_rename T n f few e small (leaf undet) h = ap (λ (c : ℕ). ref_of c 0) (sym (turn_other T undetermined_code (omega arith))) ∙ ref_undet 0
turn_rename T n f few e small (leaf (num x)) h = ap (λ (c : ℕ). ref_of c x) (sym (turn_other T number_code (omega arith))) ∙ ref_number x

-- ---- changes that agree on what is there
refs_agree : (f g : Ref → Ref) (P : Ref → Type 0) → ((r : Ref) → P r → f r ≡ g r) → (rs : List Ref)
    → ((k : ℕ) (r : Ref) → get_elem? rs k ≡ some r → P r) → map f rs ≡ map g rs
refs_agree f g P e [] h = refl
refs_agree f g P e (r ∷ rs) h = ap₂ {C = List Ref} ◌∷◌ (e r (h 0 r refl)) (refs_agree f g P e rs (λ k. h (suc k)))

pub node_agree : (f g : Ref → Ref) (P : Ref → Type 0) → ((r : Ref) → P r → f r ≡ g r) → (x : Node)
    → ((k : ℕ) (r : Ref) → get_elem? x.refs k ≡ some r → P r) → changed f x ≡ changed g x
node_agree f g P e x h = ap (node x.cls) (refs_agree f g P e x.refs h)

pub nodes_agree : (f g : Ref → Ref) (P : Ref → Type 0) → ((r : Ref) → P r → f r ≡ g r) → (ns : List Node)
    → ((i k : ℕ) (r : Ref) → get_elem? (refs_at ns i) k ≡ some r → P r) → map (changed f) ns ≡ map (changed g) ns
nodes_agree f g P e [] h = refl
nodes_agree f g P e (x ∷ xs) h = ap₂ {C = List Node} ◌∷◌ (node_agree f g P e x (h 0)) (nodes_agree f g P e xs (λ i. h (suc i)))
