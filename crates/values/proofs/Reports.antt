-- Laws of writing a report: fields, lines, a value. Not here: bytes written as characters (Writes).
use Rattle.std.proofs.Common.{ℕ, suc, ◌+◌, ◌*◌, ◌/◌, ◌%◌, ◌<◌, ◌≤◌, arith, add-one, ◌≡◌, refl, sym, ap, ap₂, ◌∙◌, subst, List, [], ◌∷◌, ◌++◌, append_assoc, append-nil, length, get_or, set, take, drop, length-take, take-suc, length-take-le, get_or-take}
use Rattle.std.proofs.Math.Seq.{take-length}
use Rattle.cofj.specs.Limits.{number_class, report_size}
use Rattle.cofj.specs.Values.{Ref, leaf, Leaf, undet, num, Node, node, Graph, node_at, leaf_of, undetermined, number_of}
use Rattle.cofj.specs.Text.{hex_line, hex_text}
use Rattle.cofj.specs.Report.{ref_bytes, field_bytes, object_line, object_lines, leaf_line}
use Rattle.canon.specs.Figures.{object_size, head_size, code_count, numbers_at, first_leaf, number_code, block_size}
use Rattle.canon.specs.Layout.{ref_of, ref_in, four, node_in, nodes_in, Packed, Block, objects_in, graph_at, count_in}
use Rattle.canon.proofs.Nodes.{Code, is_object, is_undet, is_number, is_mark, code_view, at_nodes, length_nodes, packed_byte, byte_of, four_at_lem, ref_object, ref_undet, ref_number, ref_mark}
use Rattle.values.specs.declared.ValueRef.{ValueRef}
use Rattle.values.specs.declared.ValueRef.TheVariants.{Object, Mark, Number, Undetermined}
use Rattle.values.specs.Layout.{value_of}
use Rattle.canon.specs.Numbers.{Placed}
use Rattle.lineform.specs.Writes.{hex_bytes}
use Rattle.values.specs.Reporting.{head_text, fields_text, line_size, Front, Written, head_in, line_in, Line, Reported}
use Rattle.values.proofs.Writes.{digits_line, front_none, front-put, front_then, front-whole, written_none, written_then}
pub use Rattle.values.proofs.Writes.{byte_end, byte_written}

-- ---- a field
module _ (W : List ℕ) (at f : ℕ) (d e : List ℕ) (to : ℕ) where
  -- its code, and the bytes of the number beside it
  abbrev c : ℕ
  c = get_or W (at + head_size + f) 0

  abbrev low : ℕ
  low = get_or W (at + numbers_at + 2 * f) 0

  abbrev high : ℕ
  high = get_or W (at + numbers_at + 2 * f + 1) 0

  number_bytes_lem : Packed W at → f < code_count → c ≡ number_code → ref_bytes (ref_in W at f) ≡ number_class ∷ high ∷ low ∷ []
  unfolding ref_in
  number_bytes_lem pk h z =
      let eh : (low + 256 * high) / 256 ≡ high = omega (arith, pk.low f h) in
      let el : (low + 256 * high) % 256 ≡ low = omega (arith, pk.low f h) in
      ap ref_bytes (ap (λ (b : ℕ). ref_of b (low + 256 * high)) z ∙ ref_number (low + 256 * high)) ∙ ap₂ (λ (a b : ℕ). number_class ∷ a ∷ b ∷ []) eh el

  pub field_number : Packed W at → f < code_count → c ≡ number_code → (d1 d2 : List ℕ) (t1 t2 t : ℕ) → Written (number_class ∷ []) d to d1 t1 → Written (high ∷ []) d1 t1 d2 t2 → Written (low ∷ []) d2 t2 e t
      → Written (ref_bytes (ref_in W at f)) d to e t
  field_number pk h z d1 d2 t1 t2 t w1 w2 w3 =
      rw (number_bytes_lem pk h z) (written_then (number_class ∷ high ∷ []) (low ∷ []) d d2 e to t2 t (written_then (number_class ∷ []) (high ∷ []) d d1 d2 to t1 t2 w1 w2) w3)

  pub field_object : (t : ℕ) → c < first_leaf → Written (c ∷ []) d to e t → Written (ref_bytes (ref_in W at f)) d to e t
  unfolding ref_in
  field_object t h w = rw (ref_object c (low + 256 * high) h) w

  leaf_bytes_lem : (c ≡ number_code → ⊥) → first_leaf ≤ c → ref_bytes (ref_in W at f) ≡ 255 ∷ []
  unfolding ref_in
  leaf_bytes_lem n h = go (code_view c)
    where
      go : Code c → ref_bytes (ref_of c (low + 256 * high)) ≡ 255 ∷ []
      go (is_object l) = absurd (omega arith)
      go (is_undet z) = ap (λ (b : ℕ). ref_bytes (ref_of b (low + 256 * high))) z ∙ ap ref_bytes (ref_undet (low + 256 * high))
      go (is_number z) = absurd (n z)
      go (is_mark k z) = ap (λ (b : ℕ). ref_bytes (ref_of b (low + 256 * high))) z ∙ ap ref_bytes (ref_mark k (low + 256 * high))

  pub field_leaf : (t : ℕ) → (c ≡ number_code → ⊥) → first_leaf ≤ c → Written (255 ∷ []) d to e t → Written (ref_bytes (ref_in W at f)) d to e t
  field_leaf t n h w = rw (leaf_bytes_lem n h) w

-- ---- the fields of an object
-- the first f of them are written, up to t
pub record FieldsTo (W : List ℕ) (at : ℕ) (d₀ : List ℕ) (to f : ℕ) (d : List ℕ) (t : ℕ) : Type 0 where
  pub written : Written (field_bytes (take f (node_in W at).refs)) d₀ to d t

pub fields_none : (W : List ℕ) (at : ℕ) (d : List ℕ) (to : ℕ) → FieldsTo W at d to 0 d to
fields_none W at d to = record { written = written_none d to }

fields_more : (rs : List Ref) (r : Ref) → field_bytes (rs ++ (r ∷ [])) ≡ field_bytes rs ++ ref_bytes r
fields_more [] r = append-nil (ref_bytes r)
fields_more (x ∷ rs) r = ap (λ (t : List ℕ). ref_bytes x ++ t) (fields_more rs r) ∙ sym (append_assoc (ref_bytes x) (field_bytes rs) (ref_bytes r))

module _ (W : List ℕ) (at : ℕ) (pk : Packed W at) where
  count_refs : length (node_in W at).refs ≡ get_or W (at + 1) 0
  unfolding byte_of
  count_refs = sym (packed_byte W at pk 1 (omega arith))

  field_ref : (f : ℕ) → f < get_or W (at + 1) 0 → get_or (node_in W at).refs f (leaf undet) ≡ ref_in W at f
  unfolding node_in
  field_ref f h = get_or-take (get_or W (at + 1) 0) (four W at) f (leaf undet) h ∙ four_at_lem W at f (omega (arith, pk.count))

  pub fields_four : get_or W (at + 1) 0 ≤ code_count
  fields_four = pk.count

  module _ (d₀ : List ℕ) (to f : ℕ) (d : List ℕ) (t : ℕ) (so : FieldsTo W at d₀ to f d t) where
    pub fields_next : (e : List ℕ) (u n : ℕ) → f < n → n ≡ get_or W (at + 1) 0 → Written (ref_bytes (ref_in W at f)) d t e u → FieldsTo W at d₀ to (f + 1) e u
    fields_next e u n h en g =
        let l : f < get_or W (at + 1) 0 = omega arith in
        let z : field_bytes (take (f + 1) (node_in W at).refs) ≡ field_bytes (take f (node_in W at).refs) ++ ref_bytes (ref_in W at f) =
        rw (add-one f, take-suc (node_in W at).refs f (leaf undet) (omega (arith, count_refs)), field_ref f l) (fields_more (take f (node_in W at).refs) (ref_in W at f)) in
        record { written = rw z (written_then (field_bytes (take f (node_in W at).refs)) (ref_bytes (ref_in W at f)) d₀ d e to t u so.written g) }

    pub fields_done : (n : ℕ) → f ≤ n → n ≤ f → n ≡ get_or W (at + 1) 0 → Written (field_bytes (node_in W at).refs) d₀ to d t
    fields_done n h k en =
        let ef : f ≡ length (node_in W at).refs = omega (arith, count_refs) in
        let z : take f (node_in W at).refs ≡ (node_in W at).refs = ap (λ (q : ℕ). take q (node_in W at).refs) ef ∙ take-length (node_in W at).refs in
        rw z at so.written

-- ---- a line
pub head_written : (W : List ℕ) (at j : ℕ) (d d1 d2 d3 e : List ℕ) (to t1 t2 t3 t : ℕ) → Written (5 ∷ []) d to d1 t1 → Written (j ∷ []) d1 t1 d2 t2 → Written (get_or W at 0 ∷ []) d2 t2 d3 t3
    → Written (get_or W (at + 1) 0 ∷ []) d3 t3 e t → Written (head_in W at j) d to e t
unfolding head_in
head_written W at j d d1 d2 d3 e to t1 t2 t3 t w1 w2 w3 w4 =
    written_then (5 ∷ j ∷ get_or W at 0 ∷ []) (get_or W (at + 1) 0 ∷ []) d d3 e to t3 t
    (written_then (5 ∷ j ∷ []) (get_or W at 0 ∷ []) d d2 d3 to t2 t3 (written_then (5 ∷ []) (j ∷ []) d d1 d2 to t1 t2 w1 w2) w3) w4

line_is : (W : List ℕ) (at j : ℕ) → Packed W at → head_in W at j ++ field_bytes (node_in W at).refs ≡ line_in W at j
unfolding head_in line_in node_in
line_is W at j pk = ap (λ (n : ℕ). 5 ∷ j ∷ get_or W at 0 ∷ n ∷ field_bytes (node_in W at).refs) (sym (count_refs W at pk))

-- the line's end
ended_line : (l d₀ d : List ℕ) (to t : ℕ) → Written l d₀ to d t → t < length d₀ → Front d₀ (set d t 10) (t + 1) (take to d₀ ++ hex_line l)
ended_line l d₀ d to t w h =
    let z : (take to d₀ ++ hex_bytes l) ++ (10 ∷ []) ≡ take to d₀ ++ hex_line l = append_assoc (take to d₀) (hex_bytes l) (10 ∷ []) ∙ ap (λ (q : List ℕ). take to d₀ ++ q) (sym (digits_line l)) in
    rw z at (front-put d₀ d t (take to d₀ ++ hex_bytes l) 10 w.text (omega (arith, w.text.same)))

pub line_written : (W : List ℕ) (at j : ℕ) (d₀ d1 d : List ℕ) (to h t : ℕ) → Packed W at → to + line_size ≤ length d₀ → Written (head_in W at j) d₀ to d1 h → h ≡ to + head_text
    → Written (field_bytes (node_in W at).refs) d1 h d t → t ≤ h + fields_text → Line (line_in W at j) d₀ to (set d t 10) (t + 1)
line_written W at j d₀ d1 d to u t pk room g eu w h = record {
  up = omega (arith, w.end);
  top = omega arith;
  text = ended_line (line_in W at j) d₀ d to t (rw (line_is W at j pk) at (written_then (head_in W at j) (field_bytes (node_in W at).refs) d₀ d1 d to u t g w)) (omega arith);
}

-- ---- the lines
lines_more : (k : ℕ) (ns : List Node) (x : Node) → object_lines k (ns ++ (x ∷ [])) ≡ object_lines k ns ++ (object_line (k + length ns) x ∷ [])
lines_more k [] x = let e : k + 0 ≡ k = omega arith in rw e
lines_more k (n ∷ ns) x =
    let e : k + suc (length ns) ≡ suc k + length ns = omega arith in
    rw e (ap (λ (t : List (List ℕ)). object_line k n ∷ t) (lines_more (suc k) ns x))

text_more : (ls : List (List ℕ)) (l : List ℕ) → hex_text (ls ++ (l ∷ [])) ≡ hex_text ls ++ hex_line l
text_more [] l = append-nil (hex_line l)
text_more (x ∷ ls) l = ap (λ (t : List ℕ). hex_line x ++ t) (text_more ls l) ∙ sym (append_assoc (hex_line x) (hex_text ls) (hex_line l))

-- the lines of the first j objects of block b are written, up to t
pub record Listed (W : List ℕ) (b : ℕ) (d₀ : List ℕ) (j : ℕ) (d : List ℕ) (t : ℕ) : Type 0 where
  pub top : t ≤ line_size * j
  pub text : Front d₀ d t (hex_text (object_lines 0 (take j (objects_in W b))))
  pub count : t ≡ length (hex_text (object_lines 0 (take j (objects_in W b))))

pub lines_none : (W : List ℕ) (b : ℕ) (d : List ℕ) → Listed W b d 0 d 0
lines_none W b d = record { top = omega arith; text = front_none d; count = refl }

module _ (W : List ℕ) (b : ℕ) (bk : Block W b) where
  size : length (objects_in W b) ≡ count_in W b
  unfolding objects_in
  size = length_nodes W (block_size * b) (count_in W b)

  next_text : (j : ℕ) → j < count_in W b → hex_text (object_lines 0 (take (j + 1) (objects_in W b)))
      ≡ hex_text (object_lines 0 (take j (objects_in W b))) ++ hex_line (line_in W (block_size * b + object_size * j) j)
  unfolding line_in objects_in
  next_text j h =
      let e : 0 + length (take j (nodes_in W (block_size * b) (count_in W b))) ≡ j = omega (arith, length-take-le j (nodes_in W (block_size * b) (count_in W b)) (omega (arith, length_nodes W (block_size * b) (count_in W b)))) in
      rw (
        add-one j,
        take-suc (nodes_in W (block_size * b) (count_in W b)) j (node 0 []) (omega (arith, length_nodes W (block_size * b) (count_in W b))),
        lines_more 0 (take j (nodes_in W (block_size * b) (count_in W b))) (node_at (nodes_in W (block_size * b) (count_in W b)) j),
        e,
        at_nodes W (block_size * b) (count_in W b) j h,
      )
      (text_more (object_lines 0 (take j (nodes_in W (block_size * b) (count_in W b)))) (object_line j (node_in W (block_size * b + object_size * j))))

  pub lines_next : (d₀ : List ℕ) (j : ℕ) (d : List ℕ) (t : ℕ) (e : List ℕ) (t1 n : ℕ) → Listed W b d₀ j d t → report_size ≤ length d₀ → j < n → n ≡ count_in W b
      → Line (line_in W (block_size * b + object_size * j) j) d t e t1 → Listed W b d₀ (j + 1) e t1
  lines_next d₀ j d t e t1 n f room h en g =
      let all : Front d₀ e t1 (hex_text (object_lines 0 (take (j + 1) (objects_in W b)))) =
      rw (next_text j (omega arith)) (front_then d₀ d e t t1 (hex_text (object_lines 0 (take j (objects_in W b)))) (hex_line (line_in W (block_size * b + object_size * j) j)) f.text g.text g.up) in
      record {
        top = omega (arith, f.top, g.top);
        text = all;
        count = omega (arith, ap length all.front, length-take t1 e, all.same, f.top, g.top, bk.small);
      }

  pub lines_done : (d₀ : List ℕ) (j : ℕ) (d : List ℕ) (t n : ℕ) → Listed W b d₀ j d t → j ≤ n → n ≤ j → n ≡ count_in W b → Reported (graph_at W b 0) d₀ d t
  unfolding objects_in
  lines_done d₀ j d t n f h k en =
      let ej : j ≡ length (nodes_in W (block_size * b) (count_in W b)) = omega (arith, length_nodes W (block_size * b) (count_in W b)) in
      let z : take j (nodes_in W (block_size * b) (count_in W b)) ≡ nodes_in W (block_size * b) (count_in W b) = ap (λ (q : ℕ). take q (nodes_in W (block_size * b) (count_in W b))) ej ∙ take-length (nodes_in W (block_size * b) (count_in W b)) in
      let c : t ≡ length (hex_text (object_lines 0 (nodes_in W (block_size * b) (count_in W b)))) = f.count ∙ ap (λ (q : List Node). length (hex_text (object_lines 0 q))) z in
      record {
        fits = omega (arith, f.top, bk.small);
        count = c;
        text = front-whole d₀ d t (hex_text (object_lines 0 (take j (nodes_in W (block_size * b) (count_in W b))))) f.text
            ∙ ap₂ {A = List ℕ} {B = ℕ} (λ p q. p ++ drop q d₀) (ap (λ (q : List Node). hex_text (object_lines 0 q)) z) c;
      }

-- ---- no object
leaf_reported : (l : Leaf) (d₀ d : List ℕ) (t : ℕ) → Written (leaf_line l) d₀ 0 d t → report_size ≤ length d₀ → t < report_size → Reported (leaf_of l) d₀ (set d t 10) (t + 1)
leaf_reported l d₀ d t w room h =
    let f : Front d₀ (set d t 10) (t + 1) (hex_line (leaf_line l)) = ended_line (leaf_line l) d₀ d 0 t w (omega arith) in
    let g : Front d₀ (set d t 10) (t + 1) (hex_text (leaf_line l ∷ [])) = rw (append-nil (hex_line (leaf_line l))) f in
    let c : t + 1 ≡ length (hex_text (leaf_line l ∷ [])) = omega (arith, ap length g.front, length-take (t + 1) (set d t 10), g.same) in
    record {
      fits = omega arith;
      count = c;
      text = front-whole d₀ (set d t 10) (t + 1) (hex_text (leaf_line l ∷ [])) g ∙ ap (λ (q : ℕ). hex_text (leaf_line l ∷ []) ++ drop q d₀) c;
    }

pub six_reported : (d₀ d : List ℕ) (t : ℕ) → report_size ≤ length d₀ → Written (6 ∷ []) d₀ 0 d t → Reported undetermined d₀ (set d t 10) (t + 1)
six_reported d₀ d t room w = leaf_reported undet d₀ d t w room (omega (arith, w.end))

pub number_reported : (n : ℕ) (d₀ d1 d2 d : List ℕ) (h l t1 t2 t : ℕ) → report_size ≤ length d₀ → h ≡ n / 256 → l ≡ n % 256 → Written (9 ∷ []) d₀ 0 d1 t1 → Written (h ∷ []) d1 t1 d2 t2 → Written (l ∷ []) d2 t2 d t
    → Reported (number_of n) d₀ (set d t 10) (t + 1)
number_reported n d₀ d1 d2 d h l t1 t2 t room eh el w1 w2 w3 =
    let w = written_then (9 ∷ h ∷ []) (l ∷ []) d₀ d2 d 0 t2 t (written_then (9 ∷ []) (h ∷ []) d₀ d1 d2 0 t1 t2 w1 w2) w3 in
    leaf_reported (num n) d₀ d t (rw (eh, el) at w) room (omega (arith, w.end))

module _ (W : List ℕ) (r : ValueRef) (d₀ d : List ℕ) (t : ℕ) where
  pub report_mark : (k : ℕ) → r ≡ Mark k → Reported undetermined d₀ d t → Reported (value_of W r) d₀ d t
  report_mark k e h = rw e (record { fits = h.fits; count = h.count; text = h.text })

  pub report_number : (n : ℕ) → r ≡ Number n → Reported (number_of n) d₀ d t → Reported (value_of W r) d₀ d t
  report_number n e h = rw e h

  pub report_undetermined : r ≡ Undetermined → Reported undetermined d₀ d t → Reported (value_of W r) d₀ d t
  report_undetermined e h = rw e h

-- ---- an object, alone in its block
pub report_one : (W : List ℕ) (r : ValueRef) (b i : ℕ) (W' d₀ d : List ℕ) (t n : ℕ) → r ≡ Object i b → Placed (graph_at W b i) W b W' n → Reported (graph_at W' b 0) d₀ d t
    → Reported (value_of W r) d₀ d t × (length W' ≡ length W)
report_one W r b i W' d₀ d t n e m h = (subst (λ (v : Graph). Reported v d₀ d t) (m.has.is ∙ ap (value_of W) (sym e)) h, m.outside.same)

pub report_block : (W : List ℕ) (g : Graph) (b : ℕ) (W' : List ℕ) (n : ℕ) → Placed g W b W' n → Block W' b
report_block W g b W' n m = m.has.inside.block
