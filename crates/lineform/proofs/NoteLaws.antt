-- What is noted of frames: where the right expressions of their methods stand. Not here: the walk over the lines (LineLaws).
use Rattle.std.proofs.Common.{ℕ, ◌+◌, ◌<◌, ◌≤◌, arith, ◌≡◌, refl, sym, ap, ◌∙◌, subst, Bool, true, false, List, [], ◌∷◌, ◌++◌, append-nil, leb, length, get_or, set, length-append, length-set, get_or-set_same, get_or-set_other, leb-true, leb-false, le-leb}
use native.Mathlib.Decide.{ℕ_discrete}
use Rattle.std.proofs.Math.Option.{some}
use Rattle.std.proofs.Math.ListN.{get_or-append}
use Rattle.std.proofs.Math.Seq.{get_or-append_seam}
use borrow.Author.Tests.{lt-leb}
use Rattle.cofj.specs.Limits.{method_count, line_size}
use Rattle.cofj.specs.Frames.{TextFrame, class_frame, method_frame, main_frame, frame}
use Rattle.cofj.specs.Writing.{code_of, types_bytes, method_line}
use Rattle.cofj.proofs.FrameRound.{frame-length}
use Rattle.lineform.specs.Answers.{right_at, kind_of, Noted, noted, put_right, note_right, SmallKind, rights_of, Rights}
use Rattle.lineform.proofs.FrameLaws.{types-length}

-- ---- the returns of `put_right`
module _ (b m : ℕ) (R : List ℕ) where
  pub put_none : method_count ≤ m → noted m R ≡ put_right b m R
  put_none l = rw (le-leb method_count m l)

  pub put_one : m < method_count → noted (m + 1) (set R m b) ≡ put_right b m R
  put_one l = rw (lt-leb method_count m l)

-- ---- R has the places of m methods of fs: of all of them, as long as there is room
pub record Notes (R : List ℕ) (m : ℕ) (fs : List TextFrame) : Type 0 where
  pub size : length R ≡ method_count
  pub few : m ≤ method_count
  pub some_of : m ≤ length (rights_of fs)
  pub all_of : m < method_count → m ≡ length (rights_of fs)
  pub at : (j : ℕ) → j < m → get_or R j 0 ≡ get_or (rights_of fs) j 0

pub notes_none : (R : List ℕ) → length R ≡ method_count → Notes R 0 []
notes_none R e = record { size = e; few = omega arith; some_of = omega arith; all_of = λ l. refl; at = λ j l. absurd (omega arith) }

rights_append : (fs gs : List TextFrame) → rights_of (fs ++ gs) ≡ rights_of fs ++ rights_of gs
rights_append [] gs = refl
rights_append (class_frame c ∷ fs) gs = rights_append fs gs
rights_append (method_frame d ∷ fs) gs = ap (λ (x : List ℕ). right_at d ∷ x) (rights_append fs gs)
rights_append (main_frame i e ∷ fs) gs = rights_append fs gs

abbrev number : Noted → ℕ
number (noted m R) = m

abbrev places : Noted → List ℕ
places (noted m R) = R

module _ (R : List ℕ) (m : ℕ) (fs : List TextFrame) (t : Notes R m fs) where
  -- no method: the places are the same
  same_notes : (gs : List TextFrame) → rights_of gs ≡ rights_of fs → Notes R m gs
  same_notes gs e = record {
    size = t.size;
    few = t.few;
    some_of = subst (λ (x : List ℕ). m ≤ length x) (sym e) t.some_of;
    all_of = λ l. t.all_of l ∙ ap length (sym e);
    at = λ j l. t.at j l ∙ ap (λ (x : List ℕ). get_or x j 0) (sym e);
  }

  -- a method: one more place, if there is room
  module _ (b : ℕ) (gs : List TextFrame) (e : rights_of gs ≡ rights_of fs ++ (b ∷ [])) where
    longer : length (rights_of gs) ≡ length (rights_of fs) + 1
    longer = ap length e ∙ length-append (rights_of fs) (b ∷ [])

    older : (j : ℕ) → j < m → get_or (rights_of fs) j 0 ≡ get_or (rights_of gs) j 0
    older j l = sym (ap (λ (x : List ℕ). get_or x j 0) e ∙ get_or-append (rights_of fs) (b ∷ []) 0 j (let k = t.some_of in omega arith))

    full_notes : method_count ≤ m → Notes R m gs
    full_notes l = record {
      size = t.size;
      few = t.few;
      some_of = let k = t.some_of in let w = longer in omega arith;
      all_of = λ k. absurd (omega arith);
      at = λ j k. t.at j k ∙ older j k;
    }

    one_note : m < method_count → Notes (set R m b) (m + 1) gs
    one_note l =
        let n = t.all_of l in
        record {
          size = length-set R m b ∙ t.size;
          few = omega arith;
          some_of = let w = longer in omega arith;
          all_of = λ k. (let w = longer in omega arith);
          at = λ j k. go j k (ℕ_discrete j m);
        }
      where
        go : (j : ℕ) → j < m + 1 → Dec (j ≡ m) → get_or (set R m b) j 0 ≡ get_or (rights_of gs) j 0
        go j k (yes q) =
            let n = t.all_of l in
            ap (λ (x : ℕ). get_or (set R m b) x 0) q
            ∙ get_or-set_same R m b 0 (let z = t.size in omega arith)
            ∙ sym (ap (λ (x : ℕ). get_or (rights_of gs) x 0) (q ∙ n) ∙ ap (λ (x : List ℕ). get_or x (length (rights_of fs)) 0) e ∙ get_or-append_seam (rights_of fs) b [] 0)
        go j k (no q) = get_or-set_other R m j b 0 q ∙ t.at j (omega (arith, q)) ∙ older j (omega (arith, q))

    put_notes : (R' : List ℕ) (m' : ℕ) → noted m' R' ≡ put_right b m R → Notes R' m' gs
    put_notes R' m' q = go (leb method_count m) refl
      where
        is : (x : Noted) → noted m' R' ≡ x → Notes (places x) (number x) gs → Notes R' m' gs
        is x p n = subst (λ (y : Noted). Notes (places y) (number y) gs) (sym p) n

        go : (z : Bool) → leb method_count m ≡ z → Notes R' m' gs
        go true p = let l = leb-true method_count m p in is (noted m R) (q ∙ sym (put_none b m R l)) (full_notes l)
        go false p = let l = leb-false method_count m p in is (noted (m + 1) (set R m b)) (q ∙ sym (put_one b m R l)) (one_note l)

-- one more frame
pub notes_more : (R : List ℕ) (m : ℕ) (fs : List TextFrame) (f : TextFrame) (R' : List ℕ) (m' : ℕ) → Notes R m fs → noted m' R' ≡ note_right (kind_of f) m R → Notes R' m' (fs ++ (f ∷ []))
notes_more R m fs (class_frame c) R' m' t e =
    subst (λ (y : Noted). Notes (places y) (number y) (fs ++ (class_frame c ∷ []))) (sym e) (same_notes R m fs t (fs ++ (class_frame c ∷ [])) (rights_append fs (class_frame c ∷ []) ∙ append-nil (rights_of fs)))
notes_more R m fs (method_frame d) R' m' t e = put_notes R m fs t (right_at d) (fs ++ (method_frame d ∷ [])) (rights_append fs (method_frame d ∷ [])) R' m' e
notes_more R m fs (main_frame i x) R' m' t e =
    subst (λ (y : Noted). Notes (places y) (number y) (fs ++ (main_frame i x ∷ []))) (sym e) (same_notes R m fs t (fs ++ (main_frame i x ∷ [])) (rights_append fs (main_frame i x ∷ []) ∙ append-nil (rights_of fs)))

pub notes_rights : (R : List ℕ) (m : ℕ) (fs gs : List TextFrame) → Notes R m fs → fs ≡ gs → Rights R gs
notes_rights R m fs gs t e = subst (Rights R) e (record { at = λ j l k. t.at j (go j l k (leb method_count m) refl) })
  where
    go : (j : ℕ) → j < length (rights_of fs) → j < method_count → (z : Bool) → leb method_count m ≡ z → j < m
    go j l k true p = let q = leb-true method_count m p in omega arith
    go j l k false p = let q = t.all_of (leb-false method_count m p) in omega arith

-- ---- the place is a byte
pub kind_small : (f : TextFrame) (l : List ℕ) → frame l ≡ some f → length l ≤ line_size → SmallKind (kind_of f)
unfolding method_line
kind_small (class_frame c) l e h = tt
kind_small (method_frame d) l e h =
    let k = frame-length l (method_frame d) e in
    let t = types-length d.params in
    let a = length-append (types_bytes d.params) (code_of d.left ++ code_of d.right) in
    let b = length-append (code_of d.left) (code_of d.right) in
    omega arith
kind_small (main_frame i x) l e h = tt
