-- The last bytes of a block written: the number of its objects, its level and its reach.
use Rattle.std.proofs.Common.{ℕ, ◌+◌, ◌*◌, ◌<◌, ◌≤◌, arith, ◌≡◌, ◌∙◌, List, length, get_or, set, length-set, get_or-set_same, get_or-set_other}
use Rattle.canon.specs.Figures.{count_at, level_at, reach_at, block_size}
use Rattle.canon.specs.Layout.{count_in, level_in, reach_in, ended}

module _ (W : List ℕ) (b n l m : ℕ) (room : block_size * b + block_size ≤ length W) where
  pub ended_size : length (ended W b n l m) ≡ length W
  ended_size = simp length-set

  apart : (p : ℕ) → ((p ≡ block_size * b + count_at) → ⊥) → ((p ≡ block_size * b + level_at) → ⊥) → ((p ≡ block_size * b + reach_at) → ⊥) → get_or (ended W b n l m) p 0 ≡ get_or W p 0
  apart p h k j =
      get_or-set_other (set (set W (block_size * b + count_at) n) (block_size * b + level_at) l) (block_size * b + reach_at) p m 0 j
      ∙ get_or-set_other (set W (block_size * b + count_at) n) (block_size * b + level_at) p l 0 k
      ∙ get_or-set_other W (block_size * b + count_at) p n 0 h

  pub ended_below : (p : ℕ) → p < block_size * b + count_at → get_or (ended W b n l m) p 0 ≡ get_or W p 0
  ended_below p h = apart p (λ z. omega arith) (λ z. omega arith) (λ z. omega arith)

  pub ended-above : (p : ℕ) → block_size * b + reach_at < p → get_or (ended W b n l m) p 0 ≡ get_or W p 0
  ended-above p h = apart p (λ z. omega arith) (λ z. omega arith) (λ z. omega arith)

  pub ended-count : count_in (ended W b n l m) b ≡ n
  unfolding count_in
  ended-count =
      get_or-set_other (set (set W (block_size * b + count_at) n) (block_size * b + level_at) l) (block_size * b + reach_at) (block_size * b + count_at) m 0 (λ z. omega arith)
      ∙ get_or-set_other (set W (block_size * b + count_at) n) (block_size * b + level_at) (block_size * b + count_at) l 0 (λ z. omega arith)
      ∙ get_or-set_same W (block_size * b + count_at) n 0 (omega arith)

  pub ended_level : level_in (ended W b n l m) b ≡ l
  unfolding level_in
  ended_level =
      get_or-set_other (set (set W (block_size * b + count_at) n) (block_size * b + level_at) l) (block_size * b + reach_at) (block_size * b + level_at) m 0 (λ z. omega arith)
      ∙ get_or-set_same (set W (block_size * b + count_at) n) (block_size * b + level_at) l 0 (omega (arith, length-set W (block_size * b + count_at) n))

  pub ended_reach : reach_in (ended W b n l m) b ≡ m
  unfolding reach_in
  ended_reach =
      get_or-set_same (set (set W (block_size * b + count_at) n) (block_size * b + level_at) l) (block_size * b + reach_at) m 0
      (omega (arith, length-set (set W (block_size * b + count_at) n) (block_size * b + level_at) l, length-set W (block_size * b + count_at) n))
