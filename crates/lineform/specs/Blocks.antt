-- What the functions of blocks answer: digits tested and written many at a time. Not here: one line's bytes (Answers).
use Rattle.std.specs.Prelude.{ℕ, zero, suc, ◌+◌, ◌*◌, ◌/◌, ◌%◌, ◌<◌, ◌≤◌, ◌≡◌, Bool, true, ◌&&◌, ◌||◌, List, length, get_or, set}
use Rattle.cofj.specs.Text.{within}
use Rattle.lineform.specs.Answers.{pair_value}

-- a character that `digit` gives a value
unfoldable pub is_digit : ℕ → Bool
is_digit c = within 48 57 c || within 65 70 c

-- the n characters from `at` on are digits
unfoldable pub all_digits : List ℕ → ℕ → ℕ → Bool
unfolding is_digit
all_digits text at zero = true
all_digits text at (suc n) = all_digits text at n && is_digit (get_or text (at + n) 0)

-- pairs of digits from `from` to e, as many as there are words for; e is before the end
pub record Blocks (text : List ℕ) (from e : ℕ) : Type 0 where
  pub count : ℕ
  pub at : e ≡ from + 2 * count
  pub few : count ≤ 256
  pub inside : e < length text
  pub good : (j : ℕ) → j < 2 * count → is_digit (get_or text (from + j) 0) ≡ true

-- two characters as one number
abbrev pub word_of : ℕ → ℕ → ℕ
word_of a b = a + 256 * b

-- the words of m pairs of characters from the place `from` on
unfoldable pub words_put : List ℕ → ℕ → List ℕ → ℕ → List ℕ
words_put text from w zero = w
words_put text from w (suc m) = set (words_put text from w m) m (word_of (get_or text (from + 2 * m) 0) (get_or text (from + 2 * m + 1) 0))

-- there are m words, each of two digits
pub record DigitWords (w : List ℕ) (m : ℕ) : Type 0 where
  pub few : m ≤ 256
  pub first : (j : ℕ) → j < m → is_digit (get_or w j 0 % 256) ≡ true
  pub second : (j : ℕ) → j < m → is_digit (get_or w j 0 / 256) ≡ true

-- the bytes of m words, written from `to` on
unfoldable pub bytes_put : List ℕ → List ℕ → ℕ → ℕ → List ℕ
bytes_put w out to zero = out
bytes_put w out to (suc m) = set (bytes_put w out to m) (to + m) (pair_value (get_or w m 0 % 256) (get_or w m 0 / 256))
