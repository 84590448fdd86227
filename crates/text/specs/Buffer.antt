-- Writing text into a lent buffer: room for it, what a call leaves behind, and a number that is being put. Definitions only.
use Rattle.std.specs.Prelude.{ℕ, ◌+◌, ◌≤◌, ◌≡◌, List, ◌++◌, length, take, drop}
use Rattle.text.specs.Decimal.{digits, last_digits}

-- The buffer with text put at a place: what stands before the place and behind the text stays.
abbrev pub put : ℕ → List ℕ → List ℕ → List ℕ
put at text out = take at out ++ (text ++ drop (at + length text) out)

-- Text was written at a place, and the next place is the one behind it.
pub record Wrote (entry : List ℕ) (at : ℕ) (text exit : List ℕ) (next : ℕ) : Type 0 where
  pub bytes : exit ≡ put at text entry
  pub behind : next ≡ at + length text
  pub room : next ≤ length entry
  pub kept : length exit ≡ length entry

-- The last `count` figures of `left` are still to be put for those of `value` to stand in the buffer.
pub record Filling (entry : List ℕ) (at value : ℕ) (out : List ℕ) (count left : ℕ) : Type 0 where
  pub still : put at (last_digits count left) out ≡ put at (digits value) entry
  pub room : at + count ≤ length entry
  pub kept : length out ≡ length entry
