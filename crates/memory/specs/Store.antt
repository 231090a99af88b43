-- What a packet does to memory, and what a buffer shows of it.
use Rattle.std.specs.Prelude.{◌≡◌, ℕ, zero, suc, ◌+◌, ◌*◌, ◌<◌, ◌≤◌, List, [], ◌∷◌, length, slice_index, slice_set}
use Rattle.memory.specs.declared.buffer.Buffer.{Buffer}
use Rattle.memory.specs.Walk.{walked}

-- the address of a byte of a buffer; past the end of memory where the byte has no place
abbrev pub place : List ℕ → Buffer → ℕ → ℕ
place m b byte = (walked m b byte).0 * 4096 + (walked m b byte).1

-- memory once the bytes went to the places of at, at + 1, and so on; a byte past the end goes nowhere
abbrev pub stored : (ℕ → ℕ) → List ℕ → ℕ → List ℕ → List ℕ
stored p m at [] = m
stored p m at (x ∷ xs) = stored p (slice_set m (p at) x) (suc at) xs

-- the n bytes at the places of at, at + 1, and so on; a byte past the end shows as 0
abbrev pub gathered : (ℕ → ℕ) → List ℕ → ℕ → ℕ → List ℕ
gathered p m at zero = []
gathered p m at (suc n) = slice_index m (p at) ∷ gathered p m (suc at) n

-- a packet has at most 4,096 bytes: it stands in the buffer from `at` on, and no other byte moved; more bytes are no packet, and none moved
pub record Written (m : List ℕ) (b : Buffer) (at : ℕ) (xs m' : List ℕ) : Type 0 where
  pub packet : length xs ≤ 4096 → m' ≡ stored (place m b) m at xs
  pub longer : 4096 < length xs → m' ≡ m

-- at most 4,096 bytes are read: those that the buffer shows from `at` on; into more room none is read
pub record Read (m : List ℕ) (b : Buffer) (at : ℕ) (xs xs' : List ℕ) : Type 0 where
  pub packet : length xs ≤ 4096 → xs' ≡ gathered (place m b) m at (length xs)
  pub longer : 4096 < length xs → xs' ≡ xs
