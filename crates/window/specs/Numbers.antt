-- Sequence numbers on words of bits: which packet a bit of a poll or of a vector speaks of.
use Rattle.std.specs.Prelude.{◌≡◌, ℕ, ◌+◌, ◌/◌, ◌%◌, ◌^◌, ◌<◌, ◌≤◌, List, None, Option}

-- bit s of a word
abbrev pub bit : ℕ → ℕ → ℕ
bit b s = b / 2 ^ s % 2

-- bit s of a word is set
abbrev pub Bit : ℕ → ℕ → Type 0
Bit b s = bit b s ≡ 1

-- a is the first packet number from k on whose bit is set; packet a has the sequence number a mod M
pub record Aim (M b k a : ℕ) : Type 0 where
  pub from : k ≤ a
  pub set : Bit b (a % M)
  pub first : (j : ℕ) → k ≤ j → j < a → Bit b (j % M) → ⊥

-- packet j is the one that sequence number s stands for: one of f to f + W - 1, and not early
pub record Meant (W M f : ℕ) (early : ℕ → Option (List ℕ)) (s j : ℕ) : Type 0 where
  pub from : f ≤ j
  pub within : j < f + W
  pub number : j % M ≡ s
  pub fresh : early j ≡ None

-- the vector v has the bits of f to f + W - 1, except early ones
pub record Vector (W M f : ℕ) (early : ℕ → Option (List ℕ)) (v : ℕ) : Type 0 where
  pub set : (s j : ℕ) → Meant W M f early s j → Bit v s
  pub only : (s : ℕ) → Bit v s → (j : ℕ) × Meant W M f early s j
