-- Words of M bits: turned, asked for from a number on, and their clear bits before the first set one.
use Rattle.std.specs.Prelude.{◌≡◌, ℕ, ◌+◌, ◌-◌, ◌*◌, ◌/◌, ◌%◌, ◌^◌, ◌<◌, ◌≤◌, min, ◌↔◌}
use Rattle.std.specs.Int.Count.{count_trailing_zeros}
use Rattle.window.specs.Numbers.{Bit}

-- a sequence range as a word can hold it: at most 32
abbrev pub held : ℕ → ℕ
held M = min M 32

-- v has M bits and k is at most M: v turned so that bit k comes first
abbrev pub swung : ℕ → ℕ → ℕ → ℕ
swung M k v = v / 2 ^ k + v % 2 ^ k * 2 ^ (M - k)

-- the lowest M bits of v, turned so that bit k mod M comes first
unfoldable pub turned : ℕ → ℕ → ℕ → ℕ
turned M k v = swung M (k % M) (v % 2 ^ M)

-- the word in which each offset below M whose bit is set in v stands for number (h + offset) mod M
unfoldable pub asked : ℕ → ℕ → ℕ → ℕ
asked M h v = turned M (M - h % M) v

-- the clear bits before the first set one, from bit k mod M on, round the M bits; M if none is set
unfoldable pub ahead : ℕ → ℕ → ℕ → ℕ
ahead M k v = count_trailing_zeros M (turned M k v)

-- the offsets below n whose bit is clear in v
abbrev pub others : ℕ → ℕ → ℕ
others n v = (2 ^ 32 - 1 - v) % 2 ^ n

-- the offsets below n, counted from the first set bit of v past k, whose bit is clear
unfoldable pub shown : ℕ → ℕ → ℕ → ℕ → ℕ
shown M k n v = others (n - ahead M k v) (turned M k v / 2 ^ ahead M k v)

-- the word r is v turned within M bits: its bit i is bit (k + i) mod M of v, and there is no other
pub record Turned (M k v r : ℕ) : Type 0 where
  pub small : r < 2 ^ M
  pub each : (i : ℕ) → i < M → Bit r i ↔ Bit v ((k + i) % M)

-- the word asks for exactly the wanted offsets below M, each as the number that it stands for from h on
pub record Asks (M h wanted word : ℕ) : Type 0 where
  pub each : (i : ℕ) → i < M → Bit wanted i → Bit word ((h + i) % M)
  pub only : (s : ℕ) → Bit word s → (i : ℕ) × (i < M) × Bit wanted i × (s ≡ (h + i) % M)

-- how far number s lies past number k on a ring of M numbers
abbrev pub distance : ℕ → ℕ → ℕ → ℕ
distance M k s = (s + (M - k % M)) % M

-- d is the distance from number k of the nearest number of v past it, M if v has none below M
pub record Nearest (M k v d : ℕ) : Type 0 where
  pub most : d ≤ M
  pub clear : (i : ℕ) → i < d → Bit v ((k + i) % M) → ⊥
  pub set : d < M → Bit v ((k + d) % M)
  pub least : (s : ℕ) → s < M → Bit v s → d ≤ distance M k s
  pub met : d < M → distance M k ((k + d) % M) ≡ d

-- r has the bits of the offsets below n, counted from the d-th number past k, whose bit in v is clear
abbrev pub Shows : ℕ → ℕ → ℕ → ℕ → ℕ → ℕ → Type 0
Shows M k n v d r = (i : ℕ) → Bit r i ↔ ((d + i < n) × (Bit v ((k + (d + i)) % M) → ⊥))
