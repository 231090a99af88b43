-- Laws of the walk and of packets in memory.
use Rattle.std.specs.Prelude.{◌≡◌, ℕ, ◌+◌, ◌*◌, ◌/◌, ◌%◌, ◌^◌, ◌<◌, ◌≤◌, ◌⊎◌, List, length, ◌≢◌, slice_index}
use Rattle.memory.specs.declared.buffer.Kind.TheVariants.{Listed}
use Rattle.memory.specs.declared.buffer.Buffer.{Buffer}
use Rattle.memory.specs.Walk.{word, offset, page, walked}
use Rattle.memory.specs.Store.{stored, gathered, place}

-- a list with the entries 5,000 and 12,288: byte 3,192 lies in page 3 at offset 0
abbrev pub Crosses : Type 0
Crosses = (m : List ℕ) (b : Buffer) → b.kind ≡ Listed → b.address % 4096 + 16 ≤ 4096 → b.address + 16 ≤ length m
    → word m b.address ≡ 5000 → word m (b.address + 8) ≡ 12288 → walked m b 3192 ≡ (3, 0)

-- entry k is not in the list's page, or names no page of memory
abbrev pub Strays : List ℕ → Buffer → ℕ → Type 0
Strays m b k = (4096 < b.address % 4096 + 8 * k + 8) ⊎ (length m / 4096 ≤ word m (b.address + 8 * k) / 4096)

-- a byte whose entry strays has no place in memory, whatever the list holds
abbrev pub Placeless : Type 0
Placeless = (m : List ℕ) (b : Buffer) (byte : ℕ) → length m % 4096 ≡ 0 → length m < 2 ^ 64 → b.kind ≡ Listed
    → Strays m b ((offset m b + byte) / 4096) → length m ≤ place m b byte

-- the n bytes from `at` on lie in memory, in pages that all differ
pub record Sound (m : List ℕ) (b : Buffer) (at n : ℕ) : Type 0 where
  pub inside : (j : ℕ) → at ≤ j → j < at + n → place m b j < length m
  pub apart : (i j : ℕ) → i < j → j * 4096 < offset m b + (at + n) → page m b i ≢ page m b j

-- a packet stored there stands at its places, and no other byte moved
abbrev pub Keeps : Type 0
Keeps = (m : List ℕ) (b : Buffer) (at : ℕ) (xs : List ℕ) → Sound m b at (length xs)
    → (gathered (place m b) (stored (place m b) m at xs) at (length xs) ≡ xs)
    × ((x : ℕ) → ((j : ℕ) → at ≤ j → j < at + length xs → place m b j ≢ x) → slice_index (stored (place m b) m at xs) x ≡ slice_index m x)
