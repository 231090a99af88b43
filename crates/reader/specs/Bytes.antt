-- Bytes and lengths of messages or packets.
use Rattle.std.specs.Prelude.{ℕ, ◌+◌, List, [], ◌∷◌, ◌++◌, length}

-- the sum of lengths
abbrev pub sum_of : List ℕ → ℕ
sum_of [] = 0
sum_of (n ∷ ns) = n + sum_of ns

-- the bytes of messages or packets, one after another
abbrev pub flat : List (List ℕ) → List ℕ
flat [] = []
flat (m ∷ ms) = m ++ flat ms

-- the lengths of messages or packets
abbrev pub lengths_of : List (List ℕ) → List ℕ
lengths_of [] = []
lengths_of (m ∷ ms) = length m ∷ lengths_of ms
