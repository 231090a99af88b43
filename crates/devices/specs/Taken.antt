-- The packets that a store holds, as bytes and lengths, and when there is no space for one more.
use Rattle.std.specs.Prelude.{ℕ, ◌+◌, ◌-◌, ◌*◌, Bool, ◌||◌, List, [], ◌∷◌, take, drop, nat_lt}

-- the bytes of packets, joined, cut by their lengths
abbrev pub cut : List ℕ → List ℕ → List (List ℕ)
cut bs [] = []
cut bs (n ∷ ns) = take n bs ∷ cut (drop n bs) ns

-- Packet j of n bytes lacks space if the bytes taken + (j - f) * P + n pass the space, or j + 1 the number of lengths.
abbrev pub lacks : ℕ → ℕ → ℕ → ℕ → ℕ → ℕ → ℕ → Bool
lacks space most size bytes f j n = nat_lt space (bytes + (j - f) * size + n) || nat_lt most (j + 1)
