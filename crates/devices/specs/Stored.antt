-- What a store holds and has space for.
use Rattle.std.specs.Prelude.{ℕ, List, vec_items, vec_capacity}
use Rattle.devices.specs.declared.store.Store.{Store}
use Rattle.devices.specs.Taken.{cut}

-- the packets that it holds
abbrev pub taken_in : Store → List (List ℕ)
taken_in s = cut (vec_items s.bytes) (vec_items s.lengths)

-- its space for bytes
abbrev pub space_of : Store → ℕ
space_of s = s.space

-- its space for packet lengths
abbrev pub most_of : Store → ℕ
most_of s = vec_capacity s.lengths
