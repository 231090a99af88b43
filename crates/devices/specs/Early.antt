-- The packets that are kept ahead of order: packet k lies in slot k mod 16, under its number.
use Rattle.std.specs.Prelude.{ℕ, ◌%◌, cond, List, [], Some, None, vec_items, Option, ◌==◌, nat_lt, slice_index_or}
use Rattle.devices.specs.declared.ahead.Slot.{Slot}
use Rattle.devices.specs.declared.ahead.Ahead.{Ahead}

-- packet k with these bytes, if that is its number
abbrev pub held_as : ℕ → Option ℕ → List ℕ → Option (List ℕ)
held_as k None b = None
held_as k (Some n) b = cond (n == k) (Some b) None

-- packet k, if a slot carries that number
abbrev pub held_in : ℕ → Slot → Option (List ℕ)
held_in k s = held_as k s.number s.packet

-- a slot with no packet in it
abbrev pub free : Slot
free = record { number = None; packet = [] }

-- packet k, if it is there
abbrev pub lookup : List Slot → ℕ → Option (List ℕ)
lookup slots k = held_in k (slice_index_or slots (k % 16) free)

-- the packets that are kept ahead, by their numbers
abbrev pub packets : Ahead → ℕ → Option (List ℕ)
packets a = lookup (vec_items a.slots)

-- none, if there is no room for them
abbrev pub early_of : Option Ahead → ℕ → Option (List ℕ)
early_of None k = None
early_of (Some a) k = packets a k

-- those from f on
abbrev pub early_from : ℕ → (ℕ → Option (List ℕ)) → ℕ → Option (List ℕ)
early_from f e k = cond (nat_lt k f) None (e k)

-- with packet j kept, in place of any other of its slot
abbrev pub kept_at : ℕ → List ℕ → (ℕ → Option (List ℕ)) → ℕ → Option (List ℕ)
kept_at j b e k = cond (k % 16 == j % 16) (cond (j == k) (Some b) None) (e k)
