-- A pattern of 64 bits that are taken one after another, and what a layer does by it.
use Rattle.std.specs.Prelude.{◌≡◌, ℕ, ◌+◌, ◌%◌, Bool, true, false, MatchBool, ◌==◌}
use Rattle.std.specs.Int.{bit_at}
use Rattle.layers.specs.declared.pattern.Pattern.{Pattern}

-- the position after it, and round again
abbrev pub following : ℕ → ℕ
following position = (position + 1) % 64

-- the bit that is taken next is set
abbrev pub next_bit : Pattern → Bool
next_bit x = bit_at x.bits x.position == 1

-- a pattern of which no bit was taken
abbrev pub Begins : ℕ → Pattern → Type 0
Begins bits x = (x.bits ≡ bits) × (x.position ≡ 0)

-- one bit was taken
abbrev pub MovesOn : Pattern → Pattern → Type 0
MovesOn x y = (y.bits ≡ x.bits) × (y.position ≡ following x.position)

-- A layer takes the next bit: on 1 the call stops at the layer, on 0 it passes down.
abbrev pub Takes : Pattern → Pattern → Type 0 → Type 0 → Type 0
Takes x y stops passes = MatchBool (next_bit x) stops passes × MovesOn x y

-- a call that takes a bit, or one that takes none and passes down
abbrev pub TakesIf : Bool → Pattern → Pattern → Type 0 → Type 0 → Type 0
TakesIf true x y stops passes = Takes x y stops passes
TakesIf false x y stops passes = passes × (y ≡ x)
