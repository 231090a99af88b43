-- The slots so far carry no number.
use Rattle.std.proofs.Common.{◌≡◌, ℕ, ◌<◌, None, slice_index_or}
use Rattle.devices.specs.Early.{free}
use Rattle.devices.proofs.ahead.Ahead.clear.Given as goal

abbrev pub invariant-loop-slot : goal.invariant-loop-slot
invariant-loop-slot l = (k : ℕ) → k < l.slot-index → (slice_index_or l.slot-items k free).number ≡ None
