-- The slots so far are free, and there is room for the others.
use Rattle.std.proofs.Common.{◌≡◌, ◌≤◌, replicate, vec_items, vec_capacity}
use Rattle.devices.specs.Early.{free}
use Rattle.devices.proofs.ahead.Ahead.new.Given as goal

abbrev pub invariant-loop : goal.invariant-loop
invariant-loop l = (vec_items l.slots ≡ replicate l.counter free) × (vec_capacity l.slots ≡ 16) × (l.counter ≤ 16)
