-- What is taken so far, and that the early packets wait as before.
use Rattle.std.proofs.Common.{◌≡◌, ◌-◌, length, Option}
use Rattle.link.specs.declared.term.Window.{Window}
use Rattle.devices.specs.Early.{packets}
use Rattle.devices.specs.Going.{Going}
use Rattle.devices.specs.Stored.{most_of, space_of, taken_in}
use Rattle.devices.specs.Waiting.{AllWait}
use Rattle.devices.proofs.settle.settle.Given as goal

abbrev pub invariant-loop-packet : goal.invariant-loop-packet
invariant-loop-packet l =
    let e = packets l.ahead in
    Going (taken_in l.initial.store) e (taken_in l.store)
    × ((n : Option Window) → AllWait n (taken_in l.initial.store) (space_of l.initial.store) (most_of l.initial.store) e → AllWait n (taken_in l.store) (space_of l.store) (most_of l.store) e)
    × (space_of l.store ≡ space_of l.initial.store)
    × (most_of l.store ≡ most_of l.initial.store)

abbrev pub decreases-loop-packet : goal.decreases-loop-packet
decreases-loop-packet l = most_of l.store - length (taken_in l.store)
