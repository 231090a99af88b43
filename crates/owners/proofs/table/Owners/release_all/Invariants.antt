-- The pages before the index are let go, the rest are as they were.
use Rattle.std.proofs.Common.{◌≡◌, ◌++◌, map, take, drop}
use Rattle.owners.specs.Claims.{freed}
use Rattle.owners.proofs.table.Owners.release_all.Given as goal

abbrev pub invariant-loop-held : goal.invariant-loop-held
invariant-loop-held l = l.held-items ≡ map (freed l.owner) (take l.held-index l.initial.held-items) ++ drop l.held-index l.initial.held-items
