-- What is left to take back, taken back, is what is asked for.
use Rattle.std.proofs.Common.{◌≡◌}
use Rattle.owners.specs.Claims.{unclaimed}
use Rattle.owners.proofs.table.Owners.unclaim.Given as goal

abbrev pub invariant-loop-j : goal.invariant-loop-j
invariant-loop-j l = unclaimed l.memory l.buffer l.j l.self.table ≡ unclaimed l.memory l.buffer l.count l.initial.self.table
