-- What is left to take back, taken back, is what is asked for.
use Rattle.std.proofs.Common.{◌≡◌, ◌-◌, length}
use Rattle.owners.specs.Claims.{unclaimed_all}
use Rattle.owners.proofs.table.Owners.unclaim_pieces.Given as goal

abbrev pub invariant-loop-piece : goal.invariant-loop-piece
invariant-loop-piece l =
    unclaimed_all l.memory l.pieces (length l.pieces - length l.yielded) l.self.table ≡ unclaimed_all l.memory l.pieces (length l.pieces) l.initial.self.table
