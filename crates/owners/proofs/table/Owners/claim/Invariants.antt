-- What is claimed so far, and that what is left to claim decides.
use Rattle.std.proofs.Common.{◌≡◌, drop, Ok}
use Rattle.owners.specs.Naming.{namings}
use Rattle.owners.specs.Claims.{claimed, slot_owner, claim}
use Rattle.owners.proofs.Transfers.{fore}
use Rattle.owners.proofs.table.Owners.claim.Given as goal

abbrev pub invariant-loop-i : goal.invariant-loop-i
invariant-loop-i l =
    (claimed (slot_owner l.first.set l.first.slot) l.initial.self.table (fore l.memory l.pieces l.i) ≡ Ok l.self.table)
    × (claimed (slot_owner l.first.set l.first.slot) l.self.table (namings l.memory l.i (drop l.i l.pieces))
    ≡ claim l.memory l.first.set l.first.slot l.initial.self.table l.pieces)
