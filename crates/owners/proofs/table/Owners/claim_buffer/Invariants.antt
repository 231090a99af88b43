-- What is claimed so far, and that what is left to claim decides.
use Rattle.std.proofs.Common.{◌≡◌, ◌-◌, Ok}
use Rattle.owners.specs.Naming.{buffer_namings}
use Rattle.owners.specs.Claims.{claimed}
use Rattle.owners.proofs.table.Owners.claim_buffer.Given as goal

abbrev pub invariant-loop-j : goal.invariant-loop-j
invariant-loop-j l =
    (claimed (λ n. l.owner) l.initial.self.table (buffer_namings l.memory l.i l.buffer 0 l.j) ≡ Ok l.self.table)
    × (claimed (λ n. l.owner) l.self.table (buffer_namings l.memory l.i l.buffer l.j (l.count - l.j))
    ≡ claimed (λ n. l.owner) l.initial.self.table (buffer_namings l.memory l.i l.buffer 0 l.count))
