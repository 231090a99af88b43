-- What is left to let go, let go, is what is asked for.
use Rattle.std.proofs.Common.{◌≡◌, ◌-◌}
use Rattle.owners.specs.Claims.{freed_pages}
use Rattle.owners.proofs.table.Owners.release_run.Given as goal

abbrev pub invariant-loop-page : goal.invariant-loop-page
invariant-loop-page l = freed_pages l.owner l.self.table l.page (l.end - l.page) ≡ freed_pages l.owner l.initial.self.table l.first (l.end - l.first)
