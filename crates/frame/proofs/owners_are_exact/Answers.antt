-- Owners are exact.
use Rattle.owners.specs.Claims.{owner}
use Rattle.frame.proofs.Same.{named_owned}
use Rattle.frame.proofs.owners_are_exact.Goals as goal

pub returns : goal.returns
returns c w q i j o = (o.exact q i j, λ b h n. named_owned w.table w.memory (owner i j) b q (o.owned i j b h) n)
