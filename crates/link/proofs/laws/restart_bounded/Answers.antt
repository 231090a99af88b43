-- The theorem.
use Rattle.link.proofs.Bounding as bounding
use Rattle.link.proofs.laws.restart_bounded.Goals as goal

pub returns : goal.returns
returns c = bounding.restart_bounded
