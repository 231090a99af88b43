-- The law of the ring is a lemma.
use Rattle.ring.proofs.Turns.{in_turn}
use Rattle.ring.proofs.in_turn.Goals as goal

pub returns : goal.returns
returns g c = in_turn g.row.N
