-- The law of chains is a lemma.
use Rattle.refusal.proofs.Judging.{smallest}
use Rattle.refusal.proofs.reason.smallest_first.Goals as goal

pub returns : goal.returns
returns c = smallest
