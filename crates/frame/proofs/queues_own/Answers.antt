-- Pieces queued own what they name.
use Rattle.frame.proofs.Queueing.{queue_owned}
use Rattle.frame.proofs.queues_own.Goals as goal

pub returns : goal.returns
returns c = queue_owned
