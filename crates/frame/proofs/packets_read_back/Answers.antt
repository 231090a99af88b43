-- What was written reads back.
use Rattle.frame.proofs.Reading.{reads_back}
use Rattle.frame.proofs.packets_read_back.Goals as goal

pub returns : goal.returns
returns c = reads_back
