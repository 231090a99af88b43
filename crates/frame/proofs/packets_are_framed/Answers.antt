-- Packets in a row, framed.
use Rattle.frame.proofs.Reading.{packets}
use Rattle.frame.proofs.packets_are_framed.Goals as goal

pub returns : goal.returns
returns c = packets
