-- The two theorems.
use Rattle.link.proofs.Cuts.{packets_rest}
use Rattle.link.proofs.Cutting.{messages_cut}
use Rattle.link.proofs.laws.text_cut.Goals as goal

pub returns : goal.returns
returns c = record { messages = messages_cut; rests = packets_rest }
