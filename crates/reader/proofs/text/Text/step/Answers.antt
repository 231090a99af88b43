-- One packet on, within the message or past it.
use Rattle.std.proofs.Common.{arith}
use Rattle.reader.specs.Walks.{next_short, next_long}
use Rattle.reader.proofs.text.Text.step.Goals as goal

pub returns-then-left-size : goal.returns-then-left-size
returns-then-left-size c = next_short _ _ c.args.at c.in_ok-left.left c.args.size c.in_ok-left.ensures.left (omega arith)

pub returns-else-left-size : goal.returns-else-left-size
returns-else-left-size c = next_long _ _ c.args.at c.in_ok-left.left c.args.size c.in_ok-left.ensures.left (omega arith) (omega arith)
