-- Where every piece was judged well nothing is at fault.
use Rattle.std.proofs.Common.{arith, Ok}
use Rattle.std.proofs.lemmas.Grind.{common_steps}
use Rattle.memory.proofs.Telling.{places_told}
use Rattle.memory.proofs.judge.judge_pieces.Goals as goal

pub returns-clause-first : goal.returns-clause-first
returns-clause-first c = places_told c.args.memory.now c.args.pieces.now (Ok tt) (grind (arith, common_steps))
