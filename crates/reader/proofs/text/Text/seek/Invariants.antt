-- What a seek knows after some packets: none of them is wanted.
use Rattle.std.proofs.Common.{vec_items}
use Rattle.reader.specs.Walks.{Walked}
use Rattle.reader.proofs.text.Text.seek.Given as goal

abbrev pub invariant-loop-d : goal.invariant-loop-d
invariant-loop-d l = Walked (vec_items l.self.bytes) (vec_items l.self.lengths) l.size l.range l.wanted l.from l.at l.d
