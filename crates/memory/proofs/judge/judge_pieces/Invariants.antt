-- Pieces left to judge tell what all pieces do.
use Rattle.std.proofs.Common.{◌≡◌, drop}
use Rattle.memory.specs.Judge.{pieces_from}
use Rattle.memory.proofs.judge.judge_pieces.Given as goal

abbrev pub invariant-loop-i : goal.invariant-loop-i
invariant-loop-i l = pieces_from l.memory l.i-counter (drop l.i-counter l.pieces) ≡ pieces_from l.memory 0 l.pieces
