-- Trailing zeros of the turned word.
use Rattle.std.proofs.Common.{refl}
use lib.Count.{count_trailing_zeros}
use Rattle.window.proofs.Turning.{ahead_is, nearest_by}
use Rattle.window.proofs.word.SequenceRange.clear_before.Goals as goal

pub returns : goal.returns
returns c =
    let M = c.args.self.range in
    let e = ahead_is M c.args.first c.args.word c.turn.result (count_trailing_zeros 32 c.turn.result) c.min.result c.args.self.within c.turn.ensures.is refl c.min.ensures in
    record { is = e; nearest = nearest_by M c.args.first c.args.word c.min.result e }
