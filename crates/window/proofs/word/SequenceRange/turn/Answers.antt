-- The turn of a word is the sum of its two parts.
use Rattle.window.proofs.Turning.{turn_is, turn_none, turn_first, turn_parts}
use Rattle.window.proofs.word.SequenceRange.turn.Goals as goal

pub returns-then-self-eq0 : goal.returns-then-self-eq0
returns-then-self-eq0 c =
    let M = c.args.self.range in
    let e = turn_none M c.args.first c.args.word c.if-self-eq0.true in
    record { is = e; bits = turn_is M c.args.first c.args.word 0 e }

pub returns-then-first-eq0 : goal.returns-then-first-eq0
returns-then-first-eq0 c =
    let M = c.args.self.range in
    let e = turn_first M c.args.first c.args.word c.low_bits-word.result c.if-first-eq0.true c.low_bits-word.ensures in
    record { is = e; bits = turn_is M c.args.first c.args.word c.low_bits-word.result e }

pub returns : goal.returns
returns c =
    let M = c.args.self.range in
    let e = turn_parts M c.args.first c.args.word c.low_bits-word.result c.low_bits-low.result c.args.self.within c.if-self-eq0.false c.low_bits-word.ensures c.low_bits-low.ensures in
    record { is = e; bits = turn_is M c.args.first c.args.word _ e }
