-- The clear bits after the first set one.
use Rattle.window.proofs.Turning.{shown_none, shown_is, shows_by}
use Rattle.window.proofs.word.SequenceRange.clear_after.Goals as goal

pub returns-then-gone-count : goal.returns-then-gone-count
returns-then-gone-count c =
    let M = c.args.self.range in
    let e = shown_none M c.args.count c.min-count.result c.args.first c.args.word c.clear_before-gone.result c.min-count.ensures c.clear_before-gone.ensures.is c.if-gone-count.true in
    record { is = e; bits = shows_by M c.args.count c.args.first c.args.word 0 c.args.self.within e }

pub returns : goal.returns
returns c =
    let M = c.args.self.range in
    let e = shown_is M c.args.count c.min-count.result c.args.first c.args.word c.clear_before-gone.result c.turn.result c.low_bits.result
    c.min-count.ensures c.clear_before-gone.ensures.is c.turn.ensures.is c.low_bits.ensures in
    record { is = e; bits = shows_by M c.args.count c.args.first c.args.word c.low_bits.result c.args.self.within e }
