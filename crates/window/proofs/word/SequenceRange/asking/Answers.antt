-- The word that asks is a word turned back.
use Rattle.window.proofs.Turning.{ask_none, ask_is, asks_by}
use Rattle.window.proofs.word.SequenceRange.asking.Goals as goal

pub returns-then-self-eq0 : goal.returns-then-self-eq0
returns-then-self-eq0 c =
    let M = c.args.self.range in
    let e = ask_none M c.args.next c.args.wanted c.if-self-eq0.true in
    record { is = e; bits = asks_by M c.args.next c.args.wanted 0 e }

pub returns : goal.returns
returns c =
    let M = c.args.self.range in
    let e = ask_is M c.args.next c.args.wanted c.turn.result c.turn.ensures.is in
    record { is = e; bits = asks_by M c.args.next c.args.wanted c.turn.result e }
