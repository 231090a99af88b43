-- A seek goes on until a wanted packet, the end of the text or a full turn of the numbers.
use Rattle.std.proofs.Common.{vec_items, subst, arith}
use Rattle.std.proofs.lemmas.Bool.Decides.{nat_tests}
use Rattle.reader.specs.Seeking.{Missing}
use Rattle.reader.specs.Walks.{walked_more, walked_all}
use Rattle.reader.proofs.text.Text.seek.Goals as goal

pub loop-d-preserved : goal.loop-d-preserved
loop-d-preserved c = walked_more _ _ _ _ _ c.args.from c.loop-d.at c.in_ok-at.at c.loop-d.d (grind (arith, nat_tests, c.get-window.ensures.within)) c.loop-d.invariant c.in_ok-at.ensures c.if-wanted-number-eq1.false

pub returns : goal.returns
returns c =
    subst (λ w. Missing (vec_items c.args.self.now.bytes) (vec_items c.args.self.now.lengths) w.packet w.range c.args.wanted c.args.from) c.get-window.ensures.value
    (walked_all _ _ _ _ _ c.args.from c.loop-d.at c.loop-d.d c.loop-d.invariant c.loop-d-test.false (grind (arith, nat_tests, c.get-window.ensures.within)))
