-- The digits in turn.
use Rattle.std.proofs.Common.{rules, arith, ◌∙◌}
use Rattle.std.proofs.lemmas.Iterator.{YieldsList-from_slice}
use Rattle.numeral.specs.Numbers.{extended}
use Rattle.numeral.proofs.Folding.{folded_from_try_fold}
use Rattle.numeral.proofs.Values.{folded_is_numeral}
use Rattle.numeral.proofs.numeral_of.Goals as goal

pub returns : goal.returns
returns c =
    folded_from_try_fold _ (extended c.args.base) _ (λ a x v q k. search rules) (YieldsList-from_slice c.args.digits.now cc) _ 0 c.try_fold.result c.try_fold.ensures.ran ∙ folded_is_numeral c.args.base c.args.digits.now c.requires (grind arith)
