-- A mask of ones leaves the remainder.
use Rattle.std.proofs.Common.{◌-◌, ◌^◌, ◌<◌, sym, ap, ◌∙◌, mod-eq_of_lt, arith, pow_mono}
use lib.Bits.{bit_and, and_mask}
use Rattle.std.proofs.lemmas.Nat.{one_shl}
use Rattle.window.proofs.word.low_bits.Goals as goal

pub returns-then-count-ge32 : goal.returns-then-count-ge32
returns-then-count-ge32 c =
    let h : c.args.word < 2 ^ c.args.count = omega (arith, pow_mono c.if-count-ge32.true) in
    sym (mod-eq_of_lt h)

pub returns : goal.returns
returns c =
    ap (λ x. bit_and c.args.word (x - 1)) (one_shl c.args.count 32 (omega arith)) ∙ and_mask c.args.word c.args.count
