-- A vector, bit by bit.
use Rattle.std.proofs.Common.{◌<◌, length, sym, ap, ◌∙◌, arith}
use Rattle.devices.specs.Sinks.{sink_of}
use Rattle.link.proofs.Sound.{range_most}
use Rattle.devices.proofs.Vectors.{upto_then, upto_else}
use Rattle.devices.proofs.sink.Sink.vector.Goals as goal
use Rattle.devices.proofs.sink.Sink.vector.Goals.{then-is_some, else-is_some}

pub loop-number-preserved : goal.loop-number-preserved
loop-number-preserved c =
    let o = (sink_of c.args.self.now).out in
    let w = c.args.window.window in
    let l : c.loop-number.number < 32 = omega (arith, c.loop-number-test.true, ap (λ v. v.range) c.get-number-end.ensures.value, range_most w c.args.window.within) in
    elim c.if-is_some.branch [
      | then-is_some x ↦ upto_then w (length o.taken) o.early c.loop-number.number c.loop-number.bits _ c.meant.result c.meant.ensures (sym c.is_some.ensures ∙ x.if-is_some.true) c.loop-number.invariant x.bits-is l
      | else-is_some x ↦ upto_else w (length o.taken) o.early c.loop-number.number c.loop-number.bits _ c.meant.result c.meant.ensures (sym c.is_some.ensures ∙ x.if-is_some.false) c.loop-number.invariant x.bits-is
    ]
