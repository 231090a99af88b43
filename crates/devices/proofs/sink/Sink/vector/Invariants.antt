-- The bits below the number at hand are right.
use Rattle.std.proofs.Common.{length}
use Rattle.devices.specs.Sinks.{sink_of}
use Rattle.devices.proofs.Vectors.{Upto}
use Rattle.devices.proofs.sink.Sink.vector.Given as goal

abbrev pub invariant-loop-number : goal.invariant-loop-number
invariant-loop-number l = Upto l.window.window (length (sink_of l.self).out.taken) (sink_of l.self).out.early l.number l.bits
