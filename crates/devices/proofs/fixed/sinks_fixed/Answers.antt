-- The sinks are fixed.
use Rattle.devices.proofs.Fixing.{sinks_fixed, no_gaps, plain_in_order}
use Rattle.devices.proofs.fixed.sinks_fixed.Goals as goal

pub returns : goal.returns
returns c = record { fixed = sinks_fixed; plain = plain_in_order; gaps = no_gaps }
