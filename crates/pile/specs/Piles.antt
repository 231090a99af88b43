-- What stands in a pile of four devices.
use Rattle.std.specs.Prelude.{ℕ, cond, Some, None, Option, ◌==◌}
use Rattle.choice.specs.declared.place.Choice.{Choice}
use Rattle.choice.specs.declared.place.Choice.TheVariants.{First, Second}
use Rattle.reader.specs.declared.reader.Reader.{Reader}
use Rattle.devices.specs.declared.sink.Sink.{Sink}
use Rattle.layers.specs.declared.layer.Layer.{Layer}
use Rattle.layers.specs.declared.fault.Silent.{Silent}
use Rattle.layers.specs.declared.fault.Unready.{Unready}
use Rattle.joint.specs.declared.Joint.{Joint}

-- a device, or none
abbrev pub Function : Type 0
Function = Option (Choice Reader Sink)

-- a device under a busy layer, and that under a loss layer
abbrev pub Covered : Type 0
Covered = Layer (Layer Function Unready) Silent

-- four devices side by side
abbrev pub Pile : Type 0
Pile = Joint (Joint Covered Covered) (Joint Covered Covered)

-- the device under its two layers
abbrev pub covered : Covered → Function
covered d = d.below.below

abbrev pub sink_in : Function → Option Sink
sink_in None = None
sink_in (Some (First r)) = None
sink_in (Some (Second s)) = Some s

-- the sink at a pipe: device k has pipe k
abbrev pub sink_at : Pile → ℕ → Option Sink
sink_at j p =
    cond (p == 0) (sink_in (covered j.first.first))
    (cond (p == 1) (sink_in (covered j.first.second))
    (cond (p == 2) (sink_in (covered j.second.first))
    (cond (p == 3) (sink_in (covered j.second.second)) None)))
