-- The devices that a scenario describes, as they are built.
use Rattle.std.specs.Prelude.{◌≡◌, ◌^◌, true, false, take, Some, None, vec_items, Option, List, slice_get}
use Rattle.lexer.specs.Bytes.{bytes_of}
use Rattle.script.specs.declared.command.Kind.{Kind}
use Rattle.script.specs.declared.command.Kind.TheVariants as kinds
use Rattle.script.specs.declared.command.Device.{Device}
use Rattle.choice.specs.declared.place.Choice.{Choice}
use Rattle.choice.specs.declared.place.Choice.TheVariants.{First, Second}
use Rattle.reader.specs.declared.reader.Reader.{Reader}
use Rattle.reader.specs.Readers.{pipe_of, given}
use Rattle.reader.specs.Reading.{messages}
use Rattle.devices.specs.declared.sink.Sink.{Sink}
use Rattle.devices.specs.Sinks.{sink_of}
use Rattle.devices.specs.Sinking.{unused}
use Rattle.layers.specs.Patterns.{Begins}
use Rattle.pile.specs.Piles.{Covered, Pile, covered}

-- a reader has its bytes cut into its messages; a sink is unused and has its space
abbrev pub Built : Kind → Choice Reader Sink → Type 0
Built (kinds.Reader bytes lengths) (First r) = pipe_of r ≡ given (messages (take (2 ^ 24) (bytes_of bytes)) (take (2 ^ 24) (vec_items lengths)))
Built (kinds.Reader bytes lengths) (Second s) = ⊥
Built (kinds.Plain space places) (First r) = ⊥
Built (kinds.Plain space places) (Second s) = sink_of s ≡ unused false space places
Built (kinds.Gathering space places) (First r) = ⊥
Built (kinds.Gathering space places) (Second s) = sink_of s ≡ unused true space places

-- a device is there, and built
abbrev pub BuiltIn : Kind → Option (Choice Reader Sink) → Type 0
BuiltIn k None = ⊥
BuiltIn k (Some f) = Built k f

-- a device under its layers, whose patterns begin at bit 0; none where none is described
abbrev pub Stands : Option Device → Covered → Type 0
Stands None d = covered d ≡ None
Stands (Some v) d = BuiltIn v.kind (covered d) × Begins v.busy d.below.pattern × Begins v.loss d.pattern

-- the devices of a list, in the order of their pipes; those past the fourth are left out
abbrev pub StandInOrder : List Device → Pile → Type 0
StandInOrder ds p = Stands (slice_get ds 0) p.first.first × Stands (slice_get ds 1) p.first.second × Stands (slice_get ds 2) p.second.first × Stands (slice_get ds 3) p.second.second
