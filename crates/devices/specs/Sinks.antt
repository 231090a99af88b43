-- A sink by its fields.
use Rattle.std.specs.Prelude.{ℕ, Bool, List, is_some, length, Option}
use Rattle.link.specs.declared.term.Window.{Window}
use Rattle.link.specs.Numbered.{numbers_of}
use Rattle.devices.specs.declared.since.Since.{Since}
use Rattle.devices.specs.declared.sink.Sink.{Sink}
use Rattle.devices.specs.Stored.{taken_in, space_of, most_of}
use Rattle.devices.specs.Early.{early_from, early_of}
use Rattle.devices.specs.Sinking.{SinkPipe}

-- the pipe of a sink that took t, with the packets of e ahead of order
abbrev pub sink_at : Bool → Option Window → List (List ℕ) → (ℕ → Option (List ℕ)) → ℕ → ℕ → Since → SinkPipe
sink_at gathers numbers t e space most since =
    record { gathers = gathers; out = record { numbers = numbers; taken = t; early = early_from (length t) e }; space = space; most = most; since = since }

-- the pipe of a sink
abbrev pub sink_of : Sink → SinkPipe
sink_of s = sink_at (is_some s.ahead) (numbers_of s.window) (taken_in s.store) (early_of s.ahead) (space_of s.store) (most_of s.store) s.since
