-- What a sink answers and becomes is fixed by what it holds and by the call.
use Rattle.std.specs.Prelude.{◌≡◌, ℕ, ◌^◌, ◌<◌, true, false, List, None, Option}
use Rattle.link.specs.declared.term.Window.{Window}
use Rattle.link.specs.declared.answers.PollAnswer.{PollAnswer}
use Rattle.link.specs.declared.answers.Collected.{Collected}
use Rattle.link.specs.declared.answers.Collected.TheVariants as collected
use Rattle.link.specs.Meaning.{Gapless, outward, solo}
use Rattle.devices.specs.declared.sink.Sink.{Sink}
use Rattle.link.specs.Bounds.{sounds}
use Rattle.devices.specs.Sinking.{SinkPipe, SinkRestarted, SinkPolled, SinkFetched, SinkSent, SinkCollected}
use Rattle.devices.specs.Sinks.{sink_of}

-- a vector is a word of 32 bits
abbrev pub Word : Collected → Type 0
Word (collected.Vector v) = v < 2 ^ 32
Word collected.NotReady = Unit {0}
Word collected.Stall = Unit {0}
Word collected.Silence = Unit {0}

-- each call of a sink with sound numbers, plain or gathering, has one answer and leads to one sink
pub record SinksFixed : Type 0 where
  pub restart : (i j k : SinkPipe) (p : ℕ) (w : Window) → SinkRestarted i p w j → SinkRestarted i p w k → j ≡ k
  pub poll : (i j k : SinkPipe) (p b : ℕ) (a c : PollAnswer) → SinkPolled i p b a j → SinkPolled i p b c k → (a ≡ c) × (j ≡ k)
  pub fetch : (i j k : SinkPipe) (p n : ℕ) (a c : Option (List ℕ)) → SinkFetched i p n a j → SinkFetched i p n c k → (a ≡ c) × (j ≡ k)
  pub send : (i j k : SinkPipe) (p n : ℕ) (b : List ℕ) → sounds i.out.numbers ≡ true → SinkSent i p n b j → SinkSent i p n b k → j ≡ k
  pub collect : (i j k : SinkPipe) (p : ℕ) (a c : Collected) → Word a → Word c → SinkCollected i p a j → SinkCollected i p c k → (a ≡ c) × (j ≡ k)

-- the one pipe of a sink is pipe 0
abbrev pub NoGaps : Type 0
NoGaps = (s : Sink) → Gapless (solo (outward (sink_of s).out))

-- a plain sink has nothing early
abbrev pub PlainInOrder : Type 0
PlainInOrder = (s : Sink) → (sink_of s).gathers ≡ false → (j : ℕ) → (sink_of s).out.early j ≡ None
