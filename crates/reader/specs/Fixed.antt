-- What the reader answers and becomes is fixed by what it holds and by the call.
use Rattle.std.specs.Prelude.{◌≡◌, ℕ, List, Option}
use Rattle.link.specs.declared.term.Window.{Window}
use Rattle.link.specs.declared.answers.PollAnswer.{PollAnswer}
use Rattle.link.specs.declared.answers.Collected.{Collected}
use Rattle.link.specs.Meaning.{In, Gapless, inward, solo}
use Rattle.reader.specs.declared.reader.Reader.{Reader}
use Rattle.reader.specs.Readers.{pipe_of, ReaderRestarted, ReaderPolled, ReaderFetched, ReaderSent, ReaderCollected}

-- each call of a reader has one answer and leads to one pipe
pub record ReaderFixed : Type 0 where
  pub restart : (i j k : In) (p : ℕ) (w : Window) → ReaderRestarted i p w j → ReaderRestarted i p w k → j ≡ k
  pub poll : (i j k : In) (p b : ℕ) (a c : PollAnswer) → ReaderPolled i p b a j → ReaderPolled i p b c k → (a ≡ c) × (j ≡ k)
  pub fetch : (i j k : In) (p n : ℕ) (a c : Option (List ℕ)) → ReaderFetched i p n a j → ReaderFetched i p n c k → (a ≡ c) × (j ≡ k)
  pub send : (i j k : In) (p n : ℕ) (b : List ℕ) → ReaderSent i p n b j → ReaderSent i p n b k → j ≡ k
  pub collect : (i j k : In) (p : ℕ) (a c : Collected) → ReaderCollected i p a j → ReaderCollected i p c k → (a ≡ c) × (j ≡ k)

-- the one pipe of a reader is pipe 0
abbrev pub NoGaps : Type 0
NoGaps = (s : Reader) → Gapless (solo (inward (pipe_of s)))
