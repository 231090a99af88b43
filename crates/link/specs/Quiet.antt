-- On every pipe it is lawful that nothing happens: a link may always answer so, and change nothing.
use Rattle.std.specs.Prelude.{ℕ, List, None}
use Rattle.link.specs.declared.answers.PollAnswer.TheVariants as poll
use Rattle.link.specs.declared.answers.Collected.TheVariants as collected
use Rattle.link.specs.Meaning.{Pipe, Polls, Fetches, Sends, Collects}

-- Silence, NotReady, Stall and Lost, and a Send that vanishes
pub record Quiet (p : Pipe) : Type 0 where
  pub poll_silent : (b : ℕ) → Polls p b poll.Silence p
  pub poll_busy : (b : ℕ) → Polls p b poll.NotReady p
  pub poll_stalled : (b : ℕ) → Polls p b poll.Stall p
  pub lost : (i : ℕ) → Fetches p i None p
  pub vanished : (n : ℕ) (b : List ℕ) → Sends p n b p
  pub collect_silent : Collects p collected.Silence p
  pub collect_busy : Collects p collected.NotReady p
  pub collect_stalled : Collects p collected.Stall p

abbrev pub QuietLawful : Type 0
QuietLawful = (p : Pipe) → Quiet p
