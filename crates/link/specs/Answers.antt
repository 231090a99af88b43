-- The cases of what a link answers, with the number of each. Contracts use these definitions.
use Rattle.std.specs.Prelude.{ℕ, List, codes}
use Rattle.link.specs.declared.answers.Direction.{Direction}
use Rattle.link.specs.declared.answers.Direction.TheVariants.{Inward, Outward}
use Rattle.link.specs.declared.answers.PollAnswer.{PollAnswer}
use Rattle.link.specs.declared.answers.PollAnswer.TheVariants as poll
use Rattle.link.specs.declared.answers.Fetched.{Fetched}
use Rattle.link.specs.declared.answers.Fetched.TheVariants as fetched
use Rattle.link.specs.declared.answers.Collected.{Collected}
use Rattle.link.specs.declared.answers.Collected.TheVariants as collected

abbrev pub direction_number : Direction → ℕ
direction_number Inward = 1
direction_number Outward = 2

-- a direction in words
abbrev pub direction_words : Direction → List ℕ
direction_words Inward = codes "inward"
direction_words Outward = codes "outward"

abbrev pub poll_number : PollAnswer → ℕ
poll_number poll.Data = 1
poll_number poll.NotReady = 2
poll_number poll.Stall = 3
poll_number poll.Silence = 4

abbrev pub fetched_number : Fetched → ℕ
fetched_number fetched.Packet = 1
fetched_number fetched.Lost = 2

abbrev pub collected_number : Collected → ℕ
collected_number (collected.Vector v) = 1
collected_number collected.NotReady = 2
collected_number collected.Stall = 3
collected_number collected.Silence = 4
