-- What a Fetch gave by its answer.
use Rattle.std.specs.Prelude.{ℕ, List, Some, None, Option}
use Rattle.link.specs.declared.answers.Fetched.{Fetched}
use Rattle.link.specs.declared.answers.Fetched.TheVariants as fetched

-- what a Fetch gave: the packet's bytes, those that the room holds, or nothing
abbrev pub got : Fetched → List ℕ → Option (List ℕ)
got fetched.Packet held = Some held
got fetched.Lost held = None
