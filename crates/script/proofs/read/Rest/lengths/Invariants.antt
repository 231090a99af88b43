-- Each word taken leaves fewer bytes.
use Rattle.std.proofs.Common.{length}
use Rattle.std.specs.Iterator.Adapters.{items_left_with_peeked}
use Rattle.script.proofs.read.Rest.lengths.Given as goal

abbrev pub decreases-loop-word : goal.decreases-loop-word
decreases-loop-word l = items_left_with_peeked l.self.words.peeked (length l.self.words.iter.rest.now)
