-- A new reader stands before its first message.
use Rattle.std.proofs.Common.{ap}
use Rattle.reader.specs.Readers.{given}
use Rattle.reader.specs.Walks.{text_start}
use Rattle.reader.proofs.reader.Reader.new.Goals as goal

pub returns : goal.returns
returns c = ap given (text_start _ _ _ _ c.new.ensures.bytes c.new.ensures.lengths)
