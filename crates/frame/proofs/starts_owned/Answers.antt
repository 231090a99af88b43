-- At the start all is owned.
use Rattle.frame.proofs.Reading.{starts}
use Rattle.frame.proofs.starts_owned.Goals as goal

pub returns : goal.returns
returns c = starts
