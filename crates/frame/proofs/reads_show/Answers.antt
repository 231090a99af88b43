-- What is read is shown.
use Rattle.memory.specs.Store.{place}
use Rattle.frame.proofs.Reading.{part_shows, direct_shows}
use Rattle.frame.proofs.reads_show.Goals as goal

pub returns : goal.returns
returns c m b = ((λ at n h. part_shows (place m b) m at n b.length h), direct_shows m b)
