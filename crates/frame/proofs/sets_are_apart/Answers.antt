-- Sets are apart.
use Rattle.frame.proofs.Acting.{act_owned, act_apart}
use Rattle.frame.proofs.sets_are_apart.Goals as goal

pub returns : goal.returns
returns c w x o = (act_owned w x o, act_apart w x o)
