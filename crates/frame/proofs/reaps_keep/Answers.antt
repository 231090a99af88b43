-- A piece let go.
use Rattle.frame.proofs.Reaping.{reap_owned, reap_frees, reap_leaves}
use Rattle.frame.proofs.reaps_keep.Goals as goal

pub returns : goal.returns
returns c w i j b o h = (reap_owned w i j b o h, reap_frees w i j b o h, reap_leaves w i j b o h)
