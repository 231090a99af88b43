-- A write, framed.
use Rattle.frame.proofs.Written.{write_owned, write_own, write_bytes, write_lists}
use Rattle.frame.proofs.writes_are_framed.Goals as goal

pub returns : goal.returns
returns c w i j b at xs o h f = (
  write_owned w i j b at xs o h f,
  write_own w i j b at xs o h f,
  write_bytes w i j b at xs o h f,
  λ a e d g k z. write_lists w i j b at xs o h f a e d g z k,
)
