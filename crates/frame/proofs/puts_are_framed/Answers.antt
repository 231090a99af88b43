-- A Put, framed.
use Rattle.frame.proofs.Putting.{put_owned, put_bytes, put_lists}
use Rattle.frame.proofs.puts_are_framed.Goals as goal

pub returns : goal.returns
returns c w pages a xs o v = (put_owned w pages a xs o v, put_bytes w pages a xs o v, λ i j b h k z. put_lists w pages a xs o v i j b h z k)
