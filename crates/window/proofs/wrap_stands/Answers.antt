-- The facts about wrapping numbers are proved.
use Rattle.window.proofs.wrap_stands.Goals as goal
use Rattle.window.proofs.Wrap.{polls_aim, vectors_tell, numbers_count}

pub returns : goal.returns
returns c = record { polls = polls_aim; vectors = vectors_tell; numbers = numbers_count }
