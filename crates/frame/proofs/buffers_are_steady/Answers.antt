-- A spared piece shows what it did.
use Rattle.frame.proofs.Acting.{steady}
use Rattle.frame.proofs.buffers_are_steady.Goals as goal

pub returns : goal.returns
returns c = steady
