-- A packet stands where it was stored.
use Rattle.std.proofs.Common.{arith}
use Rattle.memory.proofs.Keeping.{stored_there, stored_other, place_apart}
use Rattle.memory.specs.Store.{place}
use Rattle.memory.proofs.theorems.packets_are_kept.Goals as goal

pub returns : goal.returns
returns c m b at xs s = (
  stored_there (place m b) m at xs (λ i j a l h. place_apart m b i j l (λ q. s.apart _ _ q (omega arith))) s.inside,
  λ x h. stored_other (place m b) m at xs x h,
)
