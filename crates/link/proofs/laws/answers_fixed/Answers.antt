-- The four theorems.
use Rattle.link.proofs.Fixed.{kept_same, vector_same}
use Rattle.link.proofs.Once.{aim_once, meant_once}
use Rattle.link.proofs.laws.answers_fixed.Goals as goal

pub returns : goal.returns
returns c = record { aim = aim_once; meant = meant_once; kept = kept_same; vector = vector_same }
