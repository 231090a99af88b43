-- Each page let go leaves the later ones.
use Rattle.std.proofs.Common.{arith}
use Rattle.owners.proofs.Freeing.{freed_more}
use Rattle.owners.proofs.table.Owners.release_all.Goals as goal

pub loop-held-preserved : goal.loop-held-preserved
loop-held-preserved c = freed_more c.args.owner c.args.self.now.table c.loop-held.held-items c.loop-held.held-index _ (omega arith) c.loop-held.invariant c.kept.ensures
