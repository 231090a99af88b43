-- The place after the last, where it does not come round and where it does.
use Rattle.std.proofs.Common.{refl, arith}
use Rattle.ring.proofs.Places.{took, place_ahead, place_round}
use Rattle.ring.proofs.Ring.grow.Goals as goal

pub returns-then-used-ahead : goal.returns-then-used-ahead
returns-then-used-ahead g c =
    let e = place_ahead g.row.N c.args.self.now.first c.args.self.now.used c.if-used-ahead.true in
    record { answer = e; after = refl; order = (took g.row.N c.args.self.now _ c.requires e).order }

pub returns-else-used-ahead : goal.returns-else-used-ahead
returns-else-used-ahead g c =
    let e = place_round g.row.N c.args.self.now.first c.args.self.now.used (omega arith) c.if-used-ahead.false c.requires in
    record { answer = e; after = refl; order = (took g.row.N c.args.self.now _ c.requires e).order }
