-- The theorem, by the link's own laws.
use Rattle.link.proofs.Runs.{always_gapless}
use Rattle.link.proofs.laws.stays_gapless.Goals as goal

pub returns : goal.returns
returns g c = always_gapless _ g.L.Link.meaning g.L.Link.restarted g.L.Link.polled g.L.Link.fetched g.L.Link.sent g.L.Link.collected
    g.met.L.Link.restarting g.met.L.Link.polling g.met.L.Link.fetching g.met.L.Link.sending g.met.L.Link.collecting
