-- There are as many packets as lengths.
use Rattle.std.proofs.Common.{sym, ◌∙◌}
use Rattle.devices.specs.Cutting.{counts}
use Rattle.devices.proofs.store.Store.count.Goals as goal

pub returns : goal.returns
returns c = c.len.ensures ∙ sym (counts c.args.self.now)
