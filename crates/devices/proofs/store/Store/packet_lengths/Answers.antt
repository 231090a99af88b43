-- The lengths are those of the packets.
use Rattle.std.proofs.Common.{vec_items, sym, ◌∙◌}
use Rattle.devices.specs.Cutting.{lengths_cut}
use Rattle.devices.proofs.store.Store.packet_lengths.Goals as goal

pub returns : goal.returns
returns c =
    let s = c.args.self.now in
    c.as_slice.ensures.value ∙ sym (lengths_cut (vec_items s.bytes) (vec_items s.lengths) s.whole)
