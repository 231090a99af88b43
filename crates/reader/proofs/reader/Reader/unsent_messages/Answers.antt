-- The messages from the place on.
use Rattle.std.proofs.Common.{◌-◌, length, vec_items, sym, ap, ◌∙◌}
use Rattle.reader.specs.Walks.{messages_left}
use Rattle.reader.proofs.reader.Reader.unsent_messages.Goals as goal

pub returns : goal.returns
returns c =
    let s = c.args.self.now in
    ap (λ v. v - s.place.at.message) c.count.ensures ∙ sym (messages_left (vec_items s.text.bytes) (vec_items s.text.lengths) s.place.at) ∙ ap length s.stands
