-- A new sink took nothing and has nothing ahead.
use Rattle.std.proofs.Common.{is_some, length, None, ap}
use Rattle.devices.specs.Early.{early_of}
use Rattle.devices.specs.Stored.{taken_in, space_of, most_of}
use Rattle.devices.specs.Keeping.{none_waits, new_empty}
use Rattle.devices.proofs.sink.Sink.unrestarted.Goals as goal

pub invariant_of-result : goal.invariant_of-result
invariant_of-result c =
    let s = c.in_ok-new.field-0 in
    record { waiting = none_waits None (taken_in s) (space_of s) (most_of s) (early_of c.args.ahead) c.requires; past = ap (λ e. e (length (taken_in s))) c.requires }

pub returns : goal.returns
returns c =
    let s = c.in_ok-new.field-0 in
    let h = c.in_ok-new.ensures in
    new_empty (is_some c.args.ahead) (taken_in s) (early_of c.args.ahead) (space_of s) (most_of s) c.args.space.bytes c.args.space.packets h.taken c.requires h.space h.most
