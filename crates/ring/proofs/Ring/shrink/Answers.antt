-- The oldest place goes, and the one after it is the oldest.
use Rattle.std.proofs.Common.{◌≡◌, ◌+◌, ◌-◌, ◌%◌, ◌<◌, ◌≤◌, refl, ap, ◌∙◌, arith}
use native.Mathlib.Nat.{min-le_right}
use Rattle.ring.specs.Rings.{count}
use Rattle.ring.proofs.Places.{let_go, next_first, next_place}
use Rattle.ring.proofs.Ring.shrink.Goals as goal
use Rattle.ring.proofs.Ring.shrink.Goals.{then-first, else-first}

pub returns : goal.returns
returns g c =
    let r = c.args.self.now in
    let within : count g.row.N r ≤ g.row.N = min-le_right r.used g.row.N in
    let some : 0 < count g.row.N r = c.requires in
    let pos : 0 < g.row.N = omega arith in
    let next : c.if-first.self ≡ (r.first + 1) % g.row.N =
    elim c.if-first.branch [ then-first w ↦ w.self-is ∙ next_first g.row.N r.first w.if-first.true | else-first w ↦ w.self-is ∙ next_place g.row.N r.first pos w.if-first.false ] in
    let less : c.used-used.result - 1 ≡ count g.row.N r - 1 = ap (λ u. u - 1) c.used-used.ensures in
    let t = let_go g.row.N r _ _ _ some refl next less in
    record { answer = refl; after = cc; order = t.order }
