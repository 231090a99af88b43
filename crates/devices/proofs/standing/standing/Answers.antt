-- A number stands for the packet at its distance from the first that is wanted.
use Rattle.std.proofs.Common.{ℕ, None, MatchOption, subst}
use Rattle.link.specs.Meaning.{Meant}
use Rattle.devices.specs.Mods.{stands}
use Rattle.devices.proofs.standing.standing.Goals as goal

pub returns : goal.returns
returns c =
    subst (λ w. MatchOption c.then_some.result ((j : ℕ) → Meant w c.args.taken (λ k. None) c.args.number j → ⊥) (λ j. Meant w c.args.taken (λ k. None) c.args.number j)) c.get-window.ensures.value
    (stands c.get-window.result c.args.taken c.args.number c.get-window.ensures.within c.if-number-window.false c.then_some.result c.then_some.ensures)
