-- Nothing is early, so each number of the window is asked for.
use Rattle.std.proofs.Common.{None, length, subst}
use Rattle.window.specs.Words.{Asks, others}
use Rattle.link.specs.Meaning.{Vector}
use Rattle.link.proofs.Whole.{whole_vector}
use Rattle.example_link.specs.Lamp.{shown}
use Rattle.example_link.proofs.Lamp.vector.Goals as goal

pub returns : goal.returns
returns c =
    let w = c.get-window.result in
    let r = c.asking.result in
    let f = length (shown c.args.self.now.shows) in
    let asked = subst (λ v. Asks c.new.result.range c.taken.result v r) c.low_bits.ensures c.asking.ensures.bits in
    subst (λ v. Vector v f (λ j. None) r) c.get-window.ensures.value
    (subst (λ k. Vector w k (λ j. None) r) c.taken.ensures
    (whole_vector w c.get-window.ensures.within c.taken.result r (subst (λ m. Asks m c.taken.result (others w.burst 0) r) c.new.ensures asked)))
