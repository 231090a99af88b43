-- What numbers within their bounds are.
use Rattle.std.proofs.Common.{◌≡◌, ◌*◌, ◌<◌, ◌≤◌, true, arith}
use Rattle.std.proofs.lemmas.Bool.Decides.{nat_tests}
use Rattle.link.specs.declared.term.Window.{Window}
use Rattle.link.specs.Bounds.{sound}

module _ (w : Window) (h : sound w ≡ true) where
  pub sized : 0 < w.packet
  sized = grind (arith, nat_tests)

  pub size_most : w.packet ≤ 3584
  size_most = grind (arith, nat_tests)

  pub burst_least : 1 ≤ w.burst
  burst_least = grind (arith, nat_tests)

  pub burst_most : w.burst ≤ 16
  burst_most = grind (arith, nat_tests)

  pub range_least : 2 ≤ w.range
  range_least = grind (arith, nat_tests)

  pub range_most : w.range ≤ 32
  range_most = grind (arith, nat_tests)

  pub range_twice : 2 * w.burst ≤ w.range
  range_twice = grind (arith, nat_tests)
