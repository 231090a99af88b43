-- A sink keeps the bounds of a term.
use Rattle.std.specs.Prelude.{ℕ, ◌+◌, ◌^◌, ◌<◌, ◌≤◌, List, length, Some, None, Option}
use Rattle.std.proofs.Common.{arith}
use Rattle.link.specs.declared.term.Window.{Window}
use Rattle.link.specs.Numbered.{numbers_of}
use Rattle.link.specs.Terms.{OutBounds, Ahead}
use Rattle.reader.specs.Restarted.{size_of, burst_of}
use Rattle.devices.specs.declared.sink.Sink.{Sink}
use Rattle.devices.specs.Cutting.{counts, weighs}
use Rattle.devices.specs.Early.{early_of}
use Rattle.devices.specs.Keeping.{early_is, past_free}
use Rattle.devices.specs.Sinks.{sink_of}
use Rattle.devices.specs.Stored.{taken_in, most_of}

-- what lies in the window is ahead in the sense of a term, with or without numbers
ahead_at : (n : Option Window) (f j : ℕ) (b : List ℕ) → f < j → j < f + burst_of n → length b ≤ size_of n → Ahead n f j b
ahead_at None f j b x y z = tt
ahead_at (Some w) f j b x y z = (x, y, z)

pub out_bounds : (s : Sink) → OutBounds (sink_of s).out
out_bounds s =
    let f = length (taken_in s.store) in
    let e = early_of s.ahead in
    let most : most_of s.store ≤ 2 ^ 25 = s.store.short in
    record {
      bytes = omega (arith, weighs s.store, s.store.inside, s.store.few, s.store.bytes.ok.0);
      packets = omega (arith, counts s.store, s.store.lengths.ok.1, s.store.short);
      early = λ j b q. omega (arith, (s.waiting j b (early_is f e j b q).1).counted, most);
      ahead = λ j b q.
          let x = early_is f e j b q in
          let y = s.waiting j b x.1 in
          ahead_at (numbers_of s.window) f j b (past_free e f s.past j b x.1 x.0) y.near y.fits;
    }
