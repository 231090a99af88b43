-- The bounds of a term's numbers.
use Rattle.std.specs.Prelude.{◌*◌, Bool, true, ◌&&◌, Some, None, Option, nat_le}
use Rattle.link.specs.declared.term.Window.{Window}

-- packet size 1 to 3,584, burst 1 to 16, sequence range 2 to 32 and at least twice the burst
abbrev pub sound : Window → Bool
sound w = nat_le 1 w.packet && nat_le w.packet 3584 && nat_le 1 w.burst && nat_le w.burst 16
    && nat_le 2 w.range && nat_le w.range 32 && nat_le (2 * w.burst) w.range

-- the numbers of a term, if one began, are within their bounds
abbrev pub sounds : Option Window → Bool
sounds None = true
sounds (Some w) = sound w
