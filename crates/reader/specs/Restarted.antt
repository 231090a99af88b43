-- The numbers of a pipe's last Restart, if there was one.
use Rattle.std.specs.Prelude.{ℕ, Some, None, Option}
use Rattle.link.specs.declared.term.Window.{Window}

-- the packet size
abbrev pub size_of : Option Window → ℕ
size_of None = 0
size_of (Some w) = w.packet

-- the burst
abbrev pub burst_of : Option Window → ℕ
burst_of None = 0
burst_of (Some w) = w.burst
