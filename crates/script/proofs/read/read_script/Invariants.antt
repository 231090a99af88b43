-- There are at most four devices.
use Rattle.std.proofs.Common.{◌≤◌, vec_len}
use Rattle.script.proofs.read.read_script.Given as goal

abbrev pub invariant-loop-before : goal.invariant-loop-before
invariant-loop-before l = vec_len l.script.devices ≤ 4
