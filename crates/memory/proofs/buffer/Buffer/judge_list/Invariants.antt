-- Entries left to judge tell what all entries do.
use Rattle.std.proofs.Common.{◌≡◌, ◌-◌}
use Rattle.memory.specs.Judge.{entries_from}
use Rattle.memory.proofs.buffer.Buffer.judge_list.Given as goal

abbrev pub invariant-loop-k : goal.invariant-loop-k
invariant-loop-k l = entries_from l.memory l.self.address l.k-counter (l.count - l.k-counter) ≡ entries_from l.memory l.self.address 0 l.count
