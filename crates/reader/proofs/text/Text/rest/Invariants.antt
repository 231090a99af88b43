-- What is counted so far, with the lengths still to come, is what it was when the loop began.
use Rattle.std.proofs.Common.{◌≡◌, ◌+◌, ◌≤◌, min, drop, vec_items}
use Rattle.reader.specs.Bytes.{sum_of}
use Rattle.reader.proofs.text.Text.rest.Given as goal

abbrev pub invariant-loop-length : goal.invariant-loop-length
invariant-loop-length l =
    let ls = drop (l.at.message + 1) (vec_items l.self.lengths) in
    (min (l.many + sum_of (drop l.length-index ls)) l.most ≡ min (l.initial.many + sum_of ls) l.most)
    × (l.many ≤ l.most)
