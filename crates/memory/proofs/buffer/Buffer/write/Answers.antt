-- A packet's two runs are its stores, one after the other.
use Rattle.std.proofs.Common.{◌≡◌, ◌+◌, ◌%◌, ap, ◌∙◌, arith}
use Rattle.std.proofs.lemmas.List.{take_rest}
use Rattle.memory.specs.Walk.{offset}
use Rattle.memory.proofs.Storing.{two_runs}
use Rattle.memory.proofs.buffer.Buffer.write.Goals as goal

pub returns : goal.returns
returns c =
    let m = c.args.memory.now in
    let xs = c.args.bytes.now in
    let at = c.args.at in
    let head = c.min-head.result in
    let w = c.walk-first.ensures in
    let v = c.walk-next.ensures in
    let f = c.write_run.ensures in
    let g = c.write_run-2.ensures in
    let d = take_rest xs head in
    let o : c.walk-first.result.1 ≡ (offset m c.args.self + at) % 4096 = ap (λ x. x.1) w in
    let e = two_runs m c.args.self at head xs (omega arith) (omega arith) (omega arith) in
    record { packet = λ h. g ∙ (simp (f, d, w, v) e); longer = λ h. (let z : ⊥ = omega arith in absurd z) }
