-- A packet's two reads, side by side, are what the buffer shows.
use Rattle.std.proofs.Common.{◌≡◌, ◌+◌, ◌-◌, ◌*◌, ◌%◌, length, sym, ap, ◌∙◌, arith}
use Rattle.std.proofs.lemmas.List.{length-take-le}
use Rattle.memory.specs.Walk.{offset}
use Rattle.memory.specs.Store.{gathered, place}
use Rattle.memory.proofs.Storing.{two_reads, two_parts}
use Rattle.memory.proofs.buffer.Buffer.read.Goals as goal

pub returns : goal.returns
returns c =
    let m = c.args.memory.now in
    let xs = c.args.into.now in
    let at = c.args.at in
    let head = c.min-head.result in
    let w = c.walk-first.ensures in
    let v = c.walk-next.ensures in
    let f = c.read_run.ensures in
    let g = c.read_run-2.ensures in
    let o : c.walk-first.result.1 ≡ (offset m c.args.self + at) % 4096 = ap (λ x. x.1) w in
    let e = two_reads m c.args.self at head (length xs) (omega arith) (omega arith) (omega arith) in
    let a : length c.read_run.new.into ≡ head = omega (arith, length-take-le head xs (omega arith)) in
    let z : length c.read_run-2.new.into ≡ length xs - head = omega arith in
    let f' : c.read_run.new.into ≡ gathered (λ j. j) m (place m c.args.self at) head
    = f ∙ ap (λ n. gathered (λ j. j) m (c.walk-first.result.0 * 4096 + c.walk-first.result.1) n) (sym c.read_run.auto.into ∙ a)
    ∙ ap (λ q. gathered (λ j. j) m (q.0 * 4096 + q.1) head) w in
    let g' : c.read_run-2.new.into ≡ gathered (λ j. j) m (place m c.args.self (at + head)) (length xs - head)
    = g ∙ ap (λ n. gathered (λ j. j) m (c.walk-next.result.0 * 4096 + c.walk-next.result.1) n) (sym c.read_run-2.auto.into ∙ z)
    ∙ ap (λ q. gathered (λ j. j) m (q.0 * 4096 + q.1) (length xs - head)) v in
    record {
      packet = λ h. two_parts c.read_run.new.into c.read_run-2.new.into xs head a ∙ simp (f', g') e;
      longer = λ h. (let no : ⊥ = omega arith in absurd no);
    }
