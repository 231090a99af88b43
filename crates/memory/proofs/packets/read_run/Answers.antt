-- What is read within a page is what stands there, and zeros past the end of memory.
use Rattle.std.proofs.Common.{◌≡◌, ◌+◌, ◌-◌, ◌*◌, length, take, drop, replicate, sym, ap, ◌∙◌, arith}
use Rattle.std.proofs.lemmas.List.{length-take-le}
use Rattle.memory.specs.Store.{gathered}
use Rattle.memory.proofs.Storing.{gathered_past, gathered_cut, two_parts}
use Rattle.memory.proofs.packets.read_run.Goals as goal

pub returns-in-Some : goal.returns-in-Some
returns-in-Some c =
    let m = c.args.memory.now in
    let xs = c.args.into.now in
    let from = c.in-Some.from in
    let n = c.min-count.result in
    let w = c.in-Some.ensures in
    let e = gathered_cut m from n (length xs) (omega arith) (omega (arith, w.0, w.1)) (λ a. omega arith) in
    let k : (from + n) - from ≡ n = omega arith in
    let u : c.copy_from_slice.new.self ≡ take n (drop from m) = c.copy_from_slice.ensures.after ∙ ap (λ j. take j (drop from m)) k in
    let a : length c.copy_from_slice.new.self ≡ n = omega (arith, length-take-le n xs (omega arith)) in
    let l : length c.fill.new.self ≡ length xs - n = omega arith in
    let f : c.fill.new.self ≡ replicate (length xs - n) 0 = c.fill.ensures.after (λ y h. h) ∙ ap (λ j. replicate j 0) (sym c.fill.auto.self ∙ l) in
    two_parts c.copy_from_slice.new.self c.fill.new.self xs n a
    ∙ simp (u, f) (e ∙ ap (λ i. gathered (λ j. j) m i (length xs)) w.1)

pub returns-in-None : goal.returns-in-None
returns-in-None c =
    c.fill-in-None.ensures.after (λ y h. h)
    ∙ sym (gathered_past c.args.memory.now (c.args.place.0 * 4096 + c.args.place.1) (length c.args.into.now) (omega (arith, c.in-None.ensures)))
