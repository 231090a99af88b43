-- A copy within a page is a run of stores; past the end of memory nothing is stored.
use Rattle.std.proofs.Common.{◌≡◌, ◌+◌, ◌*◌, length, take, sym, ap, ◌∙◌, arith}
use Rattle.std.proofs.lemmas.List.{length-take-le}
use Rattle.memory.proofs.Storing.{put_mid_sets, sets_past, sets_cut}
use lib.Seq.{sets}
use Rattle.memory.proofs.packets.write_run.Goals as goal

pub returns-in-Some : goal.returns-in-Some
returns-in-Some c =
    let m = c.args.memory.now in
    let xs = c.args.bytes.now in
    let from = c.in-Some.from in
    let n = c.min-count.result in
    let f = c.in-Some.ensures in
    let l : length (take n xs) ≡ n = length-take-le n xs (omega arith) in
    put_mid_sets _ _ _ _ (take n xs) c.copy_from_slice.ensures.after (omega arith) (omega (arith, f.0, f.1))
    ∙ sets_cut m from n xs (λ a. omega arith)
    ∙ ap (λ i. sets m i xs) f.1

pub returns-in_default : goal.returns-in_default
returns-in_default c = sym (sets_past c.args.memory.now (c.args.place.0 * 4096 + c.args.place.1) c.args.bytes.now (omega (arith, c.in_default.ensures)))
