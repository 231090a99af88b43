-- Each piece taken back leaves the earlier ones to take back.
use Rattle.std.proofs.Common.{◌≡◌, ◌++◌, ◌∷◌, [], ◌-◌, length, get_or, ap, ◌∙◌, arith}
use Rattle.std.proofs.lemmas.List.{length_push, length-reverse, get_or-reverse, get_or_default}
use Rattle.std.proofs.lemmas.Iterator.Adapters.{YieldsList-from_rev_slice}
use Rattle.std.proofs.lemmas.Iterator.Consumers.{YieldsList-turn}
use Rattle.memory.specs.Faults.{no_buffer}
use Rattle.owners.specs.Naming.{names}
use Rattle.owners.specs.Claims.{unclaimed, unclaimed_all}
use Rattle.owners.proofs.Transfers.{unclaim_all_step}
use Rattle.owners.proofs.table.Owners.unclaim_pieces.Goals as goal

pub loop-piece-preserved : goal.loop-piece-preserved
loop-piece-preserved c =
    let ps = c.args.pieces.now in
    let ys = c.loop-piece.yielded in
    let t = YieldsList-turn (YieldsList-from_rev_slice ps cc) ys _ c.loop-piece.yielded_by _ _ c.in-Some.piece c.in-Some.is c.next.ensures.steps in
    let x = c.in-Some.piece.now in
    let n = length ps - length ys in
    let r = length-reverse ps in
    let l = length_push ys c.in-Some.piece in
    let b : x ≡ get_or ps (n - 1) no_buffer = t.1 ∙ get_or-reverse ps (length ys) x (omega (arith, t.0)) ∙ ap (λ k. get_or ps k x) (omega (arith, t.0)) ∙ get_or_default ps (n - 1) x no_buffer (omega (arith, t.0)) in
    let k : length ps - length (ys ++ c.in-Some.piece ∷ []) ≡ n - 1 = omega arith in
    ap (λ i. unclaimed_all c.args.memory.now ps i c.unclaim.new.self.table) k
    ∙ unclaim_all_step c.args.memory.now ps c.loop-piece.self.table c.unclaim.new.self.table n c.name_count-names.result (omega (arith, t.0))
    (c.name_count-names.ensures.counted ∙ ap (names c.args.memory.now) b) (c.unclaim.ensures ∙ ap (λ d. unclaimed c.args.memory.now d c.name_count-names.result c.loop-piece.self.table) b)
    ∙ c.loop-piece.invariant
