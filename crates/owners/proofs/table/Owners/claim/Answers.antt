-- A piece that is refused has the earlier ones taken back; one that is claimed leaves the rest. What is told is the first at fault.
use Rattle.std.proofs.Common.{◌≡◌, Ok, length, take, sym, ap, ◌∙◌, arith}
use Rattle.std.proofs.lemmas.List.{length-take-le}
use Rattle.owners.specs.Claims.{claim, answer, after, slot_owner, unclaimed_all}
use Rattle.owners.proofs.Transfers.{claim_goes, claim_fails, pieces_none, unclaimed_take}
use Rattle.owners.proofs.Telling.{pages_told}
use Rattle.owners.proofs.table.Owners.claim.Goals as goal

pub returns-in-Err : goal.returns-in-Err
returns-in-Err c =
    let m = c.args.memory.now in
    let s = c.args.first.set in
    let f = c.args.first.slot in
    let ps = c.args.pieces.now in
    let t = c.args.self.now.table in
    let i = c.loop-i.i in
    let u = c.claim_buffer.new.self.table in
    let n : length (take i ps) ≡ i = length-take-le i ps (omega arith) in
    let back : c.unclaim_pieces.new.self.table ≡ unclaimed_all m ps i u
    = c.unclaim_pieces.ensures ∙ ap (λ k. unclaimed_all m (take i ps) k u) n ∙ unclaimed_take m ps i i u (omega arith) in
    let e = claim_fails m s f ps t c.loop-i.self.table u c.unclaim_pieces.new.self.table i c.claim_buffer.result c.in-Err.refusal
    c.loop-i-test.true c.claim_buffer.ensures.told c.claim_buffer.ensures.marked c.in-Err.is c.loop-i.invariant.0 c.loop-i.invariant.1 back in
    let told = sym (ap answer e.0) in
    record { told = told; marked = e.1 ∙ sym (ap (after t) e.0); first = pages_told m s f t ps _ told }

pub loop-i-preserved : goal.loop-i-preserved
loop-i-preserved c =
    claim_goes c.args.memory.now c.args.first.set c.args.first.slot c.args.pieces.now c.args.self.now.table c.loop-i.self.table c.claim_buffer.new.self.table
    c.loop-i.i c.claim_buffer.result c.in_default.field-0 c.loop-i-test.true c.claim_buffer.ensures.told c.claim_buffer.ensures.marked c.in_default.is
    c.loop-i.invariant.0 c.loop-i.invariant.1

pub returns : goal.returns
returns c =
    let m = c.args.memory.now in
    let s = c.args.first.set in
    let f = c.args.first.slot in
    let ps = c.args.pieces.now in
    let t = c.args.self.now.table in
    let e : claim m s f t ps ≡ Ok c.loop-i.self.table
    = sym c.loop-i.invariant.1 ∙ pieces_none (slot_owner s f) m ps c.loop-i.self.table c.loop-i.i c.loop-i-test.false in
    let told = sym (ap answer e) in
    record { told = told; marked = sym (ap (after t) e); first = pages_told m s f t ps _ told }
