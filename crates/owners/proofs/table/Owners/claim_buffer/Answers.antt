-- A page that has an owner is told, and what was claimed is taken back; a free one is claimed.
use Rattle.std.proofs.Common.{◌≡◌, ℕ, ◌+◌, ◌-◌, get_or, set, Some, None, Ok, Err, sym, ap, ◌∙◌}
use Rattle.refusal.specs.declared.reason.Refusal.TheVariants.{PageTaken}
use Rattle.memory.specs.Judge.{spot_of}
use Rattle.owners.specs.declared.table.Owner.{Owner}
use Rattle.owners.specs.Naming.{buffer_namings, named, part_of}
use Rattle.owners.specs.Claims.{Table, claimed, claim_buffer, answer, after}
use Rattle.owners.proofs.Chaining.{held_some, held_none, claim_more, left_free, left_owned}
use Rattle.owners.proofs.Undoing.{undone}
use Rattle.owners.proofs.table.Owners.claim_buffer.Goals as goal

pub returns-then-is_some : goal.returns-then-is_some
returns-then-is_some c =
    let m = c.args.memory.now in
    let b = c.args.buffer in
    let t = c.args.self.now.table in
    let j = c.loop-j.j in
    let ow : ℕ → Owner = λ n. c.args.owner in
    let h = held_some c.owner_at.result (sym c.is_some.ensures ∙ c.if-is_some.true) in
    let f : get_or c.loop-j.self.table (named m b j) None ≡ Some h.0 = sym (ap (λ (q : ℕ). get_or c.loop-j.self.table q None) c.named_page-page.ensures) ∙ sym c.owner_at.ensures ∙ h.1 in
    let e : claim_buffer m c.args.i b c.args.owner t ≡ Err (PageTaken (spot_of c.args.i (part_of b j)))
    = sym (ap (λ (n : ℕ). claimed ow t (buffer_namings m c.args.i b 0 n)) c.name_count-count.ensures.counted) ∙ sym c.loop-j.invariant.1
    ∙ left_owned ow m c.args.i b c.loop-j.self.table j c.name_count-count.result h.0 c.loop-j-test.true f in
    record {
      told = ap (λ s. Err (PageTaken s)) (c.spot.ensures ∙ ap (spot_of c.args.i) c.naming_part.ensures) ∙ sym (ap answer e);
      marked = c.unclaim.ensures ∙ undone ow m c.args.i b t c.loop-j.self.table j c.loop-j.invariant.0 ∙ sym (ap (after t) e);
    }

pub loop-j-preserved : goal.loop-j-preserved
loop-j-preserved c =
    let m = c.args.memory.now in
    let b = c.args.buffer in
    let t = c.args.self.now.table in
    let j = c.loop-j.j in
    let ow : ℕ → Owner = λ n. c.args.owner in
    let f : get_or c.loop-j.self.table (named m b j) None ≡ None = sym (ap (λ (q : ℕ). get_or c.loop-j.self.table q None) c.named_page-page.ensures) ∙ sym c.owner_at.ensures ∙ held_none c.owner_at.result (sym c.is_some.ensures ∙ c.if-is_some.false) in
    let u : c.mark.new.self.table ≡ set c.loop-j.self.table (named m b j) (Some c.args.owner) = c.mark.ensures ∙ ap (λ (q : ℕ). set c.loop-j.self.table q (Some c.args.owner)) c.named_page-page.ensures in (
      claim_more ow m c.args.i b t c.loop-j.self.table j c.loop-j.invariant.0 f ∙ ap Ok (sym u),
      ap (λ (r : Table). claimed ow r (buffer_namings m c.args.i b (j + 1) (c.name_count-count.result - (j + 1)))) u ∙ left_free ow m c.args.i b c.loop-j.self.table j c.name_count-count.result c.loop-j-test.true f ∙ c.loop-j.invariant.1,
    )
