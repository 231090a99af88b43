-- What is left of the message under a cursor.
use Rattle.std.proofs.Common.{◌≡◌, ◌<◌, [], length, vec_items, slice_index, MatchOption, sym, ap, ◌∙◌, subst, arith}
use Rattle.std.proofs.lemmas.Bool.{ltb-true, ltb-false}
use Rattle.std.proofs.lemmas.Grind.{get_or_default_zero}
use Rattle.reader.specs.Reading.{Stands, text_at}
use Rattle.reader.specs.Walks.{at_end, at_left}
use Rattle.reader.proofs.text.Text.left.Goals as goal

pub returns-in_err-length-clause-left : goal.returns-in_err-length-clause-left
returns-in_err-length-clause-left c =
    let bs = vec_items c.args.self.now.bytes in
    let ls = vec_items c.args.self.now.lengths in
    subst (λ v. MatchOption v (text_at bs ls c.args.at ≡ []) (λ n. Stands bs ls c.args.at n)) (sym c.from_residual.ensures)
    (at_end bs ls c.args.at (omega (arith, ltb-false _ _ (sym c.in_err-length.ensures.lookup.0), ap length c.deref.ensures.value)))

pub returns-clause-left : goal.returns-clause-left
returns-clause-left c =
    let ls = vec_items c.args.self.now.lengths in
    let long : length c.deref.result.now ≡ length ls = ap length c.deref.ensures.value in
    let l : c.args.at.message < length ls = omega (arith, ltb-true _ _ (sym c.in_ok-length.ensures.lookup.0), long) in
    let e : c.in_ok-length.field-0.now ≡ slice_index ls c.args.at.message =
    c.in_ok-length.ensures.lookup.1 ∙ get_or_default_zero c.deref.result.now c.args.at.message _ (omega (arith, l, long)) ∙ ap (λ v. slice_index v c.args.at.message) c.deref.ensures.value in
    at_left (vec_items c.args.self.now.bytes) ls c.args.at c.min.result (omega arith) l (omega (arith, e))
