-- An entry that is missing names no page of memory.
use Rattle.std.proofs.Common.{SomeIff, subst, sym, ◌∙◌, arith}
use Rattle.std.proofs.lemmas.Result.{err_from_is_err_and}
use Rattle.memory.specs.Walk.{Lies, entry}
use Rattle.memory.proofs.Telling.{missing_bad}
use Rattle.memory.proofs.buffer.Buffer.judge_entry.Goals as goal

pub returns-in_err-page : goal.returns-in_err-page
returns-in_err-page c =
    let m = c.args.memory.now in
    let l = c.args.self.address in
    let k = c.args.k in
    let p = err_from_is_err_and c.from_residual.result c.from_residual.ensures.1 in
    p.1 ∙ sym (missing_bad m l k (omega arith) (subst (λ o. SomeIff o (Lies m l k) (entry m l k)) c.in_err-page.ensures.ok_part c.entry.ensures))
