-- Each page is looked at.
use Rattle.std.proofs.Common.{rules, tests, ◌-◌, refl, ◌∙◌, None, is_none, get_or}
use Rattle.std.proofs.lemmas.Iterator.{YieldsList-from_range}
use Rattle.std.proofs.lemmas.Iterator.Search.{all_from_yields_List}
use Rattle.owners.proofs.Putting.{free_all}
use Rattle.owners.proofs.table.Owners.all_free.Goals as goal

pub returns : goal.returns
returns c =
    let t = c.args.self.now.table in
    let n = c.args.end - c.args.first in
    all_from_yields_List (λ k. is_none (get_or t k None)) _ _ _ c.all.ensures.ran (YieldsList-from_range c.args.first c.args.end n (cc) refl) (λ x b q k. search (rules, tests))
    ∙ free_all t c.args.first n
