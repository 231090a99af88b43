-- The conversion of the number that was read.
use Rattle.std.proofs.Common.{◌≡◌, None, MatchOption, sym, ◌∙◌, subst}
use Rattle.std.specs.Result.{result_ok}
use Rattle.numeral.proofs.read.Goals as goal

pub returns : goal.returns
returns g c =
    subst (λ o. MatchOption o (c.ok.result ≡ None) (λ n. (r : _) × g.T.TryFrom.try_from_gives n r × (c.ok.result ≡ result_ok r))) (sym c.in_ok-read_u64.was ∙ c.read_u64.ensures) (c.try_from.result, c.try_from.ensures, c.ok.ensures.value)
