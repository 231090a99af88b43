-- The two parts at the first byte that passes, or at the end.
use Rattle.std.proofs.Common.{◌≡◌, ℕ, ◌≤◌, inl, inr, cond, ltb, length, take, drop, Some, None, unwrap_or, ap, ◌∙◌, arith, rules, tests}
use Rattle.std.specs.List.{position_or_len}
use Rattle.std.proofs.lemmas.Bool.{cases_lt, cond-true, cond-false, lt-ltb, le-ltb}
use Rattle.std.proofs.lemmas.Iterator.{YieldsList-from_slice}
use Rattle.std.proofs.lemmas.Iterator.Search.{position_from_yields_List}
use Rattle.std.proofs.lemmas.List.Sums.{prefix_len-le-length}
use Rattle.lexer.proofs.parts.cut_at.Goals as goal

-- where none passes, the place is the end
place : (n l : ℕ) → n ≤ l → unwrap_or (cond (ltb n l) (Some n) None) l ≡ n
place n l h =
    elim (cases_lt n l) [
      | inl lt ↦ ap (λ o. unwrap_or o l) (cond-true (ltb n l) (Some n) None (lt-ltb n l lt))
      | inr le ↦ ap (λ o. unwrap_or o l) (cond-false (ltb n l) (Some n) None (le-ltb n l le)) ∙ omega arith
    ]

pub returns : goal.returns
returns g c = λ test k.
    let w = c.args.text.now in
    let p = position_from_yields_List test _ _ c.position.result c.position.ensures.ran (YieldsList-from_slice w cc) (λ x b q h. search (rules, tests, k)) in
    let at = c.unwrap_or-at.ensures ∙ ap (λ o. unwrap_or o (length w)) p ∙ place (position_or_len test w) (length w) (prefix_len-le-length _ w) in
    (c.split_at.ensures.front ∙ ap (λ n. take n w) at, c.split_at.ensures.back ∙ ap (λ n. drop n w) at)
