-- The two parts at the first byte at which a part ends.
use Rattle.std.proofs.Common.{◌≡◌, ℕ, ◌+◌, List, take, drop, Some, Option, option_map, position, sym, ap, ◌∙◌, rules, tests}
use Rattle.std.proofs.lemmas.Iterator.{YieldsList-from_slice}
use Rattle.std.proofs.lemmas.Iterator.Search.{position_from_yields_List}
use Rattle.std.proofs.lemmas.List.{take_rest}
use Rattle.lexer.specs.declared.parts.Stop.{Stop}
use Rattle.lexer.specs.Parts.{parted, stops}
use Rattle.lexer.proofs.parts.part_at.Goals as goal

parted_by : (s : Stop) (w : List ℕ) (o : Option ℕ) → o ≡ position (stops s) w → option_map (λ n. (take n w, drop (n + 1) w)) o ≡ parted s w
parted_by s w o e = ap (option_map (λ n. (take n w, drop (n + 1) w))) e

pub returns-in_err-at : goal.returns-in_err-at
returns-in_err-at c =
    let w = c.args.text.now in
    let p = position_from_yields_List (stops c.args.stop) _ _ c.position.result c.position.ensures.ran (YieldsList-from_slice w cc) (λ x b q h. search (rules, tests)) in
    ap (option_map (λ p. (p.0.now, p.1.now))) c.from_residual.ensures ∙ parted_by c.args.stop w _ (sym c.in_err-at.was ∙ p)

pub returns : goal.returns
returns c =
    let w = c.args.text.now in
    let p = position_from_yields_List (stops c.args.stop) _ _ c.position.result c.position.ensures.ran (YieldsList-from_slice w cc) (λ x b q h. search (rules, tests)) in
    ap (λ z. Some (take c.in_ok-at.at w, z)) (take_rest w (c.in_ok-at.at + 1)) ∙ parted_by c.args.stop w _ (sym c.in_ok-at.was ∙ p)
