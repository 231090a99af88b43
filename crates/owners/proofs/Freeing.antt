-- Letting pages go, one after another.
use Rattle.std.proofs.Common.{◌≡◌, ℕ, suc, ◌+◌, ◌-◌, ◌<◌, ◌++◌, map, length, get_or, take, drop, set, None, Option, ap, ◌∙◌, add-one, arith}
use Rattle.std.proofs.lemmas.List.{length-append, length-map, length-take-le, length-drop, get_or_default}
use Rattle.std.proofs.lemmas.List.Edits.{map_over_more}
use Rattle.owners.specs.declared.table.Owner.{Owner}
use Rattle.owners.specs.Claims.{Table, freed, freed_pages}

pub freed_step : (o : Owner) (t : Table) (q e : ℕ) → q < e → freed_pages o t q (e - q) ≡ freed_pages o (set t q (freed o (get_or t q None))) (q + 1) (e - (q + 1))
freed_step o t q e h =
    let n : e - q ≡ suc (e - (q + 1)) = omega arith in
    rw (n, add-one q)

pub freed_more : (o : Owner) (xs ys : Table) (i : ℕ) (r : Option Owner) → i < length xs → ys ≡ map (freed o) (take i xs) ++ drop i xs
    → r ≡ freed o (get_or ys i None) → set ys i r ≡ map (freed o) (take (i + 1) xs) ++ drop (i + 1) xs
freed_more o xs ys i r h e q =
    let n : length ys ≡ length xs = ap length e ∙ length-append (map (freed o) (take i xs)) (drop i xs) ∙ omega (arith, length-map (take i xs) (freed o), length-take-le i xs (omega arith), length-drop i xs) in
    rw q (map_over_more (freed o) xs ys i (get_or ys i None) h e (get_or_default ys i None (get_or ys i None) (omega arith)))
