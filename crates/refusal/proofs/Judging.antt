-- In a rising chain the first rule that holds brings the smallest number.
use Rattle.std.proofs.Common.{◌≡◌, ℕ, ◌≤◌, Bool, true, false, cond, List, [], ◌∷◌, Some, None, Option, refl, inl, inr, arith, MatchOption}
use Rattle.refusal.specs.declared.reason.Refusal.{Refusal}
use Rattle.refusal.specs.Numbers.{number}
use Rattle.refusal.specs.Chains.{Rule, judged, RisesFrom, NoneBelow, AllClear, Brought, SmallestFirst}

weaken : (m n : ℕ) (rs : List Rule) → m ≤ n → NoneBelow n rs → NoneBelow m rs
weaken m n [] le h = tt
weaken m n (r ∷ rs) le h = ((λ t. let k = h.0 t in omega arith), weaken m n rs le h.1)

rises_above : (n : ℕ) (rs : List Rule) → RisesFrom n rs → NoneBelow n rs
rises_above n [] h = tt
rises_above n (r ∷ rs) h =
    ((λ t. let k = h.0 in omega arith), weaken n (number r.brings) rs (let k = h.0 in omega arith) (rises_above (number r.brings) rs h.1))

-- what is claimed of a chain and its answer
abbrev Told : List Rule → Option Refusal → Type 0
Told rs o = MatchOption o (AllClear rs) (λ f. Brought f rs × NoneBelow (number f) rs)

skipped : (r : Rule) (rs : List Rule) (o : Option Refusal) → r.holds ≡ false → Told rs o → Told (r ∷ rs) o
skipped r rs None e h = (e, h)
skipped r rs (Some f) e h = (inr h.0, ((λ t. let z : true ≡ false = cc in absurd (let k : ◌≡◌ {A = ℕ} 0 1 = cc in omega arith)), h.1))

stepped : (n : ℕ) (r : Rule) (rs : List Rule) (b : Bool) → r.holds ≡ b → RisesFrom n (r ∷ rs) → Told rs (judged rs) → Told (r ∷ rs) (cond b (Some r.brings) (judged rs))
stepped n r rs true e up h =
    (inl (e, refl), ((λ t. omega arith), rises_above (number r.brings) rs up.1))
stepped n r rs false e up h = skipped r rs (judged rs) e h

told : (n : ℕ) (rs : List Rule) → RisesFrom n rs → Told rs (judged rs)
told n [] up = tt
told n (r ∷ rs) up = stepped n r rs r.holds refl up (told (number r.brings) rs up.1)

pub smallest : SmallestFirst
smallest rs up = told 0 rs up
