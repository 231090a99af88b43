-- How a call is judged: a chain of conditions, each with its refusal; the first that holds comes.
use Rattle.std.specs.Prelude.{◌≡◌, ℕ, ◌<◌, ◌≤◌, Bool, true, false, cond, ◌⊎◌, List, [], ◌∷◌, Some, None, Option, MatchOption}
use Rattle.refusal.specs.declared.reason.Refusal.{Refusal}
use Rattle.refusal.specs.Numbers.{number}

-- a condition and the refusal that it brings
pub record Rule : Type 0 where
  pub holds : Bool
  pub brings : Refusal

-- the refusal of the first rule that holds
abbrev pub judged : List Rule → Option Refusal
judged [] = None
judged (r ∷ rs) = cond r.holds (Some r.brings) (judged rs)

-- the numbers rise from one rule to the next, all of them above n
abbrev pub RisesFrom : ℕ → List Rule → Type 0
RisesFrom n [] = Unit {0}
RisesFrom n (r ∷ rs) = (n < number r.brings) × RisesFrom (number r.brings) rs

abbrev pub Rises : List Rule → Type 0
Rises rs = RisesFrom 0 rs

-- whatever holds in the chain has a number of at least n
abbrev pub NoneBelow : ℕ → List Rule → Type 0
NoneBelow n [] = Unit {0}
NoneBelow n (r ∷ rs) = (r.holds ≡ true → n ≤ number r.brings) × NoneBelow n rs

-- no rule of the chain holds
abbrev pub AllClear : List Rule → Type 0
AllClear [] = Unit {0}
AllClear (r ∷ rs) = (r.holds ≡ false) × AllClear rs

-- some rule of the chain holds and brings this refusal
abbrev pub Brought : Refusal → List Rule → Type 0
Brought f [] = ⊥
Brought f (r ∷ rs) = ((r.holds ≡ true) × (r.brings ≡ f)) ⊎ Brought f rs

-- In a chain whose numbers rise, the refusal that comes is the smallest whose condition holds; none comes exactly if no condition holds.
abbrev pub SmallestFirst : Type 0
SmallestFirst = (rs : List Rule) → Rises rs → MatchOption (judged rs) (AllClear rs) (λ f. Brought f rs × NoneBelow (number f) rs)
