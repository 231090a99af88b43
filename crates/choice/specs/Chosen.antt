-- What a choice means, and its steps: those of the link that was chosen, which stays chosen.
use Rattle.std.specs.Prelude.{ℕ}
use Rattle.link.specs.Meaning.{Pipe}
use Rattle.choice.specs.declared.place.Choice.{Choice}
use Rattle.choice.specs.declared.place.Choice.TheVariants.{First, Second}

abbrev pub chosen : {X Y : Type 0} → (X → ℕ → Pipe) → (Y → ℕ → Pipe) → Choice X Y → ℕ → Pipe
chosen f g (First x) p = f x p
chosen f g (Second y) p = g y p

-- a step of the first or of the second
abbrev pub Steps : {X Y : Type 0} → (X → X → Type 0) → (Y → Y → Type 0) → Choice X Y → Choice X Y → Type 0
Steps F G (First x) (First t) = F x t
Steps F G (First x) (Second t) = ⊥
Steps F G (Second y) (First t) = ⊥
Steps F G (Second y) (Second t) = G y t
