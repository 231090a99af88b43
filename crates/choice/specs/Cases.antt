-- A step of the chosen link meets a clause if both links' steps do.
use Rattle.std.specs.Prelude.{ℕ}
use Rattle.link.specs.Meaning.{Pipe}
use Rattle.link.specs.Meets.{Meets}
use Rattle.choice.specs.declared.place.Choice.{Choice}
use Rattle.choice.specs.declared.place.Choice.TheVariants.{First, Second}
use Rattle.choice.specs.Chosen.{chosen, Steps}

pub by_case : {X Y : Type 0} (f : X → ℕ → Pipe) (g : Y → ℕ → Pipe) (C : Pipe → Pipe → Type 0) (p : ℕ) (F : X → X → Type 0) (G : Y → Y → Type 0)
    → ((x t : X) → F x t → Meets C p (f x) (f t)) → ((y t : Y) → G y t → Meets C p (g y) (g t))
    → (s t : Choice X Y) → Steps F G s t → Meets C p (chosen f g s) (chosen f g t)
by_case f g C p F G first second (First x) (First t) h = first x t h
by_case f g C p F G first second (First x) (Second t) h = absurd h
by_case f g C p F G first second (Second y) (First t) h = absurd h
by_case f g C p F G first second (Second y) (Second t) h = second y t h
