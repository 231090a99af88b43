-- A link that may be lacking: what it means, and its steps, those of the link that is there, which stays there.
use Rattle.std.specs.Prelude.{◌≡◌, ℕ, Bool, true, false, cond, Some, None, Option, refl}
use Rattle.link.specs.Meaning.{Pipe, absent, admits, Restarts}
use Rattle.link.specs.Meets.{Meets}
use Rattle.link.specs.declared.term.Window.{Window}

-- a lacking link has no pipe
abbrev pub optional : {X : Type 0} → (X → ℕ → Pipe) → Option X → ℕ → Pipe
optional f None p = absent
optional f (Some x) p = f x p

-- a step of the link that is there; N where there is none
abbrev pub Passes : {X : Type 0} → (X → X → Type 0) → Type 0 → Option X → Option X → Type 0
Passes F N None None = N
Passes F N None (Some t) = ⊥
Passes F N (Some x) None = ⊥
Passes F N (Some x) (Some t) = F x t

-- such a step meets a clause if the link's step does, and if the clause lets an absent pipe stay where there is none
pub passes_meets : {X : Type 0} (f : X → ℕ → Pipe) (C : Pipe → Pipe → Type 0) (p : ℕ) (F : X → X → Type 0) (N : Type 0)
    → ((x t : X) → F x t → Meets C p (f x) (f t)) → (N → C absent absent)
    → (s t : Option X) → Passes F N s t → Meets C p (optional f s) (optional f t)
passes_meets f C p F N some none None None h = (none h, λ j ne. refl)
passes_meets f C p F N some none None (Some t) h = absurd h
passes_meets f C p F N some none (Some x) None h = absurd h
passes_meets f C p F N some none (Some x) (Some t) h = some x t h

-- an absent pipe stays so at a Restart
pub still_absent : (b : Bool) → absent ≡ cond b absent absent
still_absent true = refl
still_absent false = refl

pub absent_restart : (w : Window) → Unit {0} → Restarts absent w absent
absent_restart w u = still_absent (admits absent w)
