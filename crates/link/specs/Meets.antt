-- What a law of a link says of a step: the call's clause at its pipe, and that all other pipes mean what they meant.
use Rattle.std.specs.Prelude.{◌≡◌, ℕ}
use Rattle.std.proofs.Common.{sym, subst}
use Rattle.link.specs.Meaning.{Pipe, Only}

-- a step from f to g meets clause C at pipe p
abbrev pub Meets : (Pipe → Pipe → Type 0) → ℕ → (ℕ → Pipe) → (ℕ → Pipe) → Type 0
Meets C p f g = C (f p) (g p) × Only p f g

-- what holds of an answer holds of a step that gave it
pub answered : {A : Type 0} {own a : A} (C : A → Type 0) → C own → a ≡ own → C a
answered C h e = subst C (sym e) h
