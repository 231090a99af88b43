-- What the clauses fix to one value: the aim of a Poll, the packet that a Send's number stands for, what keeping it leads to, the vector.
use Rattle.std.specs.Prelude.{◌≡◌, ℕ, ◌^◌, ◌<◌, true, List, Option}
use Rattle.link.specs.declared.term.Window.{Window}
use Rattle.link.specs.Bounds.{sound}
use Rattle.link.specs.Meaning.{Out, Aim, Meant, Kept, Vector}

abbrev pub AimOnce : Type 0
AimOnce = (M b k a c : ℕ) → Aim M b k a → Aim M b k c → a ≡ c

abbrev pub MeantOnce : Type 0
MeantOnce = (w : Window) (f : ℕ) (early : ℕ → Option (List ℕ)) (s i j : ℕ) → sound w ≡ true → Meant w f early s i → Meant w f early s j → i ≡ j

abbrev pub KeptOnce : Type 0
KeptOnce = (o : Out) (j : ℕ) (b : List ℕ) (p q : Out) → Kept o j b p → Kept o j b q → p ≡ q

-- vectors are words of 32 bits
abbrev pub VectorOnce : Type 0
VectorOnce = (w : Window) (f : ℕ) (early : ℕ → Option (List ℕ)) (v u : ℕ) → v < 2 ^ 32 → u < 2 ^ 32 → Vector w f early v → Vector w f early u → v ≡ u
