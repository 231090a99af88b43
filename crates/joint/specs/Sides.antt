-- Two links side by side.
use Rattle.std.specs.Prelude.{◌≡◌, ℕ, ◌-◌, ◌<◌, cond, ◌&&◌, is_some, Some, None, Option, ◌≢◌, nat_lt}
use Rattle.link.specs.Meaning.{Pipe, absent, direction, Gapless}
use Rattle.joint.specs.declared.Joint.{Joint}
use Rattle.joint.specs.declared.Side.{Side}
use Rattle.joint.specs.declared.Side.TheVariants.{First, Second}

-- The second link's pipes are numbered after the first's, which has n; past 31 they are absent.
abbrev pub joint : ℕ → (ℕ → Pipe) → (ℕ → Pipe) → ℕ → Pipe
joint n f g p = cond (nat_lt p n) (f p) (cond (nat_lt p 32) (g (p - n)) absent)

-- whose pipe p is: the first link's, the second's if it describes the pipe, or neither's
abbrev pub side : ℕ → (ℕ → Pipe) → ℕ → Option Side
side n g p = cond (nat_lt p n) (Some First) (cond (nat_lt p 32 && is_some (direction (g (p - n)))) (Some (Second (p - n))) None)

-- a call goes to the first link, to the second under the pipe's number there, or to neither
abbrev pub Routed : Option Side → Type 0 → (ℕ → Type 0) → Type 0 → Type 0
Routed (Some First) F S N = F
Routed (Some (Second q)) F S N = S q
Routed None F S N = N

-- A call for pipe p is a step F of the first link or a step G of the second, and the other stays; or both stay, and N holds.
abbrev pub Steps : {X Y : Type 0} → (Y → ℕ → Pipe) → ℕ → (X → X → Type 0) → (ℕ → Y → Y → Type 0) → Type 0 → Joint X Y → Joint X Y → Type 0
Steps g p F G N s t =
    Routed (side s.split (g s.second) p)
    (F s.first t.first × (t.second ≡ s.second))
    (λ q. G q s.second t.second × (t.first ≡ s.first))
    ((t.first ≡ s.first) × (t.second ≡ s.second) × N)
    × (t.split ≡ s.split)

-- n pipes are there before the first that is absent
pub record Counts (f : ℕ → Pipe) (n : ℕ) : Type 0 where
  pub there : (p : ℕ) → p < n → f p ≢ absent
  pub ends : f n ≡ absent

-- the joint has no gaps if the second link has none
abbrev pub JoinsGapless : ℕ → (ℕ → Pipe) → (ℕ → Pipe) → Type 0
JoinsGapless n f g = Gapless g → Gapless (joint n f g)
