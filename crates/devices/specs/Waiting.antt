-- Packets that wait ahead of order until those before them are taken.
use Rattle.std.specs.Prelude.{◌≡◌, ℕ, ◌+◌, ◌-◌, ◌*◌, ◌<◌, ◌≤◌, List, length, Some, Option}
use Rattle.link.specs.declared.term.Window.{Window}
use Rattle.link.specs.Terms.{bytes_of}
use Rattle.reader.specs.Restarted.{size_of, burst_of}

-- packet k lies in the window behind t, has at most P bytes, and there is space for it behind those before it
pub record Waits (n : Option Window) (t : List (List ℕ)) (space most k : ℕ) (b : List ℕ) : Type 0 where
  pub near : k < length t + burst_of n
  pub fits : length b ≤ size_of n
  pub counted : k < most
  pub spaced : length t ≤ k → bytes_of t + (k - length t) * size_of n + length b ≤ space

-- each of these packets waits so
abbrev pub AllWait : Option Window → List (List ℕ) → ℕ → ℕ → (ℕ → Option (List ℕ)) → Type 0
AllWait n t space most e = (k : ℕ) (b : List ℕ) → e k ≡ Some b → Waits n t space most k b
