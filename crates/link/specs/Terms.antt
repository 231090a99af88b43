-- A term's bounds: 16,777,216 bytes, 33,554,432 packets and, inward, 16,777,216 messages.
use Rattle.std.specs.Prelude.{◌≡◌, ℕ, ◌+◌, ◌^◌, ◌<◌, ◌≤◌, List, [], ◌∷◌, length, Some, None, Option}
use Rattle.link.specs.declared.term.Window.{Window}
use Rattle.link.specs.Meaning.{In, Out, Pipe, absent, inward, outward, begun}
use Rattle.link.specs.Text.{text_packets}

-- the bytes of messages or packets, counted
abbrev pub bytes_of : List (List ℕ) → ℕ
bytes_of [] = 0
bytes_of (m ∷ ms) = length m + bytes_of ms

-- how many packets a text is, if there are numbers
abbrev pub total : Option Window → List (List ℕ) → ℕ
total None ms = 0
total (Some w) ms = length (text_packets w.packet ms)

pub record InBounds (i : In) : Type 0 where
  pub bytes : bytes_of i.text ≤ 2 ^ 24
  pub messages : length i.text ≤ 2 ^ 24
  pub packets : total i.numbers i.text ≤ 2 ^ 25

-- Packet j is ahead of order, f packets being taken: its number lies past f and within the window, and it has at most P bytes.
-- Before the first Restart there is no window, and nothing is said.
abbrev pub Ahead : Option Window → ℕ → ℕ → List ℕ → Type 0
Ahead None f j b = Unit {0}
Ahead (Some w) f j b = (f < j) × (j < f + w.burst) × (length b ≤ w.packet)

pub record OutBounds (o : Out) : Type 0 where
  pub bytes : bytes_of o.taken ≤ 2 ^ 24
  pub packets : length o.taken ≤ 2 ^ 25
  pub early : (j : ℕ) (b : List ℕ) → o.early j ≡ Some b → j < 2 ^ 25
  pub ahead : (j : ℕ) (b : List ℕ) → o.early j ≡ Some b → Ahead o.numbers (length o.taken) j b

-- a term of the pipe is within its bounds
abbrev pub Bounded : Pipe → Type 0
Bounded absent = Unit {0}
Bounded (inward i) = InBounds i
Bounded (outward o) = OutBounds o

-- what a Restart begins is within the bounds, whatever the packet size
abbrev pub RestartBounded : Type 0
RestartBounded = (p : Pipe) (w : Window) → Bounded p → Bounded (begun p w)
