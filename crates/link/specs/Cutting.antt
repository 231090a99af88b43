-- What cutting a text into packets keeps.
use Rattle.std.specs.Prelude.{◌≡◌, ℕ, ◌+◌, ◌/◌, ◌%◌, ◌<◌, List, [], length, drop, slice_index_or}
use Rattle.std.specs.List.{flat_map}
use Rattle.link.specs.Text.{packets, text_packets, rest}

-- A message of b bytes is floor(b / P) packets of P bytes, then one of b mod P bytes; joined they are the message.
pub record Cuts (P : ℕ) (m : List ℕ) : Type 0 where
  pub many : length (packets P m) ≡ length m / P + 1
  pub full : (i : ℕ) → i < length m / P → length (slice_index_or (packets P m) i []) ≡ P
  pub last : length (slice_index_or (packets P m) (length m / P) []) ≡ length m % P
  pub whole : flat_map (λ x. x) (packets P m) ≡ m

abbrev pub MessagesCut : Type 0
MessagesCut = (P : ℕ) (m : List ℕ) → 0 < P → Cuts P m

-- what is left of a text after k packets is just the packets from k on
abbrev pub RestsDrop : Type 0
RestsDrop = (P : ℕ) (ms : List (List ℕ)) (k : ℕ) → 0 < P → text_packets P (rest P ms k) ≡ drop k (text_packets P ms)
