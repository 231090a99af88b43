-- The messages that a reader is given, and its place in them.
use Rattle.std.specs.Prelude.{◌≡◌, ℕ, ◌+◌, ◌-◌, ◌<◌, ◌≤◌, min, List, [], ◌∷◌, length, take, drop, Option, slice_index}
use Rattle.link.specs.declared.term.Window.{Window}
use Rattle.link.specs.Meaning.{In}
use Rattle.link.specs.Text.{after}
use Rattle.reader.specs.declared.cursor.Cursor.{Cursor}

-- Bytes cut into messages of given lengths, each at most what is left. Bytes after the last length belong to no message.
abbrev pub messages : List ℕ → List ℕ → List (List ℕ)
messages bs [] = []
messages bs (n ∷ ns) = take n bs ∷ messages (drop n bs) ns

-- the first length less what is gone of it
abbrev pub less : ℕ → List ℕ → List ℕ
less k [] = []
less k (n ∷ ns) = (n - k) ∷ ns

-- the text from a cursor on
unfoldable pub text_at : List ℕ → List ℕ → Cursor → List (List ℕ)
text_at bs ls c = messages (drop c.here bs) (less c.spent (drop c.message ls))

-- the pipe of a reader, by its fields
abbrev pub pipe_at : Option Window → List ℕ → List ℕ → Cursor → ℕ → In
pipe_at numbers bs ls start place = record { numbers = numbers; text = text_at bs ls start; place = place }

-- n bytes are left of the message that the cursor stands in
pub record Stands (bs ls : List ℕ) (c : Cursor) (n : ℕ) : Type 0 where
  pub text : text_at bs ls c ≡ take n (drop c.here bs) ∷ messages (drop (c.here + n) bs) (drop (c.message + 1) ls)
  pub inside : c.here + n ≤ length bs
  pub one : c.message < length ls
  pub is : n ≡ min (slice_index ls c.message - c.spent) (length bs - c.here)

-- the cursor d is one packet on from c
pub record Next (bs ls : List ℕ) (size : ℕ) (c d : Cursor) : Type 0 where
  pub text : text_at bs ls d ≡ after size (text_at bs ls c)
  pub some : text_at bs ls c ≡ [] → ⊥
  pub more : c.here + c.message < d.here + d.message
  pub inside : d.here ≤ length bs
  pub within : d.message ≤ length ls
