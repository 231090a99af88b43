-- What a seek finds.
use Rattle.std.specs.Prelude.{◌≡◌, ℕ, ◌+◌, ◌-◌, ◌<◌, ◌≤◌, List, [], length}
use Rattle.link.specs.Text.{rest, text_packets}
use Rattle.link.specs.Meaning.{Aim}
use Rattle.reader.specs.declared.cursor.Place.{Place}
use Rattle.reader.specs.Reading.{text_at}

-- f is the aim, and the text from it on is what is left there
pub record Found (bs ls : List ℕ) (P M b : ℕ) (c f : Place) : Type 0 where
  pub aim : Aim M b c.number f.number
  pub text : text_at bs ls f.at ≡ rest P (text_at bs ls c.at) (f.number - c.number)
  pub count : f.number - c.number ≤ length (text_packets P (text_at bs ls c.at))
  pub inside : f.at.here ≤ length bs
  pub within : f.at.message ≤ length ls
  pub small : f.number ≤ f.at.here + f.at.message

-- an aim, if there is one, lies past the end of the text
abbrev pub Missing : List ℕ → List ℕ → ℕ → ℕ → ℕ → Place → Type 0
Missing bs ls P M b c = (a : ℕ) → Aim M b c.number a → (d : ℕ) × (rest P (text_at bs ls c.at) d ≡ []) × (c.number + d < a)
