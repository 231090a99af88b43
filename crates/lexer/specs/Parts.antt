-- How a line is cut into words, and words into parts.
use Rattle.std.specs.Prelude.{◌≡◌, ℕ, ◌+◌, Bool, cond, not, ◌||◌, List, take, drop, Some, None, Option, ◌==◌, option_map, position}
use Rattle.std.specs.List.{position_or_len, before_first}
use Rattle.lexer.specs.declared.parts.Stop.{Stop}
use Rattle.lexer.specs.declared.parts.Stop.TheVariants.{At, Blank, Word}

-- words are parted by blanks, tabs and carriage returns
abbrev pub blank : ℕ → Bool
blank c = c == 32 || (c == 9 || c == 13)

-- a call of a closure at a byte answers what the test says
abbrev pub Answers : (ℕ → Bool → Type 0) → (ℕ → Bool) → Type 0
Answers post test = (c : ℕ) (b : Bool) → post c b → b ≡ test c

-- the byte at which a part ends
abbrev pub stops : Stop → ℕ → Bool
stops (At mark) c = c == mark
stops Blank c = blank c
stops Word c = not (blank c)

-- what comes before the first such byte, and what after it, if there is one
abbrev pub parted : Stop → List ℕ → Option (List ℕ × List ℕ)
parted s w = option_map (λ k. (take k w, drop (k + 1) w)) (position (stops s) w)

-- a line without its comment
abbrev pub uncommented : List ℕ → List ℕ
uncommented line = before_first (λ c. c == 35) line

-- the text from its first word on
abbrev pub from_word : List ℕ → List ℕ
from_word text = drop (position_or_len (λ c. not (blank c)) text) text

-- the first word of a text that begins with it, and what follows it
abbrev word_here : List ℕ → Option (List ℕ)
word_here text = cond (position_or_len blank text == 0) None (Some (before_first blank text))

abbrev pub first_word : List ℕ → Option (List ℕ)
first_word text = word_here (from_word text)

abbrev pub after_word : List ℕ → List ℕ
after_word text = drop (position_or_len blank (from_word text)) (from_word text)
