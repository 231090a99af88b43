-- What the lamp means as a link, and what each of its functions does.
use Rattle.std.specs.Prelude.{◌≡◌, ℕ, zero, suc, Bool, cond, ◌&&◌, List, [], ◌∷◌, length, Some, None, Option, ◌==◌}
use Rattle.link.specs.declared.term.Window.{Window}
use Rattle.link.specs.declared.answers.PollAnswer.{PollAnswer}
use Rattle.link.specs.declared.answers.PollAnswer.TheVariants as poll
use Rattle.link.specs.declared.answers.Collected.{Collected}
use Rattle.link.specs.declared.answers.Collected.TheVariants as collected
use Rattle.link.specs.Bounds.{sound}
use Rattle.link.specs.Meaning.{Out, Vector}

-- the packets taken: one of the byte that it shows, if it shows one
abbrev pub shown : Option ℕ → List (List ℕ)
shown None = []
shown (Some b) = (b ∷ []) ∷ []

-- its pipe; nothing is ever early
abbrev pub lamp : Option Window → Option ℕ → Out
lamp w s = record { numbers = w; taken = shown s; early = λ j. None }

-- Restart with sound numbers makes it dark.
abbrev pub RestartedLamp : Out → ℕ → Window → Out → Type 0
RestartedLamp o zero w q = q ≡ cond (sound w) (lamp (Some w) None) o
RestartedLamp o (suc p) w q = q ≡ o

-- an outward pipe gives nothing
abbrev pub PolledLamp : Out → PollAnswer → Out → Type 0
PolledLamp o a q = (a ≡ poll.Stall) × (q ≡ o)

abbrev pub FetchedLamp : Out → Option (List ℕ) → Out → Type 0
FetchedLamp o a q = (a ≡ None) × (q ≡ o)

-- packet 0 of a term is kept if it has one byte; a packet that follows is dropped
abbrev pub keeps : List (List ℕ) → ℕ → List ℕ → Bool
keeps taken s b = length taken == 0 && s == 0 && length b == 1

abbrev pub SentAt : Option Window → Out → ℕ → List ℕ → Out → Type 0
SentAt None o s b q = q ≡ o
SentAt (Some w) o s b q = q ≡ cond (keeps o.taken s b) (record { numbers = o.numbers; taken = b ∷ []; early = o.early }) o

abbrev pub SentLamp : Out → ℕ → ℕ → List ℕ → Out → Type 0
SentLamp o zero s b q = SentAt o.numbers o s b q
SentLamp o (suc p) s b q = q ≡ o

-- it always tells the vector, once a term began
abbrev pub ToldAt : Option Window → Out → Collected → Type 0
ToldAt None o a = a ≡ collected.Stall
ToldAt (Some w) o a = (v : ℕ) × Vector w (length o.taken) o.early v × (a ≡ collected.Vector v)

abbrev pub CollectedLamp : Out → ℕ → Collected → Out → Type 0
CollectedLamp o zero a q = ToldAt o.numbers o a × (q ≡ o)
CollectedLamp o (suc p) a q = (a ≡ collected.Stall) × (q ≡ o)
