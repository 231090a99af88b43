-- The reader's pipe, and what each call answers and does to it.
use Rattle.std.specs.Prelude.{◌≡◌, ℕ, zero, suc, ◌<◌, ◌≤◌, cond, ◌⊎◌, List, Some, None, vec_items, Option, nat_lt}
use Rattle.link.specs.declared.term.Window.{Window}
use Rattle.link.specs.declared.answers.PollAnswer.{PollAnswer}
use Rattle.link.specs.declared.answers.PollAnswer.TheVariants.{Data, NotReady, Stall, Silence}
use Rattle.link.specs.Bounds.{sound}
use Rattle.link.specs.Numbered.{numbers_of}
use Rattle.link.specs.Meaning.{In, Aim, Allowed, unacknowledged, moved, count}
use Rattle.link.specs.declared.answers.Collected.{Collected}
use Rattle.link.specs.declared.answers.Collected.TheVariants as collected
use Rattle.reader.specs.declared.reader.Reader.{Reader}
use Rattle.reader.specs.Reading.{pipe_at}

-- the pipe of a reader
abbrev pub pipe_of : Reader → In
pipe_of r = pipe_at (numbers_of r.window) (vec_items r.text.bytes) (vec_items r.text.lengths) r.start r.place.number

-- the pipe of a reader that was given these messages, before its first Restart
abbrev pub given : List (List ℕ) → In
given ms = record { numbers = None; text = ms; place = 0 }

-- the messages that are unsent: all that is not acknowledged
abbrev pub unsent : In → List (List ℕ)
unsent i = unacknowledged i.numbers i.text i.place

-- Restart begins a term with sound numbers: the text is all that was unacknowledged. Other numbers, and other pipes, change nothing.
abbrev pub ReaderRestarted : In → ℕ → Window → In → Type 0
ReaderRestarted i zero w j = j ≡ cond (sound w) (record { numbers = Some w; text = unsent i; place = 0 }) i
ReaderRestarted i (suc p) w j = j ≡ i

-- Not restarted: Stall. Else NotReady after moving to the aim if no packet is left, else Data; Silence if there is no aim, or past the packets
abbrev pub PolledIn : Option Window → In → ℕ → PollAnswer → In → Type 0
PolledIn None i b a j = (a ≡ Stall) × (j ≡ i)
PolledIn (Some w) i b a j =
    ((a ≡ Silence) × (j ≡ i) × ((k : ℕ) → Aim w.range b i.place k → count w i < k))
    ⊎ ((k : ℕ) × Aim w.range b i.place k × (k ≤ count w i) × (a ≡ cond (nat_lt k (count w i)) Data NotReady) × (j ≡ moved i k))

abbrev pub ReaderPolled : In → ℕ → ℕ → PollAnswer → In → Type 0
ReaderPolled i zero b a j = PolledIn i.numbers i b a j
ReaderPolled i (suc p) b a j = (a ≡ Stall) × (j ≡ i)

-- no allowed packet is Lost; nothing is given before the first Restart
abbrev pub FetchedIn : Option Window → In → ℕ → Option (List ℕ) → Type 0
FetchedIn None i k a = a ≡ None
FetchedIn (Some w) i k None = (bs : List ℕ) → Allowed w i k bs → ⊥
FetchedIn (Some w) i k (Some bs) = Allowed w i k bs

abbrev pub ReaderFetched : In → ℕ → ℕ → Option (List ℕ) → In → Type 0
ReaderFetched i zero k a j = FetchedIn i.numbers i k a × (j ≡ i)
ReaderFetched i (suc p) k a j = (a ≡ None) × (j ≡ i)

-- an inward pipe takes nothing, and has no vector
abbrev pub ReaderSent : In → ℕ → ℕ → List ℕ → In → Type 0
ReaderSent i p n b j = j ≡ i

abbrev pub ReaderCollected : In → ℕ → Collected → In → Type 0
ReaderCollected i p a j = (a ≡ collected.Stall) × (j ≡ i)
