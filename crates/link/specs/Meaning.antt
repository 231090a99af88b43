-- The meaning of a pipe, and what each function of a link may do to it.
use Rattle.std.specs.Prelude.{◌≡◌, ℕ, zero, suc, ◌+◌, ◌<◌, ◌≤◌, Bool, cond, ◌⊎◌, List, [], length, take, Some, None, Option, ◌==◌, ◌≢◌, nat_lt, slice_index_or}
use Rattle.window.specs.Numbers as numbers
use Rattle.link.specs.declared.term.Window.{Window}
use Rattle.link.specs.declared.answers.Direction.{Direction}
use Rattle.link.specs.declared.answers.Direction.TheVariants.{Inward, Outward}
use Rattle.link.specs.declared.answers.PollAnswer.{PollAnswer}
use Rattle.link.specs.declared.answers.PollAnswer.TheVariants.{Data, NotReady, Stall, Silence}
use Rattle.link.specs.declared.answers.Collected.{Collected}
use Rattle.link.specs.declared.answers.Collected.TheVariants as collected
use Rattle.link.specs.Bounds.{sound}
use Rattle.link.specs.Text.{text_packets, rest}

-- An inward pipe: the numbers of its last Restart, if any; the text, the messages unsent at the term's start, and the place,
-- a count of packets known to be acknowledged.
pub record In : Type 0 where
  pub numbers : Option Window
  pub text : List (List ℕ)
  pub place : ℕ

-- An outward pipe: the numbers of its last Restart, if any; the packets accepted in order, f of them, and by their numbers those
-- accepted ahead of order.
pub record Out : Type 0 where
  pub numbers : Option Window
  pub taken : List (List ℕ)
  pub early : ℕ → Option (List ℕ)

-- What a pipe means. The link lacks an absent one.
pub data Pipe : Type 0 where
  absent : Pipe
  inward : In → Pipe
  outward : Out → Pipe

-- what Describe answers
abbrev pub direction : Pipe → Option Direction
direction absent = None
direction (inward _) = Some Inward
direction (outward _) = Some Outward

-- all pipes but pipe k mean what they meant
abbrev pub Only : ℕ → (ℕ → Pipe) → (ℕ → Pipe) → Type 0
Only k f g = (j : ℕ) → (j ≢ k) → g j ≡ f j

-- Restart

-- what was not acknowledged: the rest of a begun message, even empty, is a message
abbrev pub unacknowledged : Option Window → List (List ℕ) → ℕ → List (List ℕ)
unacknowledged None ms k = ms
unacknowledged (Some w) ms k = rest w.packet ms k

-- a term begins: place 0, taken and early empty, the text all that was unacknowledged
abbrev pub begun : Pipe → Window → Pipe
begun absent w = absent
begun (inward i) w = inward (record { numbers = Some w; text = unacknowledged i.numbers i.text i.place; place = 0 })
begun (outward o) w = outward (record { numbers = Some w; taken = []; early = λ j. None })

-- what a pipe admits at Restart: numbers within their bounds
abbrev pub admits : Pipe → Window → Bool
admits p w = sound w

-- Restart begins a term with numbers that the pipe admits; others change nothing.
abbrev pub Restarts : Pipe → Window → Pipe → Type 0
Restarts p w q = q ≡ cond (admits p w) (begun p w) p

-- Poll

-- bit s of a word is set
abbrev pub Bit : ℕ → ℕ → Type 0
Bit b s = numbers.Bit b s

-- a is the first packet number from k on whose bit is set, M being the sequence range
abbrev pub Aim : ℕ → ℕ → ℕ → ℕ → Type 0
Aim M b k a = numbers.Aim M b k a

-- the place is packet a
abbrev pub moved : In → ℕ → In
moved i a = record { numbers = i.numbers; text = i.text; place = a }

-- how many packets the text is
abbrev pub count : Window → In → ℕ
count w i = length (text_packets w.packet i.text)

-- The place is moved to the aim, which is not past the packet count. Bits at or above the range M never count.
abbrev pub Moves : Option Window → In → ℕ → Pipe → Type 0
Moves None i b q = ⊥
Moves (Some w) i b q = (a : ℕ) × Aim w.range b i.place a × (a ≤ count w i) × (q ≡ inward (moved i a))

-- Data moves the place to the aim; NotReady, Stall and Silence move it there or not. With no aim, or one past the packet count, there is
-- no Data and no change; nor is there on a pipe that is absent, outward or not yet restarted.
abbrev pub Polls : Pipe → ℕ → PollAnswer → Pipe → Type 0
Polls (inward i) b Data q = Moves i.numbers i b q
Polls (inward i) b NotReady q = (q ≡ inward i) ⊎ Moves i.numbers i b q
Polls (inward i) b Stall q = (q ≡ inward i) ⊎ Moves i.numbers i b q
Polls (inward i) b Silence q = (q ≡ inward i) ⊎ Moves i.numbers i b q
Polls absent b Data q = ⊥
Polls absent b NotReady q = q ≡ absent
Polls absent b Stall q = q ≡ absent
Polls absent b Silence q = q ≡ absent
Polls (outward o) b Data q = ⊥
Polls (outward o) b NotReady q = q ≡ outward o
Polls (outward o) b Stall q = q ≡ outward o
Polls (outward o) b Silence q = q ≡ outward o

-- Fetch

-- bs is packet place + i, with i below the burst; it exists, and all packets from the place on that come before it have P bytes
pub record Allowed (w : Window) (n : In) (i : ℕ) (bs : List ℕ) : Type 0 where
  pub burst : i < w.burst
  pub exists : n.place + i < count w n
  pub full : (j : ℕ) → j < i → length (slice_index_or (text_packets w.packet n.text) (n.place + j) []) ≡ w.packet
  pub is : bs ≡ slice_index_or (text_packets w.packet n.text) (n.place + i) []

-- nothing is given before the first Restart
abbrev pub MayGive : Option Window → In → ℕ → List ℕ → Type 0
MayGive None n i bs = ⊥
MayGive (Some w) n i bs = Allowed w n i bs

-- Lost is always allowed; a packet only of an inward pipe
abbrev pub Gives : Pipe → ℕ → Option (List ℕ) → Type 0
Gives p i None = Unit {0}
Gives absent i (Some bs) = ⊥
Gives (inward n) i (Some bs) = MayGive n.numbers n i bs
Gives (outward o) i (Some bs) = ⊥

-- Fetch changes no meaning.
abbrev pub Fetches : Pipe → ℕ → Option (List ℕ) → Pipe → Type 0
Fetches p i a q = Gives p i a × (q ≡ p)

-- Send

-- packet j is the one that number s stands for: one of f to f + W - 1, and not early
abbrev pub Meant : Window → ℕ → (ℕ → Option (List ℕ)) → ℕ → ℕ → Type 0
Meant w f early s j = numbers.Meant w.burst w.range f early s j

-- with packet j beside those there are
abbrev pub beside : ℕ → List ℕ → (ℕ → Option (List ℕ)) → ℕ → Option (List ℕ)
beside j b e k = cond (k == j) (Some b) (e k)

-- t follows from the packets taken, once those of e that follow unbroken are taken too
pub record Follows (taken : List (List ℕ)) (e : ℕ → Option (List ℕ)) (t : List (List ℕ)) : Type 0 where
  pub old : take (length taken) t ≡ taken
  pub more : (k : ℕ) → length taken ≤ k → k < length t → e k ≡ Some (slice_index_or t k [])
  pub stops : e (length t) ≡ None

-- The bytes are kept as packet j. If it is packet f, it is taken, with the early ones that follow unbroken; what is not taken is early.
pub record Kept (o : Out) (j : ℕ) (b : List ℕ) (q : Out) : Type 0 where
  pub numbers : q.numbers ≡ o.numbers
  pub taken : Follows o.taken (beside j b o.early) q.taken
  pub early : (k : ℕ) → q.early k ≡ cond (nat_lt k (length q.taken)) None (beside j b o.early k)

-- The bytes, at most P, are kept as the packet that the number stands for; nothing is kept before the first Restart.
abbrev pub Keeps : Option Window → Out → ℕ → List ℕ → Pipe → Type 0
Keeps None o s b q = ⊥
Keeps (Some w) o s b q = (j : ℕ) × (n : Out) × Meant w (length o.taken) o.early s j × (length b ≤ w.packet) × Kept o j b n × (q ≡ outward n)

-- Send: the bytes are dropped, or kept as the packet that the number stands for.
abbrev pub Sends : Pipe → ℕ → List ℕ → Pipe → Type 0
Sends absent s b q = q ≡ absent
Sends (inward i) s b q = q ≡ inward i
Sends (outward o) s b q = (q ≡ outward o) ⊎ Keeps o.numbers o s b q

-- Collect

-- the bits of f to f + W - 1 are set, except early ones, and no others
abbrev pub Vector : Window → ℕ → (ℕ → Option (List ℕ)) → ℕ → Type 0
Vector w f early v = numbers.Vector w.burst w.range f early v

-- no vector before the first Restart
abbrev pub Tells : Option Window → Out → ℕ → Type 0
Tells None o v = ⊥
Tells (Some w) o v = Vector w (length o.taken) o.early v

-- NotReady, Stall and Silence are always allowed; a vector only of an outward pipe
abbrev pub Shows : Pipe → Collected → Type 0
Shows p collected.NotReady = Unit {0}
Shows p collected.Stall = Unit {0}
Shows p collected.Silence = Unit {0}
Shows absent (collected.Vector v) = ⊥
Shows (inward i) (collected.Vector v) = ⊥
Shows (outward o) (collected.Vector v) = Tells o.numbers o v

-- Collect changes no meaning.
abbrev pub Collects : Pipe → Collected → Pipe → Type 0
Collects p a q = Shows p a × (q ≡ p)

-- The pipes are numbered from 0 without gaps.
abbrev pub Gapless : (ℕ → Pipe) → Type 0
Gapless f = (p q : ℕ) → p ≤ q → f p ≡ absent → f q ≡ absent

-- the pipes of a link that has one
abbrev pub solo : Pipe → ℕ → Pipe
solo q zero = q
solo q (suc k) = absent
