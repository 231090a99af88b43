-- A sink's pipe with its space, and what each call answers and does to it.
use Rattle.std.specs.Prelude.{◌≡◌, ℕ, zero, suc, ◌^◌, ◌<◌, ◌≤◌, min, Bool, true, false, cond, List, [], length, Some, None, Option}
use Rattle.link.specs.declared.term.Window.{Window}
use Rattle.link.specs.declared.answers.PollAnswer.{PollAnswer}
use Rattle.link.specs.declared.answers.PollAnswer.TheVariants as poll
use Rattle.link.specs.declared.answers.Collected.{Collected}
use Rattle.link.specs.declared.answers.Collected.TheVariants as collected
use Rattle.link.specs.Bounds.{sound}
use Rattle.link.specs.Meaning.{Out, Meant, Kept, Vector}
use Rattle.link.specs.Terms.{bytes_of}
use Rattle.devices.specs.declared.since.Since.{Since}
use Rattle.devices.specs.declared.since.Since.TheVariants.{Nothing, Lacking, Otherwise}
use Rattle.devices.specs.Since.{lacked_one}
use Rattle.devices.specs.Taken.{lacks}

-- A sink's pipe: whether the sink gathers early packets, the pipe's meaning, the space for bytes and for packet lengths, and what the Sends
-- since the last Collect or Restart came to.
pub record SinkPipe : Type 0 where
  pub gathers : Bool
  pub out : Out
  pub space : ℕ
  pub most : ℕ
  pub since : Since

-- the same sink with another memory of its Sends
abbrev pub noted : Since → SinkPipe → SinkPipe
noted since k = record { gathers = k.gathers; out = k.out; space = k.space; most = k.most; since = since }

-- packet j of n bytes lacks space
abbrev pub short : Window → SinkPipe → ℕ → ℕ → Bool
short w k j n = lacks k.space k.most w.packet (bytes_of k.out.taken) (length k.out.taken) j n

-- a sink before its first Restart, with space for so many bytes and packet lengths, at most what a term may have
abbrev pub unused : Bool → ℕ → ℕ → SinkPipe
unused gathers space most =
    record { gathers = gathers; out = record { numbers = None; taken = []; early = λ j. None }; space = min space (2 ^ 24); most = min most (2 ^ 25); since = Nothing }

-- Restart: all is free again
abbrev pub fresh : Window → SinkPipe → SinkPipe
fresh w k =
    record { gathers = k.gathers; out = record { numbers = Some w; taken = []; early = λ j. None }; space = k.space; most = k.most; since = Nothing }

-- with sound numbers only, and on its own pipe only
abbrev pub SinkRestarted : SinkPipe → ℕ → Window → SinkPipe → Type 0
SinkRestarted k zero w l = l ≡ cond (sound w) (fresh w k) k
SinkRestarted k (suc p) w l = l ≡ k

-- an outward pipe gives nothing: Stall, and Lost
abbrev pub SinkPolled : SinkPipe → ℕ → ℕ → PollAnswer → SinkPipe → Type 0
SinkPolled k p b a l = (a ≡ poll.Stall) × (l ≡ k)

abbrev pub SinkFetched : SinkPipe → ℕ → ℕ → Option (List ℕ) → SinkPipe → Type 0
SinkFetched k p i a l = (a ≡ None) × (l ≡ k)

-- A Send, by the packet j that its number stands for: there is none, or it has too many bytes; j lacks space; j is ahead of order and the sink
-- keeps only packet f; j is kept. The plain sink keeps packet f only, the gathering sink also early ones.
pub data Sent (w : Window) (k : SinkPipe) (s : ℕ) (b : List ℕ) (l : SinkPipe) : Type 0 where
  nowhere : ((j : ℕ) → Meant w (length k.out.taken) k.out.early s j → length b ≤ w.packet → ⊥)
      → l ≡ noted Otherwise k → Sent w k s b l
  lacking : (j : ℕ) → Meant w (length k.out.taken) k.out.early s j → length b ≤ w.packet → short w k j (length b) ≡ true
      → l ≡ noted (lacked_one k.since) k → Sent w k s b l
  dropped : (j : ℕ) → Meant w (length k.out.taken) k.out.early s j → length b ≤ w.packet → short w k j (length b) ≡ false
      → k.gathers ≡ false → length k.out.taken < j → l ≡ noted Otherwise k → Sent w k s b l
  kept : (j : ℕ) → Meant w (length k.out.taken) k.out.early s j → length b ≤ w.packet → short w k j (length b) ≡ false
      → (k.gathers ≡ false → j ≡ length k.out.taken) → Kept k.out j b l.out
      → l.gathers ≡ k.gathers → l.space ≡ k.space → l.most ≡ k.most → l.since ≡ Otherwise → Sent w k s b l

-- before the first Restart there is no Send
abbrev pub SentIn : Option Window → SinkPipe → ℕ → List ℕ → SinkPipe → Type 0
SentIn None k s b l = l ≡ k
SentIn (Some w) k s b l = Sent w k s b l

abbrev pub SinkSent : SinkPipe → ℕ → ℕ → List ℕ → SinkPipe → Type 0
SinkSent k zero s b l = SentIn k.out.numbers k s b l
SinkSent k (suc p) s b l = l ≡ k

-- NotReady exactly when there was a Send since the last Collect or Restart and each lacked space; otherwise the vector.
abbrev pub Answers : Since → Window → Out → Collected → Type 0
Answers Lacking w o a = a ≡ collected.NotReady
Answers Nothing w o a = (v : ℕ) × Vector w (length o.taken) o.early v × (a ≡ collected.Vector v)
Answers Otherwise w o a = (v : ℕ) × Vector w (length o.taken) o.early v × (a ≡ collected.Vector v)

-- a Collect forgets the Sends before it; before the first Restart it is Stall
abbrev pub CollectedIn : Option Window → SinkPipe → Collected → SinkPipe → Type 0
CollectedIn None k a l = (a ≡ collected.Stall) × (l ≡ k)
CollectedIn (Some w) k a l = Answers k.since w k.out a × (l ≡ noted Nothing k)

abbrev pub SinkCollected : SinkPipe → ℕ → Collected → SinkPipe → Type 0
SinkCollected k zero a l = CollectedIn k.out.numbers k a l
SinkCollected k (suc p) a l = (a ≡ collected.Stall) × (l ≡ k)
