-- Every clause keeps a pipe's direction.
use Rattle.std.proofs.Common.{◌≡◌, ℕ, Bool, true, false, cond, ◌⊎◌, List, Some, None, Option, sym, refl, ap, ◌∙◌, inl, inr, arith}
use Rattle.link.specs.declared.term.Window.{Window}
use Rattle.link.specs.declared.answers.Direction.TheVariants.{Inward, Outward}
use Rattle.link.specs.declared.answers.PollAnswer.{PollAnswer}
use Rattle.link.specs.declared.answers.PollAnswer.TheVariants.{Data, NotReady, Stall, Silence}
use Rattle.link.specs.declared.answers.Collected.{Collected}
use Rattle.link.specs.Meaning.{In, Out, Pipe, absent, inward, outward, direction, begun, admits, Restarts, Moves, Polls, Fetches, Sends, Keeps, Collects, Gapless}

begun_alike : (x : Pipe) (w : Window) → direction (begun x w) ≡ direction x
begun_alike absent w = refl
begun_alike (inward i) w = refl
begun_alike (outward o) w = refl

pub restart_alike : (x : Pipe) (w : Window) (y : Pipe) → Restarts x w y → direction y ≡ direction x
restart_alike x w y h = ap direction h ∙ at (admits x w)
  where
    at : (b : Bool) → direction (cond b (begun x w) x) ≡ direction x
    at true = begun_alike x w
    at false = refl

moves_alike : (n : Option Window) (i : In) (b : ℕ) (y : Pipe) → Moves n i b y → direction y ≡ Some Inward
moves_alike None i b y h = absurd h
moves_alike (Some w) i b y h = ap direction h.3

stays_alike : (i : In) (b : ℕ) (y : Pipe) → (y ≡ inward i) ⊎ Moves i.numbers i b y → direction y ≡ Some Inward
stays_alike i b y (inl h) = ap direction h
stays_alike i b y (inr h) = moves_alike i.numbers i b y h

pub poll_alike : (x : Pipe) (b : ℕ) (a : PollAnswer) (y : Pipe) → Polls x b a y → direction y ≡ direction x
poll_alike absent b Data y h = absurd h
poll_alike absent b NotReady y h = ap direction h
poll_alike absent b Stall y h = ap direction h
poll_alike absent b Silence y h = ap direction h
poll_alike (inward i) b Data y h = moves_alike i.numbers i b y h
poll_alike (inward i) b NotReady y h = stays_alike i b y h
poll_alike (inward i) b Stall y h = stays_alike i b y h
poll_alike (inward i) b Silence y h = stays_alike i b y h
poll_alike (outward o) b Data y h = absurd h
poll_alike (outward o) b NotReady y h = ap direction h
poll_alike (outward o) b Stall y h = ap direction h
poll_alike (outward o) b Silence y h = ap direction h

pub fetch_alike : (x : Pipe) (i : ℕ) (a : Option (List ℕ)) (y : Pipe) → Fetches x i a y → direction y ≡ direction x
fetch_alike x i a y h = ap direction h.1

keeps_alike : (n : Option Window) (o : Out) (s : ℕ) (b : List ℕ) (y : Pipe) → Keeps n o s b y → direction y ≡ Some Outward
keeps_alike None o s b y h = absurd h
keeps_alike (Some w) o s b y h = ap direction h.5

pub send_alike : (x : Pipe) (s : ℕ) (b : List ℕ) (y : Pipe) → Sends x s b y → direction y ≡ direction x
send_alike absent s b y h = ap direction h
send_alike (inward i) s b y h = ap direction h
send_alike (outward o) s b y (inl h) = ap direction h
send_alike (outward o) s b y (inr h) = keeps_alike o.numbers o s b y h

pub collect_alike : (x : Pipe) (a : Collected) (y : Pipe) → Collects x a y → direction y ≡ direction x
collect_alike x a y h = ap direction h.1

lacking : (x y : Pipe) → direction y ≡ direction x → y ≡ absent → x ≡ absent
lacking absent y e h = refl
lacking (inward i) y e h = let q = ap direction h in let z : ◌≡◌ {A = ℕ} 0 1 = cc in absurd (let f : ⊥ = omega arith in f)
lacking (outward o) y e h = let q = ap direction h in let z : ◌≡◌ {A = ℕ} 0 1 = cc in absurd (let f : ⊥ = omega arith in f)

-- directions alike, so the same pipes are absent
pub alike_gapless : (m n : ℕ → Pipe) → ((q : ℕ) → direction (n q) ≡ direction (m q)) → Gapless m → Gapless n
alike_gapless m n e g a b l h = lacking (n b) (m b) (sym (e b)) (g a b l (lacking (m a) (n a) (e a) h))
