-- That nothing happens meets every clause but Restart's.
use Rattle.std.proofs.Common.{ℕ, List, None, refl, inl}
use Rattle.link.specs.declared.answers.PollAnswer.TheVariants.{Silence, NotReady, Stall}
use Rattle.link.specs.declared.answers.Collected.TheVariants as collected
use Rattle.link.specs.Quiet.{QuietLawful}
use Rattle.link.specs.Meaning.{Pipe, absent, inward, outward, Polls, Fetches, Sends, Collects}

pub quiet_poll : (p : Pipe) (b : ℕ) → Polls p b Silence p
quiet_poll absent b = refl
quiet_poll (inward i) b = inl refl
quiet_poll (outward o) b = refl

pub busy_poll : (p : Pipe) (b : ℕ) → Polls p b NotReady p
busy_poll absent b = refl
busy_poll (inward i) b = inl refl
busy_poll (outward o) b = refl

pub lost_fetch : (p : Pipe) (i : ℕ) → Fetches p i None p
lost_fetch p i = (tt, refl)

pub lost_send : (p : Pipe) (n : ℕ) (b : List ℕ) → Sends p n b p
lost_send absent n b = refl
lost_send (inward i) n b = refl
lost_send (outward o) n b = inl refl

pub quiet_collect : (p : Pipe) → Collects p collected.Silence p
quiet_collect p = (tt, refl)

pub busy_collect : (p : Pipe) → Collects p collected.NotReady p
busy_collect p = (tt, refl)

pub stalled_poll : (p : Pipe) (b : ℕ) → Polls p b Stall p
stalled_poll absent b = refl
stalled_poll (inward i) b = inl refl
stalled_poll (outward o) b = refl

pub stalled_collect : (p : Pipe) → Collects p collected.Stall p
stalled_collect p = (tt, refl)

pub quiet_lawful : QuietLawful
quiet_lawful p = record {
  poll_silent = quiet_poll p;
  poll_busy = busy_poll p;
  poll_stalled = stalled_poll p;
  lost = lost_fetch p;
  vanished = lost_send p;
  collect_silent = quiet_collect p;
  collect_busy = busy_collect p;
  collect_stalled = stalled_collect p;
}
