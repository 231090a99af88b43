-- The sinks' steps meet the clauses.
use Rattle.std.specs.Prelude.{◌≡◌, ℕ, zero, suc, Bool, true, false, cond, List, Some, None, Option, refl}
use Rattle.std.proofs.Common.{sym, ap, subst, ◌∙◌, inl, inr}
use Rattle.link.specs.declared.term.Window.{Window}
use Rattle.link.specs.declared.answers.PollAnswer.{PollAnswer}
use Rattle.link.specs.declared.answers.PollAnswer.TheVariants as poll
use Rattle.link.specs.declared.answers.Collected.{Collected}
use Rattle.link.specs.Bounds.{sound}
use Rattle.link.specs.Meaning.{Out, Pipe, absent, outward, solo, Only, Restarts, Polls, Fetches, Sends, Keeps, Collects, Shows, Tells}
use Rattle.link.specs.Optional.{still_absent}
use Rattle.link.proofs.Solo as one-pipe
use Rattle.devices.specs.declared.since.Since.{Since}
use Rattle.devices.specs.declared.since.Since.TheVariants.{Nothing, Lacking, Otherwise}
use Rattle.devices.specs.Sinking.{SinkPipe, Sent, nowhere, lacking, dropped, kept, SentIn, SinkSent, SinkRestarted, SinkPolled, SinkFetched, SinkCollected, CollectedIn, Answers, fresh}

abbrev pipe : SinkPipe → ℕ → Pipe
pipe k = solo (outward k.out)

only_zero : (k l : SinkPipe) → Only 0 (pipe k) (pipe l)
only_zero k l = one-pipe.only_zero (outward k.out) (outward l.out)

-- a step that changes nothing
pub unchanged : (C : Pipe → Pipe → Type 0) (k l : SinkPipe) (p : ℕ) → l ≡ k → C (pipe k p) (pipe k p) → C (pipe k p) (pipe l p) × Only p (pipe k) (pipe l)
unchanged C k l p e h = one-pipe.unchanged C (outward k.out) (outward l.out) p (ap (λ v. outward v.out) e) h

cond_out : (b : Bool) (x y : SinkPipe) → outward (cond b x y).out ≡ cond b (outward x.out) (outward y.out)
cond_out true x y = refl
cond_out false x y = refl

pub restart_law : (k l : SinkPipe) (p : ℕ) (w : Window) → SinkRestarted k p w l → Restarts (pipe k p) w (pipe l p) × Only p (pipe k) (pipe l)
restart_law k l zero w h = (ap (λ v. outward v.out) h ∙ cond_out (sound w) (fresh w k) k, only_zero k l)
restart_law k l (suc p) w h = unchanged (λ x y. Restarts x w y) k l (suc p) h (still_absent (sound w))

stall_poll : (k : SinkPipe) (p b : ℕ) → Polls (pipe k p) b poll.Stall (pipe k p)
stall_poll k zero b = refl
stall_poll k (suc p) b = refl

pub poll_law : (k l : SinkPipe) (p b : ℕ) (a : PollAnswer) → SinkPolled k p b a l → Polls (pipe k p) b a (pipe l p) × Only p (pipe k) (pipe l)
poll_law k l p b a h = unchanged (λ x y. Polls x b a y) k l p h.1 (subst (λ v. Polls (pipe k p) b v (pipe k p)) (sym h.0) (stall_poll k p b))

pub fetch_law : (k l : SinkPipe) (p i : ℕ) (a : Option (List ℕ)) → SinkFetched k p i a l → Fetches (pipe k p) i a (pipe l p) × Only p (pipe k) (pipe l)
fetch_law k l p i a h = unchanged (λ x y. Fetches x i a y) k l p h.1 (subst (λ v. Fetches (pipe k p) i v (pipe k p)) (sym h.0) (tt, refl))

sent_clause : (w : Window) (k l : SinkPipe) (s : ℕ) (b : List ℕ) → k.out.numbers ≡ Some w → Sent w k s b l → Sends (outward k.out) s b (outward l.out)
sent_clause w k l s b e (nowhere h q) = inl (ap (λ v. outward v.out) q)
sent_clause w k l s b e (lacking j m h x q) = inl (ap (λ v. outward v.out) q)
sent_clause w k l s b e (dropped j m h x y z q) = inl (ap (λ v. outward v.out) q)
sent_clause w k l s b e (kept j m h x y q o a c d) = inr (subst (λ v. Keeps v k.out s b (outward l.out)) (sym e) (j, l.out, m, h, q, refl))

sent_in : (n : Option Window) (k l : SinkPipe) (s : ℕ) (b : List ℕ) → k.out.numbers ≡ n → SentIn n k s b l → Sends (outward k.out) s b (outward l.out)
sent_in None k l s b e h = inl (ap (λ v. outward v.out) h)
sent_in (Some w) k l s b e h = sent_clause w k l s b e h

pub send_law : (k l : SinkPipe) (p s : ℕ) (b : List ℕ) → SinkSent k p s b l → Sends (pipe k p) s b (pipe l p) × Only p (pipe k) (pipe l)
send_law k l zero s b h = (sent_in k.out.numbers k l s b refl h, only_zero k l)
send_law k l (suc p) s b h = unchanged (λ x y. Sends x s b y) k l (suc p) h refl

answers_shows : (c : Since) (w : Window) (o : Out) (a : Collected) → o.numbers ≡ Some w → Answers c w o a → Shows (outward o) a
answers_shows Lacking w o a e h = subst (λ v. Shows (outward o) v) (sym h) tt
answers_shows Nothing w o a e h = subst (λ v. Shows (outward o) v) (sym h.2) (subst (λ v. Tells v o h.0) (sym e) h.1)
answers_shows Otherwise w o a e h = subst (λ v. Shows (outward o) v) (sym h.2) (subst (λ v. Tells v o h.0) (sym e) h.1)

collected_in : (n : Option Window) (k l : SinkPipe) (a : Collected) → k.out.numbers ≡ n → CollectedIn n k a l → Collects (outward k.out) a (outward l.out)
collected_in None k l a e h = (subst (λ v. Shows (outward k.out) v) (sym h.0) tt, ap (λ v. outward v.out) h.1)
collected_in (Some w) k l a e h = (answers_shows k.since w k.out a e h.0, ap (λ v. outward v.out) h.1)

pub collect_law : (k l : SinkPipe) (p : ℕ) (a : Collected) → SinkCollected k p a l → Collects (pipe k p) a (pipe l p) × Only p (pipe k) (pipe l)
collect_law k l zero a h = (collected_in k.out.numbers k l a refl h, only_zero k l)
collect_law k l (suc p) a h = unchanged (λ x y. Collects x a y) k l (suc p) h.1 (subst (λ v. Collects absent v absent) (sym h.0) (tt, refl))
