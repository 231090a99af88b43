-- Along any calls of a link the directions stay, and so does the numbering without gaps.
use Rattle.std.proofs.Common.{◌≡◌, ℕ, zero, suc, List, Option, sym, ap, ◌∙◌, subst, inl, inr}
use Rattle.std.proofs.lemmas.Bool.{cases_eq}
use Rattle.link.specs.declared.term.Window.{Window}
use Rattle.link.specs.declared.answers.PollAnswer.{PollAnswer}
use Rattle.link.specs.declared.answers.Collected.{Collected}
use Rattle.link.specs.Meaning.{Pipe, direction, Only, Restarts, Polls, Fetches, Sends, Collects}
use Rattle.link.specs.Steps.{Step, restart, poll, fetch, send, collect, DescribesAlike, StaysGapless}
use Rattle.link.proofs.Alike.{restart_alike, poll_alike, fetch_alike, send_alike, collect_alike, alike_gapless}

-- pipe p keeps its direction and the others their meaning, so all keep their directions
all_alike : (m n : ℕ → Pipe) (p : ℕ) → direction (n p) ≡ direction (m p) → Only p m n → (q : ℕ) → direction (n q) ≡ direction (m q)
all_alike m n p e only q = elim (cases_eq q p) [
  | inl y ↦ subst (λ v. direction (n v) ≡ direction (m v)) (sym y) e
  | inr y ↦ ap direction (only q y)
]

module _ (S : Type 0) (meaning : S → ℕ → Pipe)
    (restarted : S → ℕ → Window → S → Type 0) (polled : S → ℕ → ℕ → PollAnswer → S → Type 0)
    (fetched : S → ℕ → ℕ → Option (List ℕ) → S → Type 0) (sent : S → ℕ → ℕ → List ℕ → S → Type 0)
    (collected : S → ℕ → Collected → S → Type 0)
    (restarting : (s t : S) (p : ℕ) (w : Window) → restarted s p w t → Restarts (meaning s p) w (meaning t p) × Only p (meaning s) (meaning t))
    (polling : (s t : S) (p b : ℕ) (a : PollAnswer) → polled s p b a t → Polls (meaning s p) b a (meaning t p) × Only p (meaning s) (meaning t))
    (fetching : (s t : S) (p i : ℕ) (a : Option (List ℕ)) → fetched s p i a t → Fetches (meaning s p) i a (meaning t p) × Only p (meaning s) (meaning t))
    (sending : (s t : S) (p n : ℕ) (b : List ℕ) → sent s p n b t → Sends (meaning s p) n b (meaning t p) × Only p (meaning s) (meaning t))
    (collecting : (s t : S) (p : ℕ) (a : Collected) → collected s p a t → Collects (meaning s p) a (meaning t p) × Only p (meaning s) (meaning t)) where
  step_alike : (s t : S) → Step S meaning restarted polled fetched sent collected s t → (q : ℕ) → direction (meaning t q) ≡ direction (meaning s q)
  step_alike s t (restart p w h) = let x = restarting s t p w h in all_alike (meaning s) (meaning t) p (restart_alike _ w _ x.0) x.1
  step_alike s t (poll p b a h) = let x = polling s t p b a h in all_alike (meaning s) (meaning t) p (poll_alike _ b a _ x.0) x.1
  step_alike s t (fetch p i a h) = let x = fetching s t p i a h in all_alike (meaning s) (meaning t) p (fetch_alike _ i a _ x.0) x.1
  step_alike s t (send p n b h) = let x = sending s t p n b h in all_alike (meaning s) (meaning t) p (send_alike _ n b _ x.0) x.1
  step_alike s t (collect p a h) = let x = collecting s t p a h in all_alike (meaning s) (meaning t) p (collect_alike _ a _ x.0) x.1

  pub always_alike : DescribesAlike S meaning restarted polled fetched sent collected
  always_alike zero s t h p = ap (λ v. direction (meaning v p)) h
  always_alike (suc n) s t h p = always_alike n h.0 t h.2 p ∙ step_alike s h.0 h.1 p

  pub always_gapless : StaysGapless S meaning restarted polled fetched sent collected
  always_gapless n s t h = alike_gapless (meaning s) (meaning t) (always_alike n s t h)
