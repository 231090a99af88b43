-- What holds of every link along any calls: what Describe answers never changes, and pipes without gaps stay so.
use Rattle.std.specs.Prelude.{◌≡◌, ℕ, zero, suc, List, Option}
use Rattle.link.specs.declared.term.Window.{Window}
use Rattle.link.specs.declared.answers.PollAnswer.{PollAnswer}
use Rattle.link.specs.declared.answers.Collected.{Collected}
use Rattle.link.specs.Meaning.{Pipe, direction, Gapless}

module _ (S : Type 0) (meaning : S → ℕ → Pipe)
    (restarted : S → ℕ → Window → S → Type 0) (polled : S → ℕ → ℕ → PollAnswer → S → Type 0)
    (fetched : S → ℕ → ℕ → Option (List ℕ) → S → Type 0) (sent : S → ℕ → ℕ → List ℕ → S → Type 0)
    (collected : S → ℕ → Collected → S → Type 0) where
  -- one call that may change the link
  pub data Step (s t : S) : Type 0 where
    restart : (p : ℕ) (w : Window) → restarted s p w t → Step s t
    poll : (p b : ℕ) (a : PollAnswer) → polled s p b a t → Step s t
    fetch : (p i : ℕ) (a : Option (List ℕ)) → fetched s p i a t → Step s t
    send : (p n : ℕ) (b : List ℕ) → sent s p n b t → Step s t
    collect : (p : ℕ) (a : Collected) → collected s p a t → Step s t

  -- n calls one after another
  abbrev pub Steps : ℕ → S → S → Type 0
  Steps zero s t = t ≡ s
  Steps (suc n) s t = (m : S) × Step s m × Steps n m t

  -- after any calls each pipe is described as before
  abbrev pub DescribesAlike : Type 0
  DescribesAlike = (n : ℕ) (s t : S) → Steps n s t → (p : ℕ) → direction (meaning t p) ≡ direction (meaning s p)

  -- after any calls the pipes have no gaps if they had none
  abbrev pub StaysGapless : Type 0
  StaysGapless = (n : ℕ) (s t : S) → Steps n s t → Gapless (meaning s) → Gapless (meaning t)
