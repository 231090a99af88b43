-- A layer's steps, and the clauses that they meet.
use Rattle.std.specs.Prelude.{◌≡◌, ℕ, Bool, true, false, MatchBool}
use Rattle.std.proofs.Common.{sym, subst, ap}
use Rattle.link.specs.Meaning.{Pipe}
use Rattle.link.specs.Meets.{Meets}
use Rattle.layers.specs.declared.pattern.Pattern.{Pattern}
use Rattle.layers.specs.declared.layer.Layer.{Layer}
use Rattle.layers.specs.Patterns.{TakesIf, next_bit}

-- A call that takes a bit or none: a step F of the link below if it passes down; if it stops at the layer, that link stays, and N holds.
abbrev pub Steps : {X Y : Type 0} → Bool → (X → X → Type 0) → Type 0 → Layer X Y → Layer X Y → Type 0
Steps takes F N s t = TakesIf takes s.pattern t.pattern ((t.below ≡ s.below) × N) (F s.below t.below)

module _ {X : Type 0} (m : X → ℕ → Pipe) (C : Pipe → Pipe → Type 0) (p : ℕ) (N R : Type 0) (s t : X) (passes : R → Meets C p (m s) (m t)) (stops : N → (q : Pipe) → C q q) where
  by_bit : (b : Bool) → MatchBool b ((t ≡ s) × N) R → Meets C p (m s) (m t)
  by_bit true h = (subst (λ v. C (m s p) (m v p)) (sym h.0) (stops h.1 (m s p)), λ j _. ap (λ v. m v j) h.0)
  by_bit false h = passes h

  by_kind : (takes : Bool) (x y : Pattern) → TakesIf takes x y ((t ≡ s) × N) R → Meets C p (m s) (m t)
  by_kind true x y h = by_bit (next_bit x) h.0
  by_kind false x y h = passes h.0

-- such a step meets a clause if the step below does, and if the clause lets every pipe stay where the call stops
pub steps_meet : {X Y : Type 0} (m : X → ℕ → Pipe) (C : Pipe → Pipe → Type 0) (p : ℕ) (takes : Bool) (F : X → X → Type 0) (N : Type 0)
    → ((x t : X) → F x t → Meets C p (m x) (m t)) → (N → (q : Pipe) → C q q)
    → (s t : Layer X Y) → Steps takes F N s t → Meets C p (m s.below) (m t.below)
steps_meet m C p takes F N passes stops s t h = by_kind m C p N (F s.below t.below) s.below t.below (passes s.below t.below) stops takes s.pattern t.pattern h
