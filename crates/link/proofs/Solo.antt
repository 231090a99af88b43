-- A link of one pipe, numbered 0: what its step on that pipe means for the whole link.
use Rattle.std.proofs.Common.{◌≡◌, ℕ, zero, suc, ◌≤◌, sym, refl, ap, subst, arith}
use Rattle.link.specs.Meaning.{Pipe, absent, solo, Only, Gapless}
use Rattle.link.specs.Terms.{Bounded}

pub only_zero : (a b : Pipe) → Only 0 (solo a) (solo b)
only_zero a b zero h = absurd (h refl)
only_zero a b (suc j) h = refl

pub only_same : (p : ℕ) (a b : Pipe) → b ≡ a → Only p (solo a) (solo b)
only_same p a b e j h = ap (λ v. solo v j) e

-- a step that changes nothing
pub unchanged : (C : Pipe → Pipe → Type 0) (a b : Pipe) (p : ℕ) → b ≡ a → C (solo a p) (solo a p) → C (solo a p) (solo b p) × Only p (solo a) (solo b)
unchanged C a b p e h = (subst (λ v. C (solo a p) (solo v p)) (sym e) h, only_same p a b e)

pub above_one : (q : Pipe) (p : ℕ) → 32 ≤ p → solo q p ≡ absent
above_one q zero h = absurd (let x : ⊥ = omega arith in x)
above_one q (suc p) h = refl

pub bounds_one : (q : Pipe) → Bounded q → (p : ℕ) → Bounded (solo q p)
bounds_one q h zero = h
bounds_one q h (suc p) = tt

pub solo_gapless : (x : Pipe) → Gapless (solo x)
solo_gapless x zero zero l h = h
solo_gapless x zero (suc q) l h = refl
solo_gapless x (suc p) zero l h = absurd (let f : ⊥ = omega arith in f)
solo_gapless x (suc p) (suc q) l h = refl
