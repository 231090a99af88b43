-- Remainders that are equal within one turn.
use Rattle.std.proofs.Common.{◌≡◌, ℕ, ◌+◌, ◌-◌, ◌%◌, ◌<◌, ◌≤◌, sym, ap, ◌∙◌, inl, inr, mod-lt, mod-eq_of_lt, arith}
use native.Mathlib.Nat.{mod-add-mod, mod-eq-sub-mod}
use Rattle.std.proofs.lemmas.Bool.{cases_lt}

-- a sum of two numbers, one reduced, wraps at most once
pub mod_wrap : (M x k : ℕ) → x < M → k < M → (x + k) % M ≡ x → k ≡ 0
mod_wrap M x k hx hk e =
    elim (cases_lt (x + k) M) [
      | inl l ↦ omega (arith, mod-eq_of_lt l)
      | inr g ↦
          (let l : x + k - M < M = omega arith in
          omega (arith, mod-eq-sub-mod g, mod-eq_of_lt l))
    ]

-- equal remainders within one turn are of one number
pub mod_same : (M a b : ℕ) → a ≤ b → b < a + M → a % M ≡ b % M → a ≡ b
mod_same M a b l h e =
    let p : 0 < M = omega arith in
    let k : b - a < M = omega arith in
    let s : a + (b - a) ≡ b = omega arith in
    let w : (a % M + (b - a)) % M ≡ a % M = mod-add-mod a M (b - a) ∙ ap (λ x. x % M) s ∙ sym e in
    omega (arith, mod_wrap M (a % M) (b - a) (mod-lt a p) k w)
