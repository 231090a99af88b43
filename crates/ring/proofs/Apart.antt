-- Fewer than n places in a row of a ring of n are all different.
use Rattle.std.proofs.Common.{◌≡◌, ℕ, zero, suc, ◌+◌, ◌-◌, ◌%◌, ◌<◌, ◌≤◌, sym, ap, ◌∙◌, inl, inr, add-zero, mod-lt, mod-eq_of_lt, arith}
use native.Mathlib.Nat.{mod-add-mod, mod-eq-sub-mod}
use Rattle.std.proofs.lemmas.Bool.{cases_lt}
use Rattle.ring.specs.Rings.{places, Avoids, Apart}

-- two numbers less than n apart differ modulo n
pub mod_apart : (n x d : ℕ) → 0 < d → d < n → (x + d) % n ≡ x % n → ⊥
mod_apart n x d pos lt e =
    let r = x % n in
    let below : x % n < n = mod-lt x (omega arith) in
    let s : (x % n + d) % n ≡ x % n = mod-add-mod x n d ∙ e in
    elim (cases_lt (x % n + d) n) [
      | inl h ↦ let t : x % n + d ≡ x % n = sym (mod-eq_of_lt h) ∙ s in omega arith
      | inr h ↦
          let small : x % n + d - n < n = omega arith in
          let t : x % n + d - n ≡ x % n = sym (mod-eq_of_lt small) ∙ sym (mod-eq-sub-mod h) ∙ s in
          omega arith
    ]

avoid_from : (n g k p : ℕ) → ((i : ℕ) → i < k → (g + i) % n ≡ p → ⊥) → Avoids p (places n g k)
avoid_from n g zero p h = tt
avoid_from n g (suc k) p h =
    ((λ e. h 0 (omega arith) (ap (λ x. x % n) (add-zero g) ∙ e)), avoid_from n (suc g) k p (λ i lt e. h (suc i) (omega arith) (ap (λ x. x % n) (let q : g + suc i ≡ suc g + i = omega arith in q) ∙ e)))

-- the place that is taken next is not in use
pub next_avoids : (n f k : ℕ) → k < n → Avoids ((f + k) % n) (places n f k)
next_avoids n f k lt =
    avoid_from n f k ((f + k) % n) (λ i h e. let q : f + i + (k - i) ≡ f + k = omega arith in mod_apart n (f + i) (k - i) (omega arith) (omega arith) (ap (λ x. x % n) q ∙ sym e))

-- the oldest place is not in use again
pub first_avoids : (n f k : ℕ) → k < n → Avoids (f % n) (places n (suc f) k)
first_avoids n f k lt =
    avoid_from n (suc f) k (f % n) (λ i h e. let q : suc f + i ≡ f + suc i = omega arith in mod_apart n f (suc i) (omega arith) (omega arith) (ap (λ x. x % n) (sym q) ∙ e))

pub places_apart : (n f k : ℕ) → k ≤ n → Apart (places n f k)
places_apart n f zero h = tt
places_apart n f (suc k) h = (first_avoids n f k (omega arith), places_apart n (suc f) k (omega arith))
