-- A vector made bit by bit.
use Rattle.std.proofs.Common.{◌≡◌, ℕ, ◌+◌, ◌*◌, ◌%◌, ◌^◌, ◌<◌, ◌≤◌, true, false, List, is_some, Some, None, Option, sym, refl, ap, ◌∙◌, subst, inl, inr, add-zero, pow-suc, add-one, arith, MatchOption}
use Rattle.std.proofs.lemmas.Nat.{one_shl}
use Rattle.std.proofs.lemmas.Bool.{both_ways, cases_lt, cases_order}
use Rattle.link.specs.declared.term.Window.{Window}
use Rattle.window.specs.Numbers.{bit}
use Rattle.window.proofs.Bits.{bit_low, bit_high, bit_past}
use Rattle.link.specs.Meaning.{Bit, Meant}

-- one bit more on top leaves those below it
under_top : (v k s : ℕ) → s < k → bit (v + 2 ^ k) s ≡ bit v s
under_top v k s h = ap (λ x. bit x s) (let e : v + 2 ^ k ≡ 1 * 2 ^ k + v = omega arith in e) ∙ bit_low 1 k v s h

top : (v k : ℕ) → v < 2 ^ k → bit (v + 2 ^ k) k ≡ 1
top v k h =
    ap (λ x. bit x k) (let e : v + 2 ^ k ≡ 1 * 2 ^ k + v = omega arith in e)
    ∙ ap (bit (1 * 2 ^ k + v)) (sym (add-zero k)) ∙ bit_high 1 k v 0 h

past_top : (v k s : ℕ) → v < 2 ^ k → k ≤ s → Bit v s → ⊥
past_top v k s h l b = omega (arith, bit_past v k s h l)

twice : (k : ℕ) → 2 ^ (k + 1) ≡ 2 ^ k + 2 ^ k
twice k = ap (λ n. 2 ^ n) (add-one k) ∙ pow-suc 2 k ∙ (let e : 2 ^ k * 2 ≡ 2 ^ k + 2 ^ k = omega arith in e)

-- the bits below s are right, and there are no others
pub record Upto (w : Window) (f : ℕ) (early : ℕ → Option (List ℕ)) (n v : ℕ) : Type 0 where
  pub small : v < 2 ^ n
  pub set : (s j : ℕ) → s < n → Meant w f early s j → Bit v s
  pub only : (s : ℕ) → Bit v s → (j : ℕ) × Meant w f early s j

module _ (w : Window) (f : ℕ) (early : ℕ → Option (List ℕ)) where
  pub upto_set : (n v j : ℕ) → Upto w f early n v → Meant w f early n j → Upto w f early (n + 1) (v + 2 ^ n)
  upto_set n v j u m = record {
    small = omega (arith, u.small, twice n);
    set = λ s i l k. elim (cases_lt s n) [
      | inl x ↦ under_top v n s x ∙ u.set s i x k
      | inr x ↦ (let e : s ≡ n = omega arith in subst (λ t. Bit (v + 2 ^ n) t) (sym e) (top v n u.small))
    ];
    only = λ s b. elim (cases_order s n) [
      | inl e ↦ (j, subst (λ t. Meant w f early t j) (sym e) m)
      | inr o ↦ elim o [
        | inl x ↦ u.only s (sym (under_top v n s x) ∙ b)
        | inr x ↦ absurd (past_top (v + 2 ^ n) (n + 1) s (omega (arith, u.small, twice n)) (omega arith) b)
      ]
    ];
  }

  pub upto_skip : (n v : ℕ) → Upto w f early n v → ((j : ℕ) → Meant w f early n j → ⊥) → Upto w f early (n + 1) v
  upto_skip n v u m = record {
    small = omega (arith, u.small, twice n);
    set = λ s i l k. elim (cases_lt s n) [
      | inl x ↦ u.set s i x k
      | inr x ↦ (let e : s ≡ n = omega arith in absurd (m i (subst (λ t. Meant w f early t i) e k)))
    ];
    only = u.only;
  }

  -- as a loop finds it
  pub upto_then : (n v v' : ℕ) (r : Option ℕ) → MatchOption r ((j : ℕ) → Meant w f early n j → ⊥) (λ j. Meant w f early n j) → is_some r ≡ true
      → Upto w f early n v → v' ≡ v + 1 * 2 ^ n % 2 ^ 32 → n < 32 → Upto w f early (n + 1) v'
  upto_then n v v' None x h u q l = absurd (both_ways false refl h)
  upto_then n v v' (Some j) x h u q l = subst (λ t. Upto w f early (n + 1) t) (sym (q ∙ ap (λ t. v + t) (one_shl n 32 l))) (upto_set n v j u x)

  pub upto_else : (n v v' : ℕ) (r : Option ℕ) → MatchOption r ((j : ℕ) → Meant w f early n j → ⊥) (λ j. Meant w f early n j) → is_some r ≡ false
      → Upto w f early n v → v' ≡ v → Upto w f early (n + 1) v'
  upto_else n v v' None x h u q = subst (λ t. Upto w f early (n + 1) t) (sym q) (upto_skip n v u x)
  upto_else n v v' (Some j) x h u q = absurd (both_ways true h refl)
