-- Bits of numbers: after shifts, masks, sums and a turn within M bits; and trailing zeros by bits.
use Rattle.std.proofs.Common.{◌≡◌, ℕ, zero, suc, ◌+◌, ◌-◌, ◌*◌, ◌/◌, ◌%◌, ◌^◌, ◌<◌, ◌≤◌, min, ◌⊎◌, sym, refl, ap, ◌∙◌, inl, inr, mod-eq_of_lt, add_comm, pow-suc, div-one, one-add, arith, pow_mono}
use native.Mathlib.Nat.{div-eq_of_lt, mul-add-mod_self_right, mod-eq-sub-mod}
use lib.Pow.{mod-mod-pow}
use lib.Count.{count_trailing_zeros, under}
use Rattle.std.proofs.lemmas.Nat.{pow-add, mul-add-lt, shr-shr, shr_high, field_of, pow_pos, shr_below}
use Rattle.std.proofs.lemmas.Bool.{cases_lt}
use Rattle.window.specs.Numbers.{bit}
use Rattle.window.specs.Words.{swung, others}

pub bit_cases : (v s : ℕ) → (bit v s ≡ 0) ⊎ (bit v s ≡ 1)
bit_cases v s =
    elim (cases_lt (bit v s) 1) [ inl l ↦ inl (omega arith) | inr g ↦ inr (omega arith) ]

pub bit_shr : (v d i : ℕ) → bit (v / 2 ^ d) i ≡ bit v (d + i)
bit_shr v d i = ap (λ x. x % 2) (shr-shr v d i)

pub bit_high : (a k b s : ℕ) → b < 2 ^ k → bit (a * 2 ^ k + b) (k + s) ≡ bit a s
bit_high a k b s h = sym (bit_shr (a * 2 ^ k + b) k s) ∙ ap (λ x. bit x s) (shr_high a k b h)

bit_field : (v s : ℕ) → bit v s ≡ v % 2 ^ (1 + s) / 2 ^ s
bit_field v s = sym (field_of v 1 s)

pub bit_mod : (v k s : ℕ) → s < k → bit (v % 2 ^ k) s ≡ bit v s
bit_mod v k s h =
    let e : k - (1 + s) + (1 + s) ≡ k = omega arith in
    let m : v % 2 ^ k % 2 ^ (1 + s) ≡ v % 2 ^ (1 + s) = rw e at (mod-mod-pow v (k - (1 + s)) (1 + s)) in
    bit_field (v % 2 ^ k) s ∙ ap (λ x. x / 2 ^ s) m ∙ sym (bit_field v s)

pub bit_low : (a k b s : ℕ) → s < k → bit (a * 2 ^ k + b) s ≡ bit b s
bit_low a k b s h =
    sym (bit_mod (a * 2 ^ k + b) k s h) ∙ ap (λ x. bit x s) (mul-add-mod_self_right a (2 ^ k) b) ∙ bit_mod b k s h

pub bit_past : (v k s : ℕ) → v < 2 ^ k → k ≤ s → bit v s ≡ 0
bit_past v k s h l =
    let m = pow_mono l in
    let b : v < 2 ^ s = omega arith in
    ap (λ x. x % 2) (div-eq_of_lt b)

pub bit_zero : (v : ℕ) → bit v 0 ≡ v % 2
bit_zero v = ap (λ x. x % 2) (div-one v)

pub bit_suc : (v i : ℕ) → bit v (suc i) ≡ bit (v / 2) i
bit_suc v i = ap (bit v) (sym (one-add i)) ∙ sym (bit_shr v 1 i)

-- what stands over a number in k ones has the other bits
pub bit_not : (k u v i : ℕ) → u + v ≡ 2 ^ k - 1 → i < k → bit u i + bit v i ≡ 1
bit_not zero u v i e h = omega arith
bit_not (suc k) u v zero e h = omega (arith, bit_zero u, bit_zero v, pow-suc 2 k, pow_pos k)
bit_not (suc k) u v (suc i) e h =
    let r : u / 2 + v / 2 ≡ 2 ^ k - 1 = omega (arith, pow-suc 2 k, pow_pos k) in
    omega (arith, bit_suc u i, bit_suc v i, bit_not k (u / 2) (v / 2) i r (omega arith))

pub bit_others : (n v i : ℕ) → v < 2 ^ 32 → n ≤ 32 → i < n → bit (others n v) i + bit v i ≡ 1
bit_others n v i h l b =
    omega (arith, bit_mod (2 ^ 32 - 1 - v) n i b, bit_not 32 (2 ^ 32 - 1 - v) v i (omega arith) (omega arith))

-- a turn within M bits
pub swung_small : (M k v s : ℕ) → k ≤ M → v < 2 ^ M → s + k < M → bit (swung M k v) s ≡ bit v (k + s)
swung_small M k v s l h b =
    ap (λ x. bit x s) (add_comm (v / 2 ^ k) (v % 2 ^ k * 2 ^ (M - k)))
    ∙ bit_low (v % 2 ^ k) (M - k) (v / 2 ^ k) s (omega arith) ∙ bit_shr v k s

pub swung_large : (M k v s : ℕ) → k ≤ M → v < 2 ^ M → M ≤ s + k → s < M → bit (swung M k v) s ≡ bit v (s + k - M)
swung_large M k v s l h b t =
    let e : M - k + (s + k - M) ≡ s = omega arith in
    let w : v < 2 ^ (k + (M - k)) = (let e2 : k + (M - k) ≡ M = omega arith in rw e2 h) in
    let w2 : v < 2 ^ ((M - k) + k) = (let e3 : M - k + k ≡ M = omega arith in rw e3 h) in
    ap (λ x. bit x s) (add_comm (v / 2 ^ k) (v % 2 ^ k * 2 ^ (M - k)))
    ∙ ap (bit (v % 2 ^ k * 2 ^ (M - k) + v / 2 ^ k)) (sym e)
    ∙ bit_high (v % 2 ^ k) (M - k) (v / 2 ^ k) (s + k - M) (shr_below v (M - k) k w2)
    ∙ bit_mod v k (s + k - M) (omega arith)

pub mod_once : (M x : ℕ) → M ≤ x → x < M + M → x % M ≡ x - M
mod_once M x l h = let b : x - M < M = omega arith in mod-eq-sub-mod l ∙ mod-eq_of_lt b

pub bit_swung : (M k v s : ℕ) → k ≤ M → v < 2 ^ M → s < M → bit (swung M k v) s ≡ bit v ((k + s) % M)
bit_swung M k v s l h b =
    elim (cases_lt (s + k) M) [
      | inl c ↦ (let c2 : k + s < M = omega arith in swung_small M k v s l h c ∙ ap (bit v) (sym (mod-eq_of_lt c2)))
      | inr c ↦ swung_large M k v s l h c b ∙ ap (bit v) (let e : s + k - M ≡ (k + s) % M = omega (arith, mod_once M (k + s) (omega arith) (omega arith)) in e)
    ]

-- how trailing zeros are known
pub trailing_is : (k v d : ℕ) → d < k → ((i : ℕ) → i < d → bit v i ≡ 0) → bit v d ≡ 1 → count_trailing_zeros k v ≡ d
unfolding count_trailing_zeros
trailing_is zero v d h z o = omega arith
trailing_is (suc k) v zero h z o =
    let e : v % 2 ≡ 1 = sym (bit_zero v) ∙ o in rw e
trailing_is (suc k) v (suc d) h z o =
    let e : v % 2 ≡ 0 = sym (bit_zero v) ∙ z 0 (omega arith) in
    rw e (ap suc (trailing_is k (v / 2) d (omega arith) (λ i l. sym (bit_suc v i) ∙ z (suc i) (omega arith)) (sym (bit_suc v d) ∙ o)))

under_min : (d t u m : ℕ) → t ≡ min m u → under d t ≡ min (suc m) (under d u)
under_min zero t u m e = omega arith
under_min (suc d) t u m e = omega arith

-- fewer digits: the least of their number and the zeros of more
pub trailing_min : (m k v : ℕ) → m ≤ k → count_trailing_zeros m v ≡ min m (count_trailing_zeros k v)
unfolding count_trailing_zeros
trailing_min zero k v h = omega arith
trailing_min (suc m) zero v h = absurd (omega arith)
trailing_min (suc m) (suc k) v h = under_min (v % 2) (count_trailing_zeros m (v / 2)) (count_trailing_zeros k (v / 2)) m (trailing_min m k (v / 2) (omega arith))

-- of k bits either none is set, or there is a first one that is
pub first_set : (k v : ℕ)
    → ((i : ℕ) → i < k → bit v i ≡ 0) ⊎ ((d : ℕ) × (d < k) × ((i : ℕ) → i < d → bit v i ≡ 0) × (bit v d ≡ 1))
first_set zero v = inl (λ i h. absurd (omega arith))
first_set (suc k) v =
    elim (first_set k v) [
      | inl none ↦ elim (bit_cases v k) [
        | inl z ↦ inl (λ i h. elim (cases_lt i k) [ inl l ↦ none i l | inr g ↦ (let e : k ≡ i = omega arith in ap (bit v) (sym e) ∙ z) ])
        | inr o ↦ inr (k, omega arith, none, o)
      ]
      | inr found ↦ (let l = found.1 in inr (found.0, omega arith, found.2, found.3))
    ]

-- all bits clear
pub trailing_none : (k v : ℕ) → ((i : ℕ) → i < k → bit v i ≡ 0) → count_trailing_zeros k v ≡ k
unfolding count_trailing_zeros
trailing_none zero v z = refl
trailing_none (suc k) v z =
    let e : v % 2 ≡ 0 = sym (bit_zero v) ∙ z 0 (omega arith) in
    rw e (ap suc (trailing_none k (v / 2) (λ i l. sym (bit_suc v i) ∙ z (suc i) (omega arith))))

-- a number of at most M bits
pub small_sum : (M k a b : ℕ) → k ≤ M → a < 2 ^ (M - k) → b < 2 ^ k → a + b * 2 ^ (M - k) < 2 ^ M
small_sum M k a b l ha hb =
    let e : M - k + k ≡ M = omega arith in
    let p : 2 ^ (M - k) * 2 ^ k ≡ 2 ^ M = sym (pow-add 2 (M - k) k) ∙ ap (λ x. 2 ^ x) e in
    omega (arith, mul-add-lt b (2 ^ (M - k)) a (2 ^ k) hb ha, p)
