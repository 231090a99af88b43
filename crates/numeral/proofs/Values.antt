-- Digits read from the left, one after another, say the number that they say together.
use Rattle.std.proofs.Common.{◌≡◌, ℕ, ◌+◌, ◌*◌, ◌^◌, ◌<◌, ◌≤◌, Bool, true, false, cond, ◌&&◌, ltb, List, [], ◌∷◌, length, Some, None, Option, option_and_then, is_some, unwrap_or, refl, sym, ap, ◌∙◌, mul-le-mul_left, mul-one, arith}
use Rattle.std.proofs.lemmas.Bool.{cond-false, cond-true, le-ltb, lt-ltb, and_right, ltb-true, ltb-false}
use Rattle.numeral.specs.Numbers.{digit, digit_below, digit_value, extended, all_digits, value, numeral}
use Rattle.numeral.proofs.Folding.{folded}

grows : (base before : ℕ) (cs : List ℕ) → 1 ≤ base → before ≤ value base before cs
grows base before [] h = omega arith
grows base before (c ∷ cs) h =
    let m = mul-le-mul_left before h in
    let e = mul-one before in
    let ih = grows base (before * base + digit_value c) cs h in
    omega arith

-- the number, if each byte is a digit and it is below 2^64
abbrev said : ℕ → ℕ → List ℕ → Bool → Option ℕ
said base v cs digits = cond (digits && ltb (value base v cs) (2 ^ 64)) (Some (value base v cs)) None

module _ (base v : ℕ) (cs : List ℕ) (pos : 1 ≤ base) (ih : (w : ℕ) → w < 2 ^ 64 → folded (extended base) w cs ≡ said base w cs (all_digits base cs)) where
  abbrev joined : ℕ → Option ℕ
  joined d = cond (ltb (v * base + d) (2 ^ 64)) (Some (v * base + d)) None

  fits : (d : ℕ) (b : Bool) → ltb (v * base + d) (2 ^ 64) ≡ b
      → option_and_then (λ w. folded (extended base) w cs) (cond b (Some (v * base + d)) None) ≡ said base (v * base + d) cs (all_digits base cs)
  fits d true e = ih (v * base + d) (ltb-true _ _ e)
  fits d false e =
      let g = grows base (v * base + d) cs pos in
      let l = ltb-false _ _ e in
      sym (cond-false _ _ None (and_right (all_digits base cs) _ (le-ltb (value base (v * base + d) cs) (2 ^ 64) (omega arith))))

  is_one : (d : ℕ) (b : Bool) → option_and_then (λ w. folded (extended base) w cs) (option_and_then joined (cond b (Some d) None)) ≡ said base (v * base + d) cs (is_some (cond b (Some d) None) && all_digits base cs)
  is_one d true = fits d _ refl
  is_one d false = refl

  next : (o : Option ℕ) → option_and_then (λ w. folded (extended base) w cs) (option_and_then joined (digit_below base o)) ≡ said base (v * base + unwrap_or o 0) cs (is_some (digit_below base o) && all_digits base cs)
  next None = refl
  next (Some d) = is_one d _

all_said : (base v : ℕ) (cs : List ℕ) → 1 ≤ base → v < 2 ^ 64 → folded (extended base) v cs ≡ said base v cs (all_digits base cs)
all_said base v [] pos h = sym (cond-true _ (Some v) None (lt-ltb v (2 ^ 64) h))
all_said base v (c ∷ cs) pos h = next base v cs pos (λ w. all_said base w cs pos) (digit c)

pub folded_is_numeral : (base : ℕ) (cs : List ℕ) → 1 ≤ base → 0 < length cs → folded (extended base) 0 cs ≡ numeral base cs
folded_is_numeral base cs pos some = all_said base 0 cs pos (omega arith) ∙ ap (λ b. cond (b && (all_digits base cs && ltb (value base 0 cs) (2 ^ 64))) (Some (value base 0 cs)) None) (sym (lt-ltb 0 (length cs) some))
