-- Hexadecimal digits are read two by two.
use Rattle.std.proofs.Common.{◌≡◌, ℕ, zero, suc, ◌+◌, ◌*◌, ◌/◌, ◌%◌, ◌==◌, ◌&&◌, Bool, true, false, cond, nat_lt, eqb, List, [], ◌∷◌, map, length, slice_index, Some, None, Option, Result, Ok, Err, option_map, is_some, unwrap_or, refl, sym, ap, ◌∙◌, arith}
use Rattle.std.specs.List.{range_with_len}
use Rattle.std.specs.Result.{MatchResult, result_ok}
use Rattle.std.proofs.lemmas.Bool.Decides.{nat_tests}
use Rattle.numeral.specs.Numbers.{digit, digit_below, digit_value, all_digits}
use Rattle.lexer.specs.Bytes.{hexed, pair_at}
use Rattle.hex.specs.Hex.{decode_of, decode_sized, decode_pairs, hex_digit_value, digit_or_error, ◌>>=◌}
use Rattle.hex.specs.declared.error.FromHexError.{FromHexError}
use Rattle.hex.specs.declared.error.FromHexError.TheVariants.{OddLength, InvalidStringLength}
use Rattle.std.proofs.lemmas.Bool.{eqb-true}

same_digit : (c : ℕ) → hex_digit_value c ≡ digit_below 16 (digit c)
same_digit c = grind (arith, nat_tests)

-- the digits after the first two are those of the rest
abbrev byte_at : List ℕ → ℕ → ℕ → ℕ
byte_at cs i j = 16 * digit_value (slice_index cs i) + digit_value (slice_index cs j)

shift_one : (h l k : ℕ) (rest : List ℕ) → pair_at (h ∷ l ∷ rest) (k + 1) ≡ pair_at rest k
shift_one h l k rest =
    let e : 2 * (k + 1) ≡ suc (suc (2 * k)) = omega arith in
    let f : 2 * (k + 1) + 1 ≡ suc (suc (2 * k + 1)) = omega arith in
    ap (λ i. byte_at (h ∷ l ∷ rest) i (2 * (k + 1) + 1)) e ∙ ap (byte_at (h ∷ l ∷ rest) (suc (suc (2 * k)))) f

shifted : (h l k n : ℕ) (rest : List ℕ) → map (pair_at (h ∷ l ∷ rest)) (range_with_len (k + 1) n) ≡ map (pair_at rest) (range_with_len k n)
shifted h l k zero rest = refl
shifted h l k (suc n) rest = λ i. shift_one h l k rest i ∷ shifted h l (k + 1) n rest i

off : (b : Bool) (v : Option (List ℕ)) → None ≡ cond (b && false) v None
off true v = refl
off false v = refl

module _ (h l i : ℕ) (even digits : Bool) (bytes : List ℕ) (r : Result (List ℕ) FromHexError) (ih : result_ok r ≡ cond (even && digits) (Some bytes) None) where
  put : (b : ℕ) (q : Result (List ℕ) FromHexError) → result_ok (q >>= λ bs. Ok (b ∷ bs)) ≡ option_map (λ bs. b ∷ bs) (result_ok q)
  put b (Ok bs) = refl
  put b (Err e) = refl

  kept : (b : ℕ) (good : Bool) → option_map (λ bs. b ∷ bs) (cond good (Some bytes) None) ≡ cond good (Some (b ∷ bytes)) None
  kept b true = refl
  kept b false = refl

  both : (x y : ℕ) → result_ok (r >>= λ bs. Ok ((x * 16 + y) ∷ bs)) ≡ cond (even && digits) (Some ((16 * x + y) ∷ bytes)) None
  both x y =
      let e : x * 16 + y ≡ 16 * x + y = omega arith in
      put (x * 16 + y) r ∙ ap (option_map (λ bs. (x * 16 + y) ∷ bs)) ih ∙ kept (x * 16 + y) (even && digits) ∙ ap (λ b. cond (even && digits) (Some (b ∷ bytes)) None) e

  -- the bytes that two more digits make
  abbrev more : Option ℕ → Option ℕ → Result (List ℕ) FromHexError
  more high low = (digit_or_error h i high >>= λ x. digit_or_error l (i + 1) low >>= λ y. Ok (x * 16 + y)) >>= λ b. r >>= λ bs. Ok (b ∷ bs)

  abbrev said : Option ℕ → Option ℕ → Option ℕ → Option ℕ → Option (List ℕ)
  said high low x y = cond (even && (is_some high && (is_some low && digits))) (Some ((16 * unwrap_or x 0 + unwrap_or y 0) ∷ bytes)) None

  low_one : (x y : ℕ) (b : Bool) → result_ok (more (Some x) (cond b (Some y) None)) ≡ said (Some x) (cond b (Some y) None) (Some x) (Some y)
  low_one x y true = both x y
  low_one x y false = off even _

  low_any : (x : ℕ) (y : Option ℕ) → result_ok (more (Some x) (digit_below 16 y)) ≡ said (Some x) (digit_below 16 y) (Some x) y
  low_any x None = off even _
  low_any x (Some y) = low_one x y (nat_lt y 16)

  high_one : (x : ℕ) (y : Option ℕ) (b : Bool) → result_ok (more (cond b (Some x) None) (digit_below 16 y)) ≡ said (cond b (Some x) None) (digit_below 16 y) (Some x) y
  high_one x y true = low_any x y
  high_one x y false = off even _

  high_any : (x y : Option ℕ) → result_ok (more (digit_below 16 x) (digit_below 16 y)) ≡ said (digit_below 16 x) (digit_below 16 y) x y
  high_any None y = off even _
  high_any (Some x) y = high_one x y (nat_lt x 16)

pairs_read : (i : ℕ) (cs : List ℕ) → result_ok (decode_pairs i cs) ≡ hexed cs
unfolding decode_pairs
pairs_read i [] = refl
pairs_read i (c ∷ []) = refl
pairs_read i (h ∷ l ∷ rest) =
    let n = length rest in
    let cs = h ∷ l ∷ rest in
    let half : suc (suc n) / 2 ≡ suc (n / 2) = omega arith in
    let even : suc (suc n) % 2 ≡ n % 2 = omega arith in
    let read = λ (high low : Option ℕ). result_ok ((digit_or_error h i high >>= λ x. digit_or_error l (i + 1) low >>= λ y. Ok (x * 16 + y)) >>= λ b. decode_pairs (i + 2) rest >>= λ bs. Ok (b ∷ bs)) in
    let whole = λ (r q : ℕ). cond (r == 0 && all_digits 16 cs) (Some (map (pair_at cs) (range_with_len 0 q))) None in
    let last = λ (bs : List ℕ). cond (n % 2 == 0 && all_digits 16 cs) (Some (pair_at cs 0 ∷ bs)) None in
    let step = high_any h l i (n % 2 == 0) (all_digits 16 rest) (map (pair_at rest) (range_with_len 0 (n / 2))) (decode_pairs (i + 2) rest) (pairs_read (i + 2) rest) (digit h) (digit l) in
    ap (λ o. read o (hex_digit_value l)) (same_digit h) ∙ ap (read (digit_below 16 (digit h))) (same_digit l) ∙ step ∙ sym (ap last (shifted h l 0 (n / 2) rest)) ∙ sym (ap (λ r. whole r (suc (n / 2))) even) ∙ sym (ap (whole (suc (suc n) % 2)) half)

-- an odd number of digits is refused before they are read
unread : (cs : List ℕ) (odd : Bool) → eqb (length cs % 2) 1 ≡ odd → result_ok (cond odd (Err OddLength) (decode_pairs 0 cs)) ≡ hexed cs
unread cs false e = pairs_read 0 cs
unread cs true e =
    let o = eqb-true (length cs % 2) 1 e in
    sym (ap (λ r. cond (r == 0 && all_digits 16 cs) (Some (map (pair_at cs) (range_with_len 0 (length cs / 2)))) None) o)

decoded : (cs : List ℕ) → result_ok (decode_of cs) ≡ hexed cs
decoded cs = unread cs (eqb (length cs % 2) 1) refl

-- room for half as many bytes as there are digits is the right room
sized : (cs : List ℕ) (n : ℕ) → n ≡ length cs / 2 → decode_sized cs n ≡ decode_of cs
sized cs n e =
    let t : (length cs / 2 == n) ≡ true = grind (arith, nat_tests) in
    ap (λ b. cond (length cs % 2 == 1) (Err OddLength) (cond b (decode_pairs 0 cs) (Err InvalidStringLength))) t

given : (r : Result (List ℕ) FromHexError) (answer : Result (Unit {0}) FromHexError) (out : List ℕ)
    → MatchResult r (λ bytes. (answer ≡ Ok tt) × (out ≡ bytes)) (λ e. answer ≡ Err e) → (u : Unit {0}) → answer ≡ Ok u → Some out ≡ result_ok r
given (Ok bytes) answer out m u is = ap Some m.1
given (Err e) answer out m u is = let f : ⊥ = cc in absurd f

lacking : (r : Result (List ℕ) FromHexError) (answer : Result (Unit {0}) FromHexError) (out : List ℕ)
    → MatchResult r (λ bytes. (answer ≡ Ok tt) × (out ≡ bytes)) (λ e. answer ≡ Err e) → (e : FromHexError) → answer ≡ Err e → None ≡ result_ok r
lacking (Ok bytes) answer out m e is = let f : ⊥ = cc in absurd f
lacking (Err e) answer out m d is = refl

-- what decoding into such room leaves there is what the digits say
pub filled : (cs : List ℕ) (n : ℕ) (answer : Result (Unit {0}) FromHexError) (out : List ℕ) → n ≡ length cs / 2
    → MatchResult (decode_sized cs n) (λ bytes. (answer ≡ Ok tt) × (out ≡ bytes)) (λ e. answer ≡ Err e) → (u : Unit {0}) → answer ≡ Ok u → Some out ≡ hexed cs
filled cs n answer out e m u is = given (decode_sized cs n) answer out m u is ∙ ap result_ok (sized cs n e) ∙ decoded cs

pub unfilled : (cs : List ℕ) (n : ℕ) (answer : Result (Unit {0}) FromHexError) (out : List ℕ) → n ≡ length cs / 2
    → MatchResult (decode_sized cs n) (λ bytes. (answer ≡ Ok tt) × (out ≡ bytes)) (λ e. answer ≡ Err e) → (e : FromHexError) → answer ≡ Err e → None ≡ hexed cs
unfilled cs n answer out e m d is = lacking (decode_sized cs n) answer out m d is ∙ ap result_ok (sized cs n e) ∙ decoded cs
