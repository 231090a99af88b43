-- What a written number says.
use Rattle.std.specs.Prelude.{ℕ, ◌+◌, ◌-◌, ◌*◌, ◌^◌, Bool, cond, ◌&&◌, List, length, drop, Some, None, Option, ◌==◌, nat_le, nat_lt, slice_index, fold, unwrap_or}
use Rattle.std.specs.Option.{is_some, option_and_then}
use Rattle.std.specs.List.{list_all}

-- c lies from a to b
abbrev within : ℕ → ℕ → ℕ → Bool
within a b c = nat_le a c && nat_le c b

-- the value of a digit of either case, if the byte is one
abbrev pub digit : ℕ → Option ℕ
digit c = cond (within 48 57 c) (Some (c - 48)) (cond (within 97 102 c) (Some (c - 87)) (cond (within 65 70 c) (Some (c - 55)) None))

-- the value of a digit, 0 for a byte that is none
abbrev pub digit_value : ℕ → ℕ
digit_value c = unwrap_or (digit c) 0

-- a digit's value, if it is one of the base
abbrev pub digit_below : ℕ → Option ℕ → Option ℕ
digit_below base None = None
digit_below base (Some d) = cond (nat_lt d base) (Some d) None

-- the byte is a digit of the base
abbrev pub is_digit : ℕ → ℕ → Bool
is_digit base c = is_some (digit_below base (digit c))

-- each byte is a digit of the base
abbrev pub all_digits : ℕ → List ℕ → Bool
all_digits base cs = list_all (is_digit base) cs

-- the value of digits that follow a value
abbrev pub value : ℕ → ℕ → List ℕ → ℕ
value base before cs = fold (λ v c. v * base + digit_value c) before cs

-- a value with one more digit, if the byte is one of the base and the result is below 2^64
abbrev pub extended : ℕ → ℕ → ℕ → Option ℕ
extended base v c = option_and_then (λ d. cond (nat_lt (v * base + d) (2 ^ 64)) (Some (v * base + d)) None) (digit_below base (digit c))

-- at least one byte, each a digit of the base, and together below 2^64
abbrev pub numeral : ℕ → List ℕ → Option ℕ
numeral base cs = cond (nat_lt 0 (length cs) && (all_digits base cs && nat_lt (value base 0 cs) (2 ^ 64))) (Some (value base 0 cs)) None

-- the word begins with 0x
abbrev pub prefixed : List ℕ → Bool
prefixed w = nat_le 2 (length w) && (slice_index w 0 == 48 && slice_index w 1 == 120)

-- what follows 0x, if the word begins so
abbrev pub hex_part : List ℕ → Option (List ℕ)
hex_part w = cond (prefixed w) (Some (drop 2 w)) None

-- hexadecimal after 0x, else decimal
abbrev number_by : Option (List ℕ) → List ℕ → Option ℕ
number_by (Some digits) w = numeral 16 digits
number_by None w = numeral 10 w

abbrev pub number : List ℕ → Option ℕ
number w = number_by (hex_part w) w

-- a number that is below a bound
abbrev pub narrow : ℕ → Option ℕ → Option ℕ
narrow bound None = None
narrow bound (Some n) = cond (nat_lt n bound) (Some n) None
