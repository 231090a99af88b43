-- The 64-bit FNV-1a checksum: each byte is joined by exclusive or, then multiplied by the prime, modulo 2^64.
use Rattle.std.specs.Prelude.{ℕ, ◌*◌, ◌%◌, ◌^◌, List, bit_xor, fold}

abbrev pub fnv_of : List ℕ → ℕ
fnv_of bs = fold (λ h b. bit_xor h b * 1099511628211 % 2 ^ 64) 14695981039346656037 bs
