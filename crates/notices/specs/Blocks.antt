-- What a notice looks like in its block of 64 bytes, and how a block is read.
use Rattle.std.specs.Prelude.{ℕ, ◌+◌, ◌-◌, ◌*◌, ◌/◌, ◌%◌, ◌^◌, Bool, cond, ◌&&◌, List, ◌∷◌, ◌++◌, length, take, drop, replicate, Some, None, Option, nat_le, nat_lt, slice_index, slice_set}
use Rattle.std.specs.Option.{unwrap_or}

-- a notice: where it comes from, the key if it is secure, and its bytes
pub record Notice : Type 0 where
  pub source : ℕ
  pub key : Option ℕ
  pub bytes : List ℕ

-- the key as a number, 0 unless secure
abbrev pub key_number : Option ℕ → ℕ
key_number k = unwrap_or k 0

-- a notice has 1 to 56 bytes and a key below 2^24
abbrev pub fits : Option ℕ → List ℕ → Bool
fits key bytes = nat_le 1 (length bytes) && (nat_le (length bytes) 56 && nat_lt (key_number key) (2 ^ 24))

-- byte 3: bit 7 Valid, bit 6 Secure
abbrev pub flags : Option ℕ → ℕ
flags None = 128
flags (Some k) = 192

-- byte i of the key, the low one first
abbrev pub key_byte : Option ℕ → ℕ → ℕ
key_byte k i = key_number k / 256 ^ i % 256

-- the block of a notice: byte 0 the size, 2 the source, 3 the flags, 4 to 6 the key, the bytes from 8 on, zeros after
abbrev pub block_of : Notice → List ℕ
block_of n = length n.bytes ∷ 0 ∷ n.source ∷ flags n.key ∷ key_byte n.key 0 ∷ key_byte n.key 1 ∷ key_byte n.key 2 ∷ 0 ∷ (n.bytes ++ replicate (56 - length n.bytes) 0)

-- block b lies in the buffer
abbrev pub inside : List ℕ → ℕ → Bool
inside buffer b = nat_le (b * 64 + 64) (length buffer)

-- what block b of a buffer shows
abbrev pub shows : List ℕ → ℕ → List ℕ
shows buffer b = take 64 (drop (b * 64) buffer)

-- the buffer with other bytes in block b, if it lies inside
abbrev pub with_block : List ℕ → ℕ → List ℕ → List ℕ
with_block buffer b bytes = cond (inside buffer b) (take (b * 64) buffer ++ (bytes ++ drop (b * 64 + 64) buffer)) buffer

-- the buffer with the Valid bit of block b cleared
abbrev pub cleared : List ℕ → ℕ → List ℕ
cleared buffer b = slice_set buffer (b * 64 + 3) (slice_index buffer (b * 64 + 3) % 128)
