-- How the bytes of a block are put together.
use Rattle.std.proofs.Common.{◌≡◌, ℕ, ◌-◌, ◌/◌, ◌%◌, List, [], ◌∷◌, ◌++◌, length, take, replicate, sym, ap, ◌∙◌, div-one}
use Rattle.std.specs.Int.{w32, to_le_bytes}
use Rattle.notices.specs.Blocks.{Notice, block_of, flags, key_number, key_byte}

-- the low three bytes of a key's number
low_three : (n : Notice) (k : ℕ) → k ≡ key_number n.key → take 3 (to_le_bytes w32 k) ≡ key_byte n.key 0 ∷ key_byte n.key 1 ∷ key_byte n.key 2 ∷ []
low_three n k e =
    let a : k % 256 ≡ key_byte n.key 0 = ap (λ x. x % 256) (e ∙ sym (div-one (key_number n.key))) in
    let b : k / 256 % 256 ≡ key_byte n.key 1 = ap (λ x. x / 256 % 256) e in
    let d : k / 65536 % 256 ≡ key_byte n.key 2 = ap (λ x. x / 65536 % 256) e in
    cc

pub made : (n : Notice) (f k : ℕ) (key bytes rest : List ℕ) → f ≡ flags n.key → k ≡ key_number n.key → key ≡ take 3 (to_le_bytes w32 k)
    → bytes ≡ n.bytes → rest ≡ replicate (56 - length n.bytes) 0
    → ◌≡◌ {A = List ℕ} (length n.bytes ∷ 0 ∷ n.source ∷ f ∷ (key ++ 0 ∷ (bytes ++ rest))) (block_of n)
made n f k key bytes rest ef ek ey eb er =
    let l : key ≡ key_byte n.key 0 ∷ key_byte n.key 1 ∷ key_byte n.key 2 ∷ [] = ey ∙ low_three n k ek in
    ap (λ x. length n.bytes ∷ 0 ∷ n.source ∷ f ∷ (x ++ 0 ∷ (bytes ++ rest))) l
    ∙ ap (λ x. length n.bytes ∷ 0 ∷ n.source ∷ x ∷ key_byte n.key 0 ∷ key_byte n.key 1 ∷ key_byte n.key 2 ∷ 0 ∷ (bytes ++ rest)) ef
    ∙ ap (λ x. length n.bytes ∷ 0 ∷ n.source ∷ flags n.key ∷ key_byte n.key 0 ∷ key_byte n.key 1 ∷ key_byte n.key 2 ∷ 0 ∷ (x ++ rest)) eb
    ∙ ap (λ x. length n.bytes ∷ 0 ∷ n.source ∷ flags n.key ∷ key_byte n.key 0 ∷ key_byte n.key 1 ∷ key_byte n.key 2 ∷ 0 ∷ (n.bytes ++ x)) er
