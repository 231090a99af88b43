-- What a block shows after another was written or cleared, and what it shows after it was written itself.
use Rattle.std.proofs.Common.{◌≡◌, ℕ, ◌+◌, ◌-◌, ◌*◌, ◌%◌, ◌<◌, ◌≤◌, true, List, ◌++◌, length, get_or, take, drop, set, sym, ap, ◌∙◌, inl, inr, append_assoc, arith, length-append, length-drop, length-set}
use lib.Seq.{drop-append-add}
use Rattle.std.proofs.lemmas.List.{take-append-drop, length-take-le, take_at, drop_at, take-append-le, drop-append-le, drop-drop, take-set-le, drop-set-lt, drop-set-add}
use Rattle.std.proofs.lemmas.Bool.{cond-true, le-leb, cases_order}
use Rattle.notices.specs.Blocks.{inside, shows, with_block, cleared}

-- a front of a list shows what the list shows there
front_shows : (k : ℕ) (us vs : List ℕ) → k + 64 ≤ length us → take 64 (drop k (us ++ vs)) ≡ take 64 (drop k us)
front_shows k us vs h =
    let a : k ≤ length us = omega arith in
    let b : 64 ≤ length (drop k us) = simp length-drop (omega arith) in
    ap (take 64) (drop-append-le k us vs a) ∙ take-append-le 64 (drop k us) vs b

-- the list with ys in place of 64 entries from a on
abbrev mended : ℕ → List ℕ → List ℕ → List ℕ
mended a xs ys = take a xs ++ (ys ++ drop (a + 64) xs)

mended_same : (a : ℕ) (xs ys : List ℕ) → a + 64 ≤ length xs → length ys ≡ 64 → take 64 (drop a (mended a xs ys)) ≡ ys
mended_same a xs ys h l =
    let n : length (take a xs) ≡ a = length-take-le a xs (omega arith) in
    ap (take 64) (drop_at (take a xs) (ys ++ drop (a + 64) xs) a n) ∙ take_at ys (drop (a + 64) xs) 64 l

mended_before : (a k : ℕ) (xs ys : List ℕ) → a + 64 ≤ length xs → k + 64 ≤ a → take 64 (drop k (mended a xs ys)) ≡ take 64 (drop k xs)
mended_before a k xs ys h le =
    let n : length (take a xs) ≡ a = length-take-le a xs (omega arith) in
    let f : k + 64 ≤ length (take a xs) = omega arith in
    front_shows k (take a xs) (ys ++ drop (a + 64) xs) f ∙ sym (front_shows k (take a xs) (drop a xs) f) ∙ ap (λ l. take 64 (drop k l)) (take-append-drop a xs)

mended_past : (a k : ℕ) (xs ys : List ℕ) → a + 64 ≤ length xs → length ys ≡ 64 → a + 64 ≤ k → take 64 (drop k (mended a xs ys)) ≡ take 64 (drop k xs)
mended_past a k xs ys h l le =
    let n : length (take a xs) ≡ a = length-take-le a xs (omega arith) in
    let m : length (take a xs ++ ys) ≡ a + 64 = length-append (take a xs) ys ∙ (omega arith) in
    let e : length (take a xs ++ ys) + (k - (a + 64)) ≡ k = omega arith in
    let p : drop k (mended a xs ys) ≡ drop (k - (a + 64)) (drop (a + 64) xs) =
    ap (drop k) (sym (append_assoc (take a xs) ys (drop (a + 64) xs))) ∙ ap (λ i. drop i ((take a xs ++ ys) ++ drop (a + 64) xs)) (sym e) ∙ drop-append-add (take a xs ++ ys) (drop (a + 64) xs) (k - (a + 64)) in
    ap (take 64) (p ∙ drop-drop (k - (a + 64)) (a + 64) xs ∙ ap (λ i. drop i xs) (omega arith))

pub length_mended : (a : ℕ) (xs ys : List ℕ) → a + 64 ≤ length xs → length ys ≡ 64 → length (mended a xs ys) ≡ length xs
length_mended a xs ys h l =
    let n : length (take a xs) ≡ a = length-take-le a xs (omega arith) in
    let d = length-drop (a + 64) xs in
    let s = length-append (take a xs) (ys ++ drop (a + 64) xs) in
    let t = length-append ys (drop (a + 64) xs) in
    omega arith

module _ (xs : List ℕ) (p : ℕ) (whole : length xs ≡ 4096) (lt : p < 64) where
  inside_true : inside xs p ≡ true
  inside_true = le-leb (p * 64 + 64) (length xs) (omega arith)

  with_is : (ys : List ℕ) → with_block xs p ys ≡ mended (p * 64) xs ys
  with_is ys = cond-true (inside xs p) (mended (p * 64) xs ys) xs inside_true

  pub with_same : (ys : List ℕ) → length ys ≡ 64 → shows (with_block xs p ys) p ≡ ys
  with_same ys l = ap (λ b. shows b p) (with_is ys) ∙ mended_same (p * 64) xs ys (omega arith) l

  pub with_other : (ys : List ℕ) (q : ℕ) → length ys ≡ 64 → (q ≡ p → ⊥) → shows (with_block xs p ys) q ≡ shows xs q
  with_other ys q l ne =
      ap (λ b. shows b q) (with_is ys) ∙ elim (cases_order q p) [
        | inl e ↦ absurd (ne e)
        | inr o ↦ elim o [
          | inl h ↦ mended_before (p * 64) (q * 64) xs ys (omega arith) (omega arith)
          | inr h ↦ mended_past (p * 64) (q * 64) xs ys (omega arith) l (omega arith)
        ]
      ]

  pub with_length : (ys : List ℕ) → length ys ≡ 64 → length (with_block xs p ys) ≡ 4096
  with_length ys l = ap length (with_is ys) ∙ length_mended (p * 64) xs ys (omega arith) l ∙ whole

-- clearing a bit of one block leaves what another shows
pub cleared_other : (xs : List ℕ) (p q : ℕ) → (q ≡ p → ⊥) → shows (cleared xs p) q ≡ shows xs q
cleared_other xs p q ne =
    let v = get_or xs (p * 64 + 3) 0 % 128 in
    elim (cases_order q p) [
      | inl e ↦ absurd (ne e)
      | inr o ↦ elim o [
        | inl h ↦
            let j = p * 64 + 3 - q * 64 in
            let e : q * 64 + j ≡ p * 64 + 3 = omega arith in
            ap (λ i. take 64 (drop (q * 64) (set xs i v))) (sym e) ∙ ap (take 64) (drop-set-add (q * 64) xs j v) ∙ take-set-le 64 (drop (q * 64) xs) j v (omega arith)
        | inr h ↦ ap (take 64) (drop-set-lt (q * 64) xs (p * 64 + 3) v (omega arith))
      ]
    ]

pub cleared_length : (xs : List ℕ) (p : ℕ) → length (cleared xs p) ≡ length xs
cleared_length xs p = length-set xs (p * 64 + 3) (get_or xs (p * 64 + 3) 0 % 128)
