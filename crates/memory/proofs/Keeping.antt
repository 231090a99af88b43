-- Stores and reads at places that differ.
use Rattle.std.proofs.Common.{◌≡◌, ℕ, zero, suc, ◌+◌, ◌*◌, ◌/◌, ◌%◌, ◌^◌, ◌<◌, ◌≤◌, ◌≢◌, List, [], ◌∷◌, length, get_or, set, sym, refl, ap, ◌∙◌, inl, inr, add-zero, add-suc, suc-add, arith}
use Rattle.std.proofs.lemmas.List.{length-set, get_or-set_same, get_or-set_other, ext_get_or}
use Rattle.std.proofs.lemmas.Bool.{cases_lt}
use Rattle.memory.specs.declared.buffer.Buffer.{Buffer}
use Rattle.memory.specs.declared.buffer.Kind.TheVariants.{Listed}
use Rattle.memory.specs.Kinds.{each}
use Rattle.memory.specs.Walk.{word, entry, walked, offset, page, nowhere}
use Rattle.memory.specs.Store.{stored, gathered, place}
use Rattle.memory.specs.Kept.{Strays}
use Rattle.memory.proofs.Entries.{entry_inside, entry_past, entry_outside}
use Rattle.memory.proofs.Storing.{length_gathered}

-- a word is the same where its bytes are
pub word_same : (m m' : List ℕ) (at : ℕ) → ((x : ℕ) → at ≤ x → x < at + 8 → get_or m' x 0 ≡ get_or m x 0) → word m' at ≡ word m at
word_same m m' at h =
    let a = h at (omega arith) (omega arith) in
    let b = h (at + 1) (omega arith) (omega arith) in
    let c = h (at + 2) (omega arith) (omega arith) in
    let d = h (at + 3) (omega arith) (omega arith) in
    let f = h (at + 4) (omega arith) (omega arith) in
    let g = h (at + 5) (omega arith) (omega arith) in
    let i = h (at + 6) (omega arith) (omega arith) in
    let j = h (at + 7) (omega arith) (omega arith) in
    rw (a, b, c, d, f, g, i, j)

pub length_stored : (p : ℕ → ℕ) (m : List ℕ) (at : ℕ) (xs : List ℕ) → length (stored p m at xs) ≡ length m
length_stored p m at [] = refl
length_stored p m at (x ∷ xs) = length_stored p (set m (p at) x) (suc at) xs ∙ length-set m (p at) x

-- no byte changes but those where the packet lies
pub stored_other : (p : ℕ → ℕ) (m : List ℕ) (at : ℕ) (xs : List ℕ) (x : ℕ) → ((j : ℕ) → at ≤ j → j < at + length xs → p j ≡ x → ⊥)
    → get_or (stored p m at xs) x 0 ≡ get_or m x 0
stored_other p m at [] x h = refl
stored_other p m at (y ∷ ys) x h =
    let ne : x ≢ p at = λ e. h at (omega arith) (omega arith) (sym e) in
    stored_other p (set m (p at) y) (suc at) ys x (λ j a b. h j (omega arith) (omega arith))
    ∙ get_or-set_other m (p at) x y 0 ne

-- each byte of the packet stands at its place
pub stored_at : (p : ℕ → ℕ) (m : List ℕ) (at : ℕ) (xs : List ℕ)
    → ((i j : ℕ) → at ≤ i → i < j → j < at + length xs → p i ≡ p j → ⊥)
    → ((j : ℕ) → at ≤ j → j < at + length xs → p j < length m)
    → (k : ℕ) → k < length xs → get_or (stored p m at xs) (p (at + k)) 0 ≡ get_or xs k 0
stored_at p m at [] inj ins k h = omega arith
stored_at p m at (y ∷ ys) inj ins zero h =
    let z : p at < length m = ins at (omega arith) (omega arith) in
    rw (add-zero at)
    (stored_other p (set m (p at) y) (suc at) ys (p at) (λ j a b e. inj at j (omega arith) (omega arith) (omega arith) (sym e)) ∙ get_or-set_same m (p at) y 0 z)
stored_at p m at (y ∷ ys) inj ins (suc k) h =
    rw (add-suc at k, ← suc-add at k)
    (stored_at p (set m (p at) y) (suc at) ys (λ i j a b c. inj i j (omega arith) b (omega arith))
    (λ j a b. rw (length-set m (p at) y) (ins j (omega arith) (omega arith))) k (omega arith))

pub get_d_gathered : (p : ℕ → ℕ) (m : List ℕ) (at n k : ℕ) → k < n → get_or (gathered p m at n) k 0 ≡ get_or m (p (at + k)) 0
get_d_gathered p m at zero k h = omega arith
get_d_gathered p m at (suc n) zero h = rw (add-zero at)
get_d_gathered p m at (suc n) (suc k) h = rw (add-suc at k, ← suc-add at k) (get_d_gathered p m (suc at) n k (omega arith))

-- reading back gives the packet
pub stored_there : (p : ℕ → ℕ) (m : List ℕ) (at : ℕ) (xs : List ℕ)
    → ((i j : ℕ) → at ≤ i → i < j → j < at + length xs → p i ≡ p j → ⊥)
    → ((j : ℕ) → at ≤ j → j < at + length xs → p j < length m)
    → gathered p (stored p m at xs) at (length xs) ≡ xs
stored_there p m at xs inj ins =
    let n = length_gathered p (stored p m at xs) at (length xs) in
    ext_get_or 0 (gathered p (stored p m at xs) at (length xs)) xs n
    (λ k h. get_d_gathered p (stored p m at xs) at (length xs) k (omega arith) ∙ stored_at p m at xs inj ins k (omega arith))

-- an entry is the same where its bytes are
pub entry_same : (m m' : List ℕ) (list k : ℕ) → length m' ≡ length m → ((x : ℕ) → x / 4096 ≡ list / 4096 → get_or m' x 0 ≡ get_or m x 0) → entry m' list k ≡ entry m list k
entry_same m m' list k e h = elim (cases_lt 4096 (list % 4096 + 8 * k + 8)) [
  | inl p ↦ entry_past m' list k p ∙ sym (entry_past m list k p)
  | inr p ↦ (elim (cases_lt (length m) (list + 8 * k + 8)) [
    | inl o ↦ entry_outside m' list k (omega arith) ∙ sym (entry_outside m list k o)
    | inr o ↦ entry_inside m' list k p (omega arith) ∙ ap (λ (w : ℕ). (w / 4096, w % 4096)) (word_same m m' (list + 8 * k) (λ x a b. h x (omega arith))) ∙ sym (entry_inside m list k p o)
  ])
]

-- pages with different numbers have different places; within a page offsets tell them apart
pub place_apart : (m : List ℕ) (b : Buffer) (i j : ℕ) → i < j
    → ((offset m b + i) / 4096 < (offset m b + j) / 4096 → page m b ((offset m b + i) / 4096) ≡ page m b ((offset m b + j) / 4096) → ⊥)
    → place m b i ≡ place m b j → ⊥
place_apart m b i j l h e =
    let q = (offset m b + i) / 4096 in
    let r = (offset m b + j) / 4096 in
    elim (cases_lt q r) [
      | inl a ↦ h a (omega arith)
      | inr a ↦
          (let s : q ≡ r = omega arith in
          let t : page m b q ≡ page m b r = ap (page m b) s in
          omega arith)
    ]

-- what is said of listed buffers
pub offset_listed : (m : List ℕ) (b : Buffer) → b.kind ≡ Listed → offset m b ≡ (entry m b.address 0).1
offset_listed m b e = ap (λ k. each k (b.address % 4096) (entry m b.address 0).1) e

pub page_listed : (m : List ℕ) (b : Buffer) (k : ℕ) → b.kind ≡ Listed → page m b k ≡ (entry m b.address k).0
page_listed m b k e = ap (λ d. each d (b.address / 4096 + k) (entry m b.address k).0) e

pub crosses : (m : List ℕ) (b : Buffer) → b.kind ≡ Listed → b.address % 4096 + 16 ≤ 4096 → b.address + 16 ≤ length m
    → word m b.address ≡ 5000 → word m (b.address + 8) ≡ 12288 → walked m b 3192 ≡ (3, 0)
crosses m b e f g u v =
    let a = b.address in
    let first : (entry m a 0).1 ≡ word m a % 4096 = ap (λ (p : ℕ × ℕ). p.1) (entry_inside m a 0 (omega arith) (omega arith)) ∙ ap (λ (x : ℕ). word m x % 4096) (add-zero a) in
    let second : (entry m a 1).0 ≡ word m (a + 8) / 4096 = ap (λ (p : ℕ × ℕ). p.0) (entry_inside m a 1 (omega arith) (omega arith)) in
    let o : offset m b ≡ 904 = offset_listed m b e ∙ first ∙ ap (λ (w : ℕ). w % 4096) u in
    let p : page m b 1 ≡ 3 = page_listed m b 1 e ∙ second ∙ ap (λ (w : ℕ). w / 4096) v in
    let q : (offset m b + 3192) / 4096 ≡ 1 = omega arith in
    let r : (offset m b + 3192) % 4096 ≡ 0 = omega arith in
    let s : page m b ((offset m b + 3192) / 4096) ≡ 3 = ap (page m b) q ∙ p in
    cc

past_far : (m : List ℕ) (list k : ℕ) → length m < 2 ^ 64 → 4096 < list % 4096 + 8 * k + 8 → length m / 4096 ≤ (entry m list k).0
past_far m list k l x = let e : (entry m list k).0 ≡ nowhere = ap (λ (p : ℕ × ℕ). p.0) (entry_past m list k x) in omega arith

pub stray_far : (m : List ℕ) (b : Buffer) (k : ℕ) → length m < 2 ^ 64 → Strays m b k → length m / 4096 ≤ (entry m b.address k).0
stray_far m b k l (inl x) = past_far m b.address k l x
stray_far m b k l (inr x) = elim (cases_lt 4096 (b.address % 4096 + 8 * k + 8)) [
  | inl p ↦ past_far m b.address k l p
  | inr p ↦ (elim (cases_lt (length m) (b.address + 8 * k + 8)) [
    | inl o ↦ (let e : (entry m b.address k).0 ≡ nowhere = ap (λ (q : ℕ × ℕ). q.0) (entry_outside m b.address k o) in omega arith)
    | inr o ↦ (let e : (entry m b.address k).0 ≡ word m (b.address + 8 * k) / 4096 = ap (λ (q : ℕ × ℕ). q.0) (entry_inside m b.address k p o) in omega arith)
  ])
]

pub placeless : (m : List ℕ) (b : Buffer) (byte : ℕ) → length m % 4096 ≡ 0 → length m < 2 ^ 64 → b.kind ≡ Listed
    → Strays m b ((offset m b + byte) / 4096) → length m ≤ place m b byte
placeless m b byte w l e s =
    let f = stray_far m b ((offset m b + byte) / 4096) l s in
    let p = page_listed m b ((offset m b + byte) / 4096) e in
    omega arith
