-- Runs of stores and reads within a page, and two of them for a packet.
use Rattle.std.proofs.Common.{◌≡◌, ℕ, zero, suc, ◌+◌, ◌-◌, ◌/◌, ◌%◌, ◌<◌, ◌≤◌, List, [], ◌∷◌, ◌++◌, length, get_or, take, drop, set, replicate, sym, refl, ap, ◌∙◌, inl, inr, le_refl, add-zero, add-suc, suc-add, zero-add, add-one, arith}
use lib.Seq.{sets, sets-eq}
use borrow.Rule.Slice.PartMut.{put_mid}
use Rattle.std.proofs.lemmas.Slice.{put_mid-paste}
use Rattle.std.proofs.lemmas.List.{take_all, set_past, length-set, length-take-le, length-drop, take-append-drop, drop_more, get_or_past, take_at, drop_at, drop_all, append-nil, length-append}
use Rattle.std.proofs.lemmas.Bool.{cases_lt}
use Rattle.memory.specs.declared.buffer.Buffer.{Buffer}
use Rattle.memory.specs.Walk.{offset}
use Rattle.memory.specs.Store.{stored, gathered, place}

-- a copy into a part is a run of stores
pub put_mid_sets : (a k : ℕ) (xs ys zs : List ℕ) → ys ≡ zs → length zs ≡ k → a + length zs ≤ length xs → put_mid a k xs ys ≡ sets xs a zs
put_mid_sets a k xs ys zs e n h =
    put_mid-paste a k xs ys zs (length zs) e n refl
    ∙ ap (λ (r : List ℕ). take a xs ++ r ++ drop (a + length zs) xs) (take_all (length zs) zs (le_refl (length zs)))
    ∙ sym (sets-eq zs xs a h)

pub sets_past : (l : List ℕ) (i : ℕ) (vs : List ℕ) → length l ≤ i → sets l i vs ≡ l
sets_past l i [] h = refl
sets_past l i (a ∷ vs) h = rw (set_past l i a h) (sets_past l (suc i) vs (omega arith))

pub stored_append : (p : ℕ → ℕ) (m : List ℕ) (at : ℕ) (xs ys : List ℕ) → stored p m at (xs ++ ys) ≡ stored p (stored p m at xs) (at + length xs) ys
stored_append p m at [] ys = rw (add-zero at)
stored_append p m at (x ∷ xs) ys = rw (add-suc at (length xs), ← suc-add at (length xs)) (stored_append p (set m (p at) x) (suc at) xs ys)

-- where places follow one another the stores are a run
pub stored_run : (p : ℕ → ℕ) (m : List ℕ) (at from : ℕ) (xs : List ℕ) → ((j : ℕ) → j < length xs → p (at + j) ≡ from + j) → stored p m at xs ≡ sets m from xs
stored_run p m at from [] h = refl
stored_run p m at from (x ∷ xs) h =
    let e : p at ≡ from = ap p (sym (add-zero at)) ∙ h 0 (omega arith) ∙ add-zero from in
    rw e (stored_run p (set m from x) (suc at) (suc from) xs
    (λ j l. ap p (suc-add at j ∙ sym (add-suc at j)) ∙ h (suc j) (omega arith) ∙ add-suc from j ∙ sym (suc-add from j)))

-- within a page the places follow one another
pub place_run : (m : List ℕ) (b : Buffer) (at j : ℕ) → (offset m b + at) % 4096 + j < 4096 → place m b (at + j) ≡ place m b at + j
place_run m b at j h =
    let o = offset m b in
    let q : (o + (at + j)) / 4096 ≡ (o + at) / 4096 = omega arith in
    let r : (o + (at + j)) % 4096 ≡ (o + at) % 4096 + j = omega arith in
    rw (q, r) (omega arith)

pub two_runs : (m : List ℕ) (b : Buffer) (at head : ℕ) (xs : List ℕ) → head ≤ length xs
    → (offset m b + at) % 4096 + head ≤ 4096
    → (offset m b + (at + head)) % 4096 + (length xs - head) ≤ 4096
    → sets (sets m (place m b at) (take head xs)) (place m b (at + head)) (drop head xs) ≡ stored (place m b) m at xs
two_runs m b at head xs h a z =
    let n : length (take head xs) ≡ head = length-take-le head xs h in
    let k = length-drop head xs in
    let s : stored (place m b) m at (take head xs) ≡ sets m (place m b at) (take head xs)
    = stored_run (place m b) m at (place m b at) (take head xs) (λ j l. place_run m b at j (omega arith)) in
    let mid = sets m (place m b at) (take head xs) in
    let t : stored (place m b) mid (at + head) (drop head xs) ≡ sets mid (place m b (at + head)) (drop head xs)
    = stored_run (place m b) mid (at + head) (place m b (at + head)) (drop head xs) (λ j l. place_run m b (at + head) j (omega arith)) in
    let e = stored_append (place m b) m at (take head xs) (drop head xs) in
    sym (ap (stored (place m b) m at) (sym (take-append-drop head xs)) ∙ e ∙ rw (s, n) t)

pub gathered_within : (m : List ℕ) (from n : ℕ) → from + n ≤ length m → gathered (λ j. j) m from n ≡ take n (drop from m)
gathered_within m from zero h = refl
gathered_within m from (suc n) h =
    let e : drop from m ≡ get_or m from 0 ∷ drop (from + 1) m = drop_more m from 0 (omega arith) in
    rw (e, add-one from) (ap (λ (r : List ℕ). get_or m from 0 ∷ r) (gathered_within m (suc from) n (omega arith)))

pub gathered_past : (m : List ℕ) (from n : ℕ) → length m ≤ from → gathered (λ j. j) m from n ≡ replicate n 0
gathered_past m from zero h = refl
gathered_past m from (suc n) h = rw (get_or_past m from 0 h) (ap (λ (r : List ℕ). 0 ∷ r) (gathered_past m (suc from) n (omega arith)))

pub gathered_add : (p : ℕ → ℕ) (m : List ℕ) (at a b : ℕ) → gathered p m at (a + b) ≡ gathered p m at a ++ gathered p m (at + a) b
gathered_add p m at zero b = rw (zero-add b, add-zero at)
gathered_add p m at (suc a) b = rw (suc-add a b, add-suc at a, ← suc-add at a) (ap (λ (r : List ℕ). get_or m (p at) 0 ∷ r) (gathered_add p m (suc at) a b))

pub length_gathered : (p : ℕ → ℕ) (m : List ℕ) (at n : ℕ) → length (gathered p m at n) ≡ n
length_gathered p m at zero = refl
length_gathered p m at (suc n) = ap suc (length_gathered p m (suc at) n)

-- where places follow one another
pub gathered_run : (p : ℕ → ℕ) (m : List ℕ) (at from n : ℕ) → ((j : ℕ) → j < n → p (at + j) ≡ from + j) → gathered p m at n ≡ gathered (λ j. j) m from n
gathered_run p m at from zero h = refl
gathered_run p m at from (suc n) h =
    let e : p at ≡ from = ap p (sym (add-zero at)) ∙ h 0 (omega arith) ∙ add-zero from in
    rw e (ap (λ (r : List ℕ). get_or m from 0 ∷ r) (gathered_run p m (suc at) (suc from) n
    (λ j l. ap p (suc-add at j ∙ sym (add-suc at j)) ∙ h (suc j) (omega arith) ∙ add-suc from j ∙ sym (suc-add from j))))

pub two_reads : (m : List ℕ) (b : Buffer) (at head n : ℕ) → head ≤ n
    → (offset m b + at) % 4096 + head ≤ 4096
    → (offset m b + (at + head)) % 4096 + (n - head) ≤ 4096
    → gathered (λ j. j) m (place m b at) head ++ gathered (λ j. j) m (place m b (at + head)) (n - head) ≡ gathered (place m b) m at n
two_reads m b at head n h a z =
    let s : gathered (place m b) m at head ≡ gathered (λ j. j) m (place m b at) head
    = gathered_run (place m b) m at (place m b at) head (λ j l. place_run m b at j (omega arith)) in
    let t : gathered (place m b) m (at + head) (n - head) ≡ gathered (λ j. j) m (place m b (at + head)) (n - head)
    = gathered_run (place m b) m (at + head) (place m b (at + head)) (n - head) (λ j l. place_run m b (at + head) j (omega arith)) in
    let k : head + (n - head) ≡ n = omega arith in
    let e = gathered_add (place m b) m at head (n - head) in
    sym (ap (gathered (place m b) m at) (sym k) ∙ e ∙ rw (s, t))

-- two parts written side by side
pub two_parts : (us bs xs : List ℕ) (head : ℕ) → length us ≡ head
    → put_mid head (length (us ++ drop head xs) - head) (us ++ drop head xs) bs ≡ us ++ bs
two_parts us bs xs head a =
    let t = take_at us (drop head xs) head a in
    let u = drop_at us (drop head xs) head a in
    let v : drop (length (us ++ drop head xs) - head) (drop head xs) ≡ [] = drop_all (length (us ++ drop head xs) - head) (drop head xs) (omega (arith, length-append us (drop head xs))) in
    rw (t, u, v, append-nil bs)

-- stores past the end do nothing, so those before the end are all
pub sets_cut : (l : List ℕ) (i n : ℕ) (xs : List ℕ) → (i + n < length l → length xs ≤ n) → sets l i (take n xs) ≡ sets l i xs
sets_cut l i zero [] h = refl
sets_cut l i (suc n) [] h = refl
sets_cut l i zero (x ∷ xs) h = elim (cases_lt (i + 0) (length l)) [
  | inl a ↦ (let z : suc (length xs) ≤ 0 = h a in absurd (omega arith))
  | inr a ↦ sym (sets_past l i (x ∷ xs) (omega arith))
]
sets_cut l i (suc n) (x ∷ xs) h = sets_cut (set l i x) (suc i) n xs
    (λ a. (let b : i + suc n < length l = omega (arith, length-set l i x) in let z : suc (length xs) ≤ suc n = h b in omega arith))

-- a read that goes past the end of memory shows zeros there
pub gathered_cut : (m : List ℕ) (from n room : ℕ) → n ≤ room → from + n ≤ length m → (n < room → length m ≤ from + n)
    → take n (drop from m) ++ replicate (room - n) 0 ≡ gathered (λ j. j) m from room
gathered_cut m from n room a b h =
    let e : n + (room - n) ≡ room = omega arith in
    let rest : gathered (λ j. j) m (from + n) (room - n) ≡ replicate (room - n) 0 = elim (cases_lt n room) [
      | inl l ↦ gathered_past m (from + n) (room - n) (h l)
      | inr l ↦ (let z : room - n ≡ 0 = omega arith in rw z)
    ] in
    sym (ap (gathered (λ j. j) m from) (sym e) ∙ gathered_add (λ j. j) m from n (room - n) ∙ rw (gathered_within m from n b, rest))
