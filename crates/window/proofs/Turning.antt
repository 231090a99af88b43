-- A turned word, the word that asks, and the way to the first set bit, by bits.
use Rattle.std.proofs.Common.{◌≡◌, ℕ, zero, suc, ◌+◌, ◌-◌, ◌*◌, ◌/◌, ◌%◌, ◌^◌, ◌<◌, ◌≤◌, min, sym, ap, ◌∙◌, inl, inr, mod-lt, mod-eq_of_lt, add_comm, div-one, arith, pow_mono}
use native.Mathlib.Nat.{add-mod-mod, mod-add-mod, add-mod_right, min_comm, zero-mod}
use lib.Count.{count_trailing_zeros}
use lib.Bits.{bit_or, or_shifted_r}
use Rattle.std.proofs.lemmas.Nat.{pow_pos, mod_below, shr_below, shl_whole, shr_le}
use Rattle.std.proofs.lemmas.Bool.{cases_lt}
use Rattle.window.specs.Numbers.{bit, Bit}
use Rattle.window.specs.Words.{swung, turned, asked, ahead, others, shown, Turned, Asks, distance, Nearest, Shows}
use Rattle.window.proofs.Bits.{bit_shr, bit_others, bit_cases, bit_past, bit_mod, bit_swung, trailing_is, trailing_none, first_set, small_sum, trailing_min}

-- bit i of a turned word
pub bit_turned : (M k v i : ℕ) → i < M → bit (turned M k v) i ≡ bit v ((k + i) % M)
unfolding turned
bit_turned M k v i l =
    let p : 0 < M = omega arith in
    let kM = mod-lt k p in
    let kl : k % M ≤ M = omega arith in
    bit_swung M (k % M) (v % 2 ^ M) i kl (mod_below v (2 ^ M) (pow_pos M)) l
    ∙ ap (bit (v % 2 ^ M)) (mod-add-mod k M i)
    ∙ bit_mod v M ((k + i) % M) (mod-lt (k + i) p)

-- a turned word has M bits
pub turned_below : (M k v : ℕ) → turned M k v < 2 ^ M
unfolding turned
turned_below zero k v =
    let e : v % 2 ^ 0 ≡ 0 = omega arith in
    let z : 0 % 2 ^ (k % 0) ≡ 0 = zero-mod (2 ^ (k % 0)) in
    rw (e, z) (omega (arith, pow_pos (k % 0)))
turned_below (suc m) k v =
    let M = suc m in
    let p : 0 < suc m = omega arith in
    let kM = mod-lt k p in
    let kl : k % suc m ≤ suc m = omega arith in
    let e : suc m - k % suc m + k % suc m ≡ suc m = omega arith in
    let h : v % 2 ^ suc m < 2 ^ (suc m - k % suc m + k % suc m) = rw e (mod_below v (2 ^ suc m) (pow_pos (suc m))) in
    small_sum (suc m) (k % suc m) (v % 2 ^ suc m / 2 ^ (k % suc m)) (v % 2 ^ suc m % 2 ^ (k % suc m)) kl
    (shr_below (v % 2 ^ suc m) (suc m - k % suc m) (k % suc m) h) (mod_below (v % 2 ^ suc m) (2 ^ (k % suc m)) (pow_pos (k % suc m)))

pub turned_turned : (M k v : ℕ) → Turned M k v (turned M k v)
turned_turned M k v =
    record {
      small = turned_below M k v;
      each = λ i l. ((λ b. sym (bit_turned M k v i l) ∙ b), (λ b. bit_turned M k v i l ∙ b));
    }

-- there and back on the ring
there : (M x i : ℕ) → x < M → i < M → (M - x + (x + i) % M) % M ≡ i
there M x i hx hi =
    let e : M - x + (x + i) ≡ i + M = omega arith in
    add-mod-mod (M - x) (x + i) M ∙ ap (λ y. y % M) e ∙ add-mod_right i M ∙ mod-eq_of_lt hi

pub back : (M h s : ℕ) → s < M → (h + (M - h % M + s) % M) % M ≡ s
back M h s hs =
    let p : 0 < M = omega arith in
    let l = mod-lt h p in
    let e : h % M + (M - h % M + s) ≡ s + M = omega arith in
    add-mod-mod h (M - h % M + s) M ∙ sym (mod-add-mod h M (M - h % M + s)) ∙ ap (λ y. y % M) e ∙ add-mod_right s M ∙ mod-eq_of_lt hs

-- bit s of the word that asks
bit_asked : (M h v s : ℕ) → s < M → bit (asked M h v) s ≡ bit v ((M - h % M + s) % M)
unfolding asked
bit_asked M h v s l = bit_turned M (M - h % M) v s l

asked_below : (M h v : ℕ) → asked M h v < 2 ^ M
unfolding asked
asked_below M h v = turned_below M (M - h % M) v

pub asked_asks : (M h v : ℕ) → Asks M h v (asked M h v)
asked_asks M h v = record { each = each; only = only }
  where
    each : (i : ℕ) → i < M → Bit v i → Bit (asked M h v) ((h + i) % M)
    each i l b =
        let p : 0 < M = omega arith in
        let e : (M - h % M + (h + i) % M) % M ≡ i = ap (λ y. (M - h % M + y) % M) (sym (mod-add-mod h M i)) ∙ there M (h % M) i (mod-lt h p) l in
        bit_asked M h v ((h + i) % M) (mod-lt (h + i) p) ∙ ap (bit v) e ∙ b

    only : (s : ℕ) → Bit (asked M h v) s → (i : ℕ) × (i < M) × Bit v i × (s ≡ (h + i) % M)
    only s b =
        let l : s < M = elim (cases_lt s M) [ inl y ↦ y | inr g ↦ (let z = bit_past (asked M h v) M s (asked_below M h v) g in absurd (omega arith)) ] in
        let p : 0 < M = omega arith in
        ((M - h % M + s) % M, mod-lt (M - h % M + s) p, sym (bit_asked M h v s l) ∙ b, sym (back M h s l))

-- the first set bit is as far as the trailing zeros say
pub ahead_nearest : (M k v : ℕ) → Nearest M k v (ahead M k v)
unfolding ahead
ahead_nearest M k v =
    elim (first_set M (turned M k v)) [
      | inl none ↦ rw (trailing_none M (turned M k v) none) (missing none)
      | inr found ↦ rw (trailing_is M (turned M k v) found.0 found.1 found.2 found.3) (at found.0 found.1 found.2 found.3)
    ]
  where
    place : (s : ℕ) → s < M → bit (turned M k v) (distance M k s) ≡ bit v s
    place s l =
        let p : 0 < M = omega arith in
        let e : (k + (s + (M - k % M)) % M) % M ≡ s = ap (λ x. (k + x % M) % M) (add_comm s (M - k % M)) ∙ back M k s l in
        bit_turned M k v (distance M k s) (mod-lt (s + (M - k % M)) p) ∙ ap (bit v) e

    nigh : (d : ℕ) → d < M → distance M k ((k + d) % M) ≡ d
    nigh d l =
        let p : 0 < M = omega arith in
        ap (λ x. x % M) (add_comm ((k + d) % M) (M - k % M)) ∙ ap (λ y. (M - k % M + y) % M) (sym (mod-add-mod k M d)) ∙ there M (k % M) d (mod-lt k p) l

    least : (d : ℕ) → ((i : ℕ) → i < d → bit (turned M k v) i ≡ 0) → (s : ℕ) → s < M → Bit v s → d ≤ distance M k s
    least d z s l b =
        elim (cases_lt (distance M k s) d) [
          | inl y ↦ (let one : bit (turned M k v) (distance M k s) ≡ 1 = place s l ∙ b in let nil = z (distance M k s) y in absurd (omega arith))
          | inr g ↦ g
        ]

    clear : (d : ℕ) → d ≤ M → ((i : ℕ) → i < d → bit (turned M k v) i ≡ 0) → (i : ℕ) → i < d → Bit v ((k + i) % M) → ⊥
    clear d m z i l b =
        let one = bit_turned M k v i (omega arith) ∙ b in
        let nil = z i l in
        omega arith

    missing : ((i : ℕ) → i < M → bit (turned M k v) i ≡ 0) → Nearest M k v M
    missing none =
        record { most = omega arith; clear = clear M (omega arith) none; set = λ l. absurd (omega arith); least = least M none; met = λ l. absurd (omega arith) }

    at : (d : ℕ) → d < M → ((i : ℕ) → i < d → bit (turned M k v) i ≡ 0) → bit (turned M k v) d ≡ 1 → Nearest M k v d
    at d l z o =
        record {
          most = omega arith;
          clear = clear d (omega arith) z;
          set = λ m. sym (bit_turned M k v d l) ∙ o;
          least = least d z;
          met = nigh d;
        }

-- what the code makes of a word

pub turn_is : (M k v r : ℕ) → r ≡ turned M k v → Turned M k v r
turn_is M k v r e = rw e (turned_turned M k v)

pub turn_parts : (M first v w low : ℕ) → M ≤ 32 → (M ≡ 0 → ⊥) → w ≡ v % 2 ^ M → low ≡ w % 2 ^ (first % M)
    → bit_or (w / 2 ^ (first % M)) ((low * 2 ^ (M - first % M)) % 2 ^ 32) ≡ turned M first v
unfolding turned
turn_parts M first v w low q nz ew el =
    let p : 0 < M = omega arith in
    let k = mod-lt first p in
    let e : M - first % M + first % M ≡ M = omega arith in
    let small : w < 2 ^ (M - first % M + first % M) = rw (ew, e) (mod_below v (2 ^ M) (pow_pos M)) in
    let whole : (low * 2 ^ (M - first % M)) % 2 ^ 32 ≡ low * 2 ^ (M - first % M) =
    rw el (shl_whole (w % 2 ^ (first % M)) (first % M) (M - first % M) 32 (mod_below w (2 ^ (first % M)) (pow_pos (first % M))) (omega arith)) in
    ap (bit_or (w / 2 ^ (first % M))) whole ∙ or_shifted_r low (M - first % M) (w / 2 ^ (first % M)) (shr_below w (M - first % M) (first % M) small)
    ∙ add_comm (low * 2 ^ (M - first % M)) (w / 2 ^ (first % M))
    ∙ ap (λ x. w / 2 ^ (first % M) + x * 2 ^ (M - first % M)) el
    ∙ ap (λ x. swung M (first % M) x) ew

pub turn_none : (M first v : ℕ) → M ≡ 0 → ◌≡◌ {A = ℕ} 0 (turned M first v)
turn_none M first v z = rw z (omega (arith, turned_below 0 first v))

pub turn_first : (M first v w : ℕ) → first % M ≡ 0 → w ≡ v % 2 ^ M → w ≡ turned M first v
unfolding turned
turn_first M first v w z ew =
    let one : v % 2 ^ M % 2 ^ 0 ≡ 0 = omega arith in
    ew ∙ sym (rw (z, one) (omega (arith, div-one (v % 2 ^ M))))

pub ask_none : (M next v : ℕ) → M ≡ 0 → ◌≡◌ {A = ℕ} 0 (asked M next v)
unfolding asked
ask_none M next v z = turn_none M (M - next % M) v z

pub ask_is : (M next v r : ℕ) → r ≡ turned M (M - next % M) v → r ≡ asked M next v
unfolding asked
ask_is M next v r e = e

pub asks_by : (M h v r : ℕ) → r ≡ asked M h v → Asks M h v r
asks_by M h v r e = rw e (asked_asks M h v)

pub ahead_is : (M first v t z r : ℕ) → M ≤ 32 → t ≡ turned M first v → z ≡ count_trailing_zeros 32 t → r ≡ min z M → r ≡ ahead M first v
unfolding ahead
ahead_is M first v t z r q et ez er =
    er ∙ min_comm z M ∙ ap (min M) (ez ∙ ap (count_trailing_zeros 32) et) ∙ sym (trailing_min M 32 (turned M first v) q)

pub nearest_by : (M k v d : ℕ) → d ≡ ahead M k v → Nearest M k v d
nearest_by M k v d e = rw e (ahead_nearest M k v)

-- the offsets that are shown clear

shown_past : (M k n v : ℕ) → n ≤ ahead M k v → ◌≡◌ {A = ℕ} 0 (shown M k n v)
unfolding shown
shown_past M k n v l =
    let e : n - ahead M k v ≡ 0 = omega arith in
    rw e (omega arith)

pub shown_shows : (M k n v : ℕ) → M ≤ 32 → n ≤ M → Shows M k n v (ahead M k v) (shown M k n v)
unfolding shown
shown_shows M k n v m32 nM i = (there_is, is_there)
  where
    d : ℕ
    d = ahead M k v

    t : ℕ
    t = turned M k v / 2 ^ ahead M k v

    small : turned M k v / 2 ^ ahead M k v < 2 ^ 32
    small = omega (arith, turned_below M k v, shr_le (turned M k v) (ahead M k v), pow_mono m32)

    at : ahead M k v + i < M → bit (turned M k v / 2 ^ ahead M k v) i ≡ bit v ((k + (ahead M k v + i)) % M)
    at l = bit_shr (turned M k v) (ahead M k v) i ∙ bit_turned M k v (ahead M k v + i) l

    there_is : Bit (others (n - ahead M k v) (turned M k v / 2 ^ ahead M k v)) i → (ahead M k v + i < n) × (Bit v ((k + (ahead M k v + i)) % M) → ⊥)
    there_is b =
        let l : i < n - ahead M k v =
        elim (cases_lt i (n - ahead M k v)) [
          | inl y ↦ y
          | inr g ↦
              (let z = bit_past (others (n - ahead M k v) (turned M k v / 2 ^ ahead M k v)) (n - ahead M k v) i
              (mod_below (2 ^ 32 - 1 - turned M k v / 2 ^ ahead M k v) (2 ^ (n - ahead M k v)) (pow_pos (n - ahead M k v))) g in
              absurd (omega arith))
        ] in
        let o = bit_others (n - ahead M k v) (turned M k v / 2 ^ ahead M k v) i small (omega arith) l in
        (omega arith, λ x. (let y = at (omega arith) in omega arith))

    is_there : (ahead M k v + i < n) × (Bit v ((k + (ahead M k v + i)) % M) → ⊥) → Bit (others (n - ahead M k v) (turned M k v / 2 ^ ahead M k v)) i
    is_there p =
        let l = p.0 in
        let o = bit_others (n - ahead M k v) (turned M k v / 2 ^ ahead M k v) i small (omega arith) (omega arith) in
        elim (bit_cases v ((k + (ahead M k v + i)) % M)) [
          | inl z ↦ (let y = at (omega arith) in omega arith)
          | inr x ↦ absurd (p.1 x)
        ]

pub shown_none : (M n C first v d : ℕ) → C ≡ min n M → d ≡ ahead M first v → C ≤ d → ◌≡◌ {A = ℕ} 0 (shown M first (min n M) v)
shown_none M n C first v d qc e l = shown_past M first (min n M) v (omega arith)

pub shown_is : (M n C first v d t r : ℕ) → C ≡ min n M → d ≡ ahead M first v → t ≡ turned M first v
    → r ≡ (4294967295 - t / 2 ^ d) % 2 ^ (C - d) → r ≡ shown M first (min n M) v
unfolding shown
shown_is M n C first v d t r c ed et er =
    er ∙ ap (λ x. (4294967295 - x / 2 ^ d) % 2 ^ (C - d)) et ∙ ap (λ x. others (C - x) (turned M first v / 2 ^ x)) ed
    ∙ ap (λ x. others (x - ahead M first v) (turned M first v / 2 ^ ahead M first v)) c

pub shows_by : (M n first v r : ℕ) → M ≤ 32 → r ≡ shown M first (min n M) v → Shows M first (min n M) v (ahead M first v) r
shows_by M n first v r q e = rw e (shown_shows M first (min n M) v (omega arith) (omega arith))
