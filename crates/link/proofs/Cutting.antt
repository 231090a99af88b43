-- Cutting keeps the bytes, and packets have the lengths that are said.
use Rattle.std.proofs.Common.{◌≡◌, ℕ, zero, suc, ◌+◌, ◌*◌, ◌/◌, ◌%◌, ◌<◌, ◌≤◌, List, [], ◌++◌, length, get_or, take, drop, ap, ◌∙◌, ⊎_elim, mul-le-mul_right, mod-lt, add-mul, one-mul, div-add-mod', arith, length-drop, length-take}
use Rattle.std.specs.List.{flat_map}
use Rattle.std.proofs.lemmas.List.FromFn.{length-map-range_with_len, get_or-map-range_with_len}
use Rattle.std.proofs.lemmas.List.{take_all, take-append-drop, append-nil}
use Rattle.std.proofs.lemmas.Bool.{cases_lt}
use Rattle.link.specs.Text.{packets}
use Rattle.link.specs.Cutting.{MessagesCut}
use Rattle.link.proofs.Cuts.{packets_short, packets_long}

packet_at : (P : ℕ) (m : List ℕ) (i : ℕ) → i < length m / P + 1 → get_or (packets P m) i [] ≡ take P (drop (i * P) m)
unfolding packets
packet_at P m i l = get_or-map-range_with_len (λ k. take P (drop (k * P) m)) 0 (length m / P + 1) i i [] l (omega arith)

count_packets : (P : ℕ) (m : List ℕ) → length (packets P m) ≡ length m / P + 1
unfolding packets
count_packets P m = length-map-range_with_len (λ k. take P (drop (k * P) m)) 0 (length m / P + 1)

full_packet : (P : ℕ) (m : List ℕ) (i : ℕ) → i < length m / P → length (get_or (packets P m) i []) ≡ P
full_packet P m i l =
    let q : i + 1 ≤ length m / P = omega arith in
    let g : i * P + P ≤ length m = omega (arith, mul-le-mul_right P q, add-mul i 1 P, one-mul P, div-add-mod' (length m) P) in
    ap length (packet_at P m i (omega arith)) ∙ (let e : length (take P (drop (i * P) m)) ≡ P = simp (length-take, length-drop) (omega arith) in e)

last_packet : (P : ℕ) (m : List ℕ) → 0 < P → length (get_or (packets P m) (length m / P) []) ≡ length m % P
last_packet P m p =
    let n : ℕ = length m / P in
    let d = div-add-mod' (length m) P in
    let r = mod-lt (length m) p in
    ap length (packet_at P m n (omega arith)) ∙ (let e : length (take P (drop (n * P) m)) ≡ length m % P = simp (length-take, length-drop) (omega arith) in e)

-- one packet on
whole_step : (P : ℕ) (m : List ℕ) → 0 < P → (P ≤ length m → flat_map (λ x. x) (packets P (drop P m)) ≡ drop P m) → flat_map (λ x. x) (packets P m) ≡ m
whole_step P m p rest = ⊎_elim
    (λ (s : length m < P). ap (λ t. flat_map (λ x. x) t) (packets_short P m s) ∙ append-nil (take P m) ∙ take_all P m (omega arith))
    (λ (l : P ≤ length m). ap (λ t. flat_map (λ x. x) t) (packets_long P m p l) ∙ ap (λ t. take P m ++ t) (rest l) ∙ take-append-drop P m)
    (cases_lt (length m) P)

-- by how long the message is at most
whole_by : (n P : ℕ) (m : List ℕ) → 0 < P → length m ≤ n → flat_map (λ x. x) (packets P m) ≡ m
whole_by zero P m p h = whole_step P m p (λ l. absurd (let f : ⊥ = omega arith in f))
whole_by (suc n) P m p h = whole_step P m p (λ l. whole_by n P (drop P m) p (omega (arith, length-drop P m)))

pub messages_cut : MessagesCut
messages_cut P m p = record { many = count_packets P m; full = full_packet P m; last = last_packet P m p; whole = whole_by (length m) P m p (omega arith) }
