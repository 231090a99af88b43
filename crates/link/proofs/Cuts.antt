-- How the packets of a text follow one another.
use Rattle.std.proofs.Common.{◌≡◌, ℕ, zero, suc, ◌+◌, ◌-◌, ◌*◌, ◌/◌, ◌<◌, ◌≤◌, ltb, List, [], ◌∷◌, ◌++◌, map, length, get_or, take, drop, sym, refl, ap, ◌∙◌, ⊎_elim, mul-le-mul_right, add-mul, add_comm, one-mul, div-add-mod', zero-mul, div-le_self, div-mul-le_self, add-one, arith, length-append, length-drop, length-take}
use native.Mathlib.Nat.{div-eq_of_lt, div-eq-sub-div}
use lib.ListN.{length-map}
use Rattle.std.proofs.lemmas.List.FromFn.{length-range_with_len}
use Rattle.link.specs.Terms.{bytes_of}
use Rattle.std.specs.List.{range_with_len, flat_map}
use Rattle.std.proofs.lemmas.List.{drop-drop, get_or-drop}
use Rattle.std.proofs.lemmas.Bool.{lt-ltb, le-ltb, cases_lt, cond-true, cond-false}
use Rattle.std.proofs.lemmas.Nat.{div_below, mod_below}
use Rattle.link.specs.declared.term.Window.{Window}
use Rattle.link.specs.Meaning.{In, Allowed}
use Rattle.link.specs.Text.{packets, text_packets, after, rest}

shift : (f : ℕ → List ℕ) (a n : ℕ) → map f (range_with_len (a + 1) n) ≡ map (λ i. f (i + 1)) (range_with_len a n)
shift f a zero = refl
shift f a (suc n) = ap (λ t. f (a + 1) ∷ t) (shift f (a + 1) n)

map_same : (f g : ℕ → List ℕ) (a n : ℕ) → ((i : ℕ) → f i ≡ g i) → map f (range_with_len a n) ≡ map g (range_with_len a n)
map_same f g a zero h = refl
map_same f g a (suc n) h = let e = h a in let t = map_same f g (a + 1) n h in cc

pub packets_short : (P : ℕ) (m : List ℕ) → length m < P → packets P m ≡ take P m ∷ []
unfolding packets
packets_short P m h = rw (div-eq_of_lt h, zero-mul) refl

pub packets_long : (P : ℕ) (m : List ℕ) → 0 < P → P ≤ length m → packets P m ≡ take P m ∷ packets P (drop P m)
unfolding packets
packets_long P m p h =
    let n : ℕ = length (drop P m) / P in
    let f : ℕ → List ℕ = λ i. take P (drop (i * P) m) in
    let e : length m / P ≡ n + 1 = div-eq-sub-div p h ∙ ap (λ k. k / P + 1) (sym (length-drop P m)) in
    let z : f 0 ≡ take P m = ap (λ k. take P (drop k m)) (zero-mul P) in
    let same : (i : ℕ) → f (i + 1) ≡ take P (drop (i * P) (drop P m)) =
    λ i. ap (λ k. take P (drop k m)) (add-mul i 1 P ∙ ap (λ k. i * P + k) (one-mul P) ∙ add_comm (i * P) P) ∙ ap (λ t. take P t) (sym (drop-drop (i * P) P m)) in
    ap (λ k. map f (range_with_len 0 (k + 1))) e ∙ ap (λ k. map f (range_with_len 0 k)) (add-one (n + 1))
    ∙ ap (λ t. t ∷ map f (range_with_len 1 (n + 1))) z
    ∙ ap (λ t. take P m ∷ t) (shift f 0 (n + 1) ∙ map_same (λ i. f (i + 1)) (λ i. take P (drop (i * P) (drop P m))) 0 (n + 1) same)

-- a text has at most as many packets as bytes and messages together
pub packets_few : (P : ℕ) (ms : List (List ℕ)) → length (text_packets P ms) ≤ bytes_of ms + length ms
unfolding text_packets packets
packets_few P [] = omega arith
packets_few P (m ∷ ms) =
    let f : ℕ → List ℕ = λ i. take P (drop (i * P) m) in
    let n : ℕ = length m / P + 1 in
    omega (arith, packets_few P ms, length-append (map f (range_with_len 0 n)) (flat_map (packets P) ms), length-map (range_with_len 0 n) f, length-range_with_len 0 n, div-le_self (length m) P)

pub first_packet : (P : ℕ) (m : List ℕ) (ms : List (List ℕ)) → 0 < P
    → text_packets P (m ∷ ms) ≡ take P m ∷ text_packets P (after P (m ∷ ms))
unfolding text_packets
first_packet P m ms p =
    ⊎_elim
    (λ s. ap (λ t. t ++ flat_map (packets P) ms) (packets_short P m s) ∙ ap (λ t. take P m ∷ flat_map (packets P) t) (sym (cond-true (ltb (length m) P) ms (drop P m ∷ ms) (lt-ltb (length m) P s))))
    (λ l. ap (λ t. t ++ flat_map (packets P) ms) (packets_long P m p l) ∙ ap (λ t. take P m ∷ flat_map (packets P) t) (sym (cond-false (ltb (length m) P) ms (drop P m ∷ ms) (le-ltb (length m) P l))))
    (cases_lt (length m) P)

pub packets_after : (P : ℕ) (ms : List (List ℕ)) → 0 < P → text_packets P (after P ms) ≡ drop 1 (text_packets P ms)
unfolding text_packets
packets_after P [] p = refl
packets_after P (m ∷ ms) p = sym (ap (λ t. drop 1 t) (first_packet P m ms p))

pub packets_rest : (P : ℕ) (ms : List (List ℕ)) (k : ℕ) → 0 < P → text_packets P (rest P ms k) ≡ drop k (text_packets P ms)
packets_rest P ms zero p = refl
packets_rest P ms (suc k) p = packets_after P (rest P ms k) p ∙ ap (λ t. drop 1 t) (packets_rest P ms k p) ∙ drop-drop 1 k (text_packets P ms) ∙ ap (λ n. drop n (text_packets P ms)) (add-one k)

-- a packet is left exactly where a message is left
pub none_left : (P : ℕ) (ms : List (List ℕ)) (k : ℕ) → 0 < P → rest P ms k ≡ [] → length (text_packets P ms) ≤ k
unfolding text_packets
none_left P ms k p e =
    let z : length (drop k (text_packets P ms)) ≡ 0 = ap length (sym (packets_rest P ms k p)) ∙ ap (λ t. length (text_packets P t)) e in
    omega (arith, length-drop k (text_packets P ms))

pub one_left : (P : ℕ) (ms : List (List ℕ)) (k : ℕ) (m : List ℕ) (ns : List (List ℕ)) → 0 < P → rest P ms k ≡ m ∷ ns → k < length (text_packets P ms)
one_left P ms k m ns p e =
    let z : length (drop k (text_packets P ms)) ≡ suc (length (text_packets P (after P (m ∷ ns)))) =
    ap length (sym (packets_rest P ms k p)) ∙ ap (λ t. length (text_packets P t)) e ∙ ap length (first_packet P m ns p) in
    omega (arith, length-drop k (text_packets P ms))

-- within a message, packet i starts at byte i × P, and those before it have P bytes
pub within : (P : ℕ) (i : ℕ) (m : List ℕ) (ms : List (List ℕ)) → 0 < P → i * P ≤ length m
    → get_or (text_packets P (m ∷ ms)) i [] ≡ take P (drop (i * P) m)
within P zero m ms p h = ap (λ t. get_or t 0 []) (first_packet P m ms p) ∙ ap (λ k. take P (drop k m)) (sym (zero-mul P))
within P (suc i) m ms p h =
    let q : suc i * P ≡ P + i * P = ap (λ k. k * P) (sym (add-one i)) ∙ add-mul i 1 P ∙ ap (λ k. i * P + k) (one-mul P) ∙ add_comm (i * P) P in
    let l : P ≤ length m = omega arith in
    let g : i * P ≤ length (drop P m) = simp length-drop (omega arith) in
    ap (λ t. get_or t (suc i) []) (first_packet P m ms p)
    ∙ ap (λ t. get_or (text_packets P t) i []) (cond-false (ltb (length m) P) ms (drop P m ∷ ms) (le-ltb (length m) P l))
    ∙ within P i (drop P m) ms p g
    ∙ ap (λ t. take P t) (drop-drop (i * P) P m ∙ ap (λ k. drop k m) (sym q))

-- and a packet past the end of the message is not there, or has a short one before it
pub beyond : (P : ℕ) (i : ℕ) (m : List ℕ) (ms : List (List ℕ)) → 0 < P → length m < i * P
    → (j : ℕ) × (j < i) × (length (get_or (text_packets P (m ∷ ms)) j []) < P)
beyond P i m ms p h =
    let j : ℕ = length m / P in
    let l : j * P ≤ length m = div-mul-le_self (length m) P in
    let e : get_or (text_packets P (m ∷ ms)) j [] ≡ take P (drop (j * P) m) = within P j m ms p l in
    (j, div_below (length m) P i p h, rw e (simp (length-take, length-drop) (omega (arith, div-add-mod' (length m) P, mod_below (length m) P p))))

-- so packet i of the text is there
pub within_exists : (P : ℕ) (i : ℕ) (m : List ℕ) (ms : List (List ℕ)) → 0 < P → i * P ≤ length m → i < length (text_packets P (m ∷ ms))
within_exists P zero m ms p h = omega (arith, ap length (first_packet P m ms p))
within_exists P (suc i) m ms p h =
    let q : suc i * P ≡ P + i * P = ap (λ k. k * P) (sym (add-one i)) ∙ add-mul i 1 P ∙ ap (λ k. i * P + k) (one-mul P) ∙ add_comm (i * P) P in
    let l : P ≤ length m = omega arith in
    let g : i * P ≤ length (drop P m) = simp length-drop (omega arith) in
    omega (
      arith,
      within_exists P i (drop P m) ms p g,
      ap length (first_packet P m ms p) ∙ ap (λ t. suc (length (text_packets P t))) (cond-false (ltb (length m) P) ms (drop P m ∷ ms) (le-ltb (length m) P l)),
    )

pub rest_add : (P : ℕ) (ms : List (List ℕ)) (k d : ℕ) → rest P (rest P ms k) d ≡ rest P ms (k + d)
rest_add P ms k zero = ap (λ n. rest P ms n) (let e : k ≡ k + 0 = omega arith in e)
rest_add P ms k (suc d) = ap (λ t. after P t) (rest_add P ms k d) ∙ ap (λ n. rest P ms n) (let e : suc (k + d) ≡ k + suc d = omega arith in e)

some_of : (P : ℕ) (ms : List (List ℕ)) (k : ℕ) → 0 < P → (rest P ms k ≡ [] → ⊥) → (t : List (List ℕ)) → rest P ms k ≡ t → k < length (text_packets P ms)
some_of P ms k p h [] e = absurd (h e)
some_of P ms k p h (m ∷ ns) e = one_left P ms k m ns p e

pub some_left : (P : ℕ) (ms : List (List ℕ)) (k : ℕ) → 0 < P → (rest P ms k ≡ [] → ⊥) → k < length (text_packets P ms)
some_left P ms k p h =
    let all : (t : List (List ℕ)) → rest P ms k ≡ t → k < length (text_packets P ms) = some_of P ms k p h in all (rest P ms k) refl

-- packet k + j of a text is packet j of what is left after k
pub packet_rest : (P : ℕ) (ms : List (List ℕ)) (k j : ℕ) → 0 < P → get_or (text_packets P ms) (k + j) [] ≡ get_or (text_packets P (rest P ms k)) j []
packet_rest P ms k j p = sym (ap (λ t. get_or t j []) (packets_rest P ms k p) ∙ get_or-drop k (text_packets P ms) j [])

pub count_rest : (P : ℕ) (ms : List (List ℕ)) (k : ℕ) → 0 < P → length (text_packets P (rest P ms k)) ≡ length (text_packets P ms) - k
count_rest P ms k p = ap length (packets_rest P ms k p) ∙ length-drop k (text_packets P ms)

-- What a fetch may give, by what is left at the place.
module _ (w : Window) (n : In) (i : ℕ) (p : 0 < w.packet) where
  pub none_allowed : rest w.packet n.text n.place ≡ [] → (bs : List ℕ) → Allowed w n i bs → ⊥
  none_allowed e bs a = omega (arith, a.exists, none_left w.packet n.text n.place p e)

  pub past_allowed : w.burst ≤ i → (bs : List ℕ) → Allowed w n i bs → ⊥
  past_allowed h bs a = omega (arith, a.burst)

  module _ (m : List ℕ) (ms : List (List ℕ)) (e : rest w.packet n.text n.place ≡ m ∷ ms) where
    at_place : (j : ℕ) → get_or (text_packets w.packet n.text) (n.place + j) [] ≡ get_or (text_packets w.packet (m ∷ ms)) j []
    at_place j = packet_rest w.packet n.text n.place j p ∙ ap (λ t. get_or (text_packets w.packet t) j []) e

    pub beyond_allowed : length m < i * w.packet → (bs : List ℕ) → Allowed w n i bs → ⊥
    beyond_allowed h bs a =
        let b = beyond w.packet i m ms p h in
        omega (arith, b.2, a.full b.0 b.1, ap length (at_place b.0))

    pub is_allowed : i < w.burst → i * w.packet ≤ length m → Allowed w n i (take w.packet (drop (i * w.packet) m))
    is_allowed l h = record {
      burst = l;
      exists = omega (arith, within_exists w.packet i m ms p h, count_rest w.packet n.text n.place p, ap (λ t. length (text_packets w.packet t)) e);
      full = λ j less.
          let g : j * w.packet + w.packet ≤ i * w.packet = (let q : j + 1 ≤ i = omega arith in omega (arith, mul-le-mul_right w.packet q, add-mul j 1 w.packet, one-mul w.packet)) in
          let x : length (take w.packet (drop (j * w.packet) m)) ≡ w.packet = simp (length-take, length-drop) (omega arith) in
          ap length (at_place j ∙ within w.packet j m ms p (omega arith)) ∙ x;
      is = sym (at_place i ∙ within w.packet i m ms p h);
    }
