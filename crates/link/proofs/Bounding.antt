-- A Restart keeps the bounds of a term: what is left of a text is no larger, and its packets are few at every packet size.
use Rattle.std.proofs.Common.{◌≡◌, ℕ, zero, suc, ◌≤◌, Bool, true, false, cond, ltb, List, [], ◌∷◌, length, drop, Some, None, Option, arith, length-drop}
use Rattle.link.specs.declared.term.Window.{Window}
use Rattle.link.specs.Text.{after, rest}
use Rattle.link.specs.Meaning.{absent, inward, outward, unacknowledged}
use Rattle.link.specs.Terms.{bytes_of, RestartBounded}
use Rattle.link.proofs.Cuts.{packets_few}

after_few : (P : ℕ) (ms : List (List ℕ)) → (bytes_of (after P ms) ≤ bytes_of ms) × (length (after P ms) ≤ length ms)
after_few P [] = (omega arith, omega arith)
after_few P (m ∷ ms) = at (ltb (length m) P)
  where
    at : (b : Bool) → (bytes_of (cond b ms (drop P m ∷ ms)) ≤ bytes_of (m ∷ ms)) × (length (cond b ms (drop P m ∷ ms)) ≤ length (m ∷ ms))
    at true = (omega arith, omega arith)
    at false = (omega (arith, length-drop P m), omega arith)

rest_few : (P : ℕ) (ms : List (List ℕ)) (k : ℕ) → (bytes_of (rest P ms k) ≤ bytes_of ms) × (length (rest P ms k) ≤ length ms)
rest_few P ms zero = (omega arith, omega arith)
rest_few P ms (suc k) =
    let a = after_few P (rest P ms k) in
    let b = rest_few P ms k in
    (omega (arith, a.0, b.0), omega (arith, a.1, b.1))

left_few : (n : Option Window) (ms : List (List ℕ)) (k : ℕ) → (bytes_of (unacknowledged n ms k) ≤ bytes_of ms) × (length (unacknowledged n ms k) ≤ length ms)
left_few None ms k = (omega arith, omega arith)
left_few (Some w) ms k = rest_few w.packet ms k

pub restart_bounded : RestartBounded
restart_bounded absent w h = tt
restart_bounded (outward o) w h = record {
  bytes = omega arith;
  packets = omega arith;
  early = λ j b e. (let z : ◌≡◌ {A = ℕ} 0 1 = cc in absurd (let f : ⊥ = omega arith in f));
  ahead = λ j b e. (let z : ◌≡◌ {A = ℕ} 0 1 = cc in absurd (let f : ⊥ = omega arith in f));
}
restart_bounded (inward i) w h =
    let l = left_few i.numbers i.text i.place in
    let f = packets_few w.packet (unacknowledged i.numbers i.text i.place) in
    record {
      bytes = omega (arith, l.0, h.bytes);
      messages = omega (arith, l.1, h.messages);
      packets = omega (arith, f, l.0, l.1, h.bytes, h.messages);
    }
