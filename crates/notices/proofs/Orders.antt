-- The law of the notice buffer, by induction over the events.
use Rattle.std.proofs.Common.{◌≡◌, ℕ, ◌+◌, ◌-◌, ◌*◌, ◌/◌, ◌%◌, ◌^◌, ◌<◌, ◌≤◌, true, false, cond, ◌&&◌, eqb, ltb, leb, List, [], ◌∷◌, ◌++◌, map, length, take, replicate, Some, None, Option, sym, refl, ap, ◌∙◌, subst, inl, inr, append_assoc, append-nil, mod-lt, arith, length-append, MatchOption}
use native.Mathlib.Nat.{min-eq_left, min-le_right}
use lib.ListN.{length-replicate}
use Rattle.std.proofs.lemmas.List.{take_at, map-append}
use Rattle.std.proofs.lemmas.Bool.{cond_both, leb-true, leb-false, ltb-true, and_parts, not-false, cases_eq}
use Rattle.refusal.specs.declared.reason.Refusal.{Refusal}
use Rattle.refusal.specs.Numbers.{number}
use Rattle.refusal.specs.Chains.{Rises, AllClear, Brought, NoneBelow, judged}
use Rattle.refusal.proofs.Judging.{smallest}
use Rattle.ring.specs.Rings.{places, count, Avoids, Apart}
use Rattle.ring.specs.Rings as rings
use Rattle.ring.proofs.Places.{took, let_go}
use Rattle.ring.proofs.Apart.{next_avoids, places_apart}
use Rattle.notices.specs.Blocks.{Notice, block_of, fits, flags, key_number, key_byte, shows, with_block, cleared}
use Rattle.notices.specs.Boards.{Board, made_board, rules, next, filled, refused, answer_by, board_by, oldest, taking_of, taken_of}
use Rattle.notices.specs.Law.{Event, arrives, takes, switches, after, finally, if_accepted, accepts, accepted, if_taken, gives, given, left, read, EachOnce}
use Rattle.notices.proofs.Shown.{with_same, with_other, with_length, cleared_other, cleared_length}

-- reading a block gives its notice back
key_back : (k : Option ℕ) → key_number k < 2 ^ 24 → cond (eqb (flags k / 64 % 2) 1) (Some (key_byte k 0 + 256 * key_byte k 1 + 65536 * key_byte k 2)) None ≡ k
key_back None h = refl
key_back (Some k) h =
    let e : k / 1 % 256 + 256 * (k / 256 % 256) + 65536 * (k / 65536 % 256) ≡ k = omega arith in
    ap Some e

pub record Fit (n : Notice) : Type 0 where
  pub size : length n.bytes ≤ 56
  pub key : key_number n.key < 2 ^ 24

read_back : (n : Notice) → Fit n → read (block_of n) ≡ n
read_back n f =
    let k = key_back n.key f.key in
    let b = take_at n.bytes (replicate (56 - length n.bytes) 0) (length n.bytes) refl in
    let R : Option ℕ → List ℕ → Notice = λ key bytes. record { source = n.source; key = key; bytes = bytes } in
    ap (λ x. R x (take (length n.bytes) (n.bytes ++ replicate (56 - length n.bytes) 0))) k ∙ ap (R n.key) b

block_length : (n : Notice) → Fit n → length (block_of n) ≡ 64
block_length n f =
    let a = length-append n.bytes (replicate (56 - length n.bytes) 0) in
    let r = length-replicate {A = ℕ} (56 - length n.bytes) 0 in
    let s = f.size in
    omega arith

pub rises : (b : Board) (n : Notice) → Rises (rules b n)
rises b n = (omega arith, (omega arith, (omega arith, tt)))

-- no refusal: the notice fits, and a block is free
clear : (b : Board) (n : Notice) → judged (rules b n) ≡ None → AllClear (rules b n)
clear b n e =
    let P : Option Refusal → Type 0 = λ o. MatchOption o (AllClear (rules b n)) (λ f. Brought f (rules b n) × NoneBelow (number f) (rules b n)) in
    subst P e (smallest (rules b n) (rises b n))

fit : (b : Board) (n : Notice) → judged (rules b n) ≡ None → Fit n
fit b n e =
    let t : fits n.key n.bytes ≡ true = not-false (fits n.key n.bytes) (clear b n e).0 in
    let u = and_parts (leb 1 (length n.bytes)) (leb (length n.bytes) 56 && ltb (key_number n.key) (2 ^ 24)) t in
    let v = and_parts (leb (length n.bytes) 56) (ltb (key_number n.key) (2 ^ 24)) u.1 in
    record { size = leb-true (length n.bytes) 56 v.0; key = ltb-true (key_number n.key) (2 ^ 24) v.1 }

room : (b : Board) (n : Notice) → judged (rules b n) ≡ None → b.ring.used < 64
room b n e = leb-false 64 b.ring.used (clear b n e).1.1.0

-- maps that agree but at p agree on lists without p
map_avoids : (f g : ℕ → List ℕ) (p : ℕ) (xs : List ℕ) → ((q : ℕ) → (q ≡ p → ⊥) → f q ≡ g q) → Avoids p xs → map f xs ≡ map g xs
map_avoids f g p [] same h = refl
map_avoids f g p (x ∷ xs) same h =
    let a = same x h.0 in
    let b = map_avoids f g p xs same h.1 in
    cc

abbrev Whole : Board → Type 0
Whole b = length b.bytes ≡ 4096

-- one event: what was left and comes in is what goes out and is left then
abbrev Steps : Board → Event → Type 0
Steps b e = left b ++ map block_of (accepts b e) ≡ gives b e ++ left (after b e)

-- an arriving notice that is accepted
filled_left : (b : Board) (n : Notice) → Whole b → Fit n → b.ring.used < 64 → left b ++ (block_of n ∷ []) ≡ left (filled b n)
filled_left b n whole f lt =
    let r = b.ring in
    let p = next b in
    let below : p < 64 = mod-lt (r.first + r.used) (omega arith) in
    let t = took 64 r p lt refl in
    let o : rings.order 64 (rings.taken 64 r) ≡ rings.order 64 r ++ (p ∷ []) = ap (rings.order 64) (sym t.after) ∙ t.order in
    let c : r.used ≡ count 64 r = sym (min-eq_left {n = r.used} {m = 64} (omega arith)) in
    let P : ℕ → Type 0 = λ k. Avoids p (places 64 r.first k) in
    let av : Avoids p (rings.order 64 r) = subst P c (next_avoids 64 r.first r.used lt) in
    let bytes = with_block b.bytes p (block_of n) in
    let l = block_length n f in
    let m = map_avoids (shows b.bytes) (shows bytes) p (rings.order 64 r) (λ q ne. sym (with_other b.bytes p whole below (block_of n) q l ne)) av in
    let s = with_same b.bytes p whole below (block_of n) l in
    let e : map (shows bytes) (rings.order 64 (rings.taken 64 r)) ≡ map (shows bytes) (rings.order 64 r) ++ (shows bytes p ∷ []) = ap (map (shows bytes)) o ∙ map-append (shows bytes) (rings.order 64 r) (p ∷ []) in
    cc

refused_left : (b : Board) (f : Refusal) → left (refused b f) ≡ left b
refused_left b f =
    cond_both (eqb (number f) 16) (record { bytes = b.bytes; ring = b.ring; on = false; overflow = true }) b (λ x. left x ≡ left b) (λ t. refl) (λ t. refl)

refused_whole : (b : Board) (f : Refusal) → Whole b → Whole (refused b f)
refused_whole b f w =
    cond_both (eqb (number f) 16) (record { bytes = b.bytes; ring = b.ring; on = false; overflow = true }) b Whole (λ t. w) (λ t. w)

arriving_steps : (b : Board) (n : Notice) (o : Option Refusal) → judged (rules b n) ≡ o → Whole b
    → (left b ++ map block_of (if_accepted (answer_by o b) n) ≡ left (board_by o b n)) × Whole (board_by o b n)
arriving_steps b n None e w =
    let f = fit b n e in
    let lt = room b n e in
    (filled_left b n w f lt, with_length b.bytes (next b) w (mod-lt (b.ring.first + b.ring.used) (omega arith)) (block_of n) (block_length n f))
arriving_steps b n (Some f) e w = (append-nil (left b) ∙ sym (refused_left b f), refused_whole b f w)

-- taking the oldest
taken_left : (b : Board) (p : ℕ) → oldest b ≡ Some p → Whole b → 0 < count 64 b.ring
    → (left b ≡ shows b.bytes p ∷ left (taken_of (Some p) b)) × Whole (taken_of (Some p) b)
taken_left b p e w pos =
    let r = b.ring in
    let rest = rings.order 64 (rings.freed 64 r) in
    let t = let_go 64 r (r.first % 64) ((r.first + 1) % 64) (count 64 r - 1) pos refl refl refl in
    let s : Some p ≡ Some (r.first % 64) = sym e ∙ sym t.answer in
    let same : r.first % 64 ≡ p = cc in
    let o : rings.order 64 r ≡ p ∷ rest = t.order ∙ ap (λ s. r.first % 64 ∷ rings.order 64 s) t.after ∙ ap (λ x. x ∷ rest) same in
    let av : Avoids p rest = (subst Apart o (places_apart 64 r.first (count 64 r) (min-le_right r.used 64))).0 in
    let bytes = cleared b.bytes p in
    let m = map_avoids (shows b.bytes) (shows bytes) p rest (λ q ne. sym (cleared_other b.bytes p q ne)) av in
    (ap (map (shows b.bytes)) o ∙ ap (λ l. shows b.bytes p ∷ l) m, cleared_length b.bytes p ∙ w)

taking_steps : (b : Board) (o : Option ℕ) → oldest b ≡ o → Whole b
    → (left b ≡ if_taken (taking_of o) b ++ left (taken_of o b)) × Whole (taken_of o b)
taking_steps b None e w = (refl, w)
taking_steps b (Some p) e w =
    elim (cases_eq (count 64 b.ring) 0) [
      | inl z ↦
          let none : rings.order 64 b.ring ≡ [] = ap (places 64 b.ring.first) z in
          let q : None ≡ Some p = ap rings.oldest (sym none) ∙ e in
          absurd (let k : ◌≡◌ {A = ℕ} 0 1 = cc in omega arith)
      | inr ne ↦ taken_left b p e w (omega arith)
    ]

steps : (b : Board) (e : Event) → Whole b → Steps b e × Whole (after b e)
steps b (arrives n) w = arriving_steps b n (judged (rules b n)) refl w
steps b takes w =
    let t = taking_steps b (oldest b) refl w in
    (append-nil (left b) ∙ t.0, t.1)
steps b switches w = (append-nil (left b), w)

from : (b : Board) (es : List Event) → Whole b → left b ++ map block_of (accepted b es) ≡ given b es ++ left (finally b es)
from b [] w = append-nil (left b)
from b (e ∷ es) w =
    let s = steps b e w in
    let b' = after b e in
    let a = map block_of (accepts b e) in
    let more = map block_of (accepted b' es) in
    let m : map block_of (accepts b e ++ accepted b' es) ≡ a ++ more = map-append block_of (accepts b e) (accepted b' es) in
    ap (λ l. left b ++ l) m ∙ sym (append_assoc (left b) a more) ∙ ap (λ l. l ++ more) s.0 ∙ append_assoc (gives b e) (left b') more ∙ ap (λ l. gives b e ++ l) (from b' es s.1) ∙ sym (append_assoc (gives b e) (given b' es) (left (finally b' es)))

-- every accepted notice is read back
accepts_read : (b : Board) (n : Notice) (o : Option Refusal) → judged (rules b n) ≡ o → map read (map block_of (if_accepted (answer_by o b) n)) ≡ if_accepted (answer_by o b) n
accepts_read b n None e = ap (λ x. x ∷ []) (read_back n (fit b n e))
accepts_read b n (Some f) e = refl

event_read : (b : Board) (e : Event) → map read (map block_of (accepts b e)) ≡ accepts b e
event_read b (arrives n) = accepts_read b n (judged (rules b n)) refl
event_read b takes = refl
event_read b switches = refl

all_read : (b : Board) (es : List Event) → map read (map block_of (accepted b es)) ≡ accepted b es
all_read b [] = refl
all_read b (e ∷ es) =
    let x = accepts b e in
    let y = accepted (after b e) es in
    ap (map read) (map-append block_of x y) ∙ map-append read (map block_of x) (map block_of y) ∙ ap (λ l. l ++ map read (map block_of y)) (event_read b e) ∙ ap (λ l. x ++ l) (all_read (after b e) es)

pub each_once : EachOnce
each_once =
    let w : Whole made_board = length-replicate {A = ℕ} 4096 0 in
    record {
      notices = λ es. sym (all_read made_board es) ∙ ap (map read) (from made_board es w);
      blocks = λ es. from made_board es w;
      rises = rises;
    }
