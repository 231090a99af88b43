-- Over any list of acts a ring's places go out in turn and come back in order.
use Rattle.std.proofs.Common.{◌≡◌, ℕ, suc, ◌+◌, ◌-◌, ◌%◌, ◌<◌, true, eqb, leb, List, [], ◌∷◌, ◌++◌, length, Some, None, sym, refl, ap, ◌∙◌, subst, inl, inr, append_assoc, append-nil, add-one, arith}
use native.Mathlib.Nat.{mod-mod, min-eq_left, min-le_right}
use Rattle.std.specs.Option.{option_to_list}
use Rattle.std.proofs.lemmas.Bool.{le-leb, eq-eqb, cond-true, cases_lt, cases_eq}
use Rattle.ring.specs.declared.Ring.{Ring}
use Rattle.ring.specs.Rings.{places, count, order, fresh, oldest, following, taken, freed, Act, taking, freeing, acted, ended, gained, lost, all_taken, all_freed, InTurn}
use Rattle.ring.proofs.Apart.{places_apart}
use Rattle.ring.proofs.Places.{places_length, places_same, took, let_go}

-- one act takes its place at the end and frees at the front
abbrev Step : (n : ℕ) → Ring n → Ring n → List ℕ → List ℕ → Type 0
Step n r s plus minus = order n r ++ plus ≡ minus ++ order n s

pub taking_steps : (n : ℕ) (r : Ring n) → Step n r (taken n r) (option_to_list (following n r)) []
taking_steps n r =
    elim (cases_lt r.used n) [
      | inl h ↦
          let p = (r.first + r.used) % n in
          let t = took n r p h refl in
          let a : following n r ≡ Some p = sym t.answer in
          let b : taken n r ≡ record { first = r.first; used = r.used + 1 } = sym t.after in
          ap (λ o. order n r ++ option_to_list o) a ∙ sym t.order ∙ ap (order n) (sym b)
      | inr h ↦
          let e : leb n r.used ≡ true = le-leb n r.used h in
          let a : following n r ≡ None = cond-true (leb n r.used) None (Some ((r.first + r.used) % n)) e in
          let b : taken n r ≡ r = cond-true (leb n r.used) r (record { first = r.first; used = r.used + 1 }) e in
          ap (λ o. order n r ++ option_to_list o) a ∙ append-nil (order n r) ∙ ap (order n) (sym b)
    ]

-- freeing the oldest, in a ring with a place in use
freed_some : (n : ℕ) (r : Ring n) → 0 < count n r → order n r ≡ r.first % n ∷ order n (freed n r)
freed_some n r h =
    let t = let_go n r (r.first % n) ((r.first + 1) % n) (count n r - 1) h refl refl refl in
    t.order ∙ ap (λ s. r.first % n ∷ order n s) t.after

freed_none : (n : ℕ) (r : Ring n) → count n r ≡ 0 → (freed n r ≡ r) × (order n r ≡ [])
freed_none n r z =
    (cond-true (eqb (count n r) 0) r (record { first = (r.first + 1) % n; used = count n r - 1 }) (eq-eqb (count n r) 0 z), ap (places n r.first) z)

pub freeing_steps : (n : ℕ) (r : Ring n) → Step n r (freed n r) [] (option_to_list (oldest (order n r)))
freeing_steps n r =
    elim (cases_eq (count n r) 0) [
      | inl z ↦
          let a = freed_none n r z in
          append-nil (order n r) ∙ a.1 ∙ ap (λ xs. option_to_list (oldest xs) ++ []) (sym a.1) ∙ ap (λ xs. option_to_list (oldest (order n r)) ++ xs) (sym (ap (order n) a.0 ∙ a.1))
      | inr ne ↦
          let a = freed_some n r (omega arith) in
          append-nil (order n r) ∙ a ∙ ap (λ xs. option_to_list (oldest xs) ++ order n (freed n r)) (sym a)
    ]

pub steps : (n : ℕ) (r : Ring n) (a : Act) → Step n r (acted n r a) (gained n r a) (lost n r a)
steps n r taking = taking_steps n r
steps n r freeing = freeing_steps n r

-- in use, with what is taken later: what is freed later, with what is then in use
each_from : (n : ℕ) (r : Ring n) (acts : List Act) → order n r ++ all_taken n r acts ≡ all_freed n r acts ++ order n (ended n r acts)
each_from n r [] = append-nil (order n r)
each_from n r (a ∷ acts) =
    let s = acted n r a in
    let p = gained n r a in
    let m = lost n r a in
    sym (append_assoc (order n r) p (all_taken n s acts)) ∙ ap (λ xs. xs ++ all_taken n s acts) (steps n r a) ∙ append_assoc m (order n s) (all_taken n s acts) ∙ ap (λ xs. m ++ xs) (each_from n s acts) ∙ sym (append_assoc m (all_freed n s acts) (order n (ended n s acts)))

-- a list of places in turn from f on
abbrev Turn : ℕ → ℕ → List ℕ → Type 0
Turn n f xs = xs ≡ places n f (length xs)

turn_cons : (n f g : ℕ) (xs : List ℕ) → g % n ≡ suc f % n → Turn n g xs → Turn n f (f % n ∷ xs)
turn_cons n f g xs e t = ap (λ ys. f % n ∷ ys) (t ∙ places_same n g (suc f) (length xs) e)

turn_order : (n : ℕ) (r : Ring n) → Turn n r.first (order n r)
turn_order n r = ap (places n r.first) (sym (places_length n r.first (count n r)))

taken_first : (n : ℕ) (r : Ring n) → (taken n r).first ≡ r.first
taken_first n r =
    elim (cases_lt r.used n) [
      | inl h ↦ ap (λ s. s.first) (sym (took n r ((r.first + r.used) % n) h refl).after)
      | inr h ↦ ap (λ s. s.first) (cond-true (leb n r.used) r (record { first = r.first; used = r.used + 1 }) (le-leb n r.used h))
    ]

freed_first : (n : ℕ) (r : Ring n) → 0 < count n r → (freed n r).first ≡ (r.first + 1) % n
freed_first n r h =
    ap (λ s. s.first) (sym (let_go n r (r.first % n) ((r.first + 1) % n) (count n r - 1) h refl refl refl).after)

-- one act keeps the places in turn
round_taking : (n : ℕ) (r : Ring n) (later : List ℕ) → Turn n (taken n r).first (order n (taken n r) ++ later) → Turn n r.first (order n r ++ (option_to_list (following n r) ++ later))
round_taking n r later t =
    let e : order n r ++ (option_to_list (following n r) ++ later) ≡ order n (taken n r) ++ later =
    sym (append_assoc (order n r) (option_to_list (following n r)) later) ∙ ap (λ xs. xs ++ later) (taking_steps n r) in
    let P : List ℕ → Type 0 = λ xs. Turn n r.first xs in
    subst P (sym e) (t ∙ ap (λ f. places n f (length (order n (taken n r) ++ later))) (taken_first n r))

round_freeing : (n : ℕ) (r : Ring n) (later : List ℕ) → Turn n (freed n r).first (order n (freed n r) ++ later) → Turn n r.first (order n r ++ later)
round_freeing n r later t =
    elim (cases_eq (count n r) 0) [
      | inl z ↦ let P : Ring n → Type 0 = λ s. Turn n s.first (order n s ++ later) in subst P (freed_none n r z).0 t
      | inr ne ↦
          let pos : 0 < count n r = omega arith in
          let g : (freed n r).first % n ≡ suc r.first % n = ap (λ x. x % n) (freed_first n r pos) ∙ mod-mod (r.first + 1) n ∙ ap (λ x. x % n) (add-one r.first) in
          let P : List ℕ → Type 0 = λ xs. Turn n r.first (xs ++ later) in
          subst P (sym (freed_some n r pos)) (turn_cons n r.first (freed n r).first (order n (freed n r) ++ later) g t)
    ]

round_step : (n : ℕ) (r : Ring n) (a : Act) (later : List ℕ) → Turn n (acted n r a).first (order n (acted n r a) ++ later) → Turn n r.first (order n r ++ (gained n r a ++ later))
round_step n r taking later t = round_taking n r later t
round_step n r freeing later t = round_freeing n r later t

round_from : (n : ℕ) (r : Ring n) (acts : List Act) → Turn n r.first (order n r ++ all_taken n r acts)
round_from n r [] =
    let P : List ℕ → Type 0 = λ xs. Turn n r.first xs in
    subst P (sym (append-nil (order n r))) (turn_order n r)
round_from n r (a ∷ acts) = round_step n r a (all_taken n (acted n r a) acts) (round_from n (acted n r a) acts)

-- no place of a new ring is in use
fresh_none : (n : ℕ) → order n (fresh n) ≡ []
fresh_none n = ap (places n 0) (min-eq_left {n = 0} {m = n} (omega arith))

pub in_turn : (n : ℕ) → InTurn n
in_turn n =
    record {
      round = λ acts. let P : List ℕ → Type 0 = λ xs. Turn n 0 (xs ++ all_taken n (fresh n) acts) in subst P (fresh_none n) (round_from n (fresh n) acts);
      each = λ acts. ap (λ xs. xs ++ all_taken n (fresh n) acts) (sym (fresh_none n)) ∙ each_from n (fresh n) acts;
      apart = λ r. places_apart n r.first (count n r) (min-le_right r.used n);
      counted = λ r. places_length n r.first (count n r);
    }
