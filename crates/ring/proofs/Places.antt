-- Lists of places in turn: one more at the end, one less at the front, and where a place comes round.
use Rattle.std.proofs.Common.{◌≡◌, ℕ, zero, suc, ◌+◌, ◌-◌, ◌%◌, ◌<◌, ◌≤◌, min, false, eqb, leb, [], ◌∷◌, ◌++◌, length, Some, None, sym, refl, ap, ◌∙◌, add-zero, mod-lt, mod-eq_of_lt, add-one, arith}
use native.Mathlib.Nat.{mod-add-mod, mod-eq-sub-mod, mod-mod, suc-mod, min-eq_left, min-le_right, mod_self}
use Rattle.ring.specs.declared.Ring.{Ring}
use Rattle.ring.specs.Rings.{places, oldest, count, order, following, taken, freed}
use Rattle.std.proofs.lemmas.Bool.{lt-leb, ne_eqb, cond-false, cases_eq}

pub places_length : (n f k : ℕ) → length (places n f k) ≡ k
places_length n f zero = refl
places_length n f (suc k) = ap suc (places_length n (suc f) k)

pub places_more : (n f k : ℕ) → places n f (suc k) ≡ places n f k ++ ((f + k) % n ∷ [])
places_more n f zero = ap (λ x. x % n ∷ []) (sym (add-zero f))
places_more n f (suc k) =
    let e : suc f + k ≡ f + suc k = omega arith in
    ap (λ xs. f % n ∷ xs) (places_more n (suc f) k ∙ ap (λ x. places n (suc f) k ++ (x % n ∷ [])) e)

pub places_same : (n f g k : ℕ) → f % n ≡ g % n → places n f k ≡ places n g k
places_same n f g zero e = refl
places_same n f g (suc k) e =
    let s : suc f % n ≡ suc g % n = suc-mod f n ∙ ap (λ x. suc x % n) e ∙ sym (suc-mod g n) in
    let t = places_same n (suc f) (suc g) k s in
    cc

pub oldest_places : (n f k : ℕ) → 0 < k → oldest (places n f k) ≡ Some (f % n)
oldest_places n f zero h = absurd (omega arith)
oldest_places n f (suc k) h = refl

-- the place u after f, where it does not come round, and where it does
pub place_ahead : (n f u : ℕ) → u < n - f % n → f % n + u ≡ (f + u) % n
place_ahead n f u h =
    let lt : f % n + u < n = omega arith in
    sym (mod-eq_of_lt lt) ∙ mod-add-mod f n u

pub place_round : (n f u : ℕ) → 0 < n → n - f % n ≤ u → u < n → u - (n - f % n) ≡ (f + u) % n
place_round n f u pos le lt =
    let below : f % n < n = mod-lt f pos in
    let past : n ≤ f % n + u = omega arith in
    let small : f % n + u - n < n = omega arith in
    let e : u - (n - f % n) ≡ f % n + u - n = omega arith in
    e ∙ sym (mod-eq_of_lt small) ∙ sym (mod-eq-sub-mod past) ∙ mod-add-mod f n u

-- taking appends the place after the last
pub taking : (n f u : ℕ) → u < n → places n f (min (u + 1) n) ≡ places n f (min u n) ++ ((f + u) % n ∷ [])
taking n f u h =
    let a : min (u + 1) n ≡ suc u = min-eq_left {n = u + 1} {m = n} (omega arith) ∙ add-one u in
    let b : min u n ≡ u = min-eq_left {n = u} {m = n} (omega arith) in
    ap (places n f) a ∙ places_more n f u ∙ ap (λ k. places n f k ++ ((f + u) % n ∷ [])) (sym b)

-- freeing removes the first
pub freeing : (n f c : ℕ) → 0 < c → c ≤ n → places n f c ≡ f % n ∷ places n ((f + 1) % n) (min (c - 1) n)
freeing n f zero pos le = absurd (omega arith)
freeing n f (suc k) pos le =
    let a : suc k - 1 ≡ k = omega arith in
    let b : min k n ≡ k = min-eq_left {n = k} {m = n} (omega arith) in
    let s : suc f % n ≡ (f + 1) % n % n = ap (λ x. x % n) (sym (add-one f)) ∙ sym (mod-mod (f + 1) n) in
    ap (λ xs. f % n ∷ xs) (places_same n (suc f) ((f + 1) % n) k s ∙ ap (places n ((f + 1) % n)) (sym (ap (λ x. min x n) a ∙ b)))

-- what holds once a place was taken
pub record Took (n : ℕ) (r : Ring n) (p : ℕ) : Type 0 where
  pub answer : Some p ≡ following n r
  pub after : record { first = r.first; used = r.used + 1 } ≡ taken n r
  pub order : order n (record { first = r.first; used = r.used + 1 }) ≡ order n r ++ (p ∷ [])

pub took : (n : ℕ) (r : Ring n) (p : ℕ) → r.used < n → p ≡ (r.first + r.used) % n → Took n r p
took n r p h e =
    let t : leb n r.used ≡ false = lt-leb n r.used h in
    record {
      answer = ap Some e ∙ sym (cond-false (leb n r.used) None (Some ((r.first + r.used) % n)) t);
      after = sym (cond-false (leb n r.used) r (record { first = r.first; used = r.used + 1 }) t);
      order = taking n r.first r.used h ∙ ap (λ x. places n r.first (min r.used n) ++ (x ∷ [])) (sym e);
    }

-- what holds once the oldest place was freed
pub record LetGo (n : ℕ) (r : Ring n) (p next left : ℕ) : Type 0 where
  pub answer : Some p ≡ oldest (order n r)
  pub after : record { first = next; used = left } ≡ freed n r
  pub order : order n r ≡ p ∷ order n (record { first = next; used = left })

pub let_go : (n : ℕ) (r : Ring n) (p next left : ℕ) → 0 < count n r → p ≡ r.first % n → next ≡ (r.first + 1) % n → left ≡ count n r - 1 → LetGo n r p next left
let_go n r p next left h ep en el =
    let t : eqb (count n r) 0 ≡ false = ne_eqb (count n r) 0 (λ z. omega arith) in
    let le : count n r ≤ n = min-le_right r.used n in
    let q : ◌≡◌ {A = Ring n} (record { first = next; used = left }) (record { first = (r.first + 1) % n; used = count n r - 1 }) = cc in
    record {
      answer = ap Some ep ∙ sym (oldest_places n r.first (count n r) h);
      after = q ∙ sym (cond-false (eqb (count n r) 0) r (record { first = (r.first + 1) % n; used = count n r - 1 }) t);
      order = freeing n r.first (count n r) h le ∙ (cc);
    }

-- the place after f, at the end of the ring and before it
pub next_first : (n f : ℕ) → f % n + 1 ≡ n → 0 ≡ (f + 1) % n
next_first n f z = sym (sym (mod-add-mod f n 1) ∙ ap (λ x. x % n) z ∙ mod_self n)

pub next_place : (n f : ℕ) → 0 < n → (f % n + 1 ≡ n → ⊥) → f % n + 1 ≡ (f + 1) % n
next_place n f pos ne =
    let below : f % n < n = mod-lt f pos in
    let lt : f % n + 1 < n = omega (arith, cases_eq (f % n + 1) n) in
    sym (mod-eq_of_lt lt) ∙ mod-add-mod f n 1
