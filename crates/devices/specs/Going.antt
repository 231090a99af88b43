-- Packets taken one after another from those kept ahead.
use Rattle.std.specs.Prelude.{◌≡◌, ℕ, ◌+◌, ◌-◌, ◌*◌, ◌<◌, ◌≤◌, List, [], ◌∷◌, ◌++◌, length, get_or, take, Some, Option, slice_index_or}
use Rattle.std.proofs.Common.{sym, ap, subst, ◌∙◌, inl, inr, add-mul, one-mul, arith}
use Rattle.std.proofs.lemmas.List.{take-append-le, length_push, get_or_push, get_or_append_left}
use Rattle.std.proofs.lemmas.Bool.{cases_lt}
use Rattle.link.specs.declared.term.Window.{Window}
use Rattle.reader.specs.Restarted.{size_of}
use Rattle.devices.specs.Cutting.{bytes_push}
use Rattle.devices.specs.Waiting.{AllWait}

pub record Going (taken : List (List ℕ)) (e : ℕ → Option (List ℕ)) (t : List (List ℕ)) : Type 0 where
  pub long : length taken ≤ length t
  pub old : take (length taken) t ≡ taken
  pub more : (k : ℕ) → length taken ≤ k → k < length t → e k ≡ Some (slice_index_or t k [])

module _ (t : List (List ℕ)) (e : ℕ → Option (List ℕ)) where
  pub going_more : (u v : List (List ℕ)) (b : List ℕ) → Going t e u → e (length u) ≡ Some b → v ≡ u ++ b ∷ [] → Going t e v
  going_more u v b g x q =
      let n : length v ≡ length u + 1 = ap length q ∙ length_push u b in
      record {
        long = omega (arith, g.long);
        old = ap (λ w. take (length t) w) q ∙ take-append-le (length t) u (b ∷ []) g.long ∙ g.old;
        more = λ k l h. elim (cases_lt k (length u)) [
          | inl y ↦ g.more k l y ∙ ap Some (sym (ap (λ w. get_or w k []) q ∙ get_or_append_left u (b ∷ []) [] k y))
          | inr y ↦ (let z : length u ≡ k = omega arith in
              subst (λ i. e i ≡ Some b) z x ∙ ap Some (sym (ap (λ w. get_or w k []) q ∙ get_or_push u b [] k z)))
        ];
      }

-- one packet of at most the size more leaves space for the others
pub waits_more : (n : Option Window) (t : List (List ℕ)) (space most : ℕ) (e : ℕ → Option (List ℕ)) (b : List ℕ) → AllWait n t space most e → length b ≤ size_of n
    → AllWait n (t ++ b ∷ []) space most e
waits_more n t space most e b h l k c q =
    let x = h k c q in
    let more : length (t ++ b ∷ []) ≡ length t + 1 = length_push t b in
    record {
      near = omega (arith, x.near, more);
      fits = x.fits;
      counted = x.counted;
      spaced = λ m.
          let d : k - length t ≡ (k - length (t ++ b ∷ [])) + 1 = omega arith in
          let p : (k - length t) * size_of n ≡ (k - length (t ++ b ∷ [])) * size_of n + size_of n =
          ap (λ v. v * size_of n) d ∙ add-mul (k - length (t ++ b ∷ [])) 1 (size_of n) ∙ ap (λ v. (k - length (t ++ b ∷ [])) * size_of n + v) (one-mul (size_of n)) in
          omega (arith, x.spaced (omega (arith, m, more)), p, l, bytes_push t b);
    }

-- the same, where a store is known by what it holds and has space for
pub waits_at : (n : Option Window) (t t' : List (List ℕ)) (space space' most most' : ℕ) (e : ℕ → Option (List ℕ)) → t' ≡ t → space' ≡ space → most' ≡ most
    → AllWait n t space most e → AllWait n t' space' most' e
waits_at n t t' space space' most most' e x y z h =
    subst (λ v. AllWait n v space' most' e) (sym x) (subst (λ v. AllWait n t v most' e) (sym y) (subst (λ v. AllWait n t space v e) (sym z) h))
