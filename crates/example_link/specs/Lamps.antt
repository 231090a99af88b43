-- What the lamp does at a Send is what the clause of Send allows.
use Rattle.std.specs.Prelude.{◌≡◌, ℕ, zero, suc, ◌≤◌, Bool, true, false, cond, List, [], ◌∷◌, length, Some, None, Option, nat_lt, slice_index_or, refl}
use Rattle.std.proofs.Common.{sym, ap, subst, ◌∙◌, inl, inr, arith}
use Rattle.std.proofs.Math.Nat.{zero-mod}
use Rattle.std.proofs.lemmas.Bool.Decides.{nat_tests}
use Rattle.link.specs.declared.term.Window.{Window}
use Rattle.link.specs.Bounds.{sound, sounds}
use Rattle.link.specs.Meaning.{Out, outward, solo, beside, Follows, Kept, Keeps, Sends, Only}
use Rattle.link.proofs.Solo.{only_zero, unchanged}
use Rattle.link.proofs.Sound.{sized, burst_least}
use Rattle.example_link.specs.Lamp.{lamp, keeps, SentAt, SentLamp}

-- the one packet of a term follows on none
one_follows : (b : List ℕ) → Follows [] (beside 0 b (λ j. None)) (b ∷ [])
one_follows b = record { old = refl; more = at; stops = refl }
  where
    at : (k : ℕ) → 0 ≤ k → suc k ≤ 1 → beside 0 b (λ j. None) k ≡ Some (slice_index_or (b ∷ []) k [])
    at zero x y = refl
    at (suc k) x y = absurd (let f : ⊥ = omega arith in f)

-- a dark lamp keeps packet 0 if it has one byte
kept_dark : (w : Window) (b : List ℕ) → Kept (lamp (Some w) None) 0 b (record { numbers = Some w; taken = b ∷ []; early = λ j. None })
kept_dark w b = record { numbers = refl; taken = one_follows b; early = at }
  where
    at : (k : ℕ) → ◌≡◌ {A = Option (List ℕ)} None (cond (nat_lt k 1) None (beside 0 b (λ j. None) k))
    at zero = refl
    at (suc k) = grind (arith, nat_tests)

dark : (w : Window) (q : Out) (s : ℕ) (b : List ℕ) → sound w ≡ true → (t : Bool) → keeps [] s b ≡ t
    → q ≡ cond t (record { numbers = Some w; taken = b ∷ []; early = λ j. None }) (lamp (Some w) None) → Sends (outward (lamp (Some w) None)) s b (outward q)
dark w q s b h false e d = inl (ap outward d)
dark w q s b h true e d =
    let z : s ≡ 0 = grind (arith, nat_tests) in
    let l : length b ≡ 1 = grind (arith, nat_tests) in
    inr (subst (λ v. Keeps (Some w) (lamp (Some w) None) s b (outward v)) (sym d) (
      0,
      _,
      record { from = omega arith; within = omega (arith, burst_least w h); number = zero-mod w.range ∙ sym z; fresh = refl },
      omega (arith, l, sized w h),
      kept_dark w b,
      refl,
    ))

sends : (n : Option Window) (x : Option ℕ) (q : Out) (s : ℕ) (b : List ℕ) → sounds n ≡ true → SentAt n (lamp n x) s b q → Sends (outward (lamp n x)) s b (outward q)
sends None x q s b h d = inl (ap outward d)
sends (Some w) None q s b h d = dark w q s b h (keeps [] s b) refl d
sends (Some w) (Some y) q s b h d = inl (ap outward d)

pub send_law : (n : Option Window) (x : Option ℕ) (q : Out) (p s : ℕ) (b : List ℕ) → sounds n ≡ true → SentLamp (lamp n x) p s b q
    → Sends (solo (outward (lamp n x)) p) s b (solo (outward q) p) × Only p (solo (outward (lamp n x))) (solo (outward q))
send_law n x q zero s b h d = (sends n x q s b h d, only_zero (outward (lamp n x)) (outward q))
send_law n x q (suc p) s b h d = unchanged (λ y z. Sends y s b z) (outward (lamp n x)) (outward q) (suc p) (ap outward d) refl
