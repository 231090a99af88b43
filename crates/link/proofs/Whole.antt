-- A vector with nothing early: the word that asks, from f on, for each offset below the burst.
use Rattle.std.proofs.Common.{◌≡◌, ℕ, ◌+◌, ◌-◌, ◌%◌, ◌^◌, ◌<◌, true, None, sym, refl, ap, ◌∙◌, subst, inl, inr, mod-lt, arith}
use Rattle.std.proofs.lemmas.Nat.{pow_pos}
use Rattle.std.proofs.lemmas.Bool.{cases_lt}
use Rattle.window.specs.Numbers.{bit}
use Rattle.window.specs.Words.{Asks, held, others}
use Rattle.window.proofs.Bits.{bit_others, bit_past}
use Rattle.link.specs.declared.term.Window.{Window}
use Rattle.link.specs.Bounds.{sound}
use Rattle.link.specs.Meaning.{Vector, Bit}
use Rattle.link.proofs.Sound.{burst_most, range_most, range_twice}

module _ (w : Window) (h : sound w ≡ true) where
  low_set : (i : ℕ) → i < w.burst → Bit (others w.burst 0) i
  low_set i l =
      let b = burst_most w h in
      let z : bit 0 i ≡ 0 = bit_past 0 0 i (omega arith) (omega arith) in
      omega (arith, bit_others w.burst 0 i (omega arith) (omega arith) l, z)

  low_only : (i : ℕ) → Bit (others w.burst 0) i → i < w.burst
  low_only i b = elim (cases_lt i w.burst) [
    | inl l ↦ l
    | inr l ↦
        (let z : bit (others w.burst 0) i ≡ 0 = bit_past (others w.burst 0) w.burst i (mod-lt (2 ^ 32 - 1 - 0) (pow_pos w.burst)) l in
        absurd (let f : ⊥ = omega (arith, z, b) in f))
  ]

  in_word : held w.range ≡ w.range
  in_word = let r = range_most w h in omega arith

  pub whole_vector : (f v : ℕ) → Asks (held w.range) f (others w.burst 0) v → Vector w f (λ j. None) v
  whole_vector f v asks =
      let a : Asks w.range f (others w.burst 0) v = subst (λ M. Asks M f (others w.burst 0) v) in_word asks in
      let t = range_twice w h in
      record {
        set = λ s j m.
            let x = m.from in
            let y = m.within in
            let e : f + (j - f) ≡ j = omega arith in
            subst (λ k. Bit v k) (ap (λ k. k % w.range) e ∙ m.number) (a.each (j - f) (omega arith) (low_set (j - f) (omega arith)));
        only = λ s b.
            let x = a.only s b in
            let l = low_only x.0 x.2 in
            (f + x.0, record { from = omega arith; within = omega arith; number = sym x.3; fresh = refl });
      }
