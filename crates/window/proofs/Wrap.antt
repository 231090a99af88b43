-- The two facts about wrapping numbers.
use Rattle.std.proofs.Common.{◌≡◌, ℕ, ◌+◌, ◌-◌, ◌/◌, ◌%◌, ◌^◌, ◌<◌, ◌≤◌, ◌↔◌, None, sym, refl, ap, ◌∙◌, inl, inr, add-zero, arith}
use native.Mathlib.Nat.{mod-mod}
use lib.Count.{count_trailing_zeros}
use Rattle.std.proofs.lemmas.Bool.{cases_order, cases_lt}
use Rattle.window.specs.Numbers.{bit, Bit, Aim}
use Rattle.window.specs.Words.{swung, others, turned, asked, ahead, shown, Asks, Shows}
use Rattle.window.specs.Wrap.{PollsAim, VectorsTell, NumbersCount}
use Rattle.window.proofs.Bits.{bit_cases, trailing_is}
use Rattle.window.proofs.Mods.{mod_same}
use Rattle.window.proofs.Turning.{asked_asks, bit_turned, shown_shows}

pub polls_aim : PollsAim
polls_aim M W h wanted place two low high zeroth few = (asks, record { from = low; set = here; first = none }, only_h)
  where
    asks : Asks M h wanted (asked M h wanted)
    asks = asked_asks M h wanted

    W0 : 0 < W
    W0 = few 0 zeroth

    here : Bit (asked M h wanted) (h % M)
    here = rw (add-zero) at (asks.each 0 (omega (arith, W0)) zeroth)

    none : (j : ℕ) → place ≤ j → j < h → Bit (asked M h wanted) (j % M) → ⊥
    none j from below b =
        let g = asks.only (j % M) b in
        let g1 = few g.0 g.2 in
        omega (arith, mod_same M j (h + g.0) (omega arith) (omega arith) g.3)

    only_h : (a : ℕ) → Aim M (asked M h wanted) place a → a ≡ h
    only_h a aim =
        elim (cases_order a h) [
          | inl e ↦ e
          | inr o ↦ elim o [ inl below ↦ absurd (none a aim.from below aim.set) | inr above ↦ absurd (aim.first h low above here) ]
        ]

pub vectors_tell : VectorsTell
unfolding ahead
vectors_tell M W h f v early two M32 W0 low high fine V = (counts, tells, early_ones)
  where
    p : 0 < M
    p = omega arith

    at : (i : ℕ) → i < M → bit (turned M h v) i ≡ bit v ((h + i) % M)
    at i l = bit_turned M h v i l

    clear : (i : ℕ) → i < f - h → bit (turned M h v) i ≡ 0
    clear i l =
        elim (bit_cases (turned M h v) i) [
          | inl z ↦ z
          | inr o ↦
              (let g = V.only ((h + i) % M) (sym (at i (omega arith)) ∙ o) in
              let g1 = g.1.from in
              let g2 = g.1.within in
              let same : h + i ≡ g.0 = mod_same M (h + i) g.0 (omega arith) (omega arith) (sym g.1.number) in
              absurd (omega arith))
        ]

    set_at : (i : ℕ) → f - h ≤ i → i < W → early (h + i) ≡ None → bit (turned M h v) i ≡ 1
    set_at i l b e = at i (omega arith) ∙ V.set ((h + i) % M) (h + i) (record { from = omega arith; within = omega arith; number = refl; fresh = e })

    counts : ahead M h v ≡ f - h
    counts =
        let e : h + (f - h) ≡ f = omega arith in
        let o : bit (turned M h v) (f - h) ≡ 1 =
        at (f - h) (omega arith) ∙ ap (λ j. bit v (j % M)) e
        ∙ V.set (f % M) f (record { from = omega arith; within = omega arith; number = refl; fresh = fine }) in
        trailing_is M (turned M h v) (f - h) (omega arith) clear o

    tells : (i : ℕ) → f - h < i → i < W → (early (h + i) ≡ None) ↔ Bit (turned M h v) i
    tells i l b = (
      set_at i (omega arith) b,
      λ o. (let g = V.only ((h + i) % M) (sym (at i (omega arith)) ∙ o) in
          let g1 = g.1.from in
          let g2 = g.1.within in
          let same : h + i ≡ g.0 =
          elim (cases_lt g.0 (h + i)) [
            | inl y ↦ sym (mod_same M g.0 (h + i) (omega arith) (omega arith) g.1.number)
            | inr y ↦ mod_same M (h + i) g.0 y (omega arith) (sym g.1.number)
          ] in
          ap early same ∙ g.1.fresh),
    )

    -- packet f + i has its bit exactly if it is not early
    past : (n i : ℕ) → n ≤ W → f + i < h + n → Bit v ((f + i) % M) → early (f + i) ≡ None
    past n i nW l b =
        let g = V.only ((f + i) % M) b in
        let g1 = g.1.from in
        let g2 = g.1.within in
        let same : f + i ≡ g.0 =
        elim (cases_lt g.0 (f + i)) [
          | inl y ↦ sym (mod_same M g.0 (f + i) (omega arith) (omega arith) g.1.number)
          | inr y ↦ mod_same M (f + i) g.0 y (omega arith) (sym g.1.number)
        ] in
        ap early same ∙ g.1.fresh

    early_ones : (n i : ℕ) → n ≤ W → Bit (shown M h n v) i ↔ ((f + i < h + n) × (early (f + i) ≡ None → ⊥))
    early_ones n i nW =
        let e : h + (ahead M h v + i) ≡ f + i = omega (arith, counts) in
        let S : Shows M h n v (ahead M h v) (shown M h n v) = shown_shows M h n v M32 (omega arith) in (
          (λ b. (let g = (S i).0 b in let g0 = g.0 in
              (omega (arith, counts), λ x. g.1 (rw e (V.set ((f + i) % M) (f + i) (record { from = omega arith; within = omega (arith, counts); number = refl; fresh = x })))))),
          (λ p. (S i).1 (let p0 = p.0 in (omega (arith, counts), λ x. p.1 (past n i nW p.0 (rw e at x))))),
        )

pub numbers_count : NumbersCount
unfolding turned asked ahead shown
numbers_count M h n v =
    let e : h % M % M ≡ h % M = mod-mod h M in (
      ap (λ k. swung M k (v % 2 ^ M)) e,
      ap (λ k. swung M ((M - k) % M) (v % 2 ^ M)) e,
      ap (λ k. count_trailing_zeros M (swung M k (v % 2 ^ M))) e,
      ap (λ k. others (n - count_trailing_zeros M (swung M k (v % 2 ^ M))) (swung M k (v % 2 ^ M) / 2 ^ count_trailing_zeros M (swung M k (v % 2 ^ M)))) e,
    )
