-- Which packet of a window a sequence number stands for, by remainders.
use Rattle.std.specs.Prelude.{◌≡◌, ℕ, ◌+◌, ◌-◌, ◌%◌, ◌<◌, ◌≤◌, Bool, true, false, None, Option, MatchOption, nat_lt, refl}
use Rattle.std.proofs.Common.{sym, subst, ◌∙◌, inl, inr, mod-lt, arith}
use Rattle.std.specs.Bool.{then_some}
use Rattle.std.proofs.lemmas.Bool.{cases_lt, ltb-true, ltb-false}
use Rattle.window.proofs.Mods.{mod_same}
use Rattle.window.proofs.Turning.{back}
use Rattle.link.specs.declared.term.Window.{Window}
use Rattle.link.specs.Bounds.{sound}
use Rattle.link.specs.Meaning.{Meant}
use Rattle.link.proofs.Sound.{range_twice, range_least}

-- equal remainders of two numbers near one another are of one number; link splits the same two cases once, in place
pub mod_near : (M a b : ℕ) → a < b + M → b < a + M → a % M ≡ b % M → a ≡ b
mod_near M a b l h e = elim (cases_lt a b) [
  | inl x ↦ mod_same M a b (omega arith) h e
  | inr x ↦ sym (mod_same M b a x l (sym e))
]

module _ (w : Window) (f s : ℕ) (h : sound w ≡ true) where
  pub stands_at : s < w.range → (w.range - f % w.range + s) % w.range < w.burst → Meant w f (λ k. None) s (f + (w.range - f % w.range + s) % w.range)
  stands_at l b = record { from = omega arith; within = omega arith; number = back w.range f s l; fresh = refl }

  pub stands_not : s < w.range → w.burst ≤ (w.range - f % w.range + s) % w.range → (j : ℕ) → Meant w f (λ k. None) s j → ⊥
  stands_not l b j m =
      let a = m.from in
      let c = m.within in
      let r = range_twice w h in
      let p : 0 < w.range = omega (arith, range_least w h) in
      let q = mod-lt (w.range - f % w.range + s) p in
      omega (arith, mod_near w.range j (f + (w.range - f % w.range + s) % w.range) (omega arith) (omega arith) (m.number ∙ sym (back w.range f s l)))

  -- as code finds it
  pub stands : s < w.range → (r : Option ℕ) → r ≡ then_some (nat_lt ((w.range - f % w.range + s) % w.range) w.burst) (f + (w.range - f % w.range + s) % w.range)
      → MatchOption r ((j : ℕ) → Meant w f (λ k. None) s j → ⊥) (λ j. Meant w f (λ k. None) s j)
  stands l r e = subst (λ v. MatchOption v ((j : ℕ) → Meant w f (λ k. None) s j → ⊥) (λ j. Meant w f (λ k. None) s j)) (sym e) (at (nat_lt a w.burst) refl)
    where
      a : ℕ
      a = (w.range - f % w.range + s) % w.range

      at : (t : Bool) → nat_lt a w.burst ≡ t → MatchOption (then_some t (f + a)) ((j : ℕ) → Meant w f (λ k. None) s j → ⊥) (λ j. Meant w f (λ k. None) s j)
      at true q = stands_at l (ltb-true a w.burst q)
      at false q = stands_not l (ltb-false a w.burst q)
