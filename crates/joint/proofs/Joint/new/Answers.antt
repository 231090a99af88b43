-- The first pipe below 32 that is absent, or 32: all pipes before it are there.
use Rattle.std.proofs.Common.{rules, tests, ◌≡◌, ℕ, ◌-◌, ◌<◌, ◌≤◌, ◌≢◌, Bool, true, false, cond, nat_lt, Some, None, Option, refl, arith}
use Rattle.std.specs.Option.{MatchOption, unwrap_or}
use Rattle.std.proofs.lemmas.Bool.{ltb-true, ltb-false}
use Rattle.std.proofs.lemmas.Iterator.{first_from_Range}
use Rattle.link.specs.Meaning.{Pipe, absent, Gapless}
use Rattle.joint.specs.Sides.{Counts}
use Rattle.joint.proofs.Joint.new.Goals as goal

counted : (f : ℕ → Pipe) → f 32 ≡ absent → (r : Option ℕ)
    → MatchOption r ((k : ℕ) → 0 ≤ k → k < 32 → f k ≢ absent) (λ i. (0 ≤ i) × (i < 32) × (f i ≡ absent) × ((k : ℕ) → 0 ≤ k → k < i → f k ≢ absent))
    → Counts f (unwrap_or r 32)
counted f e None h = record { there = λ p l. h p (omega arith) l; ends = e }
counted f e (Some i) h = record { there = λ p l. h.3 p (omega arith) l; ends = h.2 }

pub returns-clause-counts : goal.returns-clause-counts
returns-clause-counts g c =
    let m = g.X.Link.meaning c.args.first in
    let h = first_from_Range _ _ _ c.find.result (λ k. m k ≡ absent) (λ k. m k ≢ absent) c.find.ensures.ran (λ x q e. search (rules, tests)) (λ x q e. (search rules, λ a. grind (arith, tests))) in
    let k = counted m (g.met.X.Link.above c.args.first 32 (omega arith)) c.find.result h in
    search rules

module _ (n : ℕ) (f g : ℕ → Pipe) (c : Counts f n) (y : Gapless g) (p q : ℕ) (l : p ≤ q) where
  no_gap : (a b d e : Bool) → nat_lt p n ≡ a → nat_lt p 32 ≡ b → nat_lt q n ≡ d → nat_lt q 32 ≡ e
      → cond a (f p) (cond b (g (p - n)) absent) ≡ absent → cond d (f q) (cond e (g (q - n)) absent) ≡ absent
  no_gap true b d e i j k m h = absurd (c.there p (ltb-true p n i) h)
  no_gap false b true e i j k m h = absurd (let x : ⊥ = omega (arith, ltb-false p n i, ltb-true q n k) in x)
  no_gap false true false true i j k m h = y (p - n) (q - n) (omega arith) h
  no_gap false false false true i j k m h = absurd (let x : ⊥ = omega (arith, ltb-false p 32 j, ltb-true q 32 m) in x)
  no_gap false b false false i j k m h = refl

pub returns-clause-gapless : goal.returns-clause-gapless
returns-clause-gapless g c y p q l = no_gap c.unwrap_or-split.result (g.X.Link.meaning c.args.first) (g.Y.Link.meaning c.args.second) (returns-clause-counts g c) y p q l _ _ _ _ refl refl refl refl
