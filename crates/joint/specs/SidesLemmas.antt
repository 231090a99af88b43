-- Two links side by side: what one side's step means for the whole.
use Rattle.std.specs.Prelude.{◌≡◌, ℕ, ◌-◌, Bool, true, false, cond, ◌&&◌, is_some, Some, None, ◌≢◌, nat_lt, refl}
use Rattle.std.proofs.Common.{sym, ap, subst, ◌∙◌, arith}
use Rattle.std.proofs.lemmas.Bool.{ltb-false}
use Rattle.link.specs.Meaning.{Pipe, absent, inward, outward, direction}
use Rattle.link.specs.Meets.{Meets}
use Rattle.link.specs.Terms.{Bounded}
use Rattle.joint.specs.declared.Joint.{Joint}
use Rattle.joint.specs.declared.Side.TheVariants.{First, Second}
use Rattle.joint.specs.Sides.{joint, Routed, Steps}

-- a pipe that is not described is absent
undescribed : (q : Pipe) → is_some (direction q) ≡ false → q ≡ absent
undescribed absent h = refl
undescribed (inward i) h = let w : ◌≡◌ {A = ℕ} 0 1 = cc in absurd (let f : ⊥ = omega arith in f)
undescribed (outward o) h = let w : ◌≡◌ {A = ℕ} 0 1 = cc in absurd (let f : ⊥ = omega arith in f)

-- A step of one side meets clause C at its pipe, and the other side stays; or both stay, and the clause lets an absent pipe stay.
module _ (C : Pipe → Pipe → Type 0) (n : ℕ) (f g f' g' : ℕ → Pipe) (p : ℕ) (F : Type 0) (S : ℕ → Type 0) (N : Type 0)
    (first : F → (g' ≡ g) × Meets C p f f') (second : S (p - n) → (f' ≡ f) × Meets C (p - n) g g') (none : N → (f' ≡ f) × (g' ≡ g) × C absent absent) where
  at_pipe : (a b d : Bool) → is_some (direction (g (p - n))) ≡ d → Routed (cond a (Some First) (cond (b && d) (Some (Second (p - n))) None)) F S N
      → C (cond a (f p) (cond b (g (p - n)) absent)) (cond a (f' p) (cond b (g' (p - n)) absent))
  at_pipe true b d e r = (first r).1.0
  at_pipe false true true e r = (second r).1.0
  at_pipe false true false e r =
      let x = none r in subst (λ v. C (g (p - n)) (v (p - n))) (sym x.1) (subst (λ v. C v v) (sym (undescribed (g (p - n)) e)) x.2)
  at_pipe false false d e r = (none r).2

  same : (j : ℕ) (c : Bool) → f' j ≡ f j → g' ≡ g → cond c (f' j) (cond (nat_lt j 32) (g' (j - n)) absent) ≡ cond c (f j) (cond (nat_lt j 32) (g (j - n)) absent)
  same j c d e = ap (λ v. cond c v (cond (nat_lt j 32) (g' (j - n)) absent)) d ∙ ap (λ v. cond c (f j) (cond (nat_lt j 32) (v (j - n)) absent)) e

  at_others : (a o : Bool) → nat_lt p n ≡ a → Routed (cond a (Some First) (cond o (Some (Second (p - n))) None)) F S N → (j : ℕ) → j ≢ p → (c : Bool) → nat_lt j n ≡ c
      → cond c (f' j) (cond (nat_lt j 32) (g' (j - n)) absent) ≡ cond c (f j) (cond (nat_lt j 32) (g (j - n)) absent)
  at_others true o h r j ne c k = let x = first r in same j c (x.1.1 j ne) x.0
  at_others false true h r j ne true k = ap (λ v. v j) (second r).0
  at_others false true h r j ne false k =
      ap (λ v. cond (nat_lt j 32) v absent) ((second r).1.1 (j - n) (λ q. ne (let z : j ≡ p = omega (arith, ltb-false p n h, ltb-false j n k) in z)))
  at_others false false h r j ne c k = let x = none r in same j c (ap (λ v. v j) x.0) x.1

  sided : Routed (cond (nat_lt p n) (Some First) (cond (nat_lt p 32 && is_some (direction (g (p - n)))) (Some (Second (p - n))) None)) F S N → Meets C p (joint n f g) (joint n f' g')
  sided r = (at_pipe (nat_lt p n) (nat_lt p 32) _ refl r, λ j ne. at_others (nat_lt p n) _ refl r j ne (nat_lt j n) refl)

-- such a step meets a clause if both links' steps do, and if the clause lets an absent pipe stay where it is neither's
pub steps_meet : {X Y : Type 0} (f : X → ℕ → Pipe) (g : Y → ℕ → Pipe) (C : Pipe → Pipe → Type 0) (p : ℕ) (F : X → X → Type 0) (G : ℕ → Y → Y → Type 0) (N : Type 0)
    → ((x t : X) → F x t → Meets C p (f x) (f t)) → ((q : ℕ) (y t : Y) → G q y t → Meets C q (g y) (g t)) → (N → C absent absent)
    → (s t : Joint X Y) → Steps g p F G N s t → Meets C p (joint s.split (f s.first) (g s.second)) (joint t.split (f t.first) (g t.second))
steps_meet f g C p F G N first second none s t h =
    subst (λ n. Meets C p (joint s.split (f s.first) (g s.second)) (joint n (f t.first) (g t.second))) (sym h.1)
    (sided C s.split (f s.first) (g s.second) (f t.first) (g t.second) p _ _ _
    (λ r. (ap g r.1, first s.first t.first r.0))
    (λ r. (ap f r.1, second (p - s.split) s.second t.second r.0))
    (λ r. (ap f r.0, ap g r.1, none r.2)) h.0)

-- the bounds of a term hold on either side
pub sides_bounded : (n : ℕ) (f g : ℕ → Pipe) (p : ℕ) → ((q : ℕ) → Bounded (f q)) → ((q : ℕ) → Bounded (g q)) → Bounded (joint n f g p)
sides_bounded n f g p x y = at (nat_lt p n) (nat_lt p 32)
  where
    at : (a b : Bool) → Bounded (cond a (f p) (cond b (g (p - n)) absent))
    at true b = x p
    at false true = y (p - n)
    at false false = tt
