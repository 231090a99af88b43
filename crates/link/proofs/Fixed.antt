-- What a kept packet leads to is fixed.
use Rattle.std.proofs.Common.{◌≡◌, ℕ, zero, suc, ◌+◌, ◌/◌, ◌%◌, ◌^◌, ◌<◌, ◌≤◌, cond, ltb, List, [], length, get_or, Some, None, Option, sym, ap, ◌∙◌, inl, inr, pow-suc, div-one, arith, length-take}
use mathlib.Core.Path.{fun_ext}
use Rattle.std.proofs.lemmas.Nat.{shr-shr}
use Rattle.link.specs.declared.term.Window.{Window}
use Rattle.std.proofs.lemmas.List.{ext_get_or, get_or-take}
use Rattle.std.proofs.lemmas.Bool.{cases_lt, cases_order, cases_eq}
use Rattle.link.specs.Meaning.{Follows, Kept, Out, beside, Bit, Vector}

both : (o : Option (List ℕ)) (x : List ℕ) → o ≡ None → o ≡ Some x → ⊥
both o x a b = let z : ◌≡◌ {A = ℕ} 0 1 = cc in omega arith

same_some : (o : Option (List ℕ)) (x y : List ℕ) → o ≡ Some x → o ≡ Some y → x ≡ y
same_some o x y a b = cc

module _ (t : List (List ℕ)) (e : ℕ → Option (List ℕ)) where
  at_least : (u : List (List ℕ)) → Follows t e u → length t ≤ length u
  at_least u f = omega (arith, length-take (length t) u, ap length f.old)

  not_longer : (u v : List (List ℕ)) → Follows t e u → Follows t e v → length u < length v → ⊥
  not_longer u v f g l = both (e (length u)) _ f.stops (g.more (length u) (at_least u f) l)

  pub follows_same : (u v : List (List ℕ)) → Follows t e u → Follows t e v → u ≡ v
  follows_same u v f g =
      let n : length u ≡ length v = elim (cases_order (length u) (length v)) [
        | inl q ↦ q
        | inr o ↦ elim o [ inl l ↦ absurd (not_longer u v f g l) | inr l ↦ absurd (not_longer v u g f l) ]
      ] in
      ext_get_or [] u v n (λ i l. elim (cases_lt i (length t)) [
        | inl x ↦ sym (get_or-take (length t) u i [] x) ∙ ap (λ w. get_or w i []) (f.old ∙ sym g.old) ∙ get_or-take (length t) v i [] x
        | inr x ↦ same_some (e i) _ _ (f.more i x l) (g.more i x (omega arith))
      ])

pub kept_same : (o : Out) (j : ℕ) (b : List ℕ) (p q : Out) → Kept o j b p → Kept o j b q → p ≡ q
kept_same o j b p q x y =
    let a : p.numbers ≡ q.numbers = x.numbers ∙ sym y.numbers in
    let t : p.taken ≡ q.taken = follows_same o.taken (beside j b o.early) p.taken q.taken x.taken y.taken in
    let e : p.early ≡ q.early = fun_ext (λ k. x.early k ∙ ap (λ v. cond (ltb k (length v)) None (beside j b o.early k)) t ∙ sym (y.early k)) in
    ap (λ v. record { numbers = v; taken = p.taken; early = p.early }) a
    ∙ ap (λ v. record { numbers = q.numbers; taken = v; early = p.early }) t
    ∙ ap (λ v. record { numbers = q.numbers; taken = q.taken; early = v }) e

-- numbers with the same bits are the same
bits_same : (n v u : ℕ) → v < 2 ^ n → u < 2 ^ n → ((s : ℕ) → v / 2 ^ s % 2 ≡ u / 2 ^ s % 2) → v ≡ u
bits_same zero v u a b h = omega arith
bits_same (suc n) v u a b h =
    let p = pow-suc 2 n in
    let r : v / 2 ≡ u / 2 = bits_same n (v / 2) (u / 2) (omega arith) (omega arith)
    (λ s. ap (λ x. x % 2) (shr-shr v 1 s) ∙ h (1 + s) ∙ sym (ap (λ x. x % 2) (shr-shr u 1 s))) in
    let q : v % 2 ≡ u % 2 = sym (ap (λ x. x % 2) (div-one v)) ∙ h 0 ∙ ap (λ x. x % 2) (div-one u) in
    omega arith

bit_same : (v u s : ℕ) → (Bit v s → Bit u s) → (Bit u s → Bit v s) → v / 2 ^ s % 2 ≡ u / 2 ^ s % 2
bit_same v u s f g = elim (cases_eq (v / 2 ^ s % 2) 1) [
  | inl x ↦ x ∙ sym (f x)
  | inr x ↦ elim (cases_eq (u / 2 ^ s % 2) 1) [ inl y ↦ absurd (x (g y)) | inr y ↦ omega arith ]
]

pub vector_same : (w : Window) (f : ℕ) (early : ℕ → Option (List ℕ)) (v u : ℕ) → v < 2 ^ 32 → u < 2 ^ 32 → Vector w f early v → Vector w f early u → v ≡ u
vector_same w f early v u a b x y = bits_same 32 v u a b (λ s. bit_same v u s
    (λ h. let m = x.only s h in y.set s m.0 m.1) (λ h. let m = y.only s h in x.set s m.0 m.1))
