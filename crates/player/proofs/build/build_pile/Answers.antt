-- Each device comes from the front of those that are left.
use Rattle.std.proofs.Common.{◌≡◌, ℕ, suc, List, [], ◌∷◌, drop, Option, slice_get, sym, ap, ◌∙◌, subst}
use Rattle.pile.specs.Piles.{Covered}
use Rattle.script.specs.declared.command.Device.{Device}
use Rattle.player.specs.Building.{Stands}
use Rattle.player.proofs.build.build_pile.Goals as goal

-- what is left has its elements one place earlier
earlier : {A : Type 0} (xs ys : List A) (n : ℕ) → ys ≡ drop 1 xs → slice_get ys n ≡ slice_get xs (suc n)
earlier [] ys n e = ap (λ l. slice_get l n) e
earlier (x ∷ xs) ys n e = ap (λ l. slice_get l n) e

placed : (o p : Option Device) (d e : Covered) → Stands o d → o ≡ p → e ≡ d → Stands p e
placed o p d e s q r = subst (Stands p) (sym r) (subst (λ x. Stands x d) q s)

pub returns : goal.returns
returns c =
    let whole = λ (n : ℕ). ap (λ l. slice_get l n) c.into_iter-rest.ensures.rest in
    let second = λ (n : ℕ). earlier _ _ n c.next.ensures.left ∙ whole (suc n) in
    let third = λ (n : ℕ). earlier _ _ n c.next-2.ensures.left ∙ second (suc n) in
    let fourth = λ (n : ℕ). earlier _ _ n c.next-3.ensures.left ∙ third (suc n) in (
      placed _ _ _ _ c.in_ok-next.ensures.device (whole 0) c.stack.ensures.first,
      placed _ _ _ _ c.in_ok-next-2.ensures.device (second 0) c.stack.ensures.second,
      placed _ _ _ _ c.in_ok-next-3.ensures.device (third 0) c.stack.ensures.third,
      placed _ _ _ _ c.in_ok-next-4.ensures.device (fourth 0) c.stack.ensures.fourth,
    )
