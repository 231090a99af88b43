-- Each is fixed to one value.
use Rattle.std.proofs.Common.{sym, ◌∙◌, inl, inr, arith}
use Rattle.std.proofs.lemmas.Bool.{cases_lt, cases_order}
use Rattle.window.proofs.Mods.{mod_same}
use Rattle.link.specs.Once.{AimOnce, MeantOnce}
use Rattle.link.proofs.Sound.{range_twice}

pub aim_once : AimOnce
aim_once M b k a c x y = elim (cases_order a c) [
  | inl e ↦ e
  | inr o ↦ elim o [ inl l ↦ absurd (y.first a x.from l x.set) | inr l ↦ absurd (x.first c y.from l y.set) ]
]

pub meant_once : MeantOnce
meant_once w f early s i j h x y =
    let a = x.from in
    let b = x.within in
    let c = y.from in
    let d = y.within in
    let r = range_twice w h in
    elim (cases_lt i j) [
      | inl l ↦ mod_same w.range i j (omega arith) (omega arith) (x.number ∙ sym y.number)
      | inr l ↦ sym (mod_same w.range j i l (omega arith) (y.number ∙ sym x.number))
    ]
