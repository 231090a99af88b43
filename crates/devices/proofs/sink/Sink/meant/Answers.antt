-- A number stands for no packet that is kept already.
use Rattle.std.proofs.Common.{◌≡◌, ℕ, true, false, List, is_some, length, None, Some, Option, Bor, sym, refl, ap, ◌∙◌, subst, arith}
use Rattle.std.specs.Option.{option_map}
use Rattle.std.proofs.lemmas.Bool.{both_ways}
use Rattle.link.specs.declared.term.SoundWindow.{SoundWindow}
use Rattle.link.specs.Meaning.{Meant}
use Rattle.devices.specs.Early.{early_from, early_of}
use Rattle.devices.specs.Stored.{taken_in}
use Rattle.devices.specs.Cutting.{counts}
use Rattle.devices.specs.Keeping.{meant_held}
use Rattle.devices.proofs.sink.Sink.meant.Goals as goal

held : (v : SoundWindow) (f : ℕ) (e : ℕ → Option (List ℕ)) (s j : ℕ) → Meant v.window f (λ k. None) s j → (r : Option (Bor (List ℕ))) → is_some r ≡ true → option_map (λ b. b.now) r ≡ e j
    → (i : ℕ) → Meant v.window f (early_from f e) s i → ⊥
held v f e s j m None q d = absurd (both_ways false refl q)
held v f e s j m (Some b) q d = meant_held v.window f e s j v.within b.now m (sym d)

pub standing-requires : goal.standing-requires
standing-requires c =
    let s = c.args.self.now.store in
    omega (arith, c.count.ensures, counts s, s.lengths.ok.1, s.short)

pub returns-in-Some : goal.returns-in-Some
returns-in-Some c =
    let s = c.args.self.now in
    held c.args.window (length (taken_in s.store)) (early_of s.ahead) c.args.number c.in_ok-j.j
    (subst (λ f. Meant c.args.window.window f (λ k. None) c.args.number c.in_ok-j.j) c.count.ensures c.in_ok-j.ensures)
    c.packet.result (sym c.is_some.ensures ∙ c.if-is_some.true) (c.packet.ensures ∙ sym (ap (λ a. early_of a c.in_ok-j.j) c.in-Some.is))
