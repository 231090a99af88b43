-- Entries of a page list, inside its page and outside.
use Rattle.std.proofs.Common.{◌≡◌, ℕ, ◌+◌, ◌*◌, ◌/◌, ◌%◌, ◌<◌, ◌≤◌, true, false, cond, ◌&&◌, leb, List, length, Some, None, Option, SomeIff, MatchOption, sym, ap, ◌∙◌, inl, inr, arith}
use Rattle.memory.specs.declared.buffer.Buffer.{Buffer}
use Rattle.memory.specs.declared.buffer.Kind.TheVariants.{Direct, Listed}
use Rattle.memory.specs.Kinds.{each}
use Rattle.std.proofs.lemmas.Bool.{cases_lt}
use Rattle.std.proofs.lemmas.Bool.Decides.{nat_tests}
use Rattle.memory.specs.Walk.{entry, Lies, word, nowhere, offset}

pub entry_inside : (m : List ℕ) (list k : ℕ) → list % 4096 + 8 * k + 8 ≤ 4096 → list + 8 * k + 8 ≤ length m
    → entry m list k ≡ (word m (list + 8 * k) / 4096, word m (list + 8 * k) % 4096)
unfolding entry
entry_inside m list k g h = grind (arith, nat_tests)

pub entry_past : (m : List ℕ) (list k : ℕ) → 4096 < list % 4096 + 8 * k + 8 → entry m list k ≡ (nowhere, 0)
unfolding entry
entry_past m list k h = grind (arith, nat_tests)

pub entry_outside : (m : List ℕ) (list k : ℕ) → length m < list + 8 * k + 8 → entry m list k ≡ (nowhere, 0)
unfolding entry
entry_outside m list k h = grind (arith, nat_tests)

pub entry_astray : (m : List ℕ) (list k : ℕ) → (Lies m list k → ⊥) → entry m list k ≡ (nowhere, 0)
entry_astray m list k h = elim (cases_lt 4096 (list % 4096 + 8 * k + 8)) [
  | inl p ↦ entry_past m list k p
  | inr p ↦ (elim (cases_lt (length m) (list + 8 * k + 8)) [ inl o ↦ entry_outside m list k o | inr o ↦ absurd (h (p, o)) ])
]

-- what is read of an entry that may be missing
pub entry_read : {X : Type 0} (m : List ℕ) (list k : ℕ) (f : ℕ × ℕ → X) (o : Option (ℕ × ℕ)) (r : X) {P : ℕ × ℕ → Type 0} → SomeIff o (Lies m list k) (entry m list k)
    → ((e : ℕ × ℕ) → P e → r ≡ f e) → MatchOption o (r ≡ f (nowhere, 0)) P → r ≡ f (entry m list k)
entry_read m list k f None r s g h = h ∙ ap f (sym (entry_astray m list k s))
entry_read m list k f (Some e) r s g h = g e h ∙ ap f s.1

pub low_below : (m : List ℕ) (list k : ℕ) → (entry m list k).1 < 4096
unfolding entry
low_below m list k =
    elim (leb (list % 4096 + 8 * k + 8) 4096 && leb (list + 8 * k + 8) (length m))
    as (λ v. (cond {A = ℕ × ℕ} v (word m (list + 8 * k) / 4096, word m (list + 8 * k) % 4096) (nowhere, 0)).1 < 4096) [ true ↦ omega arith | false ↦ omega arith ]

-- an offset is an offset in a page
pub offset_below : (m : List ℕ) (b : Buffer) → offset m b < 4096
offset_below m b = elim b.kind as (λ v. each v (b.address % 4096) (entry m b.address 0).1 < 4096)
    [ Direct ↦ omega arith | Listed ↦ low_below m b.address 0 ]
