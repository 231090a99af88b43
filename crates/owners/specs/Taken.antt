-- The law of pages that are taken: the first naming of a page that has an owner, or was named before, is told.
use Rattle.std.specs.Prelude.{◌≡◌, ℕ, ◌/◌, ◌%◌, ◌<◌, ◌≤◌, ◌⊎◌, List, length, Some, None, Ok, Result, slice_index_or}
use Rattle.refusal.specs.declared.reason.Refusal.{Refusal}
use Rattle.refusal.specs.declared.reason.Refusal.TheVariants.{PageTaken}
use Rattle.memory.specs.declared.buffer.Buffer.{Buffer}
use Rattle.memory.specs.Judge.{pieces_from}
use Rattle.memory.specs.Faults.{Fault, Earlier, Told, no_buffer}
use Rattle.owners.specs.declared.table.Owner.{Owner}
use Rattle.owners.specs.Naming.{names, named, part_of}
use Rattle.owners.specs.Claims.{Table, claim, answer}

-- a part of one of the pieces names page q
abbrev pub NamedIn : List ℕ → List Buffer → Fault → ℕ → Type 0
NamedIn m ps f q = (f.piece < length ps)
    × ((j : ℕ) × (j < names m (slice_index_or ps f.piece no_buffer)) × (part_of (slice_index_or ps f.piece no_buffer) j ≡ f.part) × (named m (slice_index_or ps f.piece no_buffer) j ≡ q))

-- it names a page that has an owner, or that was named before: of two namings the later is at fault
abbrev pub TakenIn : Table → List ℕ → List Buffer → Fault → Type 0
TakenIn t m ps f = (q : ℕ) × NamedIn m ps f q
    × (((o : Owner) × (slice_index_or t q None ≡ Some o)) ⊎ ((g : Fault) × Earlier g f × NamedIn m ps g q))

-- of pieces that are well placed in memory, whose pages the table covers: what is told is the first at fault
abbrev pub PagesTold : List ℕ → Table → List Buffer → Result (Unit {0}) Refusal → Type 0
PagesTold m t ps r = length m % 4096 ≡ 0 → length m / 4096 ≤ length t → pieces_from m 0 ps ≡ Ok tt → Told (λ s. PageTaken s) (TakenIn t m ps) r

-- the law leaves one answer, and the claim gives it, whatever the slots
abbrev pub PageAnswers : Type 0
PageAnswers = (m : List ℕ) (s first : ℕ) (t : Table) (ps : List Buffer) (r : Result (Unit {0}) Refusal)
    → length m % 4096 ≡ 0 → length m / 4096 ≤ length t → pieces_from m 0 ps ≡ Ok tt
    → Told (λ s. PageTaken s) (TakenIn t m ps) r → r ≡ answer (claim m s first t ps)
