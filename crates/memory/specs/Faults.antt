-- The law of refusals that name a place: the first at fault, in the order of naming, is told.
use Rattle.std.specs.Prelude.{◌≡◌, ℕ, ◌+◌, ◌*◌, ◌/◌, ◌%◌, ◌<◌, ◌≤◌, ◌⊎◌, List, length, Ok, Err, Result, slice_index_or}
use Rattle.refusal.specs.declared.reason.Refusal.{Refusal}
use Rattle.refusal.specs.declared.reason.Refusal.TheVariants.{BadPlace}
use Rattle.refusal.specs.declared.reason.Spot.{Spot}
use Rattle.memory.specs.declared.buffer.Kind.{Kind}
use Rattle.memory.specs.declared.buffer.Kind.TheVariants.{Direct}
use Rattle.memory.specs.declared.buffer.Buffer.{Buffer}
use Rattle.memory.specs.declared.judge.Part.{Part}
use Rattle.memory.specs.declared.judge.Part.TheVariants.{Whole, Entry}
use Rattle.memory.specs.Kinds.{each}
use Rattle.memory.specs.Walk.{entry, page_count}
use Rattle.memory.specs.Judge.{spot_of, pieces_from}

-- what can be at fault: of a piece, counted from 0, the whole or an entry of its list
pub record Fault : Type 0 where
  pub piece : ℕ
  pub part : Part

-- of a piece, itself comes before its entries
abbrev pub Before : Part → Part → Type 0
Before Whole Whole = ⊥
Before Whole (Entry k) = Unit {0}
Before (Entry j) Whole = ⊥
Before (Entry j) (Entry k) = j < k

-- the order of naming: pieces as given
abbrev pub Earlier : Fault → Fault → Type 0
Earlier g f = (g.piece < f.piece) ⊎ ((g.piece ≡ f.piece) × Before g.part f.part)

-- what is told: nothing is at fault, or the first at fault is refused
abbrev pub Told : {X : Type 0} → (Spot → Refusal) → (Fault → Type 0) → Result X Refusal → Type 0
Told refusal Bad (Ok x) = (f : Fault) → Bad f → ⊥
Told refusal Bad (Err r) = (f : Fault) × (r ≡ refusal (spot_of f.piece f.part)) × Bad f × ((g : Fault) → Earlier g f → Bad g → ⊥)

-- an entry names no page of memory, or has an offset and is not the first
abbrev pub Stray : List ℕ → ℕ → ℕ → Type 0
Stray m list k = (length m / 4096 ≤ (entry m list k).0) ⊎ ((0 < k) × (0 < (entry m list k).1))

-- bytes at an address: too many, or not all in memory
abbrev pub DirectAstray : List ℕ → Buffer → Type 0
DirectAstray m b = (4096 < b.length) ⊎ (length m < b.address + b.length)

-- a page list: no multiple of 8, outside memory, or not inside one page
abbrev pub ListAstray : List ℕ → Buffer → Type 0
ListAstray m b = (0 < b.address % 8) ⊎ ((length m ≤ b.address) ⊎ (4096 < b.address % 4096 + 8 * page_count m b))

-- a buffer of a kind is at fault by its own address, length or page
abbrev pub Astray : Kind → List ℕ → Buffer → Type 0
Astray kind m b = each kind (DirectAstray m b) (ListAstray m b)

-- a buffer of a kind is at fault by an entry of its list
abbrev pub StrayIn : Kind → List ℕ → Buffer → ℕ → Type 0
StrayIn kind m b k = each kind ⊥ ((k < page_count m b) × Stray m b.address k)

-- a buffer is at fault by a part of it; one with no bytes is at fault by nothing
abbrev pub Misplaced : List ℕ → Buffer → Part → Type 0
Misplaced m b Whole = (1048575 < b.length) ⊎ ((0 < b.length) × Astray b.kind m b)
Misplaced m b (Entry k) = (0 < b.length) × StrayIn b.kind m b k

abbrev pub no_buffer : Buffer
no_buffer = record { kind = Direct; address = 0; length = 0 }

abbrev pub MisplacedIn : List ℕ → List Buffer → Fault → Type 0
MisplacedIn m ps f = (f.piece < length ps) × Misplaced m (slice_index_or ps f.piece no_buffer) f.part

-- the refusals of Queue for places: of all pieces in the order given
abbrev pub PlacesTold : List ℕ → List Buffer → Result (Unit {0}) Refusal → Type 0
PlacesTold m ps r = Told (λ s. BadPlace s) (MisplacedIn m ps) r

-- the law leaves one answer, and the verdicts give it
abbrev pub PlaceAnswers : Type 0
PlaceAnswers = (m : List ℕ) (ps : List Buffer) (r : Result (Unit {0}) Refusal) → PlacesTold m ps r → r ≡ pieces_from m 0 ps
