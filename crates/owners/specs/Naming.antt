-- The pages that buffers name, in the order of naming.
use Rattle.std.specs.Prelude.{◌≡◌, ℕ, zero, suc, ◌+◌, ◌-◌, ◌/◌, ◌<◌, cond, List, [], ◌∷◌, ◌++◌, ◌==◌}
use Rattle.memory.specs.declared.buffer.Buffer.{Buffer}
use Rattle.memory.specs.declared.judge.Part.{Part}
use Rattle.memory.specs.declared.judge.Part.TheVariants.{Whole, Entry}
use Rattle.memory.specs.Kinds.{each}
use Rattle.memory.specs.Walk.{page, page_count}
use Rattle.memory.specs.Faults.{Fault}

-- how many pages a buffer names: none without bytes; a listed one names its list's own page too
abbrev pub names : List ℕ → Buffer → ℕ
names m b = cond (b.length == 0) 0 (each b.kind (page_count m b) (page_count m b + 1))

-- the page that a buffer names j-th, from 0: of a listed one first the list's own page
abbrev pub named : List ℕ → Buffer → ℕ → ℕ
named m b j = each b.kind (page m b j) (cond (j == 0) (b.address / 4096) (page m b (j - 1)))

-- the part of a buffer that names it
abbrev pub part_of : Buffer → ℕ → Part
part_of b j = each b.kind Whole (cond (j == 0) Whole (Entry (j - 1)))

-- a buffer names a page
abbrev pub Names : List ℕ → Buffer → ℕ → Type 0
Names m b q = (j : ℕ) × (j < names m b) × (named m b j ≡ q)

-- what names a page, and the page
abbrev pub Naming : Type 0
Naming = Fault × ℕ

-- n namings of piece i, from its naming j on
abbrev pub buffer_namings : List ℕ → ℕ → Buffer → ℕ → ℕ → List Naming
buffer_namings m i b j zero = []
buffer_namings m i b j (suc n) = (record { piece = i; part = part_of b j }, named m b j) ∷ buffer_namings m i b (suc j) n

-- the namings of pieces, of which the first has the number i
abbrev pub namings : List ℕ → ℕ → List Buffer → List Naming
namings m i [] = []
namings m i (b ∷ bs) = buffer_namings m i b 0 (names m b) ++ namings m (suc i) bs
