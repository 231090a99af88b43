-- Claiming the pages of a transfer, and releasing those of a piece.
use Rattle.std.specs.Prelude.{ℕ, zero, suc, ◌+◌, ◌/◌, ◌%◌, cond, ◌&&◌, List, [], ◌∷◌, map, Some, None, Ok, Err, Option, Result, ◌==◌, slice_index_or, slice_set}
use Rattle.refusal.specs.declared.reason.Refusal.{Refusal}
use Rattle.refusal.specs.declared.reason.Refusal.TheVariants.{PageTaken}
use Rattle.memory.specs.declared.buffer.Buffer.{Buffer}
use Rattle.memory.specs.Kinds.{each}
use Rattle.memory.specs.Judge.{spot_of}
use Rattle.memory.specs.Faults.{Fault, no_buffer}
use Rattle.owners.specs.declared.table.Owner.{Owner}
use Rattle.owners.specs.Naming.{Naming, names, named, buffer_namings, namings}

-- the owner of each page
abbrev pub Table : Type 0
Table = List (Option Owner)

abbrev pub owner : ℕ → ℕ → Owner
owner i j = record { set = i; slot = j }

-- the piece of number i gets the slot so far from the first, 0 after 7
abbrev pub slot_owner : ℕ → ℕ → ℕ → Owner
slot_owner s first i = owner s ((first + i) % 8)

-- a page is marked as owned, or refused where it has an owner
abbrev pub take_page : Table → ℕ → Fault → Owner → Result Table Refusal
take_page t q f o = elim (slice_index_or t q None) [ None ↦ Ok (slice_set t q (Some o)) | Some h ↦ Err (PageTaken (spot_of f.piece f.part)) ]

abbrev pub next : Result Table Refusal → (Table → Result Table Refusal) → Result Table Refusal
next (Ok t) f = f t
next (Err e) f = Err e

-- pages are marked in the order of naming; the first that has an owner is refused
abbrev pub claimed : (ℕ → Owner) → Table → List Naming → Result Table Refusal
claimed ow t [] = Ok t
claimed ow t (x ∷ xs) = next (take_page t x.1 x.0 (ow x.0.piece)) (λ u. claimed ow u xs)

-- the answer of a claim, and the table after it: a refusal leaves all as it was
abbrev pub answer : Result Table Refusal → Result (Unit {0}) Refusal
answer (Ok t) = Ok tt
answer (Err e) = Err e

abbrev pub after : Table → Result Table Refusal → Table
after t₀ (Ok t) = t
after t₀ (Err e) = t₀

-- the claim of one buffer, the piece of number i
abbrev pub claim_buffer : List ℕ → ℕ → Buffer → Owner → Table → Result Table Refusal
claim_buffer m i b o t = claimed (λ n. o) t (buffer_namings m i b 0 (names m b))

-- a transfer's claim, at set s from slot `first` on
abbrev pub claim : List ℕ → ℕ → ℕ → Table → List Buffer → Result Table Refusal
claim m s first t ps = claimed (slot_owner s first) t (namings m 0 ps)

-- the first n namings of a buffer taken back, the last first
abbrev pub unclaimed : List ℕ → Buffer → ℕ → Table → Table
unclaimed m b zero t = t
unclaimed m b (suc n) t = unclaimed m b n (slice_set t (named m b n) None)

-- the namings of the first n pieces taken back, the last piece first
abbrev pub unclaimed_all : List ℕ → List Buffer → ℕ → Table → Table
unclaimed_all m ps zero t = t
unclaimed_all m ps (suc n) t = unclaimed_all m ps n (unclaimed m (slice_index_or ps n no_buffer) (names m (slice_index_or ps n no_buffer)) t)

-- what a page's owner is once `o` lets it go
abbrev pub freed : Owner → Option Owner → Option Owner
freed o None = None
freed o (Some h) = cond (h.set == o.set && h.slot == o.slot) None (Some h)

-- n pages from page q on let go
abbrev pub freed_pages : Owner → Table → ℕ → ℕ → Table
freed_pages o t q zero = t
freed_pages o t q (suc n) = freed_pages o (slice_set t q (freed o (slice_index_or t q None))) (suc q) n

-- a piece's pages let go: those of a direct one are known by its address, of a listed one every page is looked at
abbrev pub released : Owner → Buffer → Table → Table
released o b t = cond (b.length == 0) t
    (each b.kind (freed_pages o t (b.address / 4096) ((b.address % 4096 + b.length + 4095) / 4096)) (map (freed o) t))
