-- What is answered of the places of pieces, piece by piece and entry by entry; Faults says the same as a law.
use Rattle.std.specs.Prelude.{ℕ, zero, suc, ◌+◌, ◌*◌, ◌/◌, ◌%◌, cond, ◌&&◌, ◌||◌, List, [], ◌∷◌, length, Ok, Err, Result, ◌==◌, nat_le, nat_lt}
use Rattle.refusal.specs.declared.reason.Refusal.{Refusal}
use Rattle.refusal.specs.declared.reason.Refusal.TheVariants.{WrongSize, BadPlace}
use Rattle.refusal.specs.declared.reason.Spot.{Spot}
use Rattle.refusal.specs.declared.reason.Spot.TheVariants.{Piece as OfPiece, Entry as OfEntry}
use Rattle.memory.specs.declared.buffer.Buffer.{Buffer}
use Rattle.memory.specs.declared.judge.BadEntry.{BadEntry}
use Rattle.memory.specs.declared.judge.Part.{Part}
use Rattle.memory.specs.declared.judge.Part.TheVariants.{Whole, Entry}
use Rattle.memory.specs.Kinds.{each}
use Rattle.memory.specs.Walk.{entry, page_count}

abbrev pub Verdict : Type 0 → Type 0
Verdict E = Result (Unit {0}) E

-- the first fault of two verdicts, which hand nothing on; claims, which hand on the table, have a chain of their own
abbrev pub and_then : {E : Type 0} → Verdict E → Verdict E → Verdict E
and_then (Ok u) r = r
and_then (Err e) r = Err e

-- a bad entry, told with its number
abbrev pub in_entry : ℕ → Verdict BadEntry → Verdict Part
in_entry k (Ok u) = Ok u
in_entry k (Err e) = Err (Entry k)

-- where a part of a piece is, as a refusal points at it
abbrev pub spot_of : ℕ → Part → Spot
spot_of i Whole = OfPiece i
spot_of i (Entry k) = OfEntry i k

-- a part at fault, told as a refusal with the number of its piece
abbrev pub in_piece : (Spot → Refusal) → ℕ → Verdict Part → Verdict Refusal
in_piece refusal i (Ok u) = Ok u
in_piece refusal i (Err part) = Err (refusal (spot_of i part))

-- memory has exactly so many pages
abbrev pub size_verdict : List ℕ → ℕ → Verdict Refusal
size_verdict m pages = cond (length m == pages * 4096) (Ok tt) (Err WrongSize)

-- an entry names a page of memory, and only the first has an offset
abbrev pub entry_verdict : List ℕ → ℕ → ℕ → Verdict BadEntry
entry_verdict m list k =
    cond (nat_le (length m / 4096) (entry m list k).0 || (nat_lt 0 k && nat_lt 0 (entry m list k).1)) (Err record {}) (Ok tt)

-- n entries from entry k on
abbrev pub entries_from : List ℕ → ℕ → ℕ → ℕ → Verdict Part
entries_from m list k zero = Ok tt
entries_from m list k (suc n) = and_then (in_entry k (entry_verdict m list k)) (entries_from m list (suc k) n)

-- a page list: its address, its extent in its page, and then its entries
abbrev pub list_verdict : List ℕ → Buffer → Verdict Part
list_verdict m b =
    cond (nat_lt 0 (b.address % 8) || nat_le (length m) b.address) (Err Whole)
    (cond (nat_lt 4096 (b.address % 4096 + 8 * page_count m b)) (Err Whole) (entries_from m b.address 0 (page_count m b)))

-- bytes at an address
abbrev pub direct_verdict : List ℕ → Buffer → Verdict Part
direct_verdict m b = cond (nat_lt 4096 b.length || nat_lt (length m) (b.address + b.length)) (Err Whole) (Ok tt)

-- one buffer; where it has no bytes its address is not judged
abbrev pub buffer_verdict : List ℕ → Buffer → Verdict Part
buffer_verdict m b =
    cond (nat_lt 1048575 b.length) (Err Whole)
    (cond (b.length == 0) (Ok tt) (each b.kind (direct_verdict m b) (list_verdict m b)))

-- the first fault among pieces, of which the first has the number i
abbrev pub pieces_from : List ℕ → ℕ → List Buffer → Verdict Refusal
pieces_from m i [] = Ok tt
pieces_from m i (b ∷ bs) = and_then (in_piece BadPlace i (buffer_verdict m b)) (pieces_from m (suc i) bs)
