-- Pieces that hold their pages: what is held, who owns each page, and what can happen.
use Rattle.std.specs.Prelude.{◌≡◌, ℕ, zero, suc, ◌+◌, ◌/◌, ◌%◌, ◌<◌, ◌≤◌, cond, ◌&&◌, List, length, Some, None, Ok, Option, ◌==◌, ◌≢◌, slice_index, slice_index_or}
use Rattle.std.proofs.lemmas.List.Edits.{sets}
use Rattle.memory.specs.declared.buffer.Buffer.{Buffer}
use Rattle.memory.specs.Store.{stored, gathered, place}
use Rattle.memory.specs.Judge.{buffer_verdict, pieces_from}
use Rattle.memory.specs.Faults.{no_buffer}
use Rattle.owners.specs.declared.table.Owner.{Owner}
use Rattle.owners.specs.Naming.{names, named, Names}
use Rattle.owners.specs.Claims.{Table, owner, claim, released}
use Rattle.owners.specs.Puts.{put_verdict}

-- the unreaped piece in each set and slot, who owns each page, and the bytes of memory
pub record World : Type 0 where
  pub held : ℕ → ℕ → Option Buffer
  pub table : Table
  pub memory : List ℕ

-- a piece is well placed and owns what it names, each page named once
pub record OwnedBy (t : Table) (m : List ℕ) (o : Owner) (b : Buffer) : Type 0 where
  pub placed : buffer_verdict m b ≡ Ok tt
  pub pages : (j : ℕ) → j < names m b → slice_index_or t (named m b j) None ≡ Some o
  pub apart : (i j : ℕ) → i < j → j < names m b → named m b i ≢ named m b j

-- every unreaped piece is well placed and owns what it names; who owns a page is unreaped and names it
pub record Owned (w : World) : Type 0 where
  pub whole : length w.memory % 4096 ≡ 0
  pub covered : length w.memory / 4096 ≤ length w.table
  pub owned : (i j : ℕ) (b : Buffer) → w.held i j ≡ Some b → OwnedBy w.table w.memory (owner i j) b
  pub exact : (q i j : ℕ) → slice_index_or w.table q None ≡ Some (owner i j) → (b : Buffer) × (w.held i j ≡ Some b) × Names w.memory b q

-- what a piece's buffer shows
abbrev pub bytes : List ℕ → Buffer → List ℕ
bytes m b = gathered (place m b) m 0 b.length

-- a packet goes into the buffer of a piece, from its byte `at` on
abbrev pub written : World → Buffer → ℕ → List ℕ → World
written w b at xs = record { held = w.held; table = w.table; memory = stored (place w.memory b) w.memory at xs }

-- bytes are put at an address
abbrev pub put : World → ℕ → List ℕ → World
put w a xs = record { held = w.held; table = w.table; memory = sets w.memory a xs }

abbrev pub without : ℕ → ℕ → (ℕ → ℕ → Option Buffer) → ℕ → ℕ → Option Buffer
without i j h a b = cond (a == i && b == j) None (h a b)

-- the piece b in slot j of set i is let go
abbrev pub reaped : World → ℕ → ℕ → Buffer → World
reaped w i j b = record { held = without i j w.held; table = released (owner i j) b w.table; memory = w.memory }

-- pieces are queued at set s from slot `first` on: what is held and who owns after it
pub record Queued (s first : ℕ) (ps : List Buffer) (w : World) (h : ℕ → ℕ → Option Buffer) (t : Table) : Type 0 where
  pub judged : pieces_from w.memory 0 ps ≡ Ok tt
  pub claimed : claim w.memory s first w.table ps ≡ Ok t
  pub fresh : (n : ℕ) → n < length ps → w.held s ((first + n) % 8) ≡ None
  pub new : (n : ℕ) → n < length ps → h s ((first + n) % 8) ≡ Some (slice_index_or ps n no_buffer)
  pub old : (i j : ℕ) → (i ≡ s → (n : ℕ) → n < length ps → (first + n) % 8 ≢ j) → h i j ≡ w.held i j

abbrev pub queued : World → (ℕ → ℕ → Option Buffer) → Table → World
queued w h t = record { held = h; table = t; memory = w.memory }

-- what can happen to a world
pub data Act (w : World) : Type 0 where
  write : (i j : ℕ) (b : Buffer) (at : ℕ) (xs : List ℕ) → w.held i j ≡ Some b → at + length xs ≤ b.length → Act w
  give : (pages a : ℕ) (xs : List ℕ) → put_verdict w.memory pages w.table a (length xs) ≡ Ok tt → Act w
  queue : (s first : ℕ) (ps : List Buffer) (h : ℕ → ℕ → Option Buffer) (t : Table) → Queued s first ps w h t → Act w
  reap : (i j : ℕ) (b : Buffer) → w.held i j ≡ Some b → Act w

abbrev pub after : (w : World) → Act w → World
after w (write i j b at xs e f) = written w b at xs
after w (give pages a xs v) = put w a xs
after w (queue s first ps h t q) = queued w h t
after w (reap i j b e) = reaped w i j b

-- the set that it is for; a Put is for none
abbrev pub For : (w : World) → Act w → ℕ → Type 0
For w (write i j b at xs e f) s = s ≡ i
For w (give pages a xs v) s = ⊥
For w (queue i first ps h t q) s = s ≡ i
For w (reap i j b e) s = s ≡ i

-- it neither writes into nor lets go the piece in slot j of set i
abbrev pub Spares : (w : World) → Act w → ℕ → ℕ → Type 0
Spares w (write a c b at xs e f) i j = i ≡ a → j ≢ c
Spares w (give pages a xs v) i j = Unit {0}
Spares w (queue s first ps h t q) i j = Unit {0}
Spares w (reap a c b e) i j = i ≡ a → j ≢ c

-- nothing of set s changed: no piece, no owner of its pages either way, no byte of them (its lists among them), nothing that its buffers show
pub record Unaltered (s : ℕ) (w v : World) : Type 0 where
  pub pieces : (j : ℕ) → v.held s j ≡ w.held s j
  pub owners : (j q : ℕ) → slice_index_or w.table q None ≡ Some (owner s j) → slice_index_or v.table q None ≡ Some (owner s j)
  pub no_more : (j q : ℕ) → slice_index_or v.table q None ≡ Some (owner s j) → slice_index_or w.table q None ≡ Some (owner s j)
  pub pages : (j x : ℕ) → slice_index_or w.table (x / 4096) None ≡ Some (owner s j) → slice_index v.memory x ≡ slice_index w.memory x
  pub shown : (j : ℕ) (b : Buffer) → w.held s j ≡ Some b → bytes v.memory b ≡ bytes w.memory b

-- n happenings, each sparing the piece in slot j of set i
abbrev pub Sparing : ℕ → ℕ → ℕ → World → World → Type 0
Sparing zero i j w v = w ≡ v
Sparing (suc n) i j w v = (x : Act w) × Spares w x i j × Sparing n i j (after w x) v
