-- The frame theorems: what is done to one piece leaves the others, and ownership is kept.
use Rattle.std.specs.Prelude.{◌≡◌, ℕ, ◌+◌, ◌*◌, ◌/◌, ◌<◌, ◌≤◌, List, [], ◌∷◌, length, take, drop, replicate, Some, None, Ok, Option, ◌≢◌, slice_index, slice_index_or}
use Rattle.std.proofs.lemmas.List.Edits.{sets}
use Rattle.memory.specs.declared.buffer.Kind.TheVariants.{Direct, Listed}
use Rattle.memory.specs.declared.buffer.Buffer.{Buffer}
use Rattle.memory.specs.Store.{gathered, place}
use Rattle.owners.specs.Naming.{Names}
use Rattle.owners.specs.Claims.{Table, owner}
use Rattle.owners.specs.Puts.{put_verdict}
use Rattle.frame.specs.Worlds.{World, Owned, bytes, written, put, reaped, Queued, queued, Act, after, For, Unaltered, Sparing}

-- the list of a buffer: the bytes of the page that it stands in
abbrev pub ListKept : List ℕ → List ℕ → Buffer → Type 0
ListKept m m' b = b.kind ≡ Listed → 0 < b.length → (x : ℕ) → x / 4096 ≡ b.address / 4096 → slice_index m' x ≡ slice_index m x

-- a packet written into one piece's buffer: that buffer shows it there, every other shows what it did, no list changed, and all is owned as before
abbrev pub Writes : Type 0
Writes = (w : World) (i j : ℕ) (b : Buffer) (at : ℕ) (xs : List ℕ) → Owned w → w.held i j ≡ Some b → at + length xs ≤ b.length
    → Owned (written w b at xs)
    × (bytes (written w b at xs).memory b ≡ sets (bytes w.memory b) at xs)
    × ((a c : ℕ) (d : Buffer) → (a ≡ i → c ≢ j) → w.held a c ≡ Some d → bytes (written w b at xs).memory d ≡ bytes w.memory d)
    × ((a c : ℕ) (d : Buffer) → w.held a c ≡ Some d → ListKept w.memory (written w b at xs).memory d)

-- what was written reads back, through the walk as memory then is
abbrev pub ReadsBack : Type 0
ReadsBack = (w : World) (i j : ℕ) (b : Buffer) (at : ℕ) (xs : List ℕ) → Owned w → w.held i j ≡ Some b → at + length xs ≤ b.length
    → gathered (place (written w b at xs).memory b) (written w b at xs).memory at (length xs) ≡ xs

-- bytes put to pages that nobody owns: no buffer shows a change, and no list changed
abbrev pub Puts : Type 0
Puts = (w : World) (pages a : ℕ) (xs : List ℕ) → Owned w → put_verdict w.memory pages w.table a (length xs) ≡ Ok tt
    → Owned (put w a xs)
    × ((i j : ℕ) (b : Buffer) → w.held i j ≡ Some b → bytes (put w a xs).memory b ≡ bytes w.memory b)
    × ((i j : ℕ) (b : Buffer) → w.held i j ≡ Some b → ListKept w.memory (put w a xs).memory b)

-- a piece let go: exactly its pages are free, and all others are owned as before
abbrev pub Reaps : Type 0
Reaps = (w : World) (i j : ℕ) (b : Buffer) → Owned w → w.held i j ≡ Some b
    → Owned (reaped w i j b)
    × ((q : ℕ) → Names w.memory b q → slice_index_or (reaped w i j b).table q None ≡ None)
    × ((q : ℕ) → (Names w.memory b q → ⊥) → slice_index_or (reaped w i j b).table q None ≡ slice_index_or w.table q None)

-- pieces queued: they and all others are owned
abbrev pub Queues : Type 0
Queues = (w : World) (s first : ℕ) (ps : List Buffer) (h : ℕ → ℕ → Option Buffer) (t : Table) → Owned w → Queued s first ps w h t → Owned (queued w h t)

-- what is done for one set alters no piece, owned page or shown byte of another; a Put alters none of any set
abbrev pub Apart : Type 0
Apart = (w : World) (x : Act w) → Owned w → Owned (after w x) × ((s : ℕ) → (For w x s → ⊥) → Unaltered s w (after w x))

-- a buffer shows what it showed when its piece was queued, until it is written into or let go
abbrev pub Steady : Type 0
Steady = (n i j : ℕ) (w v : World) (b : Buffer) → Owned w → w.held i j ≡ Some b → Sparing n i j w v
    → Owned v × (v.held i j ≡ Some b) × (bytes v.memory b ≡ bytes w.memory b)

-- a page has an owner exactly if an unreaped piece names it, and then that piece is the owner
abbrev pub Holders : Type 0
Holders = (w : World) (q i j : ℕ) → Owned w
    → (slice_index_or w.table q None ≡ Some (owner i j) → (b : Buffer) × (w.held i j ≡ Some b) × Names w.memory b q)
    × ((b : Buffer) → w.held i j ≡ Some b → Names w.memory b q → slice_index_or w.table q None ≡ Some (owner i j))

-- where nothing is held and no page has an owner all is owned
abbrev pub Starts : Type 0
Starts = (n : ℕ) (m : List ℕ) → length m ≡ n * 4096 → n ≤ 4096 → Owned (record { held = λ i j. None; table = replicate 4096 None; memory = m })

-- bytes read from a byte of a buffer on are that part of what the buffer shows; a direct buffer shows memory from its address on
abbrev pub Reads : Type 0
Reads = (m : List ℕ) (b : Buffer)
    → ((at n : ℕ) → at + n ≤ b.length → gathered (place m b) m at n ≡ take n (drop at (bytes m b)))
    × ((n : ℕ) → b.kind ≡ Direct → b.address + n ≤ length m → gathered (place m b) m 0 n ≡ take n (drop b.address m))

-- packets written one after another into one buffer, each from its own byte on
abbrev pub written_all : World → Buffer → List (ℕ × List ℕ) → World
written_all w b [] = w
written_all w b (x ∷ xs) = written_all (written w b x.0 x.1) b xs

abbrev pub sets_all : List ℕ → List (ℕ × List ℕ) → List ℕ
sets_all l [] = l
sets_all l (x ∷ xs) = sets_all (sets l x.0 x.1) xs

abbrev pub FitAll : ℕ → List (ℕ × List ℕ) → Type 0
FitAll n [] = Unit {0}
FitAll n (x ∷ xs) = (x.0 + length x.1 ≤ n) × FitAll n xs

-- that buffer shows them, every other shows what it did, and all is owned as before
abbrev pub Packets : Type 0
Packets = (w : World) (i j : ℕ) (b : Buffer) (xs : List (ℕ × List ℕ)) → Owned w → w.held i j ≡ Some b → FitAll b.length xs
    → Owned (written_all w b xs)
    × (bytes (written_all w b xs).memory b ≡ sets_all (bytes w.memory b) xs)
    × ((a c : ℕ) (d : Buffer) → (a ≡ i → c ≢ j) → w.held a c ≡ Some d → bytes (written_all w b xs).memory d ≡ bytes w.memory d)

-- the premises can be met: over any memory of one page stands an owned world in which a piece is held
abbrev pub Happens : Type 0
Happens = (m : List ℕ) → length m ≡ 4096
    → (w : World) × Owned w × (w.memory ≡ m) × (w.held 0 0 ≡ Some (record { kind = Direct; address = 0; length = 1 }))
