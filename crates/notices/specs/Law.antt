-- The law of the notice buffer: what comes out is what was accepted, each notice once, in order.
use Rattle.std.specs.Prelude.{◌≡◌, ℕ, ◌+◌, ◌*◌, ◌/◌, ◌%◌, cond, List, [], ◌∷◌, ◌++◌, map, take, drop, Some, None, Ok, Err, Result, ◌==◌, slice_index}
use Rattle.refusal.specs.declared.reason.Refusal.{Refusal}
use Rattle.refusal.specs.Chains.{Rises}
use Rattle.ring.specs.Rings as rings
use Rattle.notices.specs.Blocks.{Notice, block_of, shows}
use Rattle.notices.specs.Boards.{Board, made_board, switched, rules, arriving, arrived, taking, taken}

-- what happens at a notice buffer
pub data Event : Type 0 where
  arrives : Notice → Event
  takes : Event
  switches : Event

-- the buffer after an event, by the definition of its call
abbrev pub after : Board → Event → Board
after b (arrives n) = arrived b n
after b takes = taken b
after b switches = switched b

-- the buffer after a list of events
abbrev pub finally : Board → List Event → Board
finally b [] = b
finally b (e ∷ es) = finally (after b e) es

-- the notice, if the call accepted it
abbrev pub if_accepted : Result ℕ Refusal → Notice → List Notice
if_accepted (Ok p) n = n ∷ []
if_accepted (Err f) n = []

abbrev pub accepts : Board → Event → List Notice
accepts b (arrives n) = if_accepted (arriving b n) n
accepts b takes = []
accepts b switches = []

-- the notices that were accepted, in order
abbrev pub accepted : Board → List Event → List Notice
accepted b [] = []
accepted b (e ∷ es) = accepts b e ++ accepted (after b e) es

-- what the block that a taking answered showed when it was taken
abbrev pub if_taken : Result ℕ Refusal → Board → List (List ℕ)
if_taken (Ok p) b = shows b.bytes p ∷ []
if_taken (Err f) b = []

abbrev pub gives : Board → Event → List (List ℕ)
gives b (arrives n) = []
gives b takes = if_taken (taking b) b
gives b switches = []

-- the blocks that were taken, as they showed then, in order
abbrev pub given : Board → List Event → List (List ℕ)
given b [] = []
given b (e ∷ es) = gives b e ++ given (after b e) es

-- the untaken blocks, oldest first
abbrev pub left : Board → List (List ℕ)
left b = map (shows b.bytes) (rings.order 64 b.ring)

-- the notice that a block shows
abbrev pub read : List ℕ → Notice
read block = record {
  source = slice_index block 2;
  key = cond (slice_index block 3 / 64 % 2 == 1) (Some (slice_index block 4 + 256 * slice_index block 5 + 65536 * slice_index block 6)) None;
  bytes = take (slice_index block 0) (drop 8 block);
}

-- From a new buffer on, whatever happens: the notices read from the blocks as they were taken, then from those left, are the accepted
-- ones, each once, in order; and each of these blocks is the whole block of its notice. The refusals of an arriving notice come with
-- the smallest number first.
pub record EachOnce : Type 0 where
  pub notices : (es : List Event) → accepted made_board es ≡ map read (given made_board es ++ left (finally made_board es))
  pub blocks : (es : List Event) → map block_of (accepted made_board es) ≡ given made_board es ++ left (finally made_board es)
  pub rises : (b : Board) (n : Notice) → Rises (rules b n)
