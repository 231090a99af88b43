-- What each call of the notice buffer answers, and what it leaves.
use Rattle.std.specs.Prelude.{◌≡◌, ℕ, ◌+◌, ◌%◌, Bool, true, false, cond, not, List, [], ◌∷◌, length, replicate, Some, None, Ok, Err, Option, Result, ◌==◌, ◌≢◌, nat_le}
use Rattle.std.specs.Borrow.{GName}
use Rattle.refusal.specs.declared.reason.Refusal.{Refusal}
use Rattle.refusal.specs.declared.reason.Refusal.TheVariants.{WrongSize, NothingThere, BadNotice, NoticesOff, NoticesFull}
use Rattle.refusal.specs.Chains.{Rule, judged}
use Rattle.ring.specs.declared.Ring.{Ring}
use Rattle.ring.specs.Rings as rings
use Rattle.notices.specs.declared.board.Notices.{Notices}
use Rattle.notices.specs.Blocks.{Notice, block_of, fits, inside, shows, with_block, cleared}

-- what a notice buffer holds
pub record Board : Type 0 where
  pub bytes : List ℕ
  pub ring : Ring 64
  pub on : Bool
  pub overflow : Bool

abbrev pub board : Notices → Board
board n = record { bytes = n.buffer.now; ring = n.ring; on = n.on; overflow = n.overflow }

-- a new one over so many bytes: zeroed, off, from block 0
abbrev pub zeroed : ℕ → Board
zeroed n = record { bytes = replicate n 0; ring = rings.fresh 64; on = false; overflow = false }

abbrev pub made_board : Board
made_board = zeroed 4096

-- making one over a lent buffer, which has 4,096 bytes or is refused
abbrev pub Made : List ℕ → Result Notices Refusal → Type 0
Made lent (Ok n) = (length lent ≡ 4096) × (board n ≡ zeroed (length lent))
Made lent (Err f) = (length lent ≢ 4096) × (f ≡ WrongSize)

-- the buffer that is written is the one that was lent
abbrev pub LentTo : GName → Result Notices Refusal → Type 0
LentTo lender (Ok n) = n.buffer.ghost_name ≡ lender
LentTo lender (Err f) = Unit {0}

-- switching on clears the overflow mark and changes nothing else
abbrev pub switched : Board → Board
switched b = record { bytes = b.bytes; ring = b.ring; on = true; overflow = false }

-- all 64 blocks are untaken
abbrev pub full : Board → Bool
full b = nat_le 64 b.ring.used

-- the conditions on an arriving notice, each with its refusal
abbrev pub rules : Board → Notice → List Rule
rules b n =
    record { holds = not (fits n.key n.bytes); brings = BadNotice }
    ∷ record { holds = not b.on; brings = NoticesOff }
    ∷ record { holds = full b; brings = NoticesFull }
    ∷ []

-- the block that the next notice fills
abbrev pub next : Board → ℕ
next b = (b.ring.first + b.ring.used) % 64

-- after a refusal nothing is changed, but where all blocks are untaken notices go off and overflow is marked
abbrev pub refused : Board → Refusal → Board
refused b f = cond (Rattle.refusal.specs.Numbers.number f == 16) (record { bytes = b.bytes; ring = b.ring; on = false; overflow = true }) b

-- with the notice in the next block
abbrev pub filled : Board → Notice → Board
filled b n = record { bytes = with_block b.bytes (next b) (block_of n); ring = rings.taken 64 b.ring; on = b.on; overflow = b.overflow }

abbrev pub answer_by : Option Refusal → Board → Result ℕ Refusal
answer_by None b = Ok (next b)
answer_by (Some f) b = Err f

abbrev pub board_by : Option Refusal → Board → Notice → Board
board_by None b n = filled b n
board_by (Some f) b n = refused b f

-- an arriving notice: its block, or the first refusal whose condition holds
abbrev pub arriving : Board → Notice → Result ℕ Refusal
arriving b n = answer_by (judged (rules b n)) b

abbrev pub arrived : Board → Notice → Board
arrived b n = board_by (judged (rules b n)) b n

-- taking the oldest notice answers its block and clears its Valid bit
abbrev pub taking_of : Option ℕ → Result ℕ Refusal
taking_of None = Err NothingThere
taking_of (Some p) = Ok p

abbrev pub taken_of : Option ℕ → Board → Board
taken_of None b = b
taken_of (Some p) b = record { bytes = cleared b.bytes p; ring = rings.freed 64 b.ring; on = b.on; overflow = b.overflow }

abbrev pub oldest : Board → Option ℕ
oldest b = rings.oldest (rings.order 64 b.ring)

abbrev pub taking : Board → Result ℕ Refusal
taking b = taking_of (oldest b)

abbrev pub taken : Board → Board
taken b = taken_of (oldest b) b

-- a look at block p
abbrev pub seen : Board → ℕ → Option (List ℕ)
seen b p = cond (inside b.bytes p) (Some (shows b.bytes p)) None
