-- What people read of a refusal: "refused", its number, the piece and entry where it names them, and its condition in words.
use Rattle.std.specs.Prelude.{ℕ, List, [], ◌++◌, codes, decimal}
use Rattle.refusal.specs.declared.reason.Refusal.{Refusal}
use Rattle.refusal.specs.declared.reason.Refusal.TheVariants.{WrongSize, NoSuchSet, WrongState, PipeUnavailable, EndpointNumbers, PieceCount, SlotsShort, BadPlace, PageTaken, NothingThere, BadPermit, Unreaped, BadSlot, BadNotice, NoticesOff, NoticesFull, ImageSize}
use Rattle.refusal.specs.declared.reason.Spot.{Spot}
use Rattle.refusal.specs.declared.reason.Spot.TheVariants.{Call, Piece, Entry}
use Rattle.refusal.specs.Numbers.{number}
use Rattle.refusal.specs.Spots.{spot}

-- the condition in words
abbrev pub words : Refusal → List ℕ
words WrongSize = codes "memory, page count or notice buffer of wrong size"
words NoSuchSet = codes "set above 31"
words WrongState = codes "wrong state"
words PipeUnavailable = codes "pipe absent or used by another set"
words EndpointNumbers = codes "endpoint numbers"
words PieceCount = codes "piece count"
words SlotsShort = codes "too few free slots"
words (BadPlace s) = codes "place or length outside the rules or the memory"
words (PageTaken s) = codes "page owned, or named twice"
words NothingThere = codes "nothing to reap or take"
words BadPermit = codes "permit of another engine, or its set not stopped"
words Unreaped = codes "unreaped pieces"
words BadSlot = codes "slot empty, above 7, or listed"
words BadNotice = codes "notice size or key"
words NoticesOff = codes "notices off"
words NoticesFull = codes "all 64 blocks untaken"
words ImageSize = codes "image not 24 bytes"

-- where it points, between the number and the words
abbrev pub pointed : Spot → List ℕ
pointed Call = []
pointed (Piece p) = codes ", piece " ++ decimal p
pointed (Entry p e) = codes ", piece " ++ (decimal p ++ (codes ", entry " ++ decimal e))

abbrev pub written : Refusal → List ℕ
written r = codes "refused " ++ (decimal (number r) ++ (pointed (spot r) ++ (codes ": " ++ words r)))
