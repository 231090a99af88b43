-- The number of each refusal. Contracts everywhere use this definition.
use Rattle.std.specs.Prelude.{ℕ}
use Rattle.refusal.specs.declared.reason.Refusal.{Refusal}
use Rattle.refusal.specs.declared.reason.Refusal.TheVariants.{WrongSize, NoSuchSet, WrongState, PipeUnavailable, EndpointNumbers, PieceCount, SlotsShort, BadPlace, PageTaken, NothingThere, BadPermit, Unreaped, BadSlot, BadNotice, NoticesOff, NoticesFull, ImageSize}

abbrev pub number : Refusal → ℕ
number WrongSize = 1
number NoSuchSet = 2
number WrongState = 3
number PipeUnavailable = 4
number EndpointNumbers = 5
number PieceCount = 6
number SlotsShort = 7
number (BadPlace s) = 8
number (PageTaken s) = 9
number NothingThere = 10
number BadPermit = 11
number Unreaped = 12
number BadSlot = 13
number BadNotice = 14
number NoticesOff = 15
number NoticesFull = 16
number ImageSize = 17
