-- What a refusal points at: a piece or an entry at refusals 8 and 9 where they name one, else the call.
use Rattle.refusal.specs.declared.reason.Refusal.{Refusal}
use Rattle.refusal.specs.declared.reason.Refusal.TheVariants.{WrongSize, NoSuchSet, WrongState, PipeUnavailable, EndpointNumbers, PieceCount, SlotsShort, BadPlace, PageTaken, NothingThere, BadPermit, Unreaped, BadSlot, BadNotice, NoticesOff, NoticesFull, ImageSize}
use Rattle.refusal.specs.declared.reason.Spot.{Spot}
use Rattle.refusal.specs.declared.reason.Spot.TheVariants.{Call}

abbrev pub spot : Refusal → Spot
spot WrongSize = Call
spot NoSuchSet = Call
spot WrongState = Call
spot PipeUnavailable = Call
spot EndpointNumbers = Call
spot PieceCount = Call
spot SlotsShort = Call
spot (BadPlace s) = s
spot (PageTaken s) = s
spot NothingThere = Call
spot BadPermit = Call
spot Unreaped = Call
spot BadSlot = Call
spot BadNotice = Call
spot NoticesOff = Call
spot NoticesFull = Call
spot ImageSize = Call
