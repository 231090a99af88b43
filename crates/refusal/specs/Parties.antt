-- Who brings a refusal about: the caller's set-up 1 and 2, the driver 3 to 13, the device 14 to 16, an image's sender 17.
use Rattle.std.specs.Prelude.{ℕ, cond, nat_le}
use Rattle.refusal.specs.declared.reason.Refusal.{Refusal}
use Rattle.refusal.specs.declared.reason.Party.{Party}
use Rattle.refusal.specs.declared.reason.Party.TheVariants.{SetUp, Driver, Device, ImageSender}
use Rattle.refusal.specs.Numbers.{number}

abbrev pub party_number : Party → ℕ
party_number SetUp = 1
party_number Driver = 2
party_number Device = 3
party_number ImageSender = 4

-- the party by the refusal's number
abbrev pub party_of : ℕ → Party
party_of n = cond (nat_le n 2) SetUp (cond (nat_le n 13) Driver (cond (nat_le n 16) Device ImageSender))

abbrev pub party : Refusal → Party
party r = party_of (number r)
