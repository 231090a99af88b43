-- What the Sends since the last Collect or Restart came to.
use Rattle.devices.specs.declared.since.Since.{Since}
use Rattle.devices.specs.declared.since.Since.TheVariants.{Nothing, Lacking, Otherwise}

-- after one more Send that lacked space
abbrev pub lacked_one : Since → Since
lacked_one Nothing = Lacking
lacked_one Lacking = Lacking
lacked_one Otherwise = Otherwise
