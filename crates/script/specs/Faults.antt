-- What people read of a line that cannot be read.
use Rattle.std.specs.Prelude.{ℕ, List, ◌++◌, codes, decimal}
use Rattle.script.specs.declared.fault.Fault.{Fault}
use Rattle.script.specs.declared.fault.Wrong.{Wrong}
use Rattle.script.specs.declared.fault.Wrong.TheVariants.{UnknownWord, MissingWord, ExtraWord, BadNumber, BadData, NoSuchBlock, FifthDevice, MisplacedOption, NotASink, NoMemory}

abbrev pub texted : Wrong → List ℕ
texted UnknownWord = codes "unknown word"
texted MissingWord = codes "a word is missing"
texted ExtraWord = codes "a word too many"
texted BadNumber = codes "number malformed or too large"
texted BadData = codes "bytes malformed or too many"
texted NoSuchBlock = codes "block above 63"
texted FifthDevice = codes "a fifth device"
texted MisplacedOption = codes "an option given twice, or before the last plain word"
texted NotASink = codes "no sink at that pipe"
texted NoMemory = codes "no memory to read it"

-- the line's number, and what is wrong
abbrev pub told : Fault → List ℕ
told f = decimal f.line ++ (codes ": " ++ texted f.wrong)
