-- What a command leaves of the notice buffer, by the definitions of the calls.
use Rattle.notices.specs.Boards.{Board, switched, arrived, taken}
use Rattle.lexer.specs.Bytes.{bytes_of}
use Rattle.script.specs.declared.command.Command.{Command}
use Rattle.script.specs.declared.command.Command.TheVariants.{Device, Taken, NoticesOn, Notice, Take, Block, Overflow}

abbrev pub carried : Board → Command → Board
carried b (Device p) = b
carried b (Taken p) = b
carried b NoticesOn = switched b
carried b (Notice source key bytes) = arrived b (record { source = source; key = key; bytes = bytes_of bytes })
carried b Take = taken b
carried b (Block n) = b
carried b Overflow = b
