-- A lamp of the program, seen as the pipe that it is.
use Rattle.link.specs.Meaning.{Out}
use Rattle.link.specs.Numbered.{numbers_of}
use Rattle.example_link.specs.Lamp.{lamp}
use Rattle.example_link.specs.declared.Lamp.{Lamp}

abbrev pub lamp_of : Lamp → Out
lamp_of l = lamp (numbers_of l.window) l.shows
