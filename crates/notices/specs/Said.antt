-- What a notice that is handed over says.
use Rattle.notices.specs.declared.notice.Notice.{Notice as Handed}
use Rattle.notices.specs.Blocks.{Notice}

abbrev pub said : Handed → Notice
said n = record { source = n.source; key = n.key; bytes = n.bytes.now }
