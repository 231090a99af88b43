-- The law is a lemma.
use Rattle.notices.proofs.Orders.{each_once}
use Rattle.notices.proofs.law.each_once.Goals as goal

pub returns : goal.returns
returns c = each_once
