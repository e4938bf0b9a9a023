use Rattle.handed_facts.proofs.HandedLemmas.{told_read, told_unread}
use Rattle.handed_facts.proofs.reading.told.Goals as goal

pub returns-in-Some : goal.returns-in-Some
returns-in-Some g c = told_read g.F.FactKind.spelling c.args.text.now c.in_ok-read.read c.in-Some.table c.in-Some.is c.in_ok-read.ensures.found

pub returns-in-None : goal.returns-in-None
returns-in-None g c = told_unread g.F.FactKind.spelling c.args.text.now c.in_ok-read.read c.new.result c.in-None.is c.in_ok-read.ensures.only c.new.ensures
