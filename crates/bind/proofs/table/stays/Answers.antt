use Rattle.bind.specs.Tables.{path_of}
use Rattle.bind.proofs.TableLemmas.{stays_some, stays_none}
use Rattle.bind.proofs.table.stays.Goals as goal

pub returns-in-Some : goal.returns-in-Some
returns-in-Some c = stays_some (path_of c.args.files.now) c.args.kept c.in-Some.kept c.args.at c.is_earlier.result c.in-Some.is c.is_earlier.ensures

pub returns-in-None : goal.returns-in-None
returns-in-None c = stays_none (path_of c.args.files.now) c.args.kept c.args.at c.in-None.is
