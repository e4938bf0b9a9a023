use Rattle.type_texts.proofs.GrowLaws.{grown_itself}
use Rattle.export_text.proofs.interface_reading.read_object.Goals as goal

pub returns-in_err-name-clause-grown : goal.returns-in_err-name-clause-grown
returns-in_err-name-clause-grown c = grown_itself c.args.table.now c.requires.table
