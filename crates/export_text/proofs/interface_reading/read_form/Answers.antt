use Rattle.type_texts.proofs.GrowLaws.{grown_itself}
use Rattle.export_text.proofs.interface_reading.read_form.Goals as goal

pub returns-in_default-clause-grown : goal.returns-in_default-clause-grown
returns-in_default-clause-grown c = grown_itself c.args.table.now c.requires.table
