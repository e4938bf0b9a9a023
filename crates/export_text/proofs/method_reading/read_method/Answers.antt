use Rattle.type_texts.proofs.GrowLaws.{grown_itself}
use Rattle.export_text.proofs.method_reading.read_method.Goals as goal

pub returns-in_err-name-clause-grown : goal.returns-in_err-name-clause-grown
returns-in_err-name-clause-grown c = grown_itself c.args.table.now c.requires.table

pub returns-in_err-package-clause-grown : goal.returns-in_err-package-clause-grown
returns-in_err-package-clause-grown c = grown_itself c.args.table.now c.requires.table

pub returns-in_err-pointer-clause-grown : goal.returns-in_err-pointer-clause-grown
returns-in_err-pointer-clause-grown c = grown_itself c.args.table.now c.requires.table
