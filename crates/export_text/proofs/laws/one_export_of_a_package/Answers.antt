use Rattle.export_text.proofs.ExportLaws.{one_export, one_export_text}
use Rattle.export_text.proofs.laws.one_export_of_a_package.Goals as goal

pub returns-clause-one : goal.returns-clause-one
returns-clause-one c = one_export

pub returns-clause-text : goal.returns-clause-text
returns-clause-text c = one_export_text
