use Rattle.tree_report.proofs.LineLemmas.{limit-text}
use Rattle.tree_report.proofs.laws.each_mark_has_its_text.Goals as goal

pub returns-clause-limit : goal.returns-clause-limit
returns-clause-limit c = limit-text
