use Rattle.std.proofs.Common.{sym, ◌∙◌}
use Rattle.unit_read.specs.Subjects.{unit_of}
use Rattle.go_rules.proofs.QuietLemmas.{quiet_rule}
use Rattle.go_rules.proofs.quiet.is_quiet_item.Goals as goal

pub returns-clause-none : goal.returns-clause-none
returns-clause-none c = λ is. quiet_rule (unit_of c.args.u.now) c.args.item (sym c.is_quiet.ensures ∙ is)
