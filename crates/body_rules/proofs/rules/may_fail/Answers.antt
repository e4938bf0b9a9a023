use Rattle.std.proofs.Common.{sym, ◌∙◌}
use Rattle.body_rules.specs.Given.{given}
use Rattle.body_rules.proofs.AskedLemmas.{unasked}
use Rattle.body_rules.proofs.rules.may_fail.Goals as goal

pub returns-clause-none : goal.returns-clause-none
returns-clause-none c = λ e rule place is. unasked (given c.args.v.now.file.now) c.args.n (sym c.is_asked.ensures ∙ e) rule place is
