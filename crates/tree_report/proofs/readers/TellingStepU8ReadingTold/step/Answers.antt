use Rattle.std.proofs.Common.{rules, arith}
use Rattle.tree_report.proofs.readers.TellingStepU8ReadingTold.step.Goals as goal

pub returns-in_err-told-clause-took : goal.returns-in_err-told-clause-took
returns-in_err-told-clause-took c = (λ _. 0, tt, λ i. omega arith, search rules)

pub returns-clause-took : goal.returns-clause-took
returns-clause-took c = (λ _. 0, tt, λ i. omega arith, c.in_ok-told.ensures)
