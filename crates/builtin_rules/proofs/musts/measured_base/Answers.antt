use Rattle.std.proofs.Common.{rules}
use Rattle.rule_words.proofs.BindLaws.{waits_at}
use Rattle.builtin_rules.proofs.musts.measured_base.Goals as goal

pub returns-in-Wait-clause-is : goal.returns-in-Wait-clause-is
returns-in-Wait-clause-is c = search (rules, waits_at, c.in-Wait.ensures.is)
