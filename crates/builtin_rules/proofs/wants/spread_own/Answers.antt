use Rattle.std.proofs.Common.{rules}
use Rattle.rule_words.proofs.BindLaws.{says_at, waits_at}
use Rattle.builtin_rules.proofs.wants.spread_own.Goals as goal

pub returns-in-Is-clause-is : goal.returns-in-Is-clause-is
returns-in-Is-clause-is c = search (rules, says_at, c.in-Is.ensures.is, c.spread_by.ensures.is)

pub returns-in-Wait-clause-is : goal.returns-in-Wait-clause-is
returns-in-Wait-clause-is c = search (rules, waits_at, c.in-Wait.ensures.is)
