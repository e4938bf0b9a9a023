use Rattle.std.proofs.Common.{rules}
use Rattle.rule_words.proofs.BindLaws.{says_at}
use Rattle.literal_rules.proofs.braces.inner.Goals as goal

pub returns-in-Is-clause-is : goal.returns-in-Is-clause-is
returns-in-Is-clause-is c = search (rules, says_at, c.in-Is.ensures.is, c.inner_told.ensures.is)
