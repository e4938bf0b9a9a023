use Rattle.std.proofs.Common.{ℕ, ap, ◌∙◌}
use Rattle.rule_words.specs.Scenes.{sight}
use Rattle.mark_walk.specs.Telling.{tell}
use Rattle.unit_read.specs.Subjects.{unit_of}
use Rattle.statement_rules.specs.Returning.{counted_rule}
use Rattle.statement_rules.proofs.returning.function_known.Goals as goal

pub returns-clause-is : goal.returns-clause-is
returns-clause-is c =
    c.counted.ensures.is
    ∙ ap (λ (many : ℕ). tell (sight c.args.s.now) (counted_rule (unit_of c.args.u.now) c.args.block c.args.nodes.now c.args.node.now c.args.f many)) c.many_results.ensures
