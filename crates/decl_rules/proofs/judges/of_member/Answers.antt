use Rattle.std.proofs.Common.{ap, ◌∙◌}
use Rattle.rule_words.specs.Scenes.{sight}
use Rattle.mark_walk.specs.Telling.{tell}
use Rattle.unit_read.specs.Subjects.{unit_of}
use Rattle.rule_words.specs.Parts.{Part}
use Rattle.decl_rules.specs.Rules.{member_of}
use Rattle.decl_rules.proofs.judges.of_member.Goals as goal

pub returns-clause-is : goal.returns-clause-is
returns-clause-is c =
    c.judge_member.ensures.is ∙ ap (λ (p : Part). tell (sight c.args.s.now) (member_of (unit_of c.args.u.now) c.args.at c.args.node.now p c.args.form)) c.part_at-first.ensures.is
