use Rattle.std.proofs.Common.{ap, ◌∙◌}
use Rattle.mark_walk.specs.Telling.{tell}
use Rattle.rule_words.specs.Parts.{Part, part_at}
use Rattle.rule_words.specs.Scenes.{sight, part_in, parts_in}
use Rattle.decl_rules.specs.Rules.{simple_rule}
use Rattle.decl_rules.proofs.judges.of_simple.Goals as goal

pub returns-clause-is : goal.returns-clause-is
returns-clause-is c =
    let s = c.args.s.now in
    c.judge_simple.ensures.is
    ∙ (ap (λ (p : Part). tell (sight s) (simple_rule c.args.form p (part_in s c.part_at-second.result))) c.part_at-first.ensures.is
    ∙ ap (λ (p : Part). tell (sight s) (simple_rule c.args.form (part_at (parts_in s c.args.parts.now) 0) p)) c.part_at-second.ensures.is)
