use Rattle.std.proofs.Common.{sym, ◌∙◌}
use Rattle.go_rules.proofs.UseLemmas.{use_comes}
use Rattle.go_rules.proofs.judged.with_use.Goals as goal

pub returns-in-Some-clause-comes : goal.returns-in-Some-clause-comes
returns-in-Some-clause-comes c =
    use_comes c.args.u.now c.args.s.now c.args.stage c.args.block c.args.at c.args.node.now c.args.w c.in-Some.name _ c.requires.scene
    (sym c.free_use.ensures ∙ c.in-Some.is) c.judge_use.ensures.is
