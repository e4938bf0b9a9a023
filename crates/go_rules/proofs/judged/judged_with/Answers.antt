use Rattle.std.proofs.Common.{subst}
use Rattle.std.specs.Prelude.{IfOk}
use Rattle.elaborate.specs.Briefs.{ComesBriefly}
use Rattle.unit_read.specs.Subjects.{unit_of}
use Rattle.rule_words.specs.Words.{Wanted}
use Rattle.go_rules.specs.Stages.{judged_wanting}
use Rattle.go_rules.proofs.judged.judged_with.Goals as goal

pub returns-clause-comes : goal.returns-clause-comes
returns-clause-comes c =
    let u = unit_of c.args.u.now in
    subst (λ (w : Wanted). IfOk c.judged_wanting.result (ComesBriefly c.args.u.now c.args.s.now (judged_wanting u c.args.block c.args.at c.args.node.now w)))
    c.wanted_by-w.ensures.is c.judged_wanting.ensures.comes
