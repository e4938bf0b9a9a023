use Rattle.std.proofs.Common.{sym, subst}
use Rattle.std.specs.Prelude.{IfOk}
use Rattle.unit_read.specs.Subjects.{unit_of}
use Rattle.rule_words.specs.Asking.{Rule}
use Rattle.rule_words.specs.Scenes.{said}
use Rattle.elaborate.specs.Briefs.{ComesBriefly}
use Rattle.go_rules.specs.declared.role.Placing.{Placing}
use Rattle.go_rules.specs.declared.role.Placing.TheVariants as pl
use Rattle.go_rules.specs.Stages.{placed_as}
use Rattle.elaborate.proofs.BriefLemmas.{same_briefly}
use Rattle.go_rules.proofs.placed.placed_as.Goals as goal

pub returns-in-Embedded-clause-comes : goal.returns-in-Embedded-clause-comes
returns-in-Embedded-clause-comes c =
    let s = c.args.s.now in
    let rule : Placing → Rule = λ placing. placed_as placing (unit_of c.args.u.now) c.args.block c.args.at c.args.p c.args.around.now (said s c.args.j) in
    subst (λ (placing : Placing). IfOk c.placed_embedded.result (ComesBriefly c.args.u.now s (rule placing))) (sym c.in-Embedded.is)
    (same_briefly c.args.u.now s (rule pl.Embedded) c.placed_embedded.result c.requires.scene c.placed_embedded.ensures.is)
