use Rattle.std.proofs.Common.{sym, subst}
use Rattle.std.specs.Prelude.{IfOk}
use Rattle.mark_walk.specs.Asks.{done}
use Rattle.unit_read.specs.Subjects.{unit_of}
use Rattle.literal_rules.specs.declared.keys.KeyRole.{KeyRole}
use Rattle.rule_words.specs.Words.{nothing}
use Rattle.type_answers.proofs.ComingLaws.{same_comes}
use Rattle.elaborate.specs.Briefs.{ComesBriefly}
use Rattle.go_rules.specs.Stages.{judged_key}
use Rattle.go_rules.proofs.judged.judged_key.Goals as goal

pub returns-in-Field-clause-comes : goal.returns-in-Field-clause-comes
returns-in-Field-clause-comes c =
    let s = c.args.s.now in
    let u = c.args.u.now in
    subst (λ (key : KeyRole). IfOk c.in_brief.result (ComesBriefly u s (judged_key (unit_of u) c.args.block c.args.at c.args.node.now key))) (sym c.in-Field.is)
    (c.in_brief.ensures.comes u s (done nothing) (same_comes u s (done nothing) c.nothing.result c.requires c.nothing.ensures.is))

pub returns-in-Field-clause-over : goal.returns-in-Field-clause-over
returns-in-Field-clause-over c = c.in_brief.ensures.over c.args.s.now c.nothing.ensures.over
