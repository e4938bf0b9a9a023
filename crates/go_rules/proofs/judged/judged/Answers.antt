use Rattle.std.proofs.Common.{sym, subst}
use Rattle.std.specs.Prelude.{IfOk}
use Rattle.mark_walk.specs.Asks.{done}
use Rattle.unit_read.specs.Subjects.{unit_of}
use Rattle.rule_words.specs.Words.{nothing}
use Rattle.type_answers.proofs.ComingLaws.{same_comes}
use Rattle.decl_rules.specs.Specifications.{declared_name_rule}
use Rattle.elaborate.specs.Briefs.{ComesBriefly}
use Rattle.go_rules.specs.declared.role.Role.{Role}
use Rattle.go_rules.specs.Stages.{judged_as}
use Rattle.go_rules.proofs.judged.judged.Goals as goal

pub returns-in-Declared-clause-comes : goal.returns-in-Declared-clause-comes
returns-in-Declared-clause-comes c =
    let s = c.args.s.now in
    let u = c.args.u.now in
    let rule = declared_name_rule (unit_of u) c.args.at in
    subst (λ (role : Role). IfOk c.in_brief.result (ComesBriefly u s (judged_as role (unit_of u) c.args.block c.args.at c.args.node.now))) (sym c.in-Declared.is)
    (c.in_brief.ensures.comes u s rule (same_comes u s rule c.declared_name.result c.requires c.declared_name.ensures.is))

pub returns-in-Declared-clause-over : goal.returns-in-Declared-clause-over
returns-in-Declared-clause-over c = c.in_brief.ensures.over c.args.s.now c.declared_name.ensures.over

pub returns-in-Blank-clause-comes : goal.returns-in-Blank-clause-comes
returns-in-Blank-clause-comes c =
    let s = c.args.s.now in
    let u = c.args.u.now in
    subst (λ (role : Role). IfOk c.in_brief-in-Blank.result (ComesBriefly u s (judged_as role (unit_of u) c.args.block c.args.at c.args.node.now))) (sym c.in-Blank.is)
    (c.in_brief-in-Blank.ensures.comes u s (done nothing) (same_comes u s (done nothing) c.nothing.result c.requires c.nothing.ensures.is))

pub returns-in-Blank-clause-over : goal.returns-in-Blank-clause-over
returns-in-Blank-clause-over c = c.in_brief-in-Blank.ensures.over c.args.s.now c.nothing.ensures.over
