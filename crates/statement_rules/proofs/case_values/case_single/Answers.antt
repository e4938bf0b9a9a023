use Rattle.std.proofs.Common.{option_map}
use Rattle.unit_read.specs.Subjects.{unit_of}
use Rattle.rule_words.specs.Good.{known_of}
use Rattle.rule_words.specs.Scenes.{type_in}
use Rattle.type_answers.proofs.ComingLaws.{says_comes}
use Rattle.statement_rules.specs.Switching.{tag_ask, case_by}
use Rattle.statement_rules.proofs.case_values.case_single.Goals as goal

pub returns-in_ok-step-in-Is-clause-comes : goal.returns-in_ok-step-in-Is-clause-comes
returns-in_ok-step-in-Is-clause-comes c =
    let s = c.args.s.now in
    let u = unit_of c.args.u.now in
    says_comes c.args.u.now s (tag_ask u c.args.block c.args.file c.args.clause) (case_by u (known_of s c.args.x)) (option_map (type_in s) c.in-Is.o) c.in_ok-step-in-Is.step c.requires.scene
    c.in-Is.ensures.is c.in_ok-step-in-Is.ensures.comes
