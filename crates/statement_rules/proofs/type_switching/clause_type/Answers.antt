use Rattle.typed_marks.specs.declared.item.Stage.TheVariants as st
use Rattle.unit_read.specs.Subjects.{unit_of}
use Rattle.rule_words.specs.Asking.{mark_ask}
use Rattle.rule_words.specs.Good.{known_of}
use Rattle.rule_words.specs.Scenes.{sight, said}
use Rattle.rule_words.specs.Steps.{step_in}
use Rattle.rule_words.proofs.BindLaws.{says_bind}
use Rattle.statement_rules.specs.TypeSwitching.{clause_told}
use Rattle.statement_rules.proofs.type_switching.clause_type.Goals as goal

pub returns-in-Is-clause-is : goal.returns-in-Is-clause-is
returns-in-Is-clause-is c =
    let s = c.args.s.now in
    says_bind (sight s) (mark_ask (unit_of c.args.u.now) st.Placed c.args.file c.args.t) (clause_told (known_of s c.args.x)) (said s c.in-Is.m) (step_in s c.clause_told.result)
    c.in-Is.ensures.is c.clause_told.ensures.is
