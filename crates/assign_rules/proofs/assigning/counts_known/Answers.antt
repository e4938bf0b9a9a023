use Rattle.std.proofs.Common.{option_map}
use Rattle.unit_read.specs.Subjects.{unit_of}
use Rattle.rule_words.specs.Asking.{under_ask}
use Rattle.rule_words.specs.Scenes.{sight, type_in}
use Rattle.rule_words.specs.Steps.{step_in}
use Rattle.assign_rules.specs.Assigning.{counts_told}
use Rattle.rule_words.proofs.BindLaws.{says_bind, waits_bind}
use Rattle.assign_rules.proofs.assigning.counts_known.Goals as goal

pub returns-in-Is-clause-is : goal.returns-in-Is-clause-is
returns-in-Is-clause-is c =
    let s = c.args.s.now in
    let u = unit_of c.args.u.now in
    says_bind (sight s) (under_ask u (type_in s c.args.x.of)) (counts_told c.args.bad) (option_map (type_in s) c.in-Is.under) (step_in s c.counts_told.result) c.in-Is.ensures.is c.counts_told.ensures.is

pub returns-in-Wait-clause-is : goal.returns-in-Wait-clause-is
returns-in-Wait-clause-is c =
    let s = c.args.s.now in
    let u = unit_of c.args.u.now in
    waits_bind (sight s) (under_ask u (type_in s c.args.x.of)) (counts_told c.args.bad) c.in-Wait.item c.in-Wait.ensures.is
