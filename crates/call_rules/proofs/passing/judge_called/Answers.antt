use Rattle.std.proofs.Common.{option_map}
use Rattle.unit_read.specs.Subjects.{unit_of}
use Rattle.rule_words.specs.Asking.{mark_under}
use Rattle.rule_words.specs.Scenes.{said, type_in}
use Rattle.rule_words.specs.Good.{known_of}
use Rattle.call_rules.specs.Passing.{under_passed}
use Rattle.type_answers.proofs.ComingLaws.{says_comes}
use Rattle.call_rules.proofs.passing.judge_called.Goals as goal

pub returns-in_ok-step-in-Is-clause-comes : goal.returns-in_ok-step-in-Is-clause-comes
returns-in_ok-step-in-Is-clause-comes c =
    let s = c.args.s.now in
    let u = unit_of c.args.u.now in
    says_comes c.args.u.now s (mark_under u (said s c.args.f)) (under_passed u (known_of s c.args.x)) (option_map (type_in s) c.in-Is.under) c.in_ok-step-in-Is.step c.requires.scene
    c.in-Is.ensures.is c.in_ok-step-in-Is.ensures.comes
