use Rattle.std.proofs.Common.{Bool, option_map}
use Rattle.type_questions.specs.declared.reached.Reached.{Reached}
use Rattle.unit_read.specs.Subjects.{unit_of}
use Rattle.rule_words.specs.Asking.{under_ask}
use Rattle.rule_words.specs.Scenes.{type_in}
use Rattle.call_rules.specs.Passing.{assigned_result, result_assigned}
use Rattle.type_answers.proofs.ComingLaws.{says_found}
use Rattle.call_rules.proofs.results.assigned_result.Goals as goal

pub returns-in_ok-found-in-Is : goal.returns-in_ok-found-in-Is
unfolding result_assigned
returns-in_ok-found-in-Is c =
    let s = c.args.s.now in
    says_found c.args.u.now s (λ (x : Reached Bool). x) (under_ask (unit_of c.args.u.now) (type_in s c.args.to)) (assigned_result (type_in s c.args.of) (type_in s c.args.to))
    (option_map (type_in s) c.in-Is.under) c.in_ok-found-in-Is.found c.requires.scene c.in-Is.ensures.is c.in_ok-found-in-Is.ensures
