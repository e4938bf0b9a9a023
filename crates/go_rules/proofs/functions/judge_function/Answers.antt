use Rattle.std.proofs.Common.{sym, ap, ◌∙◌}
use Rattle.rule_words.specs.Scenes.{sight}
use Rattle.mark_walk.specs.Telling.{Says, Waits}
use Rattle.mark_walk.proofs.TellLaws.{told_bind}
use Rattle.unit_read.specs.Subjects.{unit_of}
use Rattle.unit_read.specs.Units.{nodes_at}
use Rattle.rule_words.specs.Answers.{answer_in}
use Rattle.rule_words.specs.Steps.{step_in, question_in, rest_in}
use Rattle.type_rules.specs.Signatures.{signature_rule}
use Rattle.go_rules.specs.Functions.{valued_rule}
use Rattle.go_rules.proofs.FunctionLemmas.{signature_puts_nothing}
use Rattle.go_rules.proofs.functions.judge_function.Goals as goal

pub unreachable-requires : goal.unreachable-requires
unreachable-requires c =
    let s = c.args.s.now in
    let u = unit_of c.args.u.now in
    signature_puts_nothing u c.args.block (nodes_at u c.args.at.file) c.args.node.now 0 (sight s) (question_in s c.in-Puts.field-0) (rest_in s c.in-Puts.field-1)
    (sym c.in_ok-step.ensures.is ∙ ap (step_in s) c.in-Puts.is)

pub returns-in-Says-clause-is : goal.returns-in-Says-clause-is
returns-in-Says-clause-is c =
    let s = c.args.s.now in
    let u = unit_of c.args.u.now in
    ap Says c.valued.ensures.is
    ∙ sym (told_bind (sight s) (signature_rule u c.args.block (nodes_at u c.args.at.file) c.args.node.now 0) valued_rule (Says (answer_in s c.in-Says.answer))
    (sym c.in_ok-step.ensures.is ∙ ap (step_in s) c.in-Says.is))

pub returns-in-Waits-clause-is : goal.returns-in-Waits-clause-is
returns-in-Waits-clause-is c =
    let s = c.args.s.now in
    let u = unit_of c.args.u.now in
    sym (told_bind (sight s) (signature_rule u c.args.block (nodes_at u c.args.at.file) c.args.node.now 0) valued_rule (Waits c.in-Waits.item)
    (sym c.in_ok-step.ensures.is ∙ ap (step_in s) c.in-Waits.is))
