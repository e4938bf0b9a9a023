use Rattle.std.proofs.Common.{List, sym, subst}
use Rattle.go_tree.specs.declared.tree.Node.{Node}
use Rattle.type_answers.specs.Coming.{ComesTo}
use Rattle.unit_read.specs.Subjects.{unit_of}
use Rattle.rule_words.specs.Scenes.{said}
use Rattle.assign_rules.specs.Ranging.{operand_rule}
use Rattle.statement_rules.specs.declared.placing.Placing.{Placing}
use Rattle.statement_rules.specs.Placing.{placed_by}
use Rattle.statement_rules.proofs.placing.judge_statement_placed.Goals as goal

pub returns-in_ok-step-in-Ranged-clause-comes : goal.returns-in_ok-step-in-Ranged-clause-comes
returns-in_ok-step-in-Ranged-clause-comes c =
    let s = c.args.s.now in
    let u = unit_of c.args.u.now in
    let around = c.args.around.now in
    let m = said s c.args.m in
    let step = c.in_ok-step-in-Ranged.step in
    subst (λ (p : Placing). ComesTo c.args.u.now s (placed_by u c.args.block c.args.file c.args.at around c.args.n m p) step) (sym c.in-Ranged.is)
    (subst (λ (nodes : List Node). ComesTo c.args.u.now s (operand_rule u c.args.block c.args.file nodes around m) step) c.nodes_at-nodes.ensures c.in_ok-step-in-Ranged.ensures.comes)
