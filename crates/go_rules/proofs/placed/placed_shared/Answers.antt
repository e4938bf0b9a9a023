use Rattle.std.proofs.Common.{Bool, List, sym, ◌∙◌, subst}
use Rattle.std.specs.Prelude.{IfOk, if◌then◌else◌}
use Rattle.go_tree.specs.declared.tree.Node.{Node}
use Rattle.unit_read.specs.Subjects.{unit_of}
use Rattle.unit_read.specs.Units.{nodes_at}
use Rattle.rule_words.specs.Asking.{Rule}
use Rattle.rule_words.specs.Scenes.{said}
use Rattle.type_answers.specs.Coming.{ComesTo}
use Rattle.variable_rules.specs.Sharing.{shared_placed}
use Rattle.elaborate.specs.Briefs.{ComesBriefly}
use Rattle.go_rules.specs.Stages.{placed_plain}
use Rattle.go_rules.proofs.placed.placed_shared.Goals as goal

pub returns-then-is_shared-clause-comes : goal.returns-then-is_shared-clause-comes
returns-then-is_shared-clause-comes c =
    let s = c.args.s.now in
    let u = unit_of c.args.u.now in
    let j = said s c.args.j in
    let shared : List Node → Rule = λ nodes. shared_placed u c.args.block nodes c.args.around.now j in
    let rule : Bool → Rule = λ b. if b then shared (nodes_at u c.args.at.file) else placed_plain u c.args.block c.args.at j in
    subst (λ (b : Bool). IfOk c.in_brief.result (ComesBriefly c.args.u.now s (rule b))) (sym c.if-is_shared.true ∙ c.is_shared.ensures)
    (c.in_brief.ensures.comes c.args.u.now s (shared (nodes_at u c.args.at.file))
    (subst (λ (nodes : List Node). ComesTo c.args.u.now s (shared nodes) c.in_ok-step.step) c.nodes_at.ensures c.in_ok-step.ensures.comes))

pub returns-then-is_shared-clause-over : goal.returns-then-is_shared-clause-over
returns-then-is_shared-clause-over c = c.in_brief.ensures.over c.args.s.now c.in_ok-step.ensures.over
