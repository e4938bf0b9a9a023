use Rattle.std.proofs.Common.{List, ap, ◌∙◌}
use Rattle.go_tree.specs.declared.tree.Node.{Node}
use Rattle.mark_walk.specs.Telling.{tell}
use Rattle.unit_read.specs.Subjects.{unit_of}
use Rattle.rule_words.specs.declared.read.Read.{Read}
use Rattle.rule_words.specs.Scenes.{sight, said}
use Rattle.type_rules.specs.Joining.{others, elem_by}
use Rattle.type_rules.proofs.joining.judge_element.Goals as goal

pub returns-clause-is : goal.returns-clause-is
returns-clause-is c =
    let s = c.args.s.now in
    c.in_ok-step.ensures.is
    ∙ ap (λ (l : List Read). tell (sight s) (elem_by (unit_of c.args.u.now) c.args.block c.args.file l (said s c.args.m)))
    (c.deref.ensures.value ∙ (c.in_ok-reads.ensures ∙ ap (λ (nodes : List Node). others nodes c.args.around.now c.args.i) c.nodes_at.ensures))
