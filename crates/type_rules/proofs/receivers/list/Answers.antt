use Rattle.std.proofs.Common.{List, Option, ap, ◌∙◌}
use Rattle.go_tree.specs.declared.tree.Node.{Node}
use Rattle.mark_walk.specs.Telling.{tell}
use Rattle.unit_read.specs.declared.place.Place.{Place}
use Rattle.unit_read.specs.Subjects.{unit_of}
use Rattle.unit_read.specs.Units.{nodes_at}
use Rattle.rule_words.specs.Scenes.{sight, parts_in}
use Rattle.type_rules.specs.Receivers.{list_of}
use Rattle.type_rules.proofs.receivers.list.Goals as goal

pub returns-clause-is : goal.returns-clause-is
returns-clause-is c =
    let s = c.args.s.now in
    let u = unit_of c.args.u.now in
    let ps = parts_in s c.args.parts.now in
    c.in_ok-step.ensures.is
    ∙ (ap (λ (l : List Node). tell (sight s) (list_of u l c.args.node.now ps c.place_at-place.result)) c.nodes_at-nodes.ensures
    ∙ ap (λ (o : Option Place). tell (sight s) (list_of u (nodes_at u c.args.at.file) c.args.node.now ps o)) c.place_at-place.ensures)
