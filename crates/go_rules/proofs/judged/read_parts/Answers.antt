use Rattle.std.proofs.Common.{◌≡◌, List, ap, ◌∙◌, subst}
use Rattle.go_tree.specs.declared.tree.Node.{Node}
use Rattle.unit_read.specs.Units.{nodes_at}
use Rattle.unit_read.specs.Subjects.{unit_of}
use Rattle.rule_words.specs.declared.read.Read.{Read}
use Rattle.rule_words.specs.Asking.{parts_ask}
use Rattle.rule_words.specs.Scenes.{parts_in}
use Rattle.go_rules.specs.Families.{node_reads}
use Rattle.go_rules.specs.Slots.{ComeTo}
use Rattle.go_rules.proofs.judged.read_parts.Goals as goal

pub returns-clause-is : goal.returns-clause-is
returns-clause-is c =
    let s = c.args.s.now in
    let u = c.args.u.now in
    let node = c.args.node.now in
    let are : c.deref.result.now ≡ node_reads (nodes_at (unit_of u) c.args.at.file) node =
    c.deref.ensures.value ∙ (c.in_ok-add_reads.ensures ∙ ap (λ (nodes : List Node). node_reads nodes node) c.nodes_at.ensures) in
    subst (λ (reads : List Read). ComeTo u s (parts_ask (unit_of u) c.args.stage c.args.block reads) (parts_in s c.add_parts.new.out.items) c.in_ok-waits.waits) are c.in_ok-waits.ensures.is
