use Rattle.std.proofs.Common.{List, map, sym, ap, ◌∙◌}
use Rattle.go_tree.specs.declared.tree.Node.{Node}
use Rattle.unit_read.specs.Subjects.{unit_of}
use Rattle.unit_read.specs.Units.{nodes_at}
use Rattle.rule_words.specs.Scenes.{sight, said}
use Rattle.type_rules.specs.Elements.{method_in}
use Rattle.decl_rules.specs.Methods.{receiver_entry, entry_ask}
use Rattle.decl_rules.proofs.GiveLemmas.{gives_absent}
use Rattle.decl_rules.proofs.methods.receiver.Goals as goal

pub returns-in-None-clause-gives : goal.returns-in-None-clause-gives
returns-in-None-clause-gives c =
    let s = c.args.s.now in
    let u = unit_of c.args.u.now in
    gives_absent (sight s) (entry_ask u c.args.at c.args.name.now (said s c.args.m)) (receiver_entry (nodes_at u c.args.at.file) c.args.node.now) (map (method_in s) c.args.out.now.items)
    (ap (λ (nodes : List Node). receiver_entry nodes c.args.node.now) (sym c.nodes_at.ensures) ∙ (sym c.receiver_entry.ensures ∙ c.in-None.is))
