use Rattle.std.proofs.Common.{ℕ, List, length, subst}
use Rattle.label_uses.specs.declared.answer.Label.{Label}
use Rattle.node_values.specs.Flagged.{AreFlagged}
use Rattle.body_facts.specs.LabelTables.{TellsIdle}
use Rattle.body_facts.proofs.LabelLemmas.{idle_is}
use Rattle.body_facts.proofs.label_tables.idle_of.Goals as goal

pub returns : goal.returns
returns c =
    idle_is c.args.bytes.now c.args.tree.now c.args.labels.now c.in_ok-flags.flags.items c.requires
    (subst (λ (n : ℕ). AreFlagged (TellsIdle c.args.labels.now.labels.items) (length c.args.labels.now.labels.items) n c.in_ok-flags.flags.items) c.count_nodes.ensures
    (subst (λ (l : List Label). AreFlagged (TellsIdle l) (length l) c.count_nodes.result c.in_ok-flags.flags.items) c.deref.ensures.value c.in_ok-flags.ensures))
