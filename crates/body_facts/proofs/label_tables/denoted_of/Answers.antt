use Rattle.std.proofs.Common.{ℕ, List, length, sym, subst}
use Rattle.label_uses.specs.declared.answer.Jump.{Jump}
use Rattle.body_facts.specs.LabelTables.{AreTold, AreRising}
use Rattle.body_facts.proofs.LabelLemmas.{rising_rows, denoted_is}
use Rattle.body_facts.proofs.label_tables.denoted_of.Goals as goal

pub told_of-requires : goal.told_of-requires
told_of-requires c = subst (λ (l : List Jump). AreRising l) (sym c.deref.ensures.value) (rising_rows c.args.bytes.now c.args.tree.now c.args.labels.now c.requires)

pub returns : goal.returns
returns c =
    denoted_is c.args.bytes.now c.args.tree.now c.args.labels.now c.in_ok-found.found.items c.one_label.ensures c.requires
    (subst (λ (n : ℕ). AreTold c.args.labels.now.jumps.items (length c.args.labels.now.jumps.items) n c.in_ok-found.found.items) c.count_nodes.ensures
    (subst (λ (l : List Jump). AreTold l (length l) c.count_nodes.result c.in_ok-found.found.items) c.deref.ensures.value c.in_ok-found.ensures))
