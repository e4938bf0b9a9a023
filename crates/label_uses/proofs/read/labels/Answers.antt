use Rattle.std.proofs.Common.{◌≡◌, ℕ, true, false, List, sym, subst}
use Rattle.go_tree.specs.declared.tree.Node.{Node}
use Rattle.label_uses.specs.Plain.{NamesAt}
use Rattle.go_tree.proofs.NodeLemmas.{differ}
use Rattle.label_uses.proofs.PlainLemmas.{unlabeled, unjumped}
use Rattle.label_uses.proofs.ReadLemmas.{none_read}
use Rattle.label_uses.proofs.read.labels.Goals as goal

pub returns-then-not-names_some : goal.returns-then-not-names_some
returns-then-not-names_some c =
    let tree = c.args.tree.now in
    let none = λ (p : ℕ) (at : NamesAt tree.nodes p). differ c.names_some.result c.if-not-names_some.true (c.names_some.ensures.1 (p, subst (λ (l : List Node). NamesAt l p) (sym c.as_slice.ensures) at)) in
    none_read c.args.bytes.now tree c.no_labels.result c.no_labels.ensures.labels c.no_labels.ensures.jumps (unlabeled tree.nodes none) (unjumped tree.nodes none)
