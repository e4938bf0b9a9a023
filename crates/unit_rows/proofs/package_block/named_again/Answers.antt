use Rattle.std.proofs.Common.{◌++◌, ℕ, List, ap, ◌∙◌}
use Rattle.go_tree.specs.declared.tree.NodeRef.{NodeRef}
use Rattle.unit_read.specs.Index.{texts_of}
use Rattle.unit_read.specs.Members.{all_again}
use Rattle.unit_rows.proofs.package_block.named_again.Goals as goal

pub returns : goal.returns
returns c =
    c.in_ok-add_again.ensures
    ∙ (ap (λ (xs : List NodeRef). xs ++ all_again (texts_of c.deref.result.now) c.args.nodes.now) c.new-list.ensures.items
    ∙ ap (λ (names : List (List ℕ)). all_again names c.args.nodes.now) (ap texts_of c.deref.ensures.value ∙ c.in_ok-texts.ensures))
