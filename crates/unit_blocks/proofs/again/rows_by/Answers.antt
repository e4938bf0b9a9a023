use Rattle.std.proofs.Common.{◌++◌, List, ap, ◌∙◌}
use Rattle.go_tree.specs.declared.tree.NodeRef.{NodeRef}
use Rattle.unit_read.specs.Subjects.{unit_of}
use Rattle.unit_blocks.specs.Blocks.{inner_again}
use Rattle.unit_rows.specs.Redeclared.{named_again}
use Rattle.unit_rows.specs.Tables.{is_listed}
use Rattle.unit_blocks.proofs.again.rows_by.Goals as goal

pub returns : goal.returns
returns c = λ at.
    c.in_ok-flags.ensures at
    ∙ ap (λ (list : List NodeRef). is_listed c.args.s.now.trees.now list at)
    (c.deref.ensures.value ∙ (c.in_ok-add_inner.ensures ∙ ap (λ (list : List NodeRef). list ++ inner_again (unit_of c.args.s.now) c.args.names.now) (c.in_ok-list.ensures ∙ ap (named_again (unit_of c.args.s.now)) c.requires.top)))
