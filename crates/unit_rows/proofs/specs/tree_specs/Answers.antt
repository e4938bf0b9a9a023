use Rattle.std.proofs.Common.{List, Option, length, ap, ◌∙◌}
use Rattle.const_tree.specs.declared.constant.Spec.{Spec}
use Rattle.const_tree.specs.Constants.{specs_in}
use Rattle.unit_read.specs.Entries.{cell_in}
use Rattle.unit_rows.proofs.SpecLemmas.{short_row}
use Rattle.unit_rows.proofs.specs.tree_specs.Goals as goal

pub returns : goal.returns
returns c = λ n.
    c.in_ok-entries.ensures n
    ∙ (ap (λ (row : List (Option Spec)). cell_in row n) c.deref-3.ensures.value
    ∙ short_row c.args.tree.now c.in_ok-specs.specs.items c.in_ok-row.row.items (length c.front-first.result.now) c.end_of.result n
    (c.in_ok-specs.ensures ∙ ap specs_in c.as_slice-nodes.ensures) (rw c.deref.ensures.value at c.end_of.ensures)
    (rw c.as_slice-nodes.ensures at c.front-first.ensures.within) (rw c.as_slice-nodes.ensures at c.front-first.ensures.rest)
    c.in_ok-row.ensures.size (rw c.deref-2.ensures.value at c.in_ok-row.ensures.each))
