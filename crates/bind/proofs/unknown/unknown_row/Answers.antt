use Rattle.std.proofs.Common.{List, ℕ, false, length, subst}
use Rattle.bind.specs.Undeclared.{end_of, is_free, AreFlagged}
use Rattle.bind.proofs.UndeclaredLemmas.{unknown_outside, unknown_inside}
use Rattle.bind.proofs.unknown.unknown_row.Goals as goal

pub returns-then-outside : goal.returns-then-outside
returns-then-outside c = unknown_outside c.args.file.now c.args.name.now c.args.outside c.in_ok-row.row.items c.if-outside.true
    (subst (λ (n : ℕ). AreFlagged (λ m. false) n c.in_ok-row.row.items) c.count_nodes.ensures c.in_ok-row.ensures)

pub returns : goal.returns
returns c =
    let ends = c.in_ok-ends.ends.items in
    unknown_inside c.args.file.now c.args.name.now c.args.outside ends c.in_ok-row-2.row.items c.if-outside.false c.in_ok-ends.ensures
    (subst (λ (l : List ℕ). AreFlagged (is_free (end_of l)) (length l) c.in_ok-row-2.row.items) c.deref.ensures.value c.in_ok-row-2.ensures)
