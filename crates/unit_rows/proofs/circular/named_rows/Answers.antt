use Rattle.std.proofs.Common.{arith}
use Rattle.std.proofs.lemmas.Option.{slice_get-get_or}
use Rattle.unit_rows.proofs.circular.named_rows.Goals as goal

pub tree_row-requires-clause-small : goal.tree_row-requires-clause-small
tree_row-requires-clause-small c =
    c.requires.small c.loop-file.file _ (slice_get-get_or c.args.s.now.trees.now c.loop-file.file c.index-s-file.result (omega (arith, c.loop-file-test.true)))
