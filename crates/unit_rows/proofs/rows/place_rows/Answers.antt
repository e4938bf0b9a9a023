use Rattle.std.proofs.Common.{length, refl, arith}
use Rattle.std.proofs.lemmas.Option.{slice_get_read}
use Rattle.unit_rows.proofs.rows.place_rows.Goals as goal

pub tree_places-requires : goal.tree_places-requires
tree_places-requires c =
    c.requires c.loop-file.file c.index-trees-file.result
    (slice_get_read c.args.trees.now (length c.args.trees.now) c.loop-file.file c.index-trees-file.result refl (omega (arith, c.loop-file-test.true)) c.index-trees-file.is)
