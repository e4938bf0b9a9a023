use Rattle.std.proofs.Common.{length, refl, arith}
use Rattle.std.proofs.lemmas.Option.{slice_get_read}
use Rattle.never_returns.proofs.ReaderLemmas.{mentioned_there}
use Rattle.never_returns.proofs.readers.mentioned_in.Goals as goal

pub returns : goal.returns
returns c =
    let low = c.if-block-files.false in
    let there = slice_get_read c.args.files.now (length c.args.files.now) c.args.block.file c.index-files-block.result refl (omega arith) c.index-files-block.is in
    mentioned_there c.args.files.now c.args.block c.index-files-block.result c.in_ok-found.found.items there (λ j. c.in_ok-found.ensures.rows j)
