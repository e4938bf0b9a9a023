use Rattle.std.proofs.Common.{length, refl, arith}
use Rattle.std.proofs.lemmas.Option.{slice_get_read}
use Rattle.least.specs.Work.{set_of}
use Rattle.never_returns.proofs.ReaderLemmas.{block_decided}
use Rattle.never_returns.proofs.functions.block_never.Goals as goal

pub returns : goal.returns
returns c =
    let low = c.if-block-files.false in
    let there = slice_get_read c.args.files.now (length c.args.files.now) c.args.block.file c.index-files-block.result refl (omega arith) c.index-files-block.is in
    block_decided c.args.files.now (set_of c.args.members.now) c.args.block c.index-files-block.result c.in_ok-never.never there c.in_ok-never.ensures.rows
