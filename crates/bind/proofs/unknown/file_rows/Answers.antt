use Rattle.std.proofs.Common.{length, refl, arith}
use Rattle.std.proofs.lemmas.Option.{slice_get_read}
use Rattle.bind.proofs.UndeclaredLemmas.{file_more, all_rows}
use Rattle.bind.proofs.unknown.file_rows.Goals as goal

pub loop-at-preserved : goal.loop-at-preserved
loop-at-preserved c =
    let files = c.args.files.now in
    let there = slice_get_read files (length files) c.loop-at.at c.index-files-at.result refl c.loop-at-test.true c.index-files-at.is in
    file_more files c.args.named.now c.args.top c.args.name.now c.loop-at.at c.narrow.result c.index-files-at.result c.loop-at.rows.items c.push.new.self.items c.in_ok-row.row there c.narrow.ensures c.loop-at.invariant c.in_ok-row.ensures c.in_ok-push.ensures.items

pub returns : goal.returns
returns c =
    all_rows c.args.files.now c.args.named.now c.args.top c.args.name.now c.loop-at.at (length c.args.files.now) c.loop-at.rows.items (omega (arith, c.loop-at-test.false, c.loop-at.auto.at-end)) c.loop-at.invariant
