use Rattle.std.proofs.Common.{◌<◌, length, arith, sym, ◌∙◌}
use Rattle.tree_report.proofs.HeardLemmas.{file_same, told_place}
use Rattle.tree_report.proofs.heard.told_again.Goals as goal

pub returns : goal.returns
returns c =
    let heard = c.args.heard.now in
    let low : c.args.at < length heard.files.items = (let test = c.if-at-len.false in let size = c.len.ensures in let whole = heard.files.ok.0 in omega (arith, test, size, whole)) in
    told_place heard.files.items heard.heads.items heard.refusals.items c.requires c.args.at c.index.result.now (c.args.path.now, c.args.text.now) c.index-2.result.now c.index-3.result.now c.in_ok-head.head c.is_some.result
    low c.index.ensures (file_same c.index.result.now c.args.path.now c.args.text.now (sym c.is_file.ensures ∙ c.if-not-is_file.false)) c.index-2.ensures c.is_some.ensures c.if-is_some.false c.index-3.ensures c.in_ok-head.ensures
