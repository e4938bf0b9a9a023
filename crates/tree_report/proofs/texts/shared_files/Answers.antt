use Rattle.std.proofs.Common.{◌≡◌, ◌++◌, ◌∷◌, ◌∙◌, [], List, length, ap, arith}
use Rattle.gv_base.specs.Files.{Entry}
use Rattle.tree_report.proofs.HeardLemmas.{file-more, file-all}
use Rattle.tree_report.proofs.texts.shared_files.Goals as goal

pub loop-file-preserved : goal.loop-file-preserved
loop-file-preserved c =
    file-more c.args.files.now c.loop-file.file c.entry.result.now c.loop-file.list.items c.push.new.self.items c.entry.ensures c.loop-file.invariant
    (c.in_ok-push.ensures.items ∙ ap (λ (e : Entry). c.loop-file.list.items ++ e ∷ []) c.in_ok-more.ensures)

pub returns : goal.returns
returns c = file-all c.args.files.now c.loop-file.file c.loop-file.list.items (let test = c.loop-file-test.false in let count = c.count-file-end.ensures in omega (arith, test, count)) c.loop-file.invariant
