use Rattle.std.proofs.Common.{arith, refl}
use Rattle.package_needs.proofs.NotedLemmas.{notes_nothing}
use Rattle.package_needs.proofs.denoted.note.Goals as goal

pub returns-else-file-end : goal.returns-else-file-end
returns-else-file-end c =
    notes_nothing c.args.rows.now.items _ c.args.at.file c.args.at.node c.args.name (let e = c.height-end.ensures in let t = c.if-file-end.false in omega arith) refl
