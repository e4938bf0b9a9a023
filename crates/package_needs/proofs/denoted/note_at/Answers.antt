use Rattle.std.proofs.Common.{refl}
use Rattle.package_needs.proofs.NotedLemmas.{notes_row}
use Rattle.package_needs.proofs.denoted.note_at.Goals as goal

pub returns : goal.returns
returns c = notes_row c.args.rows.now.items c.args.file c.args.node c.args.name c.index_mut.result.now c.note_in.new.row _ c.requires c.index_mut.ensures.value c.note_in.ensures refl
