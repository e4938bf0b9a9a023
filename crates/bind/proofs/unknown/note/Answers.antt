use Rattle.std.proofs.Common.{sym, ◌∙◌}
use Rattle.bind.specs.Undeclared.{counts}
use Rattle.bind.proofs.UndeclaredLemmas.{notes_counted, notes_uncounted}
use Rattle.bind.proofs.unknown.note.Goals as goal

pub returns-then-counts : goal.returns-then-counts
returns-then-counts c = notes_counted (counts c.args.file.now c.args.name.now) c.args.d c.args.ends.now.items c.note_end.new.ends.items (sym c.counts.ensures ∙ c.if-counts.true) c.note_end.ensures

pub returns-else-counts : goal.returns-else-counts
returns-else-counts c = notes_uncounted (counts c.args.file.now c.args.name.now) c.args.d c.args.ends.now.items (sym c.counts.ensures ∙ c.if-counts.false)
