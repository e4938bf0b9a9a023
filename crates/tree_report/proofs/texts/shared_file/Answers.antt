use Rattle.std.proofs.Common.{[], ◌∙◌, sym}
use Rattle.std.proofs.lemmas.Option.{get_or_from_slice_get}
use Rattle.tree_report.proofs.texts.shared_file.Goals as goal

pub returns-then-file-count : goal.returns-then-file-count
returns-then-file-count c = c.in_ok-more.ensures ∙ sym (get_or_from_slice_get c.args.files.now c.args.file c.entry.result.now ([], []) c.entry.ensures)
