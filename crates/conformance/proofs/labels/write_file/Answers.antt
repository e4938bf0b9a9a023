use Rattle.conformance.proofs.ReadyLemmas.{parsed_spelled}
use Rattle.conformance.proofs.labels.write_file.Goals as goal

pub write_tree-requires : goal.write_tree-requires
write_tree-requires c = parsed_spelled c.args.text.now c.in-Ok-Parsed.tree (rw c.in-Ok-Parsed.field-0-is at c.in-Ok-Parsed.ensures)
