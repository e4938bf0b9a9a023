use Rattle.flow_cases.proofs.CaseLemmas.{parsed_spelled}
use Rattle.flow_cases.proofs.cases.run_file.Goals as goal

pub run_tree-requires : goal.run_tree-requires
run_tree-requires g c = parsed_spelled c.args.text.now c.in-Ok-Parsed.tree (rw c.in-Ok-Parsed.field-0-is at c.in-Ok-Parsed.ensures)
