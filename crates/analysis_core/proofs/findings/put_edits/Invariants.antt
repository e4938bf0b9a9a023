use Rattle.std.proofs.Common.{◌≡◌, ◌++◌, length, take}
use Rattle.std.specs.List.{flat_map, AllByRecursion}
use Rattle.gv_bytes.specs.Spelling.{natural}
use Rattle.analysis_core.specs.Findings.{edit_text, IsEdit}
use Rattle.analysis_core.proofs.findings.put_edits.Given as goal

abbrev pub invariant-loop-edit : goal.invariant-loop-edit
invariant-loop-edit l =
    record { written : l.out.items ≡ l.fn.out.items ++ natural (length l.edits) ++ flat_map edit_text (take l.edit-index l.edits); size : AllByRecursion IsEdit (take l.edit-index l.edits) }
