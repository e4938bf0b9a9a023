use Rattle.std.proofs.Common.{◌≡◌, ◌++◌, take, flat_map}
use Rattle.analysis_core.specs.Replies.{changed_line}
use Rattle.report_text.proofs.lines.push_all_changed.Given as goal

abbrev pub invariant-loop-file : goal.invariant-loop-file
invariant-loop-file l = l.out.items ≡ l.fn.out.items ++ flat_map changed_line (take l.file-index l.changed)
