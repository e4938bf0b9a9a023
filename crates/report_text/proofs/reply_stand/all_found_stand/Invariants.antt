use Rattle.std.proofs.Common.{All, take}
use Rattle.report_text.specs.ReplyStanding.{FoundStands}
use Rattle.report_text.proofs.reply_stand.all_found_stand.Given as goal

abbrev pub invariant-loop-line : goal.invariant-loop-line
invariant-loop-line l = All (FoundStands l.files) (take l.line-index l.found)
