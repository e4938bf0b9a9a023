use Rattle.std.proofs.Common.{All, take}
use Rattle.report_text.specs.ReplyStanding.{Earlier}
use Rattle.report_text.proofs.reply_stand.are_earlier.Given as goal

abbrev pub invariant-loop-n : goal.invariant-loop-n
invariant-loop-n l = All (Earlier l.count) (take l.n l.choices)
