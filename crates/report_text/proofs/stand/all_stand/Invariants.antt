use Rattle.std.proofs.Common.{All, take}
use Rattle.report_text.specs.Standing.{StandsIn}
use Rattle.report_text.proofs.stand.all_stand.Given as goal

abbrev pub invariant-loop-error : goal.invariant-loop-error
invariant-loop-error l = All (StandsIn l.files) (take l.error-index l.errors)
