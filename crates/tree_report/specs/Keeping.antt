-- What was read of the files of a report and is kept for the next.
use Rattle.std.specs.Prelude.{length}
use Rattle.tree_report.specs.Telling.{AreTold}
use Rattle.tree_report.specs.declared.heard.Heard.{Heard}

-- the heads and the refusals are those of the files
abbrev pub IsHeard : Heard → Type 0
IsHeard heard = AreTold heard.files.items (length heard.files.items) heard.heads.items heard.refusals.items
