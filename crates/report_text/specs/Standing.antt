-- Where the places of a reply stand.
use Rattle.std.specs.Prelude.{◌≡◌, ◌≤◌, ◌<◌, ◌^◌, List, length, Some}
use Rattle.gv_base.specs.Files.{Entry}
use Rattle.gv_base.specs.Lines.{IsTableOf}
use Rattle.gv_base.specs.declared.place.Place.{Place}
use Rattle.analysis_core.specs.declared.reply.ErrorLine.{ErrorLine}
use Rattle.analysis_core.specs.Replies.{file_numbered}
use Rattle.report_text.specs.declared.print.Hand.{Hand}

-- the place stands in one of the files, which isn't longer than can be counted in lines
pub record LiesIn (files : List Entry) (place : Place) : Type 0 where
  pub file : place.file < length files
  pub offset : place.offset ≤ length (file_numbered files place.file).1
  pub short : length (file_numbered files place.file).1 ≤ 2 ^ 31

-- the place of the line, if it has one, stands in one of the files
abbrev pub StandsIn : List Entry → ErrorLine → Type 0
StandsIn files e = (place : Place) → e.place ≡ Some place → LiesIn files place

-- these are the lines of the file; of none, where there is no such file
abbrev pub IsHand : List Entry → Hand → Type 0
IsHand files hand = IsTableOf (file_numbered files hand.file).1 hand.lines
