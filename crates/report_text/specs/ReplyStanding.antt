-- Where the places of a run's reply stand.
use Rattle.std.specs.Prelude.{◌≡◌, ◌<◌, ℕ, List, length, map, All, Option, Some, None, Bool, true, false}
use Rattle.gv_base.specs.Files.{Entry}
use Rattle.gv_base.specs.declared.place.Place.{Place}
use Rattle.fix_apply.specs.declared.edits.Fix.{Fix}
use Rattle.fix_apply.specs.declared.choices.Choice.{Choice}
use Rattle.fix_apply.specs.declared.choices.Choice.TheVariants.{Applied, Overlaps}
use Rattle.analysis_core.specs.declared.command.Command.{Command}
use Rattle.analysis_core.specs.declared.command.Command.TheVariants as command
use Rattle.analysis_core.specs.declared.reply.FoundLine.{FoundLine}
use Rattle.analysis_core.specs.declared.reply.Reply.{Reply}
use Rattle.analysis_core.specs.declared.said.Said.{Said}
use Rattle.analysis_core.specs.Replies.{FixSpot, fix_spots}
use Rattle.report_text.specs.Standing.{LiesIn, StandsIn}
use Rattle.report_text.specs.declared.lines.Spot.{Spot}

-- the place of the diagnostic stands in one of the files
abbrev pub FoundStands : List Entry → FoundLine → Type 0
FoundStands files l = LiesIn files l.diagnostic.place

abbrev pub SpotStands : List Entry → Spot → Type 0
SpotStands files spot = LiesIn files spot.place

abbrev pub spot_of : Spot → FixSpot
spot_of spot = record { place = spot.place; analyzer = spot.analyzer }

abbrev pub spots_of : List Spot → List FixSpot
spots_of spots = map spot_of spots

-- a fix that is named has a number below this one
abbrev pub Earlier : ℕ → Choice → Type 0
Earlier n Applied = Unit {0}
Earlier n (Overlaps first) = first < n

abbrev pub is_fixed : Option Fix → Bool
is_fixed None = false
is_fixed (Some fix) = true

-- there is a choice for each fix, and each one that it overlaps is one of them
pub record FixesStand (r : Reply) : Type 0 where
  pub size : length r.choices ≡ length (fix_spots r.diagnostics)
  pub earlier : All (Earlier (length (fix_spots r.diagnostics))) r.choices

-- what the reply has to be so that it can be printed for this command
pub record ReplyStands (files : List Entry) (asked : Command) (r : Reply) : Type 0 where
  pub errors : All (StandsIn files) r.errors
  pub found : All (FoundStands files) r.diagnostics
  pub fixes : asked ≡ command.Fix → FixesStand r

-- the place of what is said, if it has one, stands in one of the files
abbrev pub SaidStands : List Entry → Said → Type 0
SaidStands files s = (place : Place) → s.place ≡ Some place → LiesIn files place
