pub mod Lines
pub mod OneList
pub mod OneFinding
pub mod Standing
pub mod JudgingLaws
mod NodeTokens
mod PieceTokens
mod ListParts
mod TokenOrder
mod UnitNodes
mod NodeStanding
pub mod NodeLemmas
mod ImportNodes
mod SameUses
mod StayFaces
mod StayImports
mod StayTypes
mod StayMarks
mod StaySelected
mod StayPlaces
mod StayKinds
mod StayDecided
mod StayRefusals
mod StayExports
mod StayFit
mod StayUnits
pub mod StayLaws
pub mod MeetLaws
mod ReadyLemmas
pub mod RunLaws
pub mod OutcomeLaws
pub use Rattle.check_pkg.proofs.OneUnit
