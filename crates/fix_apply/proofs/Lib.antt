pub mod Orders
pub mod Pieces
pub mod Rewritings
pub mod SlotLists
pub mod TreeSteps
pub mod TreeSearch
pub mod ClaimSteps
pub mod OneChoice
