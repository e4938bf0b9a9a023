pub mod Folders
pub mod Names
pub mod Listings
pub mod Held
pub mod Searches
pub mod Memory
pub mod Kept
