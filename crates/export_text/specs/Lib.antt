pub mod Faces
pub mod Reaching
pub mod Searching
pub mod Listing
pub mod Gathering
pub mod Mentions
pub mod MentionIds
pub mod Skimming
