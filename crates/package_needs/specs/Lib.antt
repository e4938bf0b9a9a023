pub mod Follow
pub mod Links
pub mod Kin
pub mod Groups
pub mod Keys
pub mod Worlds
pub mod Noted
