pub mod Roles
pub mod Regions
pub mod Denotes
pub mod Visible
pub mod Laid
pub mod Walk
