pub mod Values
pub mod Circles
pub mod Chosen
pub mod Bodies
