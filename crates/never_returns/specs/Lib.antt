pub mod Admits
pub mod Bodies
pub mod Laws
