pub mod Faces
pub mod Interfaces
pub mod Declaring
pub mod Orders
pub mod Reaching
