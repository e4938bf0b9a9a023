pub mod Numbers
pub mod Uses
pub mod Locals
pub mod Assigned
pub mod Read
