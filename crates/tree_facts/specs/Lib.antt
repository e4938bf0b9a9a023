pub mod Accepted
pub mod NoReturn
pub mod Prints
