pub mod Pieces
pub mod Numbers
pub mod Lists
pub mod Grammar
pub mod Machine
