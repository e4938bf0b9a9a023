pub mod Answering
pub mod Asked
pub mod Coming
pub mod Unknown
