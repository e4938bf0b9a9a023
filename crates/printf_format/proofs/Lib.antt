pub mod FirstCharacters
pub mod Digits
pub mod Readings
pub mod OneFormat
pub mod OneRead
