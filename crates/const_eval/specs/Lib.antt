pub mod Answers
pub mod Bits
pub mod Integers
pub mod Meaning
pub mod Operators
pub mod Texts
pub mod Truths
