pub mod RuleTexts
pub mod Meanings
pub mod Operands
pub mod Universe
pub mod Constants
pub mod Places
pub mod Declarations
pub mod Basics
