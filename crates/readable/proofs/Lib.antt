pub mod Lexing
pub mod Findings
pub mod Verdicts
pub mod Names
pub mod Numbers
pub mod Packages
