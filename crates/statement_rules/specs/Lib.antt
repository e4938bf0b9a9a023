pub mod Conditions
pub mod Placing
pub mod Returning
pub mod Rules
pub mod Standing
pub mod Switching
pub mod TypeSwitching
pub mod Wants
