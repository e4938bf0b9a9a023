pub mod Seen
pub mod Telling
pub use Rattle.own_functions.specs.Functions
pub use Rattle.vet_never.specs.Listed
pub use Rattle.vet_never.specs.Never
pub use Rattle.vet_printf.specs.Forwards
pub use Rattle.vet_printf.specs.Wrappers
pub use Rattle.vet_printf.specs.Wraps
