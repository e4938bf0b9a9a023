pub mod Free
pub mod Suite
pub mod Standing
pub use Rattle.vet_simple.specs.Assigning
pub use Rattle.vet_words.specs.Diagnosing
pub use Rattle.vet_words.specs.Forms
