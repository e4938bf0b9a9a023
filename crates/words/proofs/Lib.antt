pub mod NumberLaws
pub mod ListLaws
pub mod ReadingLaws
pub mod GrammarLaws
pub mod WordLaws
