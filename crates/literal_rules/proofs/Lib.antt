mod AgainLemmas
mod FieldLemmas
mod ItemLemmas
mod KeyLemmas
mod RowLemmas
mod SpecificationFacts
