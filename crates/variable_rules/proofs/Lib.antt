mod FormLemmas
mod ResultLemmas
mod SharingLemmas
mod SpecificationFacts
