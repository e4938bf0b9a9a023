mod PathLemmas
mod FrontLemmas
mod WriteLemmas
