mod DeclareLemmas
mod FunctionLemmas
mod PassingLemmas
mod QuietLemmas
mod ReadLemmas
mod UnnamedLemmas
mod UseLemmas
