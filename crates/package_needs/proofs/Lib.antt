mod FollowLemmas
mod LinkLemmas
mod EndLemmas
mod CircleLemmas
mod KinLemmas
mod GroupLemmas
mod LiteralLemmas
mod AboveLemmas
mod MentionLemmas
mod WorldLemmas
mod CarryLemmas
pub mod OneLemmas
mod NotedLemmas
