pub mod BestLemmas
pub mod ReplayLemmas
pub mod WriteLemmas
