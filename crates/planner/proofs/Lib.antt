pub mod PresentLemmas
pub mod SolveLemmas
