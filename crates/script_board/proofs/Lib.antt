pub mod BoardLemmas
pub mod CostLemmas
pub mod CostOfPlan
pub mod DealingLemmas
pub mod LookLemmas
pub mod ServeLemmas
pub mod SlashLemmas
pub mod StepLemmas
