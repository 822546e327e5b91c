pub mod FoldedHours
pub mod Folds
pub mod HeatBelow
pub mod Keys
pub mod ParentsFirst
pub mod PastCounts
pub mod StillKept
