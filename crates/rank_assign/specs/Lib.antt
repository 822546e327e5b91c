pub mod Assigned
pub mod Chunks
pub mod Matching
pub mod Sizes
pub mod Ways
