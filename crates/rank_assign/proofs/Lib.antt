pub mod AssignedLemmas
pub mod ChunkLemmas
pub mod CountLemmas
pub mod HandLemmas
pub mod RaiseLemmas
pub mod ReachLemmas
pub mod WayLemmas
