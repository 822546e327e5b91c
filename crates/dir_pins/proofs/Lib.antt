pub mod NearestPin
pub mod UnpinnedTree
