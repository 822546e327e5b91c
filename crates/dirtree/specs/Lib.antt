pub mod Keeps
pub mod Name
pub mod Path
pub mod Tree
pub mod TreeError
