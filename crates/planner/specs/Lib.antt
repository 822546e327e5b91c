pub mod Fewer
pub mod Present
