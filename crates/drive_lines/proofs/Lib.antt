pub mod Driven
pub mod Fields
pub mod Heard
pub mod Runs
pub mod Simple
