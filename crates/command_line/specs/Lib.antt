pub mod CommandLine
pub mod Outcome
