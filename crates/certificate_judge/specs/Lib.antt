pub mod CommandLine
pub mod Exit
pub mod Judged
pub mod Unjudged
