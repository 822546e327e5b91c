pub mod Operations
pub mod LogEntries
pub mod Log
pub mod Runs
pub mod Cells
pub mod Answer
pub mod Refused
