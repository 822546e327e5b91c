pub mod Dialogue
pub mod HostLines
pub mod Machines
pub mod Outcomes
pub mod Questions
pub mod Settings
