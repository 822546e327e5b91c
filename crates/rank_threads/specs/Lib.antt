pub mod Answered
pub mod Asking
pub mod Phases
pub mod Refused
pub mod Serving
pub mod Tickets
pub mod Totals
pub mod Ways
