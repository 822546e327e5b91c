pub mod Growing
pub mod Names
pub mod Numbers
