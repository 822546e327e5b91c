pub mod Commands
pub mod View
