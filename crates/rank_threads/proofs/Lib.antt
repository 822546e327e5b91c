pub mod Counting
pub mod Joining
pub mod Later
pub mod Naming
pub mod Returning
pub mod Routing
pub mod Stops
pub mod Summing
