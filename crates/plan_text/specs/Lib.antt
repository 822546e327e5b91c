pub mod Fields
pub mod RowNames
pub mod Reading
pub mod Text
pub mod Writable
