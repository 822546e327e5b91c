pub mod Columns
pub mod ExportColumns
pub mod Kept
pub mod Moving
pub mod Room
