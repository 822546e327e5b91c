pub mod Amounts
pub mod Folding
pub mod Keys
pub mod TooMany
