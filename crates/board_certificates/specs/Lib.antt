pub mod Certificates
pub mod Posed
pub mod Replayed
