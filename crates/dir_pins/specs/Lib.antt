pub mod PinError
pub mod Pins
