pub mod Shown
pub mod Holds
pub mod Looking
