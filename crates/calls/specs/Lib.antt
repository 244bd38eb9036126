pub mod Called
pub mod Reasons
pub mod Advancing
pub mod Holding
