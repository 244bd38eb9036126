pub mod Asked
pub mod Shown
pub mod Found
pub mod Front
pub mod Holding
