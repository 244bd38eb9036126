pub mod Asked
pub mod Line
