pub mod Drilled
pub mod Fed
pub mod Ruled
