pub mod Rowed
pub mod Shifted
pub mod Zeros
