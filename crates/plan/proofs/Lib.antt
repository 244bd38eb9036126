pub mod Padded
pub mod Planned
pub mod Placed
pub mod Given
pub mod Bounds
pub mod Ready
pub mod Replanned
