pub mod Area
pub mod Result
pub mod Station
pub mod Frame
