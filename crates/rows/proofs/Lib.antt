pub mod Folds
pub mod Moves
pub mod Marks
