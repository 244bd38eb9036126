pub mod Framed
pub mod Stationed
pub mod Telling
pub mod Promises
