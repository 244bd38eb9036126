pub mod Laying
pub mod Cutting
pub mod Line
