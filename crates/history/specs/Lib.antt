pub mod Jobs
pub mod Valid
pub mod Carried
pub mod Examples
