pub mod Dues
pub mod Passed
pub mod Near
pub mod Ends
pub mod Clauses
