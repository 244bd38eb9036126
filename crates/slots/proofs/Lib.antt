pub mod Tests
pub mod Used
pub mod Bits
pub mod Rate
pub mod Dues
pub mod Slots
