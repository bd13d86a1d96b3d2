pub mod Members
pub mod Tests
pub mod Names
pub mod Pushes
