pub mod Sources
pub mod Rules
pub mod Endings
pub mod Taking
pub mod Gathered
