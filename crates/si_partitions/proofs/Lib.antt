pub mod Ranges
pub mod Projected
pub mod Accepted
pub mod Ranks
pub mod Copies
pub mod Carried
pub mod Found
pub mod Refused
