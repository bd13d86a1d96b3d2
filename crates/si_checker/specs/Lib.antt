-- What the contracts of the shared checker cite.
pub mod Names
pub mod Openings
pub mod Blocks
pub mod LockedBooks
pub mod LockedShards
pub mod Calls
pub mod Laws
pub mod Workers
