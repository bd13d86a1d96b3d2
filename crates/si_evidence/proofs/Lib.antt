pub mod InTurn
pub mod Buckets
