-- What the contracts of the core cite.
pub mod Machine
pub mod Worlds
pub mod Laws
