pub mod Items
pub mod Endings
pub mod Views
pub mod Rule
pub mod Ends
pub mod Interleavings
pub mod Laws
