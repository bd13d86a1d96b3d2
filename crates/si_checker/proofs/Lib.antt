pub mod Crossing
pub mod Machines
pub mod Storing
pub mod Covering
pub mod Fresh
pub mod Told
pub mod Present
