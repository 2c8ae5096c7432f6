pub mod Faults
pub mod Following
pub mod Layout
