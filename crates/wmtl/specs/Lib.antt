-- The definitions, in the order to read them.
pub mod Formula
pub mod Run
pub mod Holds
pub mod Settled
pub mod Covered
pub mod Residual
pub mod Theorems
pub mod Worked
