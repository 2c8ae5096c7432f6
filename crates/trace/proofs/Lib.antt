pub mod Carrying
pub mod Finality
