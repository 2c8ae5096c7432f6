-- The proofs, each file after those that it uses.
pub mod Polarity
pub mod Terms
pub mod Windows
pub mod Readings
pub mod Spans
pub mod Suffix
pub mod Progression
pub mod Index
pub mod Coverage
pub mod Continuation
pub mod TwoParts
pub mod Theorems
pub mod Gauges
pub mod Worked
pub mod Stated
