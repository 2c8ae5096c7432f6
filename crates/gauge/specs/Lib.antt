-- The definitions that the contracts of this crate cite, and the lemmas by which each gauge keeps its law.
pub mod Meaning
pub mod Plain
pub mod Layers
pub mod Faults
pub mod Posting
pub mod Rack
pub mod LayerLaws
pub mod PlainLaws
pub mod Union
