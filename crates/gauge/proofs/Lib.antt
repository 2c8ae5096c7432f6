-- The lemmas that the proofs of this crate share.
pub mod ListLaws
