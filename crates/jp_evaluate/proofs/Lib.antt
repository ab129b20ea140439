-- The files of lemmas. `pub` are those that proofs of other crates may name.
pub mod Handed
pub mod Kept
pub mod Matching
pub mod Nodelists
pub mod Parts
pub mod Paths
mod Plans
pub mod Rows
pub mod Settling
pub mod Walks
