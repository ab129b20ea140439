-- The files of lemmas. `pub` are those that proofs of other crates may name.
pub mod Completeness
pub mod Descent
pub mod Members
pub mod NumberValues
pub mod Options
pub mod Paths
pub mod Readings
pub mod Rows
pub mod Soundness
pub mod Spellings
pub mod Utf8
pub mod Values
pub mod Writing
