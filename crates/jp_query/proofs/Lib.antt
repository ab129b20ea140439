-- The files of lemmas. `pub` are those that proofs of other crates may name.
pub mod CappedIntegers
pub mod Forms
pub mod ComponentSpans
pub mod Levels
pub mod OneRefusal
pub mod Readers
pub mod Refusals
pub mod Rows
pub mod Rules
pub mod Soundness
pub mod Spans
pub mod Unique
pub mod WholeRules
