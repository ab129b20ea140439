-- The files of lemmas. `pub` are those that proofs of other crates may name.
mod Rows
pub mod CategoryCodes
pub mod Completeness
pub mod EqualTrees
pub mod Languages
pub mod Levels
pub mod Matches
pub mod Membership
pub mod NoSpans
pub mod PatternOf
pub mod Progress
pub mod Soundness
pub mod Trees
pub mod WholeTexts
