-- The files of lemmas. `pub` are those that proofs of other crates may name.
pub mod Splitting
pub mod ToldLemmas
pub mod Outcomes
pub mod Kept
pub mod Tallies
pub mod Going
pub mod LineLemmas
pub mod FoundValues
pub mod Within
pub mod Finding
pub mod Chunks
pub mod Ending
pub mod Asking
pub mod OneLine
pub mod InTurn
pub mod Closings
pub mod Matches
pub mod QueryWords
pub mod OneByOne
pub mod Rows
mod HandingOn
mod Served
mod Showing
