-- The files of lemmas. `pub` are those that proofs of other crates may name.
pub mod Calls
pub mod Streams
pub mod Matches
pub mod Rows
pub mod Runs
pub mod Kept
pub mod Told
pub mod Explaining
pub mod Shown
pub mod LineLemmas
pub mod Firsts
pub mod Limited
mod Flushes
pub mod Headline
pub mod Program
mod Finished
mod Helped
pub mod Fronts
pub mod Standard
