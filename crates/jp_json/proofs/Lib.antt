-- The files of lemmas. `pub` are those that proofs of other crates may name.
pub mod Accepted
pub mod Blocks
pub mod Classes
pub mod Cuts
pub mod Fronts
pub mod Leading
pub mod Leads
pub mod Misreadings
pub mod Once
pub mod Places
pub mod Readings
pub mod Rest
pub mod Rows
pub mod Staying
pub mod Strings
pub mod Viable
pub mod Written
