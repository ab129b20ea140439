-- The definitions that private functions alone cite.
pub mod Runs
