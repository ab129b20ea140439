-- The files of definitions.
pub mod Asked
pub mod Asking
pub mod Calls
pub mod Explained
pub mod Handles
pub mod Held
pub mod Limit
pub mod Many
pub mod Misread
pub mod Names
pub mod Numbers
pub mod Outcome
pub mod Private
