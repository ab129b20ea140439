-- Queries with answers in their filters mean what they meant.
pub mod Answers
pub mod Begun
pub mod Lists
pub mod Same
pub mod Values
