-- What is read is a text of the grammar, and what was read before a stop begins one.
pub mod Whole
