-- What is read from a text in UTF-8 holds such texts alone: for the names and texts of a document.
pub mod Parsed
pub mod Strings
pub mod Tokens
