-- Characters, words, and the digits of numbers.
pub mod Chars
pub mod Digits
pub mod Runs
pub mod Words
