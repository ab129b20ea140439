-- The files of lemmas. `pub` are those that proofs of other crates may name.
pub mod Bracketed
pub mod Decimals
pub mod Spells
pub mod Forms
pub mod Names
pub mod Numbers
pub mod Parts
pub mod Rows
pub mod Written
