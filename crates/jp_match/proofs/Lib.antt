-- The files of lemmas. `pub` are those that proofs of other crates may name.
pub mod Beginnings
pub mod Bools
pub mod Classes
pub mod Counting
pub mod Patterns
pub mod Sets
pub mod Steps
pub mod Texts
