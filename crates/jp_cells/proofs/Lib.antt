-- The files of lemmas. `pub` are those that proofs of other crates may name.
pub mod Joining
pub mod Lengths
pub mod Lists
pub mod Marks
