-- The files of lemmas. `pub` are those that proofs of other crates may name.
pub mod Conjunctions
pub mod Forms
pub mod Rows
pub mod Rules
pub mod States
pub mod Texts
