-- The files of lemmas. `pub` are those that proofs of other crates may name.
pub mod Converted
pub mod Defects
pub mod ExactValues
pub mod Faults
pub mod LastMembers
pub mod Numbers
pub mod OutOfRange
pub mod Validity
